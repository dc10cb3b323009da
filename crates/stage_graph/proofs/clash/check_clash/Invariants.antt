use Rattle.std.proofs.Common.{◌≡◌, take, drop}
use Rattle.stage_graph.specs.Clash.{clash_fault, clash_after}
use Rattle.stage_graph.proofs.clash.check_clash.Given as goal

-- the refusal that is due is that of the owners that are left
abbrev pub invariant-loop-place : goal.invariant-loop-place
invariant-loop-place l = clash_fault l.owners ≡ clash_after (take l.place l.owners) (drop l.place l.owners)
