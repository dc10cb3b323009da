use Rattle.std.proofs.Common.{◌≡◌, ◌++◌, take}
use Rattle.stage_graph.specs.Paths.{owners_of_outs}
use Rattle.stage_graph.proofs.owner.push_outs.Given as goal

-- the owners so far
abbrev pub invariant-loop-out : goal.invariant-loop-out
invariant-loop-out l = l.all ≡ l.initial.all ++ owners_of_outs l.dir l.name (take l.out-index l.outs)
