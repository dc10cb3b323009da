use Rattle.std.proofs.Common.{◌≡◌, ◌++◌, map, take}
use Rattle.lock_files.specs.Nodes.{stage_pair}
use Rattle.lock_files.proofs.nodes.add_stages.Given as goal

-- the stages so far are added
abbrev pub invariant-loop-place : goal.invariant-loop-place
invariant-loop-place l = l.pairs ≡ l.initial.pairs ++ map stage_pair (take l.place l.book)
