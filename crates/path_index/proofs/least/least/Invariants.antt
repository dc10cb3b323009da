use Rattle.std.proofs.Common.{take}
use Rattle.path_index.specs.First.{IsFirst}
use Rattle.path_index.specs.Table.{is_in}
use Rattle.path_index.proofs.least.least.Given as goal

-- the least so far
abbrev pub invariant-loop-place : goal.invariant-loop-place
invariant-loop-place l = IsFirst (is_in (take l.place-index l.places)) l.first
