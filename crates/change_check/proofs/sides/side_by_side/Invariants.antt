use Rattle.std.proofs.Common.{◌≡◌, map, ◌++◌, ◌+◌, length}
use Rattle.change_check.specs.Sides.{pairs, sides_of}
use Rattle.change_check.proofs.sides.side_by_side.Given as goal

-- those so far, and those of what is left
abbrev pub invariant-loop-front : goal.invariant-loop-front
invariant-loop-front g l = map sides_of l.made.items ++ pairs g.A.Beside.order l.xs l.ys ≡ pairs g.A.Beside.order l.left l.right

abbrev pub decreases-loop-front : goal.decreases-loop-front
decreases-loop-front g l = length l.xs + length l.ys
