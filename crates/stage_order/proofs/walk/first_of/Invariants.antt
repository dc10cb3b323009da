use Rattle.std.proofs.Common.{◌≡◌, drop}
use Rattle.stage_order.specs.Seated.{is_marked}
use Rattle.stage_order.specs.Walk.{first_left}
use Rattle.stage_order.proofs.walk.first_of.Given as goal

-- the first one is among the numbers that are left
abbrev pub invariant-loop-number : goal.invariant-loop-number
invariant-loop-number l = first_left (is_marked l.done) l.numbers ≡ first_left (is_marked l.done) (drop l.number-index l.numbers)
