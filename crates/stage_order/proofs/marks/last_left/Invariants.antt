use Rattle.std.proofs.Common.{◌≡◌, true, false, take}
use Rattle.std.specs.Option.{MatchOption}
use Rattle.std.specs.List.{list_all}
use Rattle.stage_order.specs.Order.{is_in}
use Rattle.stage_order.specs.Seated.{is_marked}
use Rattle.stage_order.proofs.marks.last_left.Given as goal

-- so it is of the numbers so far
abbrev pub invariant-loop-number : goal.invariant-loop-number
invariant-loop-number l = MatchOption l.left
    (list_all (is_marked l.marks) (take l.number-index l.numbers) ≡ true)
    (λ a. (is_in (take l.number-index l.numbers) a ≡ true) × (is_marked l.marks a ≡ false))
