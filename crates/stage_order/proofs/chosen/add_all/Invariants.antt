use Rattle.std.proofs.Common.{◌≡◌, ◌||◌, ℕ, take}
use Rattle.stage_order.specs.Order.{is_in}
use Rattle.stage_order.proofs.chosen.add_all.Given as goal

-- the set has the numbers so far
abbrev pub invariant-loop-number : goal.invariant-loop-number
invariant-loop-number l = (n : ℕ) → is_in l.wanted.keys n ≡ (is_in l.initial.wanted.keys n || is_in (take l.number-index l.numbers) n)
