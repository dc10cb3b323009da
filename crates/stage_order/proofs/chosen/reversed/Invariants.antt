use Rattle.std.proofs.Common.{◌≡◌, ◌-◌, drop, length, reverse}
use Rattle.stage_order.proofs.chosen.reversed.Given as goal

-- the last numbers so far
abbrev pub invariant-loop-done : goal.invariant-loop-done
invariant-loop-done l = l.back ≡ reverse (drop (length l.numbers - l.done) l.numbers)
