use Rattle.std.proofs.Common.{◌≡◌, ◌-◌, ℕ, drop, length, reverse}
use Rattle.stage_order.specs.Order.{is_in}
use Rattle.stage_order.specs.Brought.{brought, is_wanted}
use Rattle.stage_order.proofs.TakenLemmas.{IsTaken}
use Rattle.stage_order.proofs.chosen.take_wanted.Given as goal

-- of the last stages those are taken that are brought
abbrev pub invariant-loop-done : goal.invariant-loop-done
invariant-loop-done l = IsTaken l.above l.initial.wanted.keys (drop (length l.order - l.done) l.order) l.taken l.wanted.keys
