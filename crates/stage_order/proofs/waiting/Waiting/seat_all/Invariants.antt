use Rattle.std.proofs.Common.{ℕ, ◌-◌, List, length}
use Rattle.std.specs.List.{range_with_len}
use Rattle.stage_order.specs.Seated.{AreSeated}
use Rattle.stage_order.proofs.waiting.Waiting.seat_all.Given as goal

-- the stages that are left are pending
abbrev pub invariant-loop-stage : goal.invariant-loop-stage
invariant-loop-stage l = (done : List ℕ)
    → AreSeated l.above done (range_with_len 0 (length l.above)) l.initial.self.done.items l.initial.self.ready.keys l.initial.self.waits.items
    → AreSeated l.above done (range_with_len l.stage (length l.above - l.stage)) l.self.done.items l.self.ready.keys l.self.waits.items
