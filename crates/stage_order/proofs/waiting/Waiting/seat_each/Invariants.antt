use Rattle.std.proofs.Common.{ℕ, List, drop}
use Rattle.stage_order.specs.Seated.{AreSeated}
use Rattle.stage_order.proofs.waiting.Waiting.seat_each.Given as goal

-- the stages that are left are pending
abbrev pub invariant-loop-stage : goal.invariant-loop-stage
invariant-loop-stage l = (done : List ℕ)
    → AreSeated l.above done l.stages l.initial.self.done.items l.initial.self.ready.keys l.initial.self.waits.items
    → AreSeated l.above done (drop l.stage-index l.stages) l.self.done.items l.self.ready.keys l.self.waits.items
