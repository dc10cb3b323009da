use Rattle.std.proofs.Common.{◌≡◌, ◌-◌, [], length}
use Rattle.stage_order.specs.Order.{order, order_from}
use Rattle.stage_order.specs.Seated.{AreSeated}
use Rattle.stage_order.proofs.OrderLemmas.{IsUnderWay}
use Rattle.stage_order.proofs.order.turns.Given as goal

-- the stages so far are done, and the order goes on behind them
abbrev pub invariant-loop-turn : goal.invariant-loop-turn
invariant-loop-turn l = IsUnderWay l.above (length l.above - l._turn) l.order l.waiting.done.items l.waiting.ready.keys l.waiting.waits.items
