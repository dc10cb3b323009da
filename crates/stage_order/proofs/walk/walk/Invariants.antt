use Rattle.std.proofs.Common.{◌≡◌, ◌-◌, suc, length, Some}
use Rattle.stage_order.specs.Seated.{is_marked}
use Rattle.stage_order.specs.Walk.{walk_from, walk}
use Rattle.stage_order.proofs.walk.walk.Given as goal

-- the walk goes on at the last stage
abbrev pub invariant-loop-step : goal.invariant-loop-step
invariant-loop-step l =
    walk l.above (is_marked l.done) l.stage
    ≡ walk_from (suc (length l.above) - l._step) l.above (is_marked l.done) l.walked (Some l.last)
