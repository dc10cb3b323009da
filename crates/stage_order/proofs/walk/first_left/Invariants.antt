use Rattle.std.proofs.Common.{◌≡◌, ◌-◌}
use Rattle.std.specs.List.{range_with_len}
use Rattle.stage_order.specs.Seated.{is_marked}
use Rattle.stage_order.specs.Walk.{first_left}
use Rattle.stage_order.proofs.walk.first_left.Given as goal

-- the first one is among those that are left
abbrev pub invariant-loop-stage : goal.invariant-loop-stage
invariant-loop-stage l = first_left (is_marked l.done) (range_with_len 0 l.count) ≡ first_left (is_marked l.done) (range_with_len l.stage (l.count - l.stage))
