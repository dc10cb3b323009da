use Rattle.std.proofs.Common.{◌≡◌, take}
use Rattle.std.specs.List.{filter}
use Rattle.stage_order.specs.Order.{is_in}
use Rattle.stage_plan.proofs.targets.among.Given as goal

-- those so far
abbrev pub invariant-loop-number : goal.invariant-loop-number
invariant-loop-number l = l.found ≡ filter (is_in l.named) (take l.number-index l.numbers)
