use Rattle.std.proofs.Common.{◌≡◌, [], replicate}
use Rattle.stage_order.proofs.waiting.no_waits.Given as goal

abbrev pub invariant-loop-done : goal.invariant-loop-done
invariant-loop-done l = l.waits.items ≡ replicate l._done []
