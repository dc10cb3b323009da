use Rattle.std.proofs.Common.{◌≡◌, ◌*◌, ◌-◌, ◌^◌, ◌≤◌, min}
use Rattle.params.proofs.digits.with_zeros.Given as goal

abbrev pub invariant-loop-left : goal.invariant-loop-left
invariant-loop-left l = (min (l.value * 10 ^ l.left) (2 ^ 128 - 1) ≡ min (l.number * 10 ^ l.count) (2 ^ 128 - 1)) × (l.value ≤ 2 ^ 128 - 1)

abbrev pub decreases-loop-left : goal.decreases-loop-left
decreases-loop-left l = l.left
