use Rattle.std.proofs.Common.{◌≡◌, ◌-◌, ◌^◌, ◌≤◌, min, length}
use Rattle.std.specs.List.{fold}
use Rattle.yaml_scalars.specs.Number.{with_base, number}
use Rattle.params.proofs.digits.number.Given as goal

abbrev pub invariant-loop-first : goal.invariant-loop-first
invariant-loop-first l =
    (min (fold (with_base 10) l.value l.rest) (2 ^ 128 - 1) ≡ min (number 10 l.digits) (2 ^ 128 - 1)) × (l.value ≤ 2 ^ 128 - 1)

abbrev pub decreases-loop-first : goal.decreases-loop-first
decreases-loop-first l = length l.rest
