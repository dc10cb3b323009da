use Rattle.std.proofs.Common.{◌≡◌, ◌+◌, ◌*◌, ◌-◌, ◌^◌, ◌≤◌, min, length}
use Rattle.std.specs.List.{fold}
use Rattle.yaml_scalars.specs.Number.{with_base, number}
use Rattle.yaml_scalars.proofs.number.number.Given as goal

abbrev pub invariant-loop-first : goal.invariant-loop-first
invariant-loop-first l =
    (min (fold (with_base l.base) l.value l.rest) (2 ^ 128 - 1) ≡ min (number l.base l.digits) (2 ^ 128 - 1)) × (l.value ≤ 2 ^ 128 - 1)

abbrev pub decreases-loop-first : goal.decreases-loop-first
decreases-loop-first l = length l.rest
