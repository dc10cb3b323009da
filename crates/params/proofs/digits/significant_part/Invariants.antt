use Rattle.std.proofs.Common.{◌+◌, ◌≤◌, length}
use Rattle.std.specs.List.{fold}
use Rattle.yaml_scalars.specs.Number.{with_digit}
use Rattle.yaml_scalars.specs.NumeralParts.{IsSameToLimit}
use Rattle.params.proofs.digits.significant_part.Given as goal

abbrev pub invariant-loop-first : goal.invariant-loop-first
invariant-loop-first l =
    (IsSameToLimit (fold with_digit (l.value, l.count) l.rest) (fold with_digit (l.number, l.zeros) l.digits)) × (l.count + length l.rest ≤ l.zeros + length l.digits)

abbrev pub decreases-loop-first : goal.decreases-loop-first
decreases-loop-first l = length l.rest
