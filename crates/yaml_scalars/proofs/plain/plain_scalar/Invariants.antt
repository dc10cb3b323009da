use Rattle.std.proofs.Common.{◌≡◌, ◌≤◌, length, take, drop, false}
use Rattle.yaml_scalars.specs.Plain.{plain_turn, plain}
use Rattle.yaml_scalars.specs.Turns.{all_turns}
use Rattle.yaml_scalars.proofs.plain.plain_scalar.Given as goal

abbrev pub invariant-loop-found : goal.invariant-loop-found
invariant-loop-found l = (all_turns (plain_turn l.flow l.least) l.found.items l.rest ≡ plain l.flow l.least l.text) × (length l.rest ≤ length l.text)

abbrev pub decreases-loop-found : goal.decreases-loop-found
decreases-loop-found l = length l.rest
