use Rattle.std.proofs.Common.{◌≡◌, ◌≤◌, length}
use Rattle.yaml_scalars.specs.Quoted.{quoted_turn, quoted}
use Rattle.yaml_scalars.specs.Turns.{all_turns}
use Rattle.yaml_scalars.proofs.quoted.quoted_scalar.Given as goal

abbrev pub invariant-loop-found : goal.invariant-loop-found
invariant-loop-found l = (all_turns (quoted_turn l.quote l.over) l.found.items l.rest ≡ quoted l.quote l.over l.text) × (length l.rest ≤ length l.text)

abbrev pub decreases-loop-found : goal.decreases-loop-found
decreases-loop-found l = length l.rest
