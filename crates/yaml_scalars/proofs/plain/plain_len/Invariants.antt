use Rattle.std.proofs.Common.{◌≡◌, ◌+◌, ◌≤◌, length, false}
use Rattle.yaml_scalars.specs.Plain.{plain_len}
use Rattle.yaml_scalars.proofs.PlainLemmas.{so_far}
use Rattle.yaml_scalars.proofs.plain.plain_len.Given as goal

abbrev pub invariant-loop-first : goal.invariant-loop-first
invariant-loop-first l =
    (plain_len l.flow false l.text ≡ so_far l.end l.at (plain_len l.flow l.white l.rest)) × (l.at + length l.rest ≡ length l.text) × (l.end ≤ l.at)

abbrev pub decreases-loop-first : goal.decreases-loop-first
decreases-loop-first l = length l.rest
