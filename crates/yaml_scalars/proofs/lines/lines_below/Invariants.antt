use Rattle.std.proofs.Common.{◌≡◌, ◌≤◌, length, [], Ok}
use Rattle.yaml_text.specs.Outcome.{◌>>=◌}
use Rattle.yaml_scalars.specs.declared.lines.Last.TheVariants.{Nothing}
use Rattle.yaml_scalars.specs.Lines.{line_turn, lines_below, margin}
use Rattle.yaml_scalars.specs.Turns.{all_turns}
use Rattle.yaml_scalars.proofs.lines.lines_below.Given as goal

abbrev pub invariant-loop-found : goal.invariant-loop-found
invariant-loop-found l =
    ((all_turns (line_turn l.folding l.style l.least l.most) (l.found.items, l.last) l.rest >>= λ r. Ok (r.0.0, r.1)) ≡ lines_below l.folding l.style l.least l.text)
    × (length l.rest ≤ length l.text)

abbrev pub decreases-loop-found : goal.decreases-loop-found
decreases-loop-found l = length l.rest
