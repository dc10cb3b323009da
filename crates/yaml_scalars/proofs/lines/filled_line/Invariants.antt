use Rattle.std.proofs.Common.{◌≡◌, ◌≤◌, length}
use Rattle.yaml_scalars.specs.Lines.{filled_line_from}
use Rattle.yaml_scalars.proofs.lines.filled_line.Given as goal

abbrev pub invariant-loop-text : goal.invariant-loop-text
invariant-loop-text l =
    (filled_line_from l.start l.text ≡ filled_line_from l.initial.text l.initial.text) × (length l.text ≤ length l.start) × (length l.start ≤ length l.initial.text)

abbrev pub decreases-loop-text : goal.decreases-loop-text
decreases-loop-text l = length l.text
