use Rattle.std.proofs.Common.{◌≡◌, ◌+◌, ◌≤◌, length}
use Rattle.yaml_text.specs.Line.{blank_from}
use Rattle.yaml_text.proofs.line.blank_lines.Given as goal

abbrev pub invariant-loop-text : goal.invariant-loop-text
invariant-loop-text l =
    (blank_from l.count l.start l.text ≡ blank_from 0 l.initial.text l.initial.text) × (length l.text ≤ length l.start) × (l.count + length l.start ≤ length l.initial.text)

abbrev pub decreases-loop-text : goal.decreases-loop-text
decreases-loop-text l = length l.text
