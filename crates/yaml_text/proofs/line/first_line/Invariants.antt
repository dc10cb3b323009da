use Rattle.std.proofs.Common.{◌≡◌, ◌≤◌, length}
use Rattle.yaml_text.specs.Line.{first_from, first_line}
use Rattle.yaml_text.proofs.line.first_line.Given as goal

abbrev pub invariant-loop-text : goal.invariant-loop-text
invariant-loop-text l = (first_from l.inside l.start l.text ≡ first_line l.initial.text) × (length l.text ≤ length l.start) × (length l.start ≤ length l.initial.text)

abbrev pub decreases-loop-text : goal.decreases-loop-text
decreases-loop-text l = length l.text
