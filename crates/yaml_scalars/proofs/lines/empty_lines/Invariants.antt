use Rattle.std.proofs.Common.{◌≡◌, ◌+◌, ◌≤◌, length}
use Rattle.yaml_scalars.specs.Lines.{empty_from}
use Rattle.yaml_scalars.proofs.lines.empty_lines.Given as goal

abbrev pub invariant-loop-text : goal.invariant-loop-text
invariant-loop-text l =
    (empty_from l.most l.count l.indentation l.start l.text ≡ empty_from l.most 0 0 l.initial.text l.initial.text)
    × (l.indentation + length l.text ≡ length l.start) × (l.count + length l.start ≤ length l.initial.text)

abbrev pub decreases-loop-text : goal.decreases-loop-text
decreases-loop-text l = length l.text
