use Rattle.std.proofs.Common.{◌≡◌, ◌*◌, min, length, drop}
use Rattle.template_expand.specs.Source.{choices_of}
use Rattle.template_expand.proofs.matrix.count_choices.Given as goal

-- each choice so far comes with all those of the axes that are left
abbrev pub invariant-loop-axis : goal.invariant-loop-axis
invariant-loop-axis l = min l.most (l.count * length (choices_of (drop l.axis-index l.axes))) ≡ min l.most (length (choices_of l.axes))
