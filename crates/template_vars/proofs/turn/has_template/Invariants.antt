use Rattle.std.proofs.Common.{◌≡◌, length}
use Rattle.template_vars.specs.Template.{has_template}
use Rattle.template_vars.proofs.turn.has_template.Given as goal

-- it stands in the text where it stands in what is left of it
abbrev pub invariant-loop-rest : goal.invariant-loop-rest
invariant-loop-rest l = has_template l.text ≡ has_template l.rest

abbrev pub decreases-loop-rest : goal.decreases-loop-rest
decreases-loop-rest l = length l.rest
