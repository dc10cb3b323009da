use Rattle.std.proofs.Common.{◌∙◌, ap, sym, codes}
use Rattle.template_vars.specs.Template.{whole_key}
use Rattle.template_vars.proofs.PieceLemmas.{lacks_opening}
use Rattle.template_vars.proofs.TurnLemmas.{stripped}
use Rattle.template_vars.proofs.turn.whole_key.Goals as goal

pub returns-in-Some : goal.returns-in-Some
returns-in-Some c = record { exact = c.whole_part.ensures.exact ∙ ap whole_key (sym (stripped (codes "${") c.args.text.now c.in-Some.inner c.in-Some.ensures.cases)) }

pub returns-in-None : goal.returns-in-None
returns-in-None c = record { exact = sym (lacks_opening c.args.text.now c.in-None.ensures.cases) }
