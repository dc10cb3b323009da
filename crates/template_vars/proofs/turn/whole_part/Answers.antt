use Rattle.std.proofs.Common.{option_copied}
use Rattle.template_vars.proofs.TurnLemmas.{whole_some, whole_none}
use Rattle.template_vars.proofs.turn.whole_part.Goals as goal

pub returns-in-Some : goal.returns-in-Some
returns-in-Some c = record { exact = whole_some c.args.inner.now c.in-Some.key.now c.in-Some.rest.now (option_copied c.key_alone.result) c.in-Some.ensures.exact c.key_alone.ensures.exact }

pub returns-in-None : goal.returns-in-None
returns-in-None c = record { exact = whole_none c.args.inner.now c.in-None.ensures.exact }
