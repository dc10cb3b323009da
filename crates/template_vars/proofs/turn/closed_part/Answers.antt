use Rattle.std.proofs.Common.{lit<}
use Rattle.std.proofs.lemmas.Str.Pattern.{split_once_first}
use Rattle.template_vars.proofs.TurnLemmas.{part_is}
use Rattle.template_vars.proofs.turn.closed_part.Goals as goal

pub returns-then-closes : goal.returns-then-closes
returns-then-closes c = record { exact = part_is c.args.text.now c.split_once.result (split_once_first 125 c.args.text.now c.split_once.result c.split_once.ensures.cases (lit< tt)) }
