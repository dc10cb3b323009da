use Rattle.std.proofs.Common.{sym, None, lit<}
use Rattle.std.proofs.lemmas.Str.Pattern.{split_once_first}
use Rattle.template_vars.proofs.ItemLemmas.{no_keys}
use Rattle.template_vars.proofs.item.wanted_of.Goals as goal

pub returns-in-None-clause-keys : goal.returns-in-None-clause-keys
returns-in-None-clause-keys c = sym (no_keys c.args.item.now (split_once_first 58 c.args.item.now None c.in-None.ensures.cases (lit< tt)))
