use Rattle.std.proofs.Common.{Some, None, lit<}
use Rattle.std.proofs.lemmas.Str.Pattern.{split_once_first}
use Rattle.template_vars.proofs.ItemLemmas.{cut_some, cut_none}
use Rattle.template_vars.proofs.item.cut_key.Goals as goal

pub returns-in-Some : goal.returns-in-Some
returns-in-Some c =
    let cut = split_once_first 44 c.args.text.now (Some (c.in-Some.key, c.in-Some.rest)) c.in-Some.ensures.cases (lit< tt) in
    record { exact = cut_some c.args.text.now c.in-Some.key.now c.in-Some.rest.now cut.0 cut.1 cut.2 }

pub returns-in-None : goal.returns-in-None
returns-in-None c = record { exact = cut_none c.args.text.now (split_once_first 44 c.args.text.now None c.in-None.ensures.cases (lit< tt)) }
