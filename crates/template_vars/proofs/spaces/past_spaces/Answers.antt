use Rattle.std.proofs.Common.{◌∙◌, None, lit<}
use Rattle.std.proofs.lemmas.Str.Pattern.{strip_prefix_char}
use Rattle.template_vars.proofs.SpaceLemmas.{past_end}
use Rattle.template_vars.proofs.spaces.past_spaces.Goals as goal

pub returns : goal.returns
returns c = record { exact = past_end c.loop-rest.text.now (strip_prefix_char 32 c.loop-rest.text.now None c.in_default.ensures.cases (lit< tt)) ∙ c.loop-rest.invariant.1 }
