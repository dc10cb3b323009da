use Rattle.std.proofs.Common.{None, lit<}
use Rattle.std.proofs.lemmas.Str.Pattern.{strip_prefix_char}
use Rattle.template_vars.proofs.TurnLemmas.{turn_dollar}
use Rattle.template_vars.proofs.turn.turn_at.Goals as goal

pub returns-in-None : goal.returns-in-None
returns-in-None c = record {
  turn =
      turn_dollar c.args.plain.now c.args.behind.now c.args.closes c.requires.plain
      (strip_prefix_char 123 c.args.behind.now None c.in-None.ensures.cases (lit< tt)) c.requires.left;
}
