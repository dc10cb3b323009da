use Rattle.std.proofs.Common.{Some, lit<}
use Rattle.std.proofs.lemmas.Str.Pattern.{strip_suffix_char}
use Rattle.template_vars.proofs.TurnLemmas.{turn_escape}
use Rattle.template_vars.proofs.turn.brace_turn.Goals as goal

pub returns-in-Some : goal.returns-in-Some
returns-in-Some c = record {
  turn =
      turn_escape c.args.plain.now c.in-Some.front.now c.args.inner.now c.args.closes c.requires.plain
      (strip_suffix_char 92 c.args.plain.now (Some c.in-Some.front) c.in-Some.ensures.cases (lit< tt)) c.requires.left;
}
