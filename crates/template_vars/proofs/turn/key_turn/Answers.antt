use Rattle.template_vars.proofs.TurnLemmas.{turn_key, turn_open}
use Rattle.template_vars.proofs.turn.key_turn.Goals as goal

pub returns-in-Some : goal.returns-in-Some
returns-in-Some c = record {
  turn =
      turn_key c.args.plain.now c.args.inner.now c.in-Some.key.now c.trimmed.result.now c.in-Some.rest.now c.args.closes c.requires.plain c.requires.bare c.requires.left
      c.in-Some.ensures.exact c.trimmed.ensures.exact;
}

pub returns-in-None : goal.returns-in-None
returns-in-None c = record { turn = turn_open c.args.plain.now c.args.inner.now c.requires.plain c.requires.bare c.in-None.ensures.exact }
