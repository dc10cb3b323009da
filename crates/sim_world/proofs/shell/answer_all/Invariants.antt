use Rattle.std.proofs.Common.{◌≡◌, drop}
use Rattle.sim_world.specs.Answer.{answered}
use Rattle.sim_world.proofs.shell.answer_all.Given as goal

abbrev pub invariant-loop-command : goal.invariant-loop-command
invariant-loop-command g l = record {
  deps : l.given.deps ≡ l.initial.given.deps;
  params : l.given.params ≡ l.initial.given.params;
  outs : l.given.outs ≡ l.initial.given.outs;
  rest : answered g.R.Rule.effect l.initial.given l.commands l.initial.made ≡ answered g.R.Rule.effect l.initial.given (drop l.command-index l.commands) l.made;
}
