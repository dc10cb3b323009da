use Rattle.std.proofs.Common.{◌∙◌, refl}
use Rattle.sim_world.proofs.RunLemmas.{answered_so, runs_front}
use Rattle.sim_world.proofs.world.SimWorld.run_commands.Goals as goal

pub returns-in_err-make_run-clause-made : goal.returns-in_err-make_run-clause-made
returns-in_err-make_run-clause-made g c =
    runs_front g.R.Rule.effect c.args.job.now c.from_residual-in_err-make_run.result _ _ c.in_ok-exit.exit.code c.answer_job.new.made c.from_residual-in_err-make_run.ensures.0
    (answered_so g.R.Rule.effect c.args.job.now _ c.tree.result.now c.args.made.now _ c.in_ok-exit.ensures.told c.tree.ensures.told c.requires, c.check_values.ensures.good)
    c.in_err-make_run.ensures.made

pub returns-clause-made : goal.returns-clause-made
returns-clause-made g c = (
  c.answer_job.new.made,
  (answered_so g.R.Rule.effect c.args.job.now _ c.tree.result.now c.args.made.now _ c.in_ok-exit.ensures.told c.tree.ensures.told c.requires, c.check_values.ensures.good),
  c.in_ok-make_run.ensures.made ∙ refl,
)
