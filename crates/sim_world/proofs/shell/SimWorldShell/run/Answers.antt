use Rattle.sim_world.proofs.RunLemmas.{runs_counted}
use Rattle.sim_world.proofs.shell.SimWorldShell.run.Goals as goal

pub returns-clause-made : goal.returns-clause-made
returns-clause-made g c =
    rw c.counted.ensures.same (runs_counted g.R.Rule.effect c.args.job.now c.log_run-answer.result c.counted.result _ _ c.counted.ensures.answer c.log_run-answer.ensures.made)
