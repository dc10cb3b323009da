-- What the trait says of a run follows from the history that it makes.
use Rattle.sim_world.proofs.ChangeLemmas.{counted_cause}
use Rattle.sim_world.proofs.RunLemmas.{present_effect, runs_ran, runs_not, runs_passes}
use Rattle.sim_world.proofs.shell.SimWorldShell.TheImpl.Goals as goal

pub run-tells : goal.run-tells
run-tells g c =
    let effect = g.R.Rule.effect in
    let job = c.args.job.now in
    let was = c.args.self.now in
    record {
      ran = λ told. runs_ran effect job c.result _ _ c.requires.texts (c.requires.folders told) (present_effect _ was.opening was.log.items) c.ensures.made;
      not_run = λ told. runs_not effect job c.result _ _ c.ensures.made;
      moments = λ told. runs_passes effect job c.result _ _ c.ensures.made;
      cause = counted_cause c.result _ _ c.ensures.count;
    }
