use Rattle.std.proofs.Common.{sym, ◌∙◌}
use Rattle.sim_world.proofs.LogLemmas.{present_jobs}
use Rattle.sim_world.proofs.world.SimWorld.jobs.Goals as goal

pub returns : goal.returns
returns g c = record { told = c.args.self.now.jobs_are ∙ sym (present_jobs _ c.args.self.now.opening c.args.self.now.log.items) }
