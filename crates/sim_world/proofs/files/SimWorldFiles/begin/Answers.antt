use Rattle.sim_world.specs.Writing.{begun, IsBeginning}
use Rattle.sim_world.proofs.ChangeLemmas.{makes_counted}
use Rattle.sim_world.proofs.files.SimWorldFiles.begin.Goals as goal

pub returns-clause-made : goal.returns-clause-made
returns-clause-made g c =
    rw c.counted.ensures.same (makes_counted c.log_begin-answer.result c.counted.result (begun c.args.lane) IsBeginning _ _ c.counted.ensures.answer c.log_begin-answer.ensures.made)
