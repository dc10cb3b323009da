use Rattle.sim_world.specs.Call.{IsSame}
use Rattle.sim_world.specs.Change.{grown, cleared}
use Rattle.sim_world.proofs.ChangeLemmas.{makes_counted}
use Rattle.sim_world.proofs.files.SimWorldFiles.clear.Goals as goal

pub returns-clause-made : goal.returns-clause-made
returns-clause-made g c =
    rw c.counted.ensures.same (makes_counted c.log_clear-answer.result c.counted.result (grown (cleared c.args.at.now)) IsSame _ _ c.counted.ensures.answer c.log_clear-answer.ensures.made)
