use Rattle.sim_world.specs.Call.{IsSame}
use Rattle.sim_world.specs.Writing.{moved}
use Rattle.sim_world.proofs.ChangeLemmas.{makes_counted}
use Rattle.sim_world.proofs.files.SimWorldFiles.publish.Goals as goal

pub returns-clause-made : goal.returns-clause-made
returns-clause-made g c =
    rw c.counted.ensures.same (makes_counted c.log_publish-answer.result c.counted.result (moved c.args.lane c.args.at.now) IsSame _ _ c.counted.ensures.answer c.log_publish-answer.ensures.made)
