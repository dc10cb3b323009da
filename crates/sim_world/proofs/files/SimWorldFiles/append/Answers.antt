use Rattle.sim_world.specs.Call.{IsSame}
use Rattle.sim_world.specs.Writing.{appended}
use Rattle.sim_world.proofs.ChangeLemmas.{makes_counted}
use Rattle.sim_world.proofs.files.SimWorldFiles.append.Goals as goal

pub returns-clause-made : goal.returns-clause-made
returns-clause-made g c =
    rw c.counted.ensures.same (makes_counted c.log_append-answer.result c.counted.result (appended c.args.lane c.args.bytes.now) IsSame _ _ c.counted.ensures.answer c.log_append-answer.ensures.made)
