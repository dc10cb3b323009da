use Rattle.sim_world.specs.Call.{IsSame}
use Rattle.sim_world.specs.Writing.{firm}
use Rattle.sim_world.proofs.ChangeLemmas.{makes_counted}
use Rattle.sim_world.proofs.files.SimWorldFiles.settle.Goals as goal

pub returns-clause-made : goal.returns-clause-made
returns-clause-made g c =
    rw c.counted.ensures.same (makes_counted c.make-answer.result c.counted.result (firm c.args.lane) IsSame _ _ c.counted.ensures.answer c.make-answer.ensures.made)
