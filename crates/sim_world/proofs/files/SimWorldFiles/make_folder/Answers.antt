use Rattle.std.proofs.Common.{length}
use Rattle.sim_world.specs.Writing.{road_made, IsOnRoad}
use Rattle.sim_world.proofs.ChangeLemmas.{makes_counted}
use Rattle.sim_world.proofs.files.SimWorldFiles.make_folder.Goals as goal

pub returns-clause-made : goal.returns-clause-made
returns-clause-made g c =
    rw c.counted.ensures.same (makes_counted c.log_road-answer.result c.counted.result (road_made (length c.args.at.now) c.args.at.now) (IsOnRoad c.args.at.now) _ _ c.counted.ensures.answer c.log_road-answer.ensures.made)
