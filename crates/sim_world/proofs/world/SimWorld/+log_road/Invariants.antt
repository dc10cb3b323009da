use Rattle.std.proofs.Common.{length}
use Rattle.sim_world.proofs.world.SimWorld.+log_road.Given as goal

abbrev pub decreases-log_road : goal.decreases-log_road
decreases-log_road g l = length l.at.now
