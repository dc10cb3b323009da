-- The path grows shorter.
use Rattle.std.proofs.Common.{length}
use Rattle.world_suite.proofs.folders.+has_road.Given as goal

abbrev pub decreases-has_road : goal.decreases-has_road
decreases-has_road g l = length l.at.now
