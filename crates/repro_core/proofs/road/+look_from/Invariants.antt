use Rattle.std.proofs.Common.{length}
use Rattle.repro_core.proofs.road.+look_from.Given as goal

abbrev pub decreases-look_from : goal.decreases-look_from
decreases-look_from g l = length l.parts.now
