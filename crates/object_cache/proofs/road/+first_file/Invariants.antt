use Rattle.std.proofs.Common.{length}
use Rattle.object_cache.proofs.road.+first_file.Given as goal

abbrev pub decreases-first_file : goal.decreases-first_file
decreases-first_file g l = length l.parts.now
