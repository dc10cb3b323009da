use Rattle.std.proofs.Common.{◌≡◌, ◌≤◌, ◌-◌, ◌++◌, take, length}
use Rattle.sim_world.proofs.paths.path_within.Given as goal

abbrev pub invariant-loop-index : goal.invariant-loop-index
invariant-loop-index l = record {
  start : length l.at ≤ l.index;
  within : l.index ≤ length l.parts;
  made : take (length l.at) l.parts ++ l.rest ≡ take l.index l.parts;
}

abbrev pub decreases-loop-index : goal.decreases-loop-index
decreases-loop-index l = length l.parts - l.index
