use Rattle.std.proofs.Common.{◌≡◌, ◌≤◌, drop, length}
use Rattle.std.specs.FinMap.{from_entries}
use Rattle.world_api.specs.Tree.{members_of}
use Rattle.sim_world.specs.Sorted.{pairs_of}
use Rattle.sim_world.proofs.folder.collect.Given as goal

abbrev pub invariant-loop-rest : goal.invariant-loop-rest
invariant-loop-rest l = record {
  within : l.rest ≤ length l.members;
  made : l.files ≡ from_entries (members_of l.at (pairs_of (drop l.rest l.members)));
}

abbrev pub decreases-loop-rest : goal.decreases-loop-rest
decreases-loop-rest l = l.rest
