use Rattle.std.proofs.Common.{◌≡◌, drop}
use Rattle.std.specs.FinMap.{find}
use Rattle.world_api.specs.Tree.{path_cmp}
use Rattle.sim_world.specs.Sorted.{pairs_of}
use Rattle.sim_world.proofs.sorted.find.Given as goal

abbrev pub invariant-loop-member : goal.invariant-loop-member
invariant-loop-member g l =
    find path_cmp l.at (pairs_of (drop l.member-index l.members)) ≡ find path_cmp l.at (pairs_of l.members)
