use Rattle.std.proofs.Common.{◌≡◌, ◌≤◌, ◌-◌, length, take}
use Rattle.std.specs.List.{AllByRecursion}
use Rattle.std.specs.declared.cmp.Ordering.TheVariants.{Greater}
use Rattle.world_api.specs.Tree.{path_cmp}
use Rattle.sim_world.proofs.SortedLemmas.{paths_of}
use Rattle.sim_world.proofs.sorted.place_of.Given as goal

abbrev pub invariant-loop-place : goal.invariant-loop-place
invariant-loop-place g l = record {
  within : l.place ≤ length l.members;
  before : AllByRecursion (λ p. path_cmp l.at p ≡ Greater) (take l.place (paths_of l.members));
}

abbrev pub decreases-loop-place : goal.decreases-loop-place
decreases-loop-place g l = length l.members - l.place
