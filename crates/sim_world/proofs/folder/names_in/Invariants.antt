use Rattle.std.proofs.Common.{◌≡◌, take}
use Rattle.std.specs.List.{flat_map}
use Rattle.world_api.specs.Tree.{name_below}
use Rattle.sim_world.proofs.folder.names_in.Given as goal

abbrev pub invariant-loop-member : goal.invariant-loop-member
invariant-loop-member l = l.names ≡ flat_map (λ m. name_below l.at m.path) (take l.member-index l.member-items)
