use Rattle.std.proofs.Common.{◌≡◌, not, true, take}
use Rattle.std.specs.List.{list_all}
use Rattle.dvc_base.specs.Path.{overlap}
use Rattle.sim_world.proofs.file_map.is_apart.Given as goal

abbrev pub invariant-loop-member : goal.invariant-loop-member
invariant-loop-member l = list_all (λ m. not (overlap l.at m.path)) (take l.member-index l.members) ≡ true
