use Rattle.std.proofs.Common.{◌≡◌, drop, IsTrue}
use Rattle.world_api.specs.History.{IsCaused}
use Rattle.world_api.specs.Outside.{tree_of}
use Rattle.repro_core.specs.Ways.{roads_fault}
use Rattle.repro_core.proofs.road.look_at_roads.Given as goal

-- nothing has changed, and the refusal that is due is that of the roads that are left
abbrev pub invariant-loop-road : goal.invariant-loop-road
invariant-loop-road g l = record {
  same : IsTrue g.F.Ground.tells → g.F.Ground.history l.files ≡ g.F.Ground.history l.fn.files;
  left : IsTrue g.F.Ground.tells → roads_fault (tree_of (g.F.Ground.history l.fn.files)) l.roads ≡ roads_fault (tree_of (g.F.Ground.history l.fn.files)) (drop l.road-index l.roads);
  counted : IsCaused (g.F.Ground.faults l.fn.files) (g.F.Ground.faults l.files) ⊥;
}
