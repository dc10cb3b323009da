use Rattle.std.proofs.Common.{take, IsTrue}
use Rattle.world_api.specs.History.{IsCaused}
use Rattle.world_api.specs.Outside.{tree_of, PassesFrom}
use Rattle.repro_core.specs.Ways.{AreFolders, InFolders}
use Rattle.repro_core.proofs.folders.make_folders.Given as goal

-- the folders so far stand, and nothing but folders was made
abbrev pub invariant-loop-road : goal.invariant-loop-road
invariant-loop-road g l = record {
  stand : IsTrue g.F.Ground.tells → AreFolders (tree_of (g.F.Ground.history l.files)) (take l.road-index l.roads);
  passes : IsTrue g.F.Ground.tells → PassesFrom (InFolders l.roads) (g.F.Ground.history l.fn.files) (g.F.Ground.history l.files);
  counted : IsCaused (g.F.Ground.faults l.fn.files) (g.F.Ground.faults l.files) ⊥;
}
