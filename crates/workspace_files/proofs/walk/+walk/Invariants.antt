use Rattle.std.proofs.Common.{◌-◌, take, length, IsTrue}
use Rattle.std.specs.FinMap.{entries}
use Rattle.world_api.specs.History.{IsCaused}
use Rattle.world_api.specs.Outside.{tree_of, IsUntouched}
use Rattle.workspace_files.proofs.TreeOrder.{branches}
use Rattle.workspace_files.specs.Met.{Walks, IsMet}
use Rattle.workspace_files.proofs.walk.+walk.Given as goal

abbrev pub decreases-walk : goal.decreases-walk
decreases-walk g l = 1025 - length l.at.now

-- the branches of the names so far
abbrev pub invariant-loop-name : goal.invariant-loop-name
invariant-loop-name g l = record {
  same : IsUntouched g.F.Ground.tells (g.F.Ground.history l.fn.files) (g.F.Ground.history l.files);
  walked : IsTrue g.F.Ground.tells → Walks (branches l.at (entries (tree_of (g.F.Ground.history l.fn.files))) (take l.name-index l.name-items)) l.initial.met l.met;
  met : IsMet l.met;
  counted : IsCaused (g.F.Ground.faults l.fn.files) (g.F.Ground.faults l.files) ⊥;
}
