use Rattle.std.proofs.Common.{◌≡◌, drop, IsTrue}
use Rattle.world_api.specs.History.{IsCaused}
use Rattle.world_api.specs.Outside.{tree_of, IsUntouched}
use Rattle.workspace_files.specs.Ignores.{ignores_fault}
use Rattle.workspace_files.proofs.ignores.check_ignores.Given as goal

-- nothing has changed, and the refusal is that of the files that are left
abbrev pub invariant-loop-path : goal.invariant-loop-path
invariant-loop-path g l = record {
  same : IsUntouched g.F.Ground.tells (g.F.Ground.history l.fn.files) (g.F.Ground.history l.files);
  left : IsTrue g.F.Ground.tells → ignores_fault (tree_of (g.F.Ground.history l.fn.files)) l.ignores
      ≡ ignores_fault (tree_of (g.F.Ground.history l.fn.files)) (drop l.path-index l.ignores);
  counted : IsCaused (g.F.Ground.faults l.fn.files) (g.F.Ground.faults l.files) ⊥;
}
