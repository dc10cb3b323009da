use Rattle.std.proofs.Common.{◌≡◌, take, IsTrue, Ok}
use Rattle.world_api.specs.History.{IsCaused}
use Rattle.world_api.specs.Outside.{tree_of, IsUntouched}
use Rattle.dvc_cli.specs.Vars.{vars_at}
use Rattle.dvc_cli.proofs.vars.read_files.Given as goal

-- nothing has changed, and the files so far are read
abbrev pub invariant-loop-path : goal.invariant-loop-path
invariant-loop-path g l = record {
  same : IsUntouched g.F.Ground.tells (g.F.Ground.history l.fn.files) (g.F.Ground.history l.files);
  read : IsTrue g.F.Ground.tells → vars_at (tree_of (g.F.Ground.history l.fn.files)) (take l.path-index l.paths) ≡ Ok l.made;
  counted : IsCaused (g.F.Ground.faults l.fn.files) (g.F.Ground.faults l.files) ⊥;
}
