use Rattle.std.proofs.Common.{◌≡◌, take, map, IsTrue, Ok}
use Rattle.yaml_print.specs.Sound.{Each}
use Rattle.lock_files.specs.Form.{IsKeyed, file_at}
use Rattle.world_api.specs.History.{IsCaused}
use Rattle.world_api.specs.Outside.{tree_of, IsUntouched}
use Rattle.repro_laws.specs.Params.{tracked_at}
use Rattle.repro_laws.specs.Stage.{tracked_text}
use Rattle.repro_core.proofs.tracked.read_files.Given as goal

-- nothing has changed, and each file so far is read and in form
abbrev pub invariant-loop-tracked : goal.invariant-loop-tracked
invariant-loop-tracked g l = record {
  same : IsUntouched g.F.Ground.tells (g.F.Ground.history l.fn.files) (g.F.Ground.history l.files);
  read : IsTrue g.F.Ground.tells → tracked_at (tree_of (g.F.Ground.history l.fn.files)) (take l.tracked-index l.written) ≡ Ok l.made;
  texts : map file_at l.made ≡ map tracked_text (take l.tracked-index l.written);
  keys : Each (λ f. IsKeyed f.keys) l.made;
  counted : IsCaused (g.F.Ground.faults l.fn.files) (g.F.Ground.faults l.files) ⊥;
}
