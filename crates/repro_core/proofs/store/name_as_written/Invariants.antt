use Rattle.std.proofs.Common.{◌≡◌, take, None, IsTrue}
use Rattle.std.specs.List.{AllByRecursion}
use Rattle.world_api.specs.Tree.{value_at}
use Rattle.world_api.specs.History.{IsCaused}
use Rattle.repro_core.specs.Storing.{put_due}
use Rattle.repro_core.proofs.store.name_as_written.Given as goal

-- none of the outputs so far was refused
abbrev pub invariant-loop-at : goal.invariant-loop-at
invariant-loop-at g l = record {
  same : IsTrue g.F.Ground.tells → g.F.Ground.history l.files ≡ g.F.Ground.history l.fn.files;
  due : IsTrue g.F.Ground.tells → AllByRecursion (λ o. put_due l.fn.stage.name o (value_at (g.F.Ground.history l.fn.files).present.tree o.path) ≡ None) (take l.at l.fn.stage.outs);
  counted : IsCaused (g.F.Ground.faults l.fn.files) (g.F.Ground.faults l.files) ⊥;
}
