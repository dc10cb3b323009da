use Rattle.std.proofs.Common.{take, IsTrue}
use Rattle.world_api.specs.History.{Passes, IsCaused}
use Rattle.repro_laws.specs.Turns.{AreStored}
use Rattle.repro_core.specs.Steps.{InStored}
use Rattle.repro_core.proofs.store.keep_outputs.Given as goal

-- each output so far is stored
abbrev pub invariant-loop-at : goal.invariant-loop-at
invariant-loop-at g l = record {
  moments : IsTrue g.F.Ground.tells → Passes (InStored (g.F.Ground.history l.fn.files).present) (g.F.Ground.history l.fn.files) (g.F.Ground.history l.files);
  stored : IsTrue g.F.Ground.tells → AreStored (g.F.Ground.history l.files).present.tree (take l.at l.fn.stage.made);
  counted : IsCaused (g.F.Ground.faults l.fn.files) (g.F.Ground.faults l.files) ⊥;
}
