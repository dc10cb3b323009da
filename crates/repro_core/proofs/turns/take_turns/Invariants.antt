use Rattle.std.proofs.Common.{◌≡◌, [], length, take, Some, IsTrue}
use Rattle.world_api.specs.Effect.{Effect}
use Rattle.world_api.specs.History.{IsCaused}
use Rattle.world_api.specs.Outside.{tree_of}
use Rattle.world_api.specs.Writes.{CanWrite}
use Rattle.world_api.specs.Layout.{lock_path}
use Rattle.lock_files.specs.Form.{IsBook}
use Rattle.repro_laws.specs.Due.{standing_of, due}
use Rattle.repro_laws.specs.Sound.{lock_of}
use Rattle.repro_core.specs.Summaries.{summary_of, total}
use Rattle.repro_core.proofs.SoFarLemmas.{SoFar}
use Rattle.repro_core.proofs.ToldLemmas.{IsTold}
use Rattle.repro_core.proofs.turns.take_turns.Given as goal

-- the turns of the stages so far have ended and were counted, the lock is in form and stands, and it can be written again. Where nothing is
-- due no turn ends
abbrev pub invariant-loop-stage : goal.invariant-loop-stage
invariant-loop-stage g l = record {
  form : IsBook l.lock;
  place : IsTrue g.W.Ground.tells → CanWrite lock_path (tree_of (g.W.Ground.history l.world));
  read : IsTrue g.W.Ground.tells → lock_of (tree_of (g.W.Ground.history l.world)) ≡ Some l.lock;
  so_far : IsTrue g.W.Ground.tells → (effect : Effect) → (g.W.Ground.history l.fn.world).present.aside.fixed.effect ≡ Some effect → (so : SoFar l.fn.flags effect (take l.stage-index l.stages) l.fn.lock l.lock (g.W.Ground.history l.fn.world) (g.W.Ground.history l.world) g.K.Sink.tells (g.K.Sink.taken l.fn.out) (g.K.Sink.taken l.out)) × (l.summary ≡ summary_of so.ended);
  all : total l.summary ≡ l.stage-index;
  front : length (take l.stage-index l.stages) ≡ l.stage-index;
  lines : IsTrue g.K.Sink.tells → IsTold (take l.stage-index l.stages) (g.K.Sink.taken l.fn.out) (g.K.Sink.taken l.out);
  idle : IsTrue g.W.Ground.tells → (effect : Effect) → (g.W.Ground.history l.fn.world).present.aside.fixed.effect ≡ Some effect → due l.fn.flags effect l.stages (standing_of (tree_of (g.W.Ground.history l.fn.world)) l.fn.lock) ≡ [] → (take l.stage-index l.stages ≡ []) × (g.W.Ground.history l.world ≡ g.W.Ground.history l.fn.world);
  world_counted : IsCaused (g.W.Ground.faults l.fn.world) (g.W.Ground.faults l.world) ⊥;
  out_counted : IsCaused (g.K.Sink.faults l.fn.out) (g.K.Sink.faults l.out) ⊥;
}
