use Rattle.std.proofs.Common.{take, map, IsTrue}
use Rattle.world_api.specs.Effect.{is_in_any}
use Rattle.world_api.specs.History.{Keeps, IsCaused}
use Rattle.world_api.specs.Outside.{tree_of, PassesFrom}
use Rattle.repro_laws.specs.Stage.{out_path}
use Rattle.repro_core.specs.Steps.{IsClear}
use Rattle.repro_core.proofs.folders.clear_outputs.Given as goal

-- the outputs so far are gone, and nothing but outputs was touched
abbrev pub invariant-loop-out : goal.invariant-loop-out
invariant-loop-out g l = record {
  gone : IsTrue g.F.Ground.tells → IsClear (tree_of (g.F.Ground.history l.files)) (map out_path (take l.out-index l.outs));
  passes : IsTrue g.F.Ground.tells → PassesFrom (Keeps (is_in_any (map out_path l.outs))) (g.F.Ground.history l.fn.files) (g.F.Ground.history l.files);
  counted : IsCaused (g.F.Ground.faults l.fn.files) (g.F.Ground.faults l.files) ⊥;
}
