use Rattle.std.proofs.Common.{◌≡◌, take, map, Some, None, IsTrue}
use Rattle.std.specs.List.{AllByRecursion}
use Rattle.world_api.specs.Tree.{value_at}
use Rattle.world_api.specs.History.{Passes, IsCaused}
use Rattle.repro_laws.specs.Stage.{out_text}
use Rattle.repro_laws.specs.Entries.{seen_out, all_named}
use Rattle.repro_laws.specs.Turns.{AreStored}
use Rattle.repro_core.specs.Steps.{AreNamed, InStored}
use Rattle.repro_core.specs.Storing.{put_due}
use Rattle.repro_core.proofs.store.put_made.Given as goal

-- each output so far is named and stored, and none of them was refused
abbrev pub invariant-loop-at : goal.invariant-loop-at
invariant-loop-at g l = record {
  moments : IsTrue g.F.Ground.tells → Passes (InStored (g.F.Ground.history l.fn.files).present) (g.F.Ground.history l.fn.files) (g.F.Ground.history l.files);
  due : IsTrue g.F.Ground.tells → AllByRecursion (λ o. put_due l.fn.stage.name o (value_at (g.F.Ground.history l.fn.files).present.tree o.path) ≡ None) (take l.at l.fn.stage.made);
  named : IsTrue g.F.Ground.tells → all_named (map (seen_out (g.F.Ground.history l.fn.files).present.tree) (take l.at l.fn.stage.made)) ≡ Some l.outs;
  stored : IsTrue g.F.Ground.tells → AreStored (g.F.Ground.history l.files).present.tree (take l.at l.fn.stage.made);
  good : AreNamed (map out_text (take l.at l.fn.stage.made)) l.outs;
  counted : IsCaused (g.F.Ground.faults l.fn.files) (g.F.Ground.faults l.files) ⊥;
}
