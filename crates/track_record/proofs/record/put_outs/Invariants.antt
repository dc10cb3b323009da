use Rattle.std.proofs.Common.{◌≡◌, take, map, None, IsTrue}
use Rattle.std.specs.List.{AllByRecursion, list_all}
use Rattle.world_api.specs.History.{Passes, IsCaused}
use Rattle.lock_files.specs.Value.{path_at}
use Rattle.repro_core.specs.Steps.{AreNamed, InStored}
use Rattle.track_record.specs.Sources.{source_fault, entry_now, is_same_source}
use Rattle.track_record.proofs.EntryLemmas.{IsHeld}
use Rattle.track_record.proofs.record.put_outs.Given as goal

-- each out so far has its name and is held, and none of them was refused
abbrev pub invariant-loop-entry : goal.invariant-loop-entry
invariant-loop-entry g l = record {
  moments : IsTrue g.F.Ground.tells → Passes (InStored (g.F.Ground.history l.fn.files).present) (g.F.Ground.history l.fn.files) (g.F.Ground.history l.files);
  due : IsTrue g.F.Ground.tells → AllByRecursion (λ e. source_fault l.dir (g.F.Ground.history l.fn.files).present.tree e ≡ None) (take l.entry-index l.entry-items);
  outs : IsTrue g.F.Ground.tells → l.found.outs ≡ map (entry_now l.dir (g.F.Ground.history l.fn.files).present.tree) (take l.entry-index l.entry-items);
  same : IsTrue g.F.Ground.tells → l.found.same ≡ list_all (is_same_source l.dir (g.F.Ground.history l.fn.files).present.tree) (take l.entry-index l.entry-items);
  held : IsTrue g.F.Ground.tells → AllByRecursion (IsHeld l.dir (g.F.Ground.history l.fn.files).present.tree (g.F.Ground.history l.files).present.tree) (take l.entry-index l.entry-items);
  named : AreNamed (map path_at (take l.entry-index l.entry-items)) l.found.outs;
  counted : IsCaused (g.F.Ground.faults l.fn.files) (g.F.Ground.faults l.files) ⊥;
}
