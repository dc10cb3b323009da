use Rattle.std.proofs.Common.{◌≡◌, ◌≤◌, drop, IsTrue}
use Rattle.world_api.specs.Outside.{tree_of}
use Rattle.run_cache.specs.Find.{first_record, records_fault}
use Rattle.run_cache.proofs.search.first_record.Given as goal

-- none of the names so far has a record: the answer is that of the others
abbrev pub invariant-loop-name : goal.invariant-loop-name
invariant-loop-name g l = record {
  same : IsTrue g.F.Ground.tells → g.F.Ground.history l.files ≡ g.F.Ground.history l.fn.files;
  others : IsTrue g.F.Ground.tells → first_record (tree_of (g.F.Ground.history l.fn.files)) l.key l.names ≡ first_record (tree_of (g.F.Ground.history l.fn.files)) l.key (drop l.name-index l.names);
  due : IsTrue g.F.Ground.tells → records_fault (tree_of (g.F.Ground.history l.fn.files)) l.key l.names ≡ records_fault (tree_of (g.F.Ground.history l.fn.files)) l.key (drop l.name-index l.names);
  origin : (g.F.Ground.faults l.files).origin ≡ (g.F.Ground.faults l.fn.files).origin;
  later : (g.F.Ground.faults l.fn.files).count ≤ (g.F.Ground.faults l.files).count;
}
