use Rattle.std.proofs.Common.{◌≡◌, ◌≤◌, map, drop, IsTrue}
use Rattle.world_api.specs.Outside.{tree_of}
use Rattle.object_cache.specs.Objects.{member_name, are_whole}
use Rattle.object_cache.specs.Due.{names_fault}
use Rattle.object_cache.proofs.look.have.Given as goal

-- each object so far is whole: the answer is that of the others
abbrev pub invariant-loop-member : goal.invariant-loop-member
invariant-loop-member g l = record {
  same : IsTrue g.F.Ground.tells → g.F.Ground.history l.files ≡ g.F.Ground.history l.fn.files;
  others : IsTrue g.F.Ground.tells → are_whole (tree_of (g.F.Ground.history l.fn.files)) (map member_name l.members) ≡ are_whole (tree_of (g.F.Ground.history l.fn.files)) (map member_name (drop l.member-index l.members));
  due : IsTrue g.F.Ground.tells → names_fault (tree_of (g.F.Ground.history l.fn.files)) (map member_name l.members) ≡ names_fault (tree_of (g.F.Ground.history l.fn.files)) (map member_name (drop l.member-index l.members));
  origin : (g.F.Ground.faults l.files).origin ≡ (g.F.Ground.faults l.fn.files).origin;
  later : (g.F.Ground.faults l.fn.files).count ≤ (g.F.Ground.faults l.files).count;
}
