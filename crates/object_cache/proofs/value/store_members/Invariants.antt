use Rattle.std.proofs.Common.{◌≡◌, ◌≤◌, true, map, take, drop, IsTrue}
use Rattle.world_api.specs.Outside.{tree_of, PassesFrom}
use Rattle.object_cache.specs.Objects.{member_name, are_whole}
use Rattle.object_cache.specs.Store.{InStore}
use Rattle.object_cache.specs.Due.{KeepsPlaces, places_fault}
use Rattle.object_cache.proofs.value.store_members.Given as goal

-- the objects of the members so far; what is due is due of the others
abbrev pub invariant-loop-member : goal.invariant-loop-member
invariant-loop-member g l = record {
  stored : IsTrue g.F.Ground.tells → are_whole (tree_of (g.F.Ground.history l.files)) (map member_name (take l.member-index l.members)) ≡ true;
  others : IsTrue g.F.Ground.tells → places_fault (tree_of (g.F.Ground.history l.fn.files)) (map member_name l.members) ≡ places_fault (tree_of (g.F.Ground.history l.fn.files)) (map member_name (drop l.member-index l.members));
  kept : IsTrue g.F.Ground.tells → KeepsPlaces (tree_of (g.F.Ground.history l.fn.files)) (tree_of (g.F.Ground.history l.files));
  moments : IsTrue g.F.Ground.tells → PassesFrom (InStore (map member_name l.members)) (g.F.Ground.history l.fn.files) (g.F.Ground.history l.files);
  origin : (g.F.Ground.faults l.files).origin ≡ (g.F.Ground.faults l.fn.files).origin;
  later : (g.F.Ground.faults l.fn.files).count ≤ (g.F.Ground.faults l.files).count;
}
