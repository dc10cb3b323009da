use Rattle.std.proofs.Common.{◌≡◌, ◌≤◌, ◌-◌, length, IsTrue}
use Rattle.world_api.specs.Tree.{item_at}
use Rattle.world_api.specs.Outside.{PassesFrom}
use Rattle.world_api.specs.Writes.{InScratch}
use Rattle.file_bytes.specs.Reading.{HoldsFront}
use Rattle.object_cache.specs.Copying.{IsCopy}
use Rattle.object_cache.proofs.copy.copy_pieces.Given as goal

-- what was read so far is in the lane, and was watched
abbrev pub invariant-loop-count : goal.invariant-loop-count
invariant-loop-count g l = record {
  within : l.count ≤ l.most;
  buffer : length l.piece ≡ length l.initial.piece;
  front : HoldsFront g.F.Ground.tells (item_at (g.F.Ground.history l.initial.files).present.tree l.from) l.count (IsCopy (g.W.WatchesPieces.holds l.watcher) g.F.Ground.tells (g.F.Ground.history l.files)) l.count;
  moments : IsTrue g.F.Ground.tells → PassesFrom InScratch (g.F.Ground.history l.initial.files) (g.F.Ground.history l.files);
  origin : (g.F.Ground.faults l.files).origin ≡ (g.F.Ground.faults l.initial.files).origin;
  later : (g.F.Ground.faults l.initial.files).count ≤ (g.F.Ground.faults l.files).count;
}

abbrev pub decreases-loop-count : goal.decreases-loop-count
decreases-loop-count g l = l.most - l.count
