use Rattle.std.proofs.Common.{◌≡◌, ◌≤◌, ◌-◌, length, IsTrue}
use Rattle.world_api.specs.Tree.{item_at}
use Rattle.file_bytes.specs.Reading.{HoldsFront}
use Rattle.file_bytes.proofs.read.read_pieces.Given as goal

-- what was read so far was taken
abbrev pub invariant-loop-count : goal.invariant-loop-count
invariant-loop-count g l = record {
  within : l.count ≤ l.most;
  buffer : length l.buffer ≡ length l.initial.buffer;
  same : IsTrue g.F.Ground.tells → g.F.Ground.history l.files ≡ g.F.Ground.history l.initial.files;
  front : HoldsFront g.F.Ground.tells (item_at (g.F.Ground.history l.initial.files).present.tree l.at) l.count (g.T.TakesPieces.holds l.taker) l.count;
  origin : (g.F.Ground.faults l.files).origin ≡ (g.F.Ground.faults l.initial.files).origin;
  later : (g.F.Ground.faults l.initial.files).count ≤ (g.F.Ground.faults l.files).count;
}

abbrev pub decreases-loop-count : goal.decreases-loop-count
decreases-loop-count g l = l.most - l.count
