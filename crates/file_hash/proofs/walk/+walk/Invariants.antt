use Rattle.std.proofs.Common.{◌≡◌, ◌++◌, ◌-◌, ◌≤◌, take, length, IsTrue}
use Rattle.std.specs.FinMap.{entries}
use Rattle.file_hash.specs.Walk.{Walks, FindsAmong}
use Rattle.file_hash.proofs.TreeOrder.{branches}
use Rattle.file_hash.proofs.walk.+walk.Given as goal

abbrev pub decreases-walk : goal.decreases-walk
decreases-walk g l = 1025 - length l.inner.now

-- the branches of the names so far
abbrev pub invariant-loop-name : goal.invariant-loop-name
invariant-loop-name g l = record {
  same : IsTrue g.F.Ground.tells → g.F.Ground.history l.files ≡ g.F.Ground.history l.fn.files;
  walked : IsTrue g.F.Ground.tells → Walks l.at (branches (l.at ++ l.inner) (entries (g.F.Ground.history l.fn.files).present.tree) (take l.name-index l.name-items)) l.initial.met l.met;
  found : FindsAmong l.inner (take l.name-index l.name-items) l.initial.met l.met;
  origin : (g.F.Ground.faults l.files).origin ≡ (g.F.Ground.faults l.fn.files).origin;
  later : (g.F.Ground.faults l.fn.files).count ≤ (g.F.Ground.faults l.files).count;
}
