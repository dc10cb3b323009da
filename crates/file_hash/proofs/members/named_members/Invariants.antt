use Rattle.std.proofs.Common.{◌≡◌, ◌≤◌, take, IsTrue}
use Rattle.file_hash.specs.Walk.{AreNamed, IsMade}
use Rattle.file_hash.proofs.members.named_members.Given as goal

-- the members of the files so far
abbrev pub invariant-loop-file : goal.invariant-loop-file
invariant-loop-file g l = record {
  same : IsTrue g.F.Ground.tells → g.F.Ground.history l.files ≡ g.F.Ground.history l.fn.files;
  named : IsTrue g.F.Ground.tells → AreNamed (g.F.Ground.history l.fn.files).present.tree l.at (take l.file-index l.found) l.members.items;
  made : IsMade (take l.file-index l.found) l.members.items;
  origin : (g.F.Ground.faults l.files).origin ≡ (g.F.Ground.faults l.fn.files).origin;
  later : (g.F.Ground.faults l.fn.files).count ≤ (g.F.Ground.faults l.files).count;
}
