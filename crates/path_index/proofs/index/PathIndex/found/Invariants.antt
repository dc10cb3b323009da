use Rattle.std.proofs.Common.{◌≡◌, ℕ}
use Rattle.path_index.specs.Table.{is_in, is_at}
use Rattle.path_index.proofs.TestLemmas.{is_near}
use Rattle.path_index.proofs.index.PathIndex.found.Given as goal

-- the paths that are this one or lie in it, and those around it that have been asked for
abbrev pub invariant-loop-depth : goal.invariant-loop-depth
invariant-loop-depth l = (n : ℕ) → is_in l.found.keys n ≡ is_at (is_near l.parts l.depth) l.self n
