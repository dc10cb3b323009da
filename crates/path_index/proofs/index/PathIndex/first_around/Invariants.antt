use Rattle.path_index.specs.First.{IsFirst}
use Rattle.path_index.specs.Table.{is_at}
use Rattle.path_index.proofs.TestLemmas.{is_around}
use Rattle.path_index.proofs.index.PathIndex.first_around.Given as goal

-- the first of those that have been asked for
abbrev pub invariant-loop-depth : goal.invariant-loop-depth
invariant-loop-depth l = IsFirst (is_at (is_around l.parts l.depth) l.self) l.first
