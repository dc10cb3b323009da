use Rattle.std.proofs.Common.{◌≡◌, drop}
use Rattle.std.specs.Cmp.Lexicographic.{pointwise}
use Rattle.change_check.specs.Same.{same_path}
use Rattle.change_check.proofs.same.same_paths.Given as goal

-- it is left to compare what follows
abbrev pub invariant-loop-at : goal.invariant-loop-at
invariant-loop-at l = pointwise same_path l.entries l.seen ≡ pointwise same_path (drop l.at l.entries) (drop l.at l.seen)
