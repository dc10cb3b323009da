use Rattle.std.proofs.Common.{◌≡◌, drop}
use Rattle.std.specs.Cmp.Lexicographic.{pointwise}
use Rattle.change_check.specs.Same.{canonical_file, same_file}
use Rattle.change_check.proofs.same.same_files.Given as goal

-- it is left to compare what follows
abbrev pub invariant-loop-at : goal.invariant-loop-at
invariant-loop-at l = pointwise (λ f g. same_file (canonical_file f) g) l.files l.seen ≡ pointwise (λ f g. same_file (canonical_file f) g) (drop l.at l.files) (drop l.at l.seen)
