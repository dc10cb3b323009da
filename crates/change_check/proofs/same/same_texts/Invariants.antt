use Rattle.std.proofs.Common.{◌≡◌, drop, bytes_eq}
use Rattle.std.specs.Cmp.Lexicographic.{pointwise}
use Rattle.change_check.proofs.same.same_texts.Given as goal

-- it is left to compare what follows
abbrev pub invariant-loop-at : goal.invariant-loop-at
invariant-loop-at l = pointwise bytes_eq l.a l.b ≡ pointwise bytes_eq (drop l.at l.a) (drop l.at l.b)
