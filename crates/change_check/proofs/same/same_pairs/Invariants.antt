use Rattle.std.proofs.Common.{◌≡◌, drop}
use Rattle.std.specs.Cmp.Lexicographic.{pointwise}
use Rattle.change_check.specs.Same.{canonical_pair, same_pair}
use Rattle.change_check.proofs.same.same_pairs.Given as goal

-- it is left to compare what follows
abbrev pub invariant-loop-at : goal.invariant-loop-at
invariant-loop-at l = pointwise (λ p q. same_pair (canonical_pair p) q) l.pairs l.seen ≡ pointwise (λ p q. same_pair (canonical_pair p) q) (drop l.at l.pairs) (drop l.at l.seen)
