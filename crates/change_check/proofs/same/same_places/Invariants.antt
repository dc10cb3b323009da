use Rattle.std.proofs.Common.{◌≡◌, drop, bytes_eq}
use Rattle.std.specs.Cmp.Lexicographic.{pointwise}
use Rattle.change_check.proofs.same.same_places.Given as goal

-- it is left to compare what follows
abbrev pub invariant-loop-at : goal.invariant-loop-at
invariant-loop-at l = pointwise (λ p o. bytes_eq p.path o.path) l.entries l.seen ≡ pointwise (λ p o. bytes_eq p.path o.path) (drop l.at l.entries) (drop l.at l.seen)
