-- Tests, and what their answers say.
use Rattle.std.proofs.Common.{◌≡◌, ℕ, eqb, Bool, true, false, not, ◌||◌, ◌&&◌, ◌⊎◌, inl, inr, refl, ap, sym, ◌∙◌, arith}
use Rattle.std.proofs.lemmas.Bool.Decides.{nat_tests}

pub either : (b : Bool) → (b ≡ true) ⊎ (b ≡ false)
either true = inl refl
either false = inr refl

pub true_not_false : true ≡ false → ⊥
true_not_false h = absurd (cc)

pub same : (a b : ℕ) → eqb a b ≡ true → a ≡ b
same a b h = grind (arith, nat_tests)

pub eq_self : (n : ℕ) → eqb n n ≡ true
eq_self n = grind (arith, nat_tests)

pub not_true : (a : Bool) → not a ≡ true → a ≡ false
not_true true h = absurd (true_not_false (sym h))
not_true false h = refl

pub both : (a b : Bool) → a ≡ true → b ≡ true → (a && b) ≡ true
both a b h k = ap (λ v. v && b) h ∙ k

pub both_left : (a b : Bool) → (a && b) ≡ true → a ≡ true
both_left true b h = refl
both_left false b h = absurd (true_not_false (sym h))

pub both_right : (a b : Bool) → (a && b) ≡ true → b ≡ true
both_right true b h = h
both_right false b h = absurd (true_not_false (sym h))

pub right_false : (a b : Bool) → b ≡ false → (a && b) ≡ false
right_false true b h = h
right_false false b h = refl

pub either_false : (a b : Bool) → a ≡ false → b ≡ false → (a || b) ≡ false
either_false a b h k = ap (λ v. v || b) h ∙ k

pub neither_left : (a b : Bool) → (a || b) ≡ false → a ≡ false
neither_left true b h = absurd (true_not_false h)
neither_left false b h = refl

pub neither_right : (a b : Bool) → (a || b) ≡ false → b ≡ false
neither_right true b h = absurd (true_not_false h)
neither_right false b h = h
