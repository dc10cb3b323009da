-- Numbers that are cut at a limit.
use Rattle.std.proofs.Common.{◌≡◌, ℕ, zero, suc, ◌+◌, ◌-◌, ◌*◌, ◌^◌, ◌<◌, ◌≤◌, min, eqb, ltb, leb, Bool, true, false, cond, ◌||◌, List, [], ◌∷◌, ◌++◌, length, ◌⊎◌, inl, inr, refl, ap, sym, subst, ◌∙◌, lit<, lit≤, arith}
use Rattle.std.specs.List.{fold}
use Rattle.std.proofs.lemmas.Bool.{cases_lt}
use Rattle.std.proofs.lemmas.Bool.Decides.{nat_tests}
use Rattle.std.proofs.lemmas.List.Sums.{fold-append}
use Rattle.std.proofs.Math.Nat.{mul-le-mul_left, one-le-pow, mul_assoc, pow-succ'}
use Rattle.yaml_text.specs.Outcome.{Text}
use Rattle.yaml_scalars.specs.Quoted.{digit_value}
use Rattle.yaml_scalars.specs.Number.{with_base, with_digit, significant_part, distance, Parts, is_wide_number}
use Rattle.yaml_scalars.specs.NumeralParts.{most, IsSameToLimit}

-- alike up to the limit
either : (m n k : ℕ) → min n m ≡ min k m → (n ≡ k) ⊎ ((m ≤ n) × (m ≤ k))
either m n k h = elim (cases_lt n m) [ inl a ↦ inl (omega arith) | inr a ↦ inr (a, omega arith) ]

pub times_respects : (m n k b : ℕ) → 1 ≤ b → min n m ≡ min k m → min (n * b) m ≡ min (k * b) m
times_respects m n k b some h =
    elim (either m n k h) [
      | inl e ↦ ap (λ v. min (v * b) m) e
      | inr w ↦
          let x : n ≤ n * b = omega (arith, mul-le-mul_left n some) in
          let y : k ≤ k * b = omega (arith, mul-le-mul_left k some) in
          let p = w.0 in let q = w.1 in omega arith
    ]

pub cut_times : (m n b : ℕ) → 1 ≤ b → min (min n m * b) m ≡ min (n * b) m
cut_times m n b some = times_respects m (min n m) n b some (omega arith)

plus_respects : (m x y d : ℕ) → min x m ≡ min y m → min (x + d) m ≡ min (y + d) m
plus_respects m x y d h = omega arith

pub cut_sum : (m x d : ℕ) → min (min (min x m + d) m) m ≡ min (x + d) m
cut_sum m x d = omega arith

pub cut_plus : (m x d : ℕ) → min (min x m + d) m ≡ min (x + d) m
cut_plus m x d = omega arith

pub number_respects : (m b n k : ℕ) (t : Text) → 1 ≤ b → min n m ≡ min k m → min (fold (with_base b) n t) m ≡ min (fold (with_base b) k t) m
number_respects m b n k [] some h = h
number_respects m b n k (d ∷ t) some h =
    number_respects m b (n * b + digit_value d) (k * b + digit_value d) t some (plus_respects m (n * b) (k * b) (digit_value d) (times_respects m n k b some h))

-- one more digit
pub number_more : (m b v d : ℕ) (t : Text) → 1 ≤ b
    → min (fold (with_base b) (min (min (v * b) m + digit_value d) m) t) m ≡ min (fold (with_base b) v (d ∷ t)) m
number_more m b v d t some =
    number_respects m b (min (min (v * b) m + digit_value d) m) (v * b + digit_value d) t some (cut_sum m (v * b) (digit_value d))

-- one more zero
pub zeros_more : (m v k : ℕ) → min (min (v * 10) m * 10 ^ k) m ≡ min (v * 10 ^ suc k) m
zeros_more m v k =
    cut_times m (v * 10) (10 ^ k) (one-le-pow k 10 (omega arith))
    ∙ ap (λ x. min x m) (mul_assoc v 10 (10 ^ k) ∙ ap (λ x. v * x) (sym (pow-succ' 10 k)))

digit_by : (c : Bool) (a b : ℕ × ℕ) (d : ℕ) → IsSameToLimit a b
    → IsSameToLimit (cond c (a.0, a.1 + 1) (a.0 * 10 ^ (a.1 + 1) + digit_value d, 0)) (cond c (b.0, b.1 + 1) (b.0 * 10 ^ (b.1 + 1) + digit_value d, 0))
digit_by true a b d h = (h.0, ap (λ n. n + 1) h.1)
digit_by false a b d h = (
  plus_respects most (a.0 * 10 ^ (a.1 + 1)) (b.0 * 10 ^ (b.1 + 1)) (digit_value d)
      (times_respects most a.0 b.0 (10 ^ (a.1 + 1)) (one-le-pow (a.1 + 1) 10 (omega arith)) h.0 ∙ ap (λ n. min (b.0 * 10 ^ (n + 1)) most) h.1),
  refl,
)

digit_respects : (a b : ℕ × ℕ) (d : ℕ) → IsSameToLimit a b → IsSameToLimit (with_digit a d) (with_digit b d)
digit_respects a b d h = digit_by (eqb d 48) a b d h

pub digits_respect : (a b : ℕ × ℕ) (t : Text) → IsSameToLimit a b → IsSameToLimit (fold with_digit a t) (fold with_digit b t)
digits_respect a b [] h = h
digits_respect a b (d ∷ t) h = digits_respect (with_digit a d) (with_digit b d) t (digit_respects a b d h)

pub digits_twice : (r s : ℕ × ℕ) (whole fraction : Text) → IsSameToLimit r (fold with_digit (0, 0) whole) → IsSameToLimit s (fold with_digit r fraction)
    → IsSameToLimit s (significant_part (whole ++ fraction))
digits_twice r s whole fraction h k =
    let more = digits_respect r (fold with_digit (0, 0) whole) fraction h in
    let e = fold-append with_digit (0, 0) whole fraction in
    subst (IsSameToLimit s) (sym e) (k.0 ∙ more.0, k.1 ∙ more.1)

lt_cut : (n k m l : ℕ) → l < m → min n m ≡ min k m → ltb l n ≡ ltb l k
lt_cut n k m l h e = grind (arith, nat_tests)

pub wide_cut : (n k : ℕ × ℕ) (p : Parts) → IsSameToLimit n k → is_wide_number n p ≡ is_wide_number k p
wide_cut n k p h =
    let a : ltb (2 ^ 127) n.0 ≡ ltb (2 ^ 127) k.0 = lt_cut n.0 k.0 most (2 ^ 127) (lit< tt) h.0 in
    let b : ltb 0 n.0 ≡ ltb 0 k.0 = lt_cut n.0 k.0 most 0 (lit< tt) h.0 in
    let c = h.1 in cc

pub far_below : (l m e f z : ℕ) → l + z ≤ m → leb l (distance z (min (min e m + f) m)) ≡ leb l (distance z (e + f))
far_below l m e f z h = grind (arith, nat_tests)

pub far_above : (l m e f z : ℕ) → l + f ≤ m → leb l (distance (min (min e m + z) m) f) ≡ leb l (distance (e + z) f)
far_above l m e f z h = grind (arith, nat_tests)
