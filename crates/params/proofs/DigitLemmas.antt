-- The decimal digits of a number, read again.
--     reads_decimal      they are digits, and their value is the number
--     clean              digits without the zeros at their end don't end with a zero
--     significant_clean  of a number that doesn't end with a zero, no zero is taken off
use Rattle.std.proofs.Common.{◌≡◌, ℕ, zero, suc, ◌+◌, ◌-◌, ◌*◌, ◌/◌, ◌%◌, ◌^◌, ◌<◌, ◌≤◌, eqb, leb, Bool, true, false, cond, ◌&&◌, ◌⊎◌, inl, inr, [], ◌∷◌, ◌++◌, length, refl, sym, ap, subst, ◌∙◌, arith, length-append}
use Rattle.std.specs.Char.{is_ascii_digit}
use Rattle.std.specs.Fmt.{decimal}
use Rattle.std.specs.List.{fold, list_all}
use Rattle.std.proofs.Math.Nat.{pow-succ'}
use Rattle.std.proofs.lemmas.Bool.{cases_Bool, cond-true, cond-false, and_parts, and_from}
use Rattle.std.proofs.lemmas.Bool.Decides.{nat_tests}
use Rattle.std.proofs.lemmas.Fmt.{decimal_by_steps_wide}
use Rattle.std.proofs.lemmas.List.Folds.{list_all-append}
use Rattle.std.proofs.lemmas.List.Sums.{fold-append}
use Rattle.yaml_text.specs.Outcome.{Text}
use Rattle.yaml_scalars.specs.Quoted.{digit_value}
use Rattle.yaml_scalars.specs.Number.{with_base, number, with_digit, significant_part}

pub record Reads (n : ℕ) (ds : Text) : Type 0 where
  pub digits : list_all is_ascii_digit ds ≡ true
  pub some : 0 < length ds
  pub value : number 10 ds ≡ n
  -- digits and zeros make the number
  pub made : (significant_part ds).0 * 10 ^ (significant_part ds).1 ≡ n

digit_test : (d : ℕ) → d < 10 → is_ascii_digit (48 + d) ≡ true
digit_test d h = grind (arith, nat_tests)

digit_of : (d : ℕ) → d < 10 → digit_value (48 + d) ≡ d
digit_of d h =
    let low : leb (48 + d) 57 ≡ true = grind (arith, nat_tests) in
    let e : cond (leb (48 + d) 57) (48 + d - 48) (cond (leb (48 + d) 70) (48 + d - 55) (48 + d - 87)) ≡ 48 + d - 48 =
    cond-true (leb (48 + d) 57) (48 + d - 48) (cond (leb (48 + d) 70) (48 + d - 55) (48 + d - 87)) low in
    e ∙ omega arith

-- x * 10 ^ (k + 1), ten times what it is at k
ten_more : (x k : ℕ) → x * 10 ^ (k + 1) ≡ x * 10 ^ k * 10
ten_more x k =
    let step : k + 1 ≡ suc k = omega arith in
    ap (λ n. x * 10 ^ n) step ∙ ap (λ v. x * v) (pow-succ' 10 k) ∙ turned
  where
    turned : x * (10 * 10 ^ k) ≡ x * 10 ^ k * 10
    turned = grind arith

one_at : (x : ℕ) → x * 10 ^ 0 ≡ x
one_at x = omega arith

made_zero : (s : ℕ × ℕ) (b m : ℕ) → eqb b 48 ≡ true → s.0 * 10 ^ s.1 ≡ m → (with_digit s b).0 * 10 ^ (with_digit s b).1 ≡ m * 10
made_zero s b m e h =
    ap (λ (n : ℕ × ℕ). n.0 * 10 ^ n.1) (cond-true (eqb b 48) (s.0, s.1 + 1) (s.0 * 10 ^ (s.1 + 1) + digit_value b, 0) e)
    ∙ ten_more s.0 s.1 ∙ ap (λ x. x * 10) h

made_digit : (s : ℕ × ℕ) (b m : ℕ) → eqb b 48 ≡ false → s.0 * 10 ^ s.1 ≡ m → (with_digit s b).0 * 10 ^ (with_digit s b).1 ≡ m * 10 + digit_value b
made_digit s b m e h =
    ap (λ (n : ℕ × ℕ). n.0 * 10 ^ n.1) (cond-false (eqb b 48) (s.0, s.1 + 1) (s.0 * 10 ^ (s.1 + 1) + digit_value b, 0) e)
    ∙ one_at (s.0 * 10 ^ (s.1 + 1) + digit_value b) ∙ ap (λ x. x + digit_value b) (ten_more s.0 s.1 ∙ ap (λ x. x * 10) h)

made_more : (s : ℕ × ℕ) (d m : ℕ) → d < 10 → s.0 * 10 ^ s.1 ≡ m → (with_digit s (48 + d)).0 * 10 ^ (with_digit s (48 + d)).1 ≡ m * 10 + d
made_more s d m low h =
    elim (cases_Bool (eqb (48 + d) 48)) [
      | inl e ↦
          let none : d ≡ 0 = grind (arith, nat_tests) in
          let zero_more : m * 10 ≡ m * 10 + d = omega arith in
          made_zero s (48 + d) m e h ∙ zero_more
      | inr e ↦ made_digit s (48 + d) m e h ∙ ap (λ x. m * 10 + x) (digit_of d low)
    ]

one : (n : ℕ) → n < 10 → Reads n ((48 + n) ∷ [])
one n h = record {
  digits = ap (λ b. b && true) (digit_test n h);
  some = omega arith;
  value = ap (λ d. 0 * 10 + d) (digit_of n h) ∙ omega arith;
  made = made_more (0, 0) n 0 h refl ∙ omega arith;
}

more : (n : ℕ) (ds : Text) → 10 ≤ n → Reads (n / 10) ds → Reads n (ds ++ ((48 + n % 10) ∷ []))
more n ds h r =
    let low : n % 10 < 10 = omega arith in
    let whole : n / 10 * 10 + n % 10 ≡ n = omega arith in
    record {
      digits = list_all-append is_ascii_digit ds ((48 + n % 10) ∷ []) ∙ and_from (list_all is_ascii_digit ds) (is_ascii_digit (48 + n % 10) && true) r.digits (ap (λ b. b && true) (digit_test (n % 10) low));
      some = omega (arith, length-append ds ((48 + n % 10) ∷ []));
      value = fold-append (with_base 10) 0 ds ((48 + n % 10) ∷ []) ∙ ap (λ x. x * 10 + digit_value (48 + n % 10)) r.value ∙ ap (λ x. n / 10 * 10 + x) (digit_of (n % 10) low) ∙ whole;
      made =
          ap (λ (s : ℕ × ℕ). s.0 * 10 ^ s.1) (fold-append with_digit (0, 0) ds ((48 + n % 10) ∷ []))
          ∙ made_more (significant_part ds) (n % 10) (n / 10) low r.made ∙ whole;
    }

pub reads_decimal : (n : ℕ) → n < 10 ^ 64 → Reads n (decimal n)
reads_decimal n h = decimal_by_steps_wide Reads one more n h

-- ---- no zero at the end

abbrev pub Clean : ℕ → Type 0
Clean n = (n ≡ 0) ⊎ (0 < n % 10)

ends_with : (x d : ℕ) → 0 < d → d < 10 → 0 < (x * 10 + d) % 10
ends_with x d some low = omega arith

clean_by : (s : ℕ × ℕ) (b : ℕ) (v : Bool) → eqb b 48 ≡ v → is_ascii_digit b ≡ true → Clean s.0 → Clean (cond {A = ℕ × ℕ} v (s.0, s.1 + 1) (s.0 * 10 ^ (s.1 + 1) + digit_value b, 0)).0
clean_by s b true e digit h = h
clean_by s b false e digit h =
    let low : leb b 57 ≡ true = grind (arith, nat_tests) in
    let is : digit_value b ≡ b - 48 = cond-true (leb b 57) (b - 48) (cond (leb b 70) (b - 55) (b - 87)) low in
    let some : 0 < digit_value b = grind (arith, nat_tests) in
    let few : digit_value b < 10 = grind (arith, nat_tests) in
    let end : 0 < (s.0 * 10 ^ s.1 * 10 + digit_value b) % 10 = ends_with (s.0 * 10 ^ s.1) (digit_value b) some few in
    inr (subst (λ (x : ℕ). 0 < (x + digit_value b) % 10) (sym (ten_more s.0 s.1)) end)

clean_digit : (s : ℕ × ℕ) (b : ℕ) → is_ascii_digit b ≡ true → Clean s.0 → Clean (with_digit s b).0
clean_digit s b digit h = clean_by s b (eqb b 48) refl digit h

clean_from : (s : ℕ × ℕ) (t : Text) → list_all is_ascii_digit t ≡ true → Clean s.0 → Clean (fold with_digit s t).0
clean_from s [] h k = k
clean_from s (b ∷ t) h k =
    let both = and_parts (is_ascii_digit b) (list_all is_ascii_digit t) h in
    clean_from (with_digit s b) t both.1 (clean_digit s b both.0 k)

pub clean : (t : Text) → list_all is_ascii_digit t ≡ true → Clean (significant_part t).0
clean t h = clean_from (0, 0) t h (inl refl)

no_tens : (x n : ℕ) → x * 10 ≡ n → 0 < n % 10 → ⊥
no_tens x n e h = absurd (omega arith)

made_by : (a k n : ℕ) → a * 10 ^ k ≡ n → 0 < n % 10 → (a ≡ n) × (k ≡ 0)
made_by a zero n e h = (sym (one_at a) ∙ e, refl)
made_by a (suc k) n e h =
    let step : suc k ≡ k + 1 = omega arith in
    absurd (no_tens (a * 10 ^ k) n (sym (ten_more a k) ∙ ap (λ j. a * 10 ^ j) (sym step) ∙ e) h)

pub significant_clean : (n : ℕ) → n < 10 ^ 64 → 0 < n % 10 → significant_part (decimal n) ≡ (n, 0)
significant_clean n fits h =
    let s = significant_part (decimal n) in
    let is = made_by s.0 s.1 n (reads_decimal n fits).made h in
    ap (λ (a : ℕ). (a, s.1)) is.0 ∙ ap (λ (k : ℕ). (n, k)) is.1
