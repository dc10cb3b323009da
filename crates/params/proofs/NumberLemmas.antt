-- Numbers and their canonical forms.
--     Fits n          a number that isn't zero: its digits don't end with a zero, and a `-` stands before no exponent of zero
--     read_back       the canonical form of such a number is read as that number
--     decimal_fits, whole_fits    what is read of a scalar is zero or such a number
--     decimal_is      the number that the code reads
use Rattle.std.proofs.Common.{◌≡◌, ℕ, zero, suc, ◌+◌, ◌-◌, ◌*◌, ◌%◌, ◌^◌, ◌<◌, ◌≤◌, min, eqb, leb, ltb, Bool, true, false, cond, ◌||◌, ◌&&◌, inl, inr, [], ◌∷◌, ◌++◌, length, take, drop, Option, Some, None, Ok, refl, ap, sym, subst, ◌∙◌, arith, lit<}
use Rattle.std.specs.Prelude.{ℤ, unsigned_abs}
use Rattle.std.specs.Char.{is_ascii_digit}
use Rattle.std.specs.Fmt.{decimal}
use Rattle.std.specs.List.{fold, list_all, before_first, after_first}
use Rattle.std.proofs.Math.Nat.{pow-succ', mul-le-mul_left, pow-le-pow_right}
use Rattle.std.proofs.Math.Seq.{take-append_seam, drop-append_seam}
use Rattle.std.proofs.lemmas.Bool.{cases_Bool, cases_lt, and_parts}
use Rattle.std.proofs.lemmas.Bool.Decides.{nat_tests}
use Rattle.std.proofs.lemmas.List.{append-nil}
use Rattle.dvc_base.specs.declared.node.Node.TheVariants as nd
use Rattle.yaml_text.specs.Outcome.{Text}
use Rattle.yaml_scalars.specs.Quoted.{digit_value}
use Rattle.yaml_scalars.specs.Number.{with_base, with_digit, past_sign, is_negative, digits_len, are_all, number, significant_part, canonical_exponent, Parts, exponent_of, behind_whole, unsigned_parts, parts_of, is_wide, is_wide_number}
use Rattle.yaml_scalars.specs.Kind.{scalar}
use Rattle.yaml_scalars.specs.NumeralParts.{most, IsSameToLimit}
use Rattle.yaml_scalars.proofs.NumberLemmas.{digits_twice}
use Rattle.yaml_print.proofs.BoolLemmas.{true_not_false, neither_left, neither_right}
use Rattle.params.specs.declared.number.Number.{Number}
use Rattle.params.specs.Number.{is_down, number_by, number_of_parts, decimal_number, whole_number, signed_text, number_text}
use Rattle.params.proofs.DigitLemmas.{reads_decimal, Clean, clean, significant_clean}
use Rattle.params.proofs.PartLemmas.{is_letter, is_point, shape, sound_decimal}

-- ---- digits and signs

first_digit : (b : ℕ) (t : Text) → is_ascii_digit b ≡ true → (past_sign (b ∷ t) ≡ b ∷ t) × (is_negative (b ∷ t) ≡ false)
first_digit b t h =
    let plus : eqb b 43 ≡ false = grind (arith, nat_tests) in
    let minus : eqb b 45 ≡ false = grind (arith, nat_tests) in
    (ap (λ v. cond (v || eqb b 45) t (b ∷ t)) plus ∙ ap (λ v. cond v t (b ∷ t)) minus, minus)

-- digits, and what is behind them
pub sign_free : (ds r : Text) → list_all is_ascii_digit ds ≡ true → 0 < length ds → (past_sign (ds ++ r) ≡ ds ++ r) × (is_negative (ds ++ r) ≡ false)
sign_free [] r h some = absurd (omega arith)
sign_free (d ∷ ds) r h some = first_digit d (ds ++ r) (and_parts (is_ascii_digit d) (list_all is_ascii_digit ds) h).0

digits_stop : (ds r : Text) → list_all is_ascii_digit ds ≡ true → digits_len r ≡ 0 → digits_len (ds ++ r) ≡ length ds
digits_stop [] r h none = none
digits_stop (d ∷ ds) r h none =
    let both = and_parts (is_ascii_digit d) (list_all is_ascii_digit ds) h in
    let rest : digits_len (ds ++ r) ≡ length ds = digits_stop ds r both.1 none in
    let more : 1 + digits_len (ds ++ r) ≡ suc (length ds) = omega arith in
    ap (λ v. cond v (1 + digits_len (ds ++ r)) 0) both.0 ∙ more

-- digits behind a sign
record Signed (down : Bool) (es : Text) : Type 0 where
  past : past_sign (signed_text down es) ≡ es
  negative : is_negative (signed_text down es) ≡ down

with_sign : (down : Bool) (es : Text) → list_all is_ascii_digit es ≡ true → 0 < length es → Signed down es
with_sign true es h some = record { past = refl; negative = refl }
with_sign false es h some =
    let free = sign_free es [] h some in
    let same = append-nil es in
    record { past = subst (λ (t : Text). past_sign t ≡ t) same free.0; negative = subst (λ (t : Text). is_negative t ≡ false) same free.1 }

chosen_true : {A : Type 0} (b : Bool) (x y : A) → b ≡ true → cond b x y ≡ x
chosen_true b x y h = ap (λ v. cond v x y) h

some_digits : (es : Text) → 0 < length es → ltb 0 (length es) ≡ true
some_digits es h = grind (arith, nat_tests)

no_digits : (es : Text) → 0 < length es → eqb (length es) 0 ≡ false
no_digits es h = grind (arith, nat_tests)

-- ---- the parts of a canonical form

abbrev pub canonical_parts : Text → Bool → Text → Parts
canonical_parts ds down es = record { whole = ds; fraction = []; below = down; exponent = es }

exponent_parts : (ds : Text) (down : Bool) (es : Text) → list_all is_ascii_digit es ≡ true → 0 < length es → exponent_of ds [] (101 ∷ signed_text down es) ≡ Some (canonical_parts ds down es)
exponent_parts ds down es h some =
    let s = with_sign down es h some in
    let all : are_all is_ascii_digit (past_sign (signed_text down es)) ≡ true =
    ap (are_all is_ascii_digit) s.past ∙ (ap (λ v. v && list_all is_ascii_digit es) (some_digits es some) ∙ h) in
    chosen_true (are_all is_ascii_digit (past_sign (signed_text down es))) (Some (record { whole = ds; fraction = []; below = is_negative (signed_text down es); exponent = past_sign (signed_text down es) })) None all
    ∙ ap (λ v. Some (record { whole = ds; fraction = []; below = v; exponent = past_sign (signed_text down es) })) s.negative
    ∙ ap (λ t. Some (record { whole = ds; fraction = []; below = down; exponent = t })) s.past

behind_parts : (ds : Text) (down : Bool) (es : Text) → 0 < length ds → list_all is_ascii_digit es ≡ true → 0 < length es → behind_whole ds (101 ∷ signed_text down es) ≡ Some (canonical_parts ds down es)
behind_parts ds down es there h some =
    ap (λ v. cond v None (exponent_of ds [] (101 ∷ signed_text down es))) (no_digits ds there) ∙ exponent_parts ds down es h some

unsigned_canonical : (ds : Text) (down : Bool) (es : Text) → list_all is_ascii_digit ds ≡ true → 0 < length ds → list_all is_ascii_digit es ≡ true → 0 < length es
    → unsigned_parts (ds ++ 101 ∷ signed_text down es) ≡ Some (canonical_parts ds down es)
unsigned_canonical ds down es all there h some =
    let r = 101 ∷ signed_text down es in
    let len = digits_stop ds r all refl in
    ap (λ (n : ℕ). behind_whole (take n (ds ++ r)) (drop n (ds ++ r))) len
    ∙ ap (λ (t : Text). behind_whole t (drop (length ds) (ds ++ r))) (take-append_seam ds r)
    ∙ ap (behind_whole ds) (drop-append_seam ds r)
    ∙ behind_parts ds down es there h some

pub record SignedParts (below : Bool) (t : Text) (p : Parts) : Type 0 where
  pub negative : is_negative t ≡ below
  pub parts : parts_of t ≡ Some p

signed_parts : (below : Bool) (ds r : Text) (p : Parts) → list_all is_ascii_digit ds ≡ true → 0 < length ds → unsigned_parts (ds ++ r) ≡ Some p → SignedParts below (signed_text below (ds ++ r)) p
unfolding parts_of
signed_parts true ds r p all there h = record { negative = refl; parts = h }
signed_parts false ds r p all there h =
    let free = sign_free ds r all there in
    record { negative = free.1; parts = ap unsigned_parts free.0 ∙ h }

-- ---- the number that a canonical form is

pub record Fits (n : Number) : Type 0 where
  pub low : n.digits ≤ 2 ^ 127
  pub end : 0 < n.digits % 10
  pub small : n.exponent < 10 ^ 30
  pub down : n.down ≡ true → 0 < n.exponent

first_cut : (a b c : ℕ) → a ≤ b → b < c → a < c
first_cut a b c h k = omega arith

after : (a b c : ℕ) → a < b → b < c → a < c
after a b c h k = omega arith

pub low_digits : (n : Number) → Fits n → n.digits < 10 ^ 64
low_digits n f = first_cut n.digits (2 ^ 127) (10 ^ 64) f.low (lit< tt)

pub low_exponent : (n : Number) → Fits n → n.exponent < 10 ^ 64
low_exponent n f = after n.exponent (10 ^ 30) (10 ^ 64) f.small (lit< tt)

down_is : (b : Bool) (e : ℕ) → (b ≡ true → 0 < e) → is_down b e 0 0 ≡ b
down_is true e h =
    let some = h refl in
    grind (arith, nat_tests)
down_is false e h = grind (arith, nat_tests)

pub exponent_is : (b : Bool) (e : ℕ) → canonical_exponent b e 0 0 ≡ e
exponent_is true e = omega arith
exponent_is false e = omega arith

number_canonical : (n : Number) → Fits n → number_by n.below (significant_part (decimal n.digits ++ [])) (canonical_parts (decimal n.digits) n.down (decimal n.exponent)) ≡ n
number_canonical n f =
    let p = canonical_parts (decimal n.digits) n.down (decimal n.exponent) in
    let cut : significant_part (decimal n.digits ++ []) ≡ (n.digits, 0) = ap significant_part (append-nil (decimal n.digits)) ∙ significant_clean n.digits (low_digits n f) f.end in
    let e = (reads_decimal n.exponent (low_exponent n f)).value in
    ap (λ (s : ℕ × ℕ). number_by n.below s p) cut
    ∙ ap (λ (k : ℕ). record { below = n.below; digits = n.digits; down = is_down n.down k 0 0; exponent = canonical_exponent n.down k 0 0 }) e
    ∙ ap (λ (b : Bool). record { below = n.below; digits = n.digits; down = b; exponent = canonical_exponent n.down n.exponent 0 0 }) (down_is n.down n.exponent f.down)
    ∙ ap (λ (k : ℕ). record { below = n.below; digits = n.digits; down = n.down; exponent = k }) (exponent_is n.down n.exponent)

abbrev pub parts_in : Number → Parts
parts_in n = canonical_parts (decimal n.digits) n.down (decimal n.exponent)

pub text_parts : (n : Number) → Fits n → SignedParts n.below (number_text n) (parts_in n)
text_parts n f =
    let ds = reads_decimal n.digits (low_digits n f) in
    let es = reads_decimal n.exponent (low_exponent n f) in
    signed_parts n.below (decimal n.digits) (101 ∷ signed_text n.down (decimal n.exponent)) (parts_in n) ds.digits ds.some
    (unsigned_canonical (decimal n.digits) n.down (decimal n.exponent) ds.digits ds.some es.digits es.some)

pub read_back : (n : Number) → Fits n → decimal_number (number_text n) ≡ n
read_back n f =
    let s = text_parts n f in
    ap (λ (b : Bool). number_of_parts b (parts_of (number_text n))) s.negative ∙ ap (number_of_parts n.below) s.parts ∙ number_canonical n f

-- ---- what is read of a scalar

chained : (a b c d : ℕ) → a < b → b ≤ c → c ≡ d → a < d
chained a b c d h k e = omega arith

within : (a b c d : ℕ) → a < b → b ≡ c → c ≤ d → a < d
within a b c d h e k = omega arith

min_low : (a m : ℕ) → a < m → min a m ≡ a
min_low a m h = omega arith

some_end : (n : ℕ) → Clean n → (eqb n 0 ≡ false) → 0 < n % 10
some_end n (inl none) h =
    let e : eqb n 0 ≡ true = grind (arith, nat_tests) in
    absurd (cc)
some_end n (inr end) h = end

some_size : (n : ℕ) → eqb n 0 ≡ false → ltb 0 n ≡ true
some_size n h = grind (arith, nat_tests)

-- what is_wide doesn't refuse
record Narrow (n : ℕ × ℕ) (p : Parts) : Type 0 where
  digits : n.0 ≤ 2 ^ 127
  short : length p.exponent ≤ 30
  small : eqb n.0 0 ≡ false → canonical_exponent p.below (number 10 p.exponent) n.1 (length p.fraction) < 10 ^ 30

not_more : (a b : ℕ) → ltb a b ≡ false → b ≤ a
not_more a b h = grind (arith, nat_tests)

not_least : (a b : ℕ) → leb a b ≡ false → b < a
not_least a b h = grind (arith, nat_tests)

and_false : (a b : Bool) → (a && b) ≡ false → a ≡ true → b ≡ false
and_false true b h k = h
and_false false b h k = absurd (cc)

narrow_by : (n : ℕ × ℕ) (p : Parts) → is_wide_number n p ≡ false → Narrow n p
narrow_by n p h =
    let e = canonical_exponent p.below (number 10 p.exponent) n.1 (length p.fraction) in
    let front = neither_left (ltb (2 ^ 127) n.0 || ltb 30 (length p.exponent)) (ltb 0 n.0 && leb (10 ^ 30) e) h in
    let back = neither_right (ltb (2 ^ 127) n.0 || ltb 30 (length p.exponent)) (ltb 0 n.0 && leb (10 ^ 30) e) h in
    record {
      digits = not_more (2 ^ 127) n.0 (neither_left (ltb (2 ^ 127) n.0) (ltb 30 (length p.exponent)) front);
      short = not_more 30 (length p.exponent) (neither_right (ltb (2 ^ 127) n.0) (ltb 30 (length p.exponent)) front);
      small = λ some. not_least (10 ^ 30) e (and_false (ltb 0 n.0) (leb (10 ^ 30) e) back (some_size n.0 some));
    }

narrow : (p : Parts) → is_wide p ≡ false → Narrow (significant_part (p.whole ++ p.fraction)) p
unfolding is_wide
narrow p h = narrow_by (significant_part (p.whole ++ p.fraction)) p h

down_some : (b : Bool) (e z f : ℕ) → is_down b e z f ≡ true → 0 < canonical_exponent b e z f
down_some true e z f h = grind (arith, nat_tests)
down_some false e z f h = grind (arith, nat_tests)

parts_fit : (below : Bool) (p : Parts) → list_all is_ascii_digit (p.whole ++ p.fraction) ≡ true → is_wide p ≡ false
    → eqb (significant_part (p.whole ++ p.fraction)).0 0 ≡ false → Fits (number_by below (significant_part (p.whole ++ p.fraction)) p)
parts_fit below p digits wide some =
    let n = significant_part (p.whole ++ p.fraction) in
    let r = narrow p wide in
    record {
      low = r.digits;
      end = some_end n.0 (clean (p.whole ++ p.fraction) digits) some;
      small = r.small some;
      down = λ h. down_some p.below (number 10 p.exponent) n.1 (length p.fraction) h;
    }

pub decimal_fits : (t : Text) → scalar 0 t ≡ Ok (nd.Decimal t) → eqb (decimal_number t).digits 0 ≡ false → Fits (decimal_number t)
decimal_fits t h =
    let r = sound_decimal t h in
    let s = shape t r.parts r.is in
    subst (λ (parts : Option Parts). eqb (number_of_parts (is_negative t) parts).digits 0 ≡ false → Fits (number_of_parts (is_negative t) parts)) (sym r.is)
    (λ some. parts_fit (is_negative t) r.parts s.mantissa r.narrow some)

ten_more : (k : ℕ) → 10 ^ suc k ≡ 10 * 10 ^ k
ten_more k = pow-succ' 10 k

few : (k : ℕ) → k < 10 ^ k
few zero = lit< tt
few (suc k) =
    let more = ten_more k in
    let h : k < 10 ^ k = few k in
    omega arith

at_least_one : (a k n : ℕ) → eqb a 0 ≡ false → a * 10 ^ k ≡ n → (a ≤ n) × (10 ^ k ≤ n)
at_least_one a k n h e =
    let some : 1 ≤ a = grind (arith, nat_tests) in
    let power : k < 10 ^ k = few k in
    let one : 1 ≤ 10 ^ k = omega arith in
    let front : a * 1 ≤ a * 10 ^ k = mul-le-mul_left a one in
    let back : 10 ^ k * 1 ≤ 10 ^ k * a = mul-le-mul_left (10 ^ k) some in
    let turned : 10 ^ k * a ≡ a * 10 ^ k = grind arith in
    (omega arith, omega arith)

not_past : (a b c d : ℕ) → a ≤ b → b ≤ c → c ≤ d → d < a → ⊥
not_past a b c d h k l e = absurd (omega arith)

-- 39 zeros don't stand at the end of so small a number
few_zeros : (k n : ℕ) → 10 ^ k ≤ n → n ≤ 2 ^ 127 → k < 10 ^ 30
few_zeros k n h low =
    elim (cases_lt k 39) [
      | inl less ↦ after k 39 (10 ^ 30) less (lit< tt)
      | inr more ↦
          let up : 10 ^ 39 ≤ 10 ^ k = pow-le-pow_right {n = 10} (lit< tt) more in
          absurd (not_past (10 ^ 39) (10 ^ k) n (2 ^ 127) up h low (lit< tt))
    ]

at_most : (a b c : ℕ) → a ≤ b → b ≤ c → a ≤ c
at_most a b c h k = omega arith

pub whole_fits : (n : ℤ) → unsigned_abs n ≤ 2 ^ 127 → eqb (whole_number n).digits 0 ≡ false → Fits (whole_number n)
whole_fits n h some =
    let size = unsigned_abs n in
    let r = reads_decimal size (first_cut size (2 ^ 127) (10 ^ 64) h (lit< tt)) in
    let s = significant_part (decimal size) in
    let parts = at_least_one s.0 s.1 size some r.made in
    record {
      low = at_most s.0 size (2 ^ 127) parts.0 h;
      end = some_end s.0 (clean (decimal size) r.digits) some;
      small = few_zeros s.1 size parts.1 h;
      down = λ e. absurd (true_not_false (sym e));
    }

-- ---- the number that the code reads

pub made_small : (n : ℕ) → n < 10 ^ 64 → (significant_part (decimal n)).0 ≤ n
made_small n low =
    let r = reads_decimal n low in
    let s = significant_part (decimal n) in
    elim (cases_Bool (eqb s.0 0)) [
      | inl none ↦ let e : s.0 ≡ 0 = grind (arith, nat_tests) in omega arith
      | inr some ↦ (at_least_one s.0 s.1 n some r.made).0
    ]

uncut : (a b m : ℕ) → min a m ≡ min b m → b < m → a ≡ b
uncut a b m h k = omega arith

pub uncut_digits : (a b : ℕ × ℕ) → IsSameToLimit a b → b.0 ≤ 2 ^ 127 → a ≡ b
uncut_digits a b h low =
    let first : a.0 ≡ b.0 = uncut a.0 b.0 most h.0 (first_cut b.0 (2 ^ 127) most low (lit< tt)) in
    ap (λ (n : ℕ). (n, a.1)) first ∙ ap (λ (n : ℕ). (b.0, n)) h.1

digit_low : (b : ℕ) → is_ascii_digit b ≡ true → digit_value b ≤ 9
digit_low b h =
    let low : leb b 57 ≡ true = grind (arith, nat_tests) in
    let is : digit_value b ≡ b - 48 = chosen_true (leb b 57) (b - 48) (cond (leb b 70) (b - 55) (b - 87)) low in
    let less : b ≤ 57 = grind (arith, nat_tests) in
    omega arith

turned : (p w : ℕ) → p * (10 * w) ≡ 10 * p * w
turned p w = grind arith

number_from : (v : ℕ) (ds : Text) → list_all is_ascii_digit ds ≡ true → fold (with_base 10) v ds < 10 ^ length ds * (v + 1)
number_from v [] h = omega arith
number_from v (d ∷ ds) h =
    let both = and_parts (is_ascii_digit d) (list_all is_ascii_digit ds) h in
    let rest : fold (with_base 10) (v * 10 + digit_value d) ds < 10 ^ length ds * (v * 10 + digit_value d + 1) = number_from (v * 10 + digit_value d) ds both.1 in
    let low : digit_value d ≤ 9 = digit_low d both.0 in
    let step : v * 10 + digit_value d + 1 ≤ 10 * (v + 1) = omega arith in
    let most_of : 10 ^ length ds * (v * 10 + digit_value d + 1) ≤ 10 ^ length ds * (10 * (v + 1)) = mul-le-mul_left (10 ^ length ds) step in
    let is : 10 ^ length ds * (10 * (v + 1)) ≡ 10 ^ suc (length ds) * (v + 1) =
    turned (10 ^ length ds) (v + 1) ∙ ap (λ (x : ℕ). x * (v + 1)) (sym (ten_more (length ds))) in
    chained (fold (with_base 10) (v * 10 + digit_value d) ds) (10 ^ length ds * (v * 10 + digit_value d + 1)) (10 ^ length ds * (10 * (v + 1))) (10 ^ suc (length ds) * (v + 1)) rest most_of is

number_low : (ds : Text) → list_all is_ascii_digit ds ≡ true → length ds ≤ 30 → number 10 ds < 10 ^ 30
number_low ds h short =
    let from : number 10 ds < 10 ^ length ds * 1 = number_from 0 ds h in
    let up : 10 ^ length ds ≤ 10 ^ 30 = pow-le-pow_right {n = 10} (lit< tt) short in
    let one : 10 ^ length ds * 1 ≡ 10 ^ length ds = omega arith in
    within (number 10 ds) (10 ^ length ds * 1) (10 ^ length ds) (10 ^ 30) from one up

-- what the code has, piece by piece: the text's mantissa `m` and power `q`, the digits before and behind the point
pub record IsRead (t m q w f : Text) (r s : ℕ × ℕ) (e : ℕ) (x : Bool × ℕ) : Type 0 where
  pub mantissa : m ≡ before_first is_letter (past_sign t)
  pub power : q ≡ after_first is_letter (past_sign t)
  pub whole : w ≡ before_first is_point m
  pub fraction : f ≡ after_first is_point m
  pub front : IsSameToLimit r (fold with_digit (0, 0) w)
  pub digits : IsSameToLimit s (fold with_digit r f)
  pub value : e ≡ min (number 10 (past_sign q)) most
  pub exponent : e < 2 ^ 127 → (x.0 ≡ is_down (is_negative q) e s.1 (length f)) × (x.1 ≡ canonical_exponent (is_negative q) e s.1 (length f))

made_number : (below : Bool) (s : ℕ × ℕ) (p : Parts) (negative : Bool) (e : ℕ) (fraction : Text) (x : Bool × ℕ)
    → s ≡ significant_part (p.whole ++ p.fraction) → negative ≡ p.below → e ≡ number 10 p.exponent → fraction ≡ p.fraction
    → (x.0 ≡ is_down negative e s.1 (length fraction)) × (x.1 ≡ canonical_exponent negative e s.1 (length fraction))
    → record { below = below; digits = s.0; down = x.0; exponent = x.1 } ≡ number_by below (significant_part (p.whole ++ p.fraction)) p
made_number below s p negative e fraction x digits sign power rest is =
    ap (λ (b : Bool). record { below = below; digits = s.0; down = b; exponent = x.1 }) is.0
    ∙ ap (λ (n : ℕ). record { below = below; digits = s.0; down = is_down negative e s.1 (length fraction); exponent = n }) is.1
    ∙ ap (λ (b : Bool). record { below = below; digits = s.0; down = is_down b e s.1 (length fraction); exponent = canonical_exponent b e s.1 (length fraction) }) sign
    ∙ ap (λ (n : ℕ). record { below = below; digits = s.0; down = is_down p.below n s.1 (length fraction); exponent = canonical_exponent p.below n s.1 (length fraction) }) power
    ∙ ap (λ (f : Text). record { below = below; digits = s.0; down = is_down p.below (number 10 p.exponent) s.1 (length f); exponent = canonical_exponent p.below (number 10 p.exponent) s.1 (length f) }) rest
    ∙ ap (λ (n : ℕ × ℕ). number_by below n p) digits

pub decimal_is : (t mantissa power whole fraction : Text) (r s : ℕ × ℕ) (e : ℕ) (x : Bool × ℕ) → IsRead t mantissa power whole fraction r s e x → scalar 0 t ≡ Ok (nd.Decimal t)
    → record { below = is_negative t; digits = s.0; down = x.0; exponent = x.1 } ≡ decimal_number t
decimal_is t mantissa power whole fraction r s e x is h =
    let f = sound_decimal t h in
    let p = f.parts in
    let c = shape t p f.is in
    let n = narrow p f.narrow in
    let first : whole ≡ p.whole = is.whole ∙ ap (before_first is_point) is.mantissa ∙ c.whole in
    let second : fraction ≡ p.fraction = is.fraction ∙ ap (after_first is_point) is.mantissa ∙ c.fraction in
    let sign : is_negative power ≡ p.below = ap is_negative is.power ∙ c.below in
    let exponent : past_sign power ≡ p.exponent = ap past_sign is.power ∙ c.exponent in
    let both : IsSameToLimit s (significant_part (whole ++ fraction)) = digits_twice r s whole fraction is.front is.digits in
    let joined : whole ++ fraction ≡ p.whole ++ p.fraction = ap (λ (w : Text). w ++ fraction) first ∙ ap (λ (f : Text). p.whole ++ f) second in
    let cut : IsSameToLimit s (significant_part (p.whole ++ p.fraction)) = subst (λ (d : Text). IsSameToLimit s (significant_part d)) joined both in
    let digits : s ≡ significant_part (p.whole ++ p.fraction) = uncut_digits s (significant_part (p.whole ++ p.fraction)) cut n.digits in
    let low : number 10 p.exponent < 10 ^ 30 = number_low p.exponent c.digits n.short in
    let small : number 10 p.exponent < most = after (number 10 p.exponent) (10 ^ 30) most low (lit< tt) in
    let number_is : e ≡ number 10 p.exponent = is.value ∙ ap (λ (d : Text). min (number 10 d) most) exponent ∙ min_low (number 10 p.exponent) most small in
    let few_e : e < 2 ^ 127 = subst (λ (k : ℕ). k < 2 ^ 127) (sym number_is) (after (number 10 p.exponent) (10 ^ 30) (2 ^ 127) low (lit< tt)) in
    made_number (is_negative t) s p (is_negative power) e fraction x digits sign number_is second (is.exponent few_e)
    ∙ sym (ap (number_of_parts (is_negative t)) f.is)

pub whole_low : (n : ℕ) (s : ℕ × ℕ) → n ≤ 2 ^ 127 → IsSameToLimit s (significant_part (decimal n)) → s ≡ significant_part (decimal n)
whole_low n s low cut =
    let small = first_cut n (2 ^ 127) (10 ^ 64) low (lit< tt) in
    let less : (significant_part (decimal n)).0 ≤ 2 ^ 127 = omega (arith, made_small n small) in
    uncut_digits s (significant_part (decimal n)) cut less
