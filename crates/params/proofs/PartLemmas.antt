-- The parts of a number's text, as the code cuts it, and what a scalar that is a number fits.
--     shape          a text with parts, cut at its letter and at its point
--     sound_whole, sound_decimal    what holds of a whole number and of the text of another that a scalar is read as
use Rattle.std.proofs.Common.{◌≡◌, ℕ, zero, suc, ◌+◌, ◌^◌, ◌≤◌, eqb, leb, ltb, Bool, true, false, cond, not, ◌||◌, ◌&&◌, ◌⊎◌, inl, inr, [], ◌∷◌, ◌++◌, length, take, drop, Option, Some, None, Ok, Err, refl, ap, sym, subst, ◌∙◌, arith}
use Rattle.std.specs.Prelude.{ℤ, option_map, unsigned_abs}
use Rattle.std.specs.Char.{is_ascii_digit}
use Rattle.std.specs.List.{list_all, position_or_len, before_first, after_first}
use Rattle.std.proofs.lemmas.Bool.{cases_Bool, and_parts, and_from}
use Rattle.std.proofs.lemmas.Bool.Decides.{nat_tests}
use Rattle.std.proofs.lemmas.List.{take-append-drop, append-nil}
use Rattle.std.proofs.lemmas.List.Folds.{list_all-append}
use Rattle.dvc_base.specs.declared.node.Node.{Node, out-Node}
use Rattle.dvc_base.specs.declared.node.Node.TheOpen.{Node-F}
use Rattle.dvc_base.specs.declared.node.Node.TheVariants as nd
use Rattle.yaml_text.specs.Outcome.{Text, Outcome}
use Rattle.yaml_scalars.specs.Number.{past_sign, is_negative, digits_len, are_all, number, Parts, exponent_of, fraction_of, behind_whole, unsigned_parts, parts_of, is_wide}
use Rattle.yaml_scalars.specs.Kind.{is_null, is_true, is_false, is_octal, is_hexadecimal, is_decimal_whole, with_sign, fits_whole, whole, decimal, scalar}
use Rattle.yaml_print.specs.ScalarText.{Layer}
use Rattle.yaml_print.proofs.BoolLemmas.{both_left, both_right}
use Rattle.yaml_print.proofs.NodeCases.{out_null, out_bool, out_whole, out_decimal, out_text}

-- ---- a text cut at the first byte that passes a test

abbrev pub is_letter : ℕ → Bool
is_letter b = eqb b 101 || eqb b 69

abbrev pub is_point : ℕ → Bool
is_point b = eqb b 46 || eqb b 46

one_more : (n : ℕ) → 1 + n ≡ suc n
one_more n = omega arith

two_more : (n : ℕ) → 1 + n + 1 ≡ suc (n + 1)
two_more n = omega arith

-- the byte ends it
before_here : (q : ℕ → Bool) (b : ℕ) (t : Text) → q b ≡ true → before_first q (b ∷ t) ≡ []
before_here q b t here = ap (λ v. take (cond (not v) (1 + position_or_len q t) 0) (b ∷ t)) here

after_here : (q : ℕ → Bool) (b : ℕ) (t : Text) → q b ≡ true → after_first q (b ∷ t) ≡ t
after_here q b t here = ap (λ v. drop (cond (not v) (1 + position_or_len q t) 0 + 1) (b ∷ t)) here

-- the byte doesn't
before_later : (q : ℕ → Bool) (b : ℕ) (t : Text) → q b ≡ false → before_first q (b ∷ t) ≡ b ∷ before_first q t
before_later q b t later =
    ap (λ v. take (cond (not v) (1 + position_or_len q t) 0) (b ∷ t)) later ∙ ap (λ n. take n (b ∷ t)) (one_more (position_or_len q t))

after_later : (q : ℕ → Bool) (b : ℕ) (t : Text) → q b ≡ false → after_first q (b ∷ t) ≡ after_first q t
after_later q b t later =
    ap (λ v. drop (cond (not v) (1 + position_or_len q t) 0 + 1) (b ∷ t)) later ∙ ap (λ n. drop n (b ∷ t)) (two_more (position_or_len q t))

abbrev Frees : (ℕ → Bool) → Type 0
Frees q = (b : ℕ) → is_ascii_digit b ≡ true → q b ≡ false

before_digits : (q : ℕ → Bool) → Frees q → (ds r : Text) → list_all is_ascii_digit ds ≡ true → before_first q (ds ++ r) ≡ ds ++ before_first q r
before_digits q free [] r h = refl
before_digits q free (d ∷ ds) r h =
    let both = and_parts (is_ascii_digit d) (list_all is_ascii_digit ds) h in
    before_later q d (ds ++ r) (free d both.0) ∙ ap (λ x. d ∷ x) (before_digits q free ds r both.1)

after_digits : (q : ℕ → Bool) → Frees q → (ds r : Text) → list_all is_ascii_digit ds ≡ true → after_first q (ds ++ r) ≡ after_first q r
after_digits q free [] r h = refl
after_digits q free (d ∷ ds) r h =
    let both = and_parts (is_ascii_digit d) (list_all is_ascii_digit ds) h in
    after_later q d (ds ++ r) (free d both.0) ∙ after_digits q free ds r both.1

letter_free : Frees is_letter
letter_free b h = grind (arith, nat_tests)

point_free : Frees is_point
point_free b h = grind (arith, nat_tests)

-- ---- the parts, from the last to the first

chosen_some : {A : Type 0} (b : Bool) (r p : A) → cond b (Some r) None ≡ Some p → (b ≡ true) × (r ≡ p)
chosen_some true r p h = (refl, (cc))
chosen_some false r p h = absurd (cc)

chosen_later : {A : Type 0} (b : Bool) (x : Option A) (p : A) → cond b None x ≡ Some p → x ≡ Some p
chosen_later true x p h = absurd (cc)
chosen_later false x p h = h

-- behind digits and a point stands an exponent, or nothing
record Tail (w f x : Text) (p : Parts) : Type 0 where
  whole : w ≡ p.whole
  fraction : f ≡ p.fraction
  none : before_first is_letter x ≡ []
  below : is_negative (after_first is_letter x) ≡ p.below
  exponent : past_sign (after_first is_letter x) ≡ p.exponent
  digits : list_all is_ascii_digit p.exponent ≡ true

tail : (w f x : Text) (p : Parts) → exponent_of w f x ≡ Some p → Tail w f x p
tail w f [] p h =
    let is : record { whole = w; fraction = f; below = false; exponent = [] } ≡ p = cc in
    subst (Tail w f []) is (record { whole = refl; fraction = refl; none = refl; below = refl; exponent = refl; digits = refl })
tail w f (b ∷ t) p h =
    let test = (eqb b 101 || eqb b 69) && are_all is_ascii_digit (past_sign t) in
    let is = chosen_some test (record { whole = w; fraction = f; below = is_negative t; exponent = past_sign t }) p h in
    let letter : is_letter b ≡ true = both_left (eqb b 101 || eqb b 69) (are_all is_ascii_digit (past_sign t)) is.0 in
    let digits = both_right (eqb b 101 || eqb b 69) (are_all is_ascii_digit (past_sign t)) is.0 in
    let all = both_right (ltb 0 (length (past_sign t))) (list_all is_ascii_digit (past_sign t)) digits in
    subst (Tail w f (b ∷ t)) is.1
    (record {
      whole = refl;
      fraction = refl;
      none = before_here is_letter b t letter;
      below = ap is_negative (after_here is_letter b t letter);
      exponent = ap past_sign (after_here is_letter b t letter);
      digits = all;
    })

digits_taken : (t : Text) → list_all is_ascii_digit (take (digits_len t) t) ≡ true
digits_taken [] = refl
digits_taken (b ∷ t) =
    elim (cases_Bool (is_ascii_digit b)) [
      | inl is ↦
          ap (λ v. list_all is_ascii_digit (take (cond v (1 + digits_len t) 0) (b ∷ t))) is
          ∙ ap (λ n. list_all is_ascii_digit (take n (b ∷ t))) (one_more (digits_len t))
          ∙ and_from (is_ascii_digit b) (list_all is_ascii_digit (take (digits_len t) t)) is (digits_taken t)
      | inr is ↦ ap (λ v. list_all is_ascii_digit (take (cond v (1 + digits_len t) 0) (b ∷ t))) is
    ]

-- behind the digits before the point
record Behind (w x : Text) (p : Parts) : Type 0 where
  whole : w ≡ p.whole
  -- up to the letter stand no bytes, or a point and the fraction
  up_to : (before_first is_letter x ≡ []) × (p.fraction ≡ []) ⊎ (before_first is_letter x ≡ 46 ∷ p.fraction)
  fraction : list_all is_ascii_digit p.fraction ≡ true
  below : is_negative (after_first is_letter x) ≡ p.below
  exponent : past_sign (after_first is_letter x) ≡ p.exponent
  digits : list_all is_ascii_digit p.exponent ≡ true

no_fraction : (w x : Text) (p : Parts) → Tail w [] x p → Behind w x p
no_fraction w x p r = record {
  whole = r.whole;
  up_to = inl (r.none, sym r.fraction);
  fraction = ap (list_all is_ascii_digit) (sym r.fraction);
  below = r.below;
  exponent = r.exponent;
  digits = r.digits;
}

with_fraction : (w f x : Text) (p : Parts) → list_all is_ascii_digit f ≡ true → Tail w f x p → Behind w (46 ∷ (f ++ x)) p
with_fraction w f x p all r =
    let before : before_first is_letter (46 ∷ (f ++ x)) ≡ 46 ∷ p.fraction =
    before_later is_letter 46 (f ++ x) refl
    ∙ ap (λ y. 46 ∷ y) (before_digits is_letter letter_free f x all ∙ ap (λ y. f ++ y) r.none ∙ append-nil f ∙ r.fraction) in
    let after : after_first is_letter (46 ∷ (f ++ x)) ≡ after_first is_letter x =
    after_later is_letter 46 (f ++ x) refl ∙ after_digits is_letter letter_free f x all in
    record {
      whole = r.whole;
      up_to = inr before;
      fraction = ap (list_all is_ascii_digit) (sym r.fraction) ∙ all;
      below = ap is_negative after ∙ r.below;
      exponent = ap past_sign after ∙ r.exponent;
      digits = r.digits;
    }

fraction_at : (w x : Text) (p : Parts) → fraction_of w x ≡ Some p → Behind w (46 ∷ x) p
fraction_at w x p h =
    let n = digits_len x in
    let r = tail w (take n x) (drop n x) p (chosen_later (eqb n 0) (exponent_of w (take n x) (drop n x)) p h) in
    subst (λ y. Behind w (46 ∷ y) p) (take-append-drop n x) (with_fraction w (take n x) (drop n x) p (digits_taken x) r)

same_byte : (a b : ℕ) → eqb a b ≡ true → b ≡ a
same_byte a b h = grind (arith, nat_tests)

behind_by : (w : Text) (b : ℕ) (x : Text) (p : Parts) (v : Bool) → eqb b 46 ≡ v → cond v (fraction_of w x) (cond (eqb (length w) 0) None (exponent_of w [] (b ∷ x))) ≡ Some p → Behind w (b ∷ x) p
behind_by w b x p true is h = subst (λ c. Behind w (c ∷ x) p) (same_byte b 46 is) (fraction_at w x p h)
behind_by w b x p false is h = no_fraction w (b ∷ x) p (tail w [] (b ∷ x) p (chosen_later (eqb (length w) 0) (exponent_of w [] (b ∷ x)) p h))

behind : (w x : Text) (p : Parts) → behind_whole w x ≡ Some p → Behind w x p
behind w [] p h = no_fraction w [] p (tail w [] [] p (chosen_later (eqb (length w) 0) (exponent_of w [] []) p h))
behind w (b ∷ x) p h = behind_by w b x p (eqb b 46) refl h

pub record Shape (u : Text) (p : Parts) : Type 0 where
  pub whole : before_first is_point (before_first is_letter u) ≡ p.whole
  pub fraction : after_first is_point (before_first is_letter u) ≡ p.fraction
  pub below : is_negative (after_first is_letter u) ≡ p.below
  pub exponent : past_sign (after_first is_letter u) ≡ p.exponent
  pub mantissa : list_all is_ascii_digit (p.whole ++ p.fraction) ≡ true
  pub digits : list_all is_ascii_digit p.exponent ≡ true

shape_of : (w x : Text) (p : Parts) → list_all is_ascii_digit w ≡ true → Behind w x p → Shape (w ++ x) p
shape_of w x p all r =
    let before : before_first is_letter (w ++ x) ≡ w ++ before_first is_letter x = before_digits is_letter letter_free w x all in
    let after : after_first is_letter (w ++ x) ≡ after_first is_letter x = after_digits is_letter letter_free w x all in
    let cut : (before_first is_point (w ++ before_first is_letter x) ≡ p.whole) × (after_first is_point (w ++ before_first is_letter x) ≡ p.fraction) =
    elim r.up_to [
      | inl none ↦ (
        ap (λ y. before_first is_point (w ++ y)) none.0 ∙ before_digits is_point point_free w [] all ∙ append-nil w ∙ r.whole,
        ap (λ y. after_first is_point (w ++ y)) none.0 ∙ after_digits is_point point_free w [] all ∙ sym none.1,
      )
      | inr some ↦ (
        ap (λ y. before_first is_point (w ++ y)) some ∙ before_digits is_point point_free w (46 ∷ p.fraction) all
            ∙ ap (λ y. w ++ y) (before_here is_point 46 p.fraction refl) ∙ append-nil w ∙ r.whole,
        ap (λ y. after_first is_point (w ++ y)) some ∙ after_digits is_point point_free w (46 ∷ p.fraction) all ∙ after_here is_point 46 p.fraction refl,
      )
    ] in
    record {
      whole = ap (before_first is_point) before ∙ cut.0;
      fraction = ap (after_first is_point) before ∙ cut.1;
      below = ap is_negative after ∙ r.below;
      exponent = ap past_sign after ∙ r.exponent;
      mantissa = list_all-append is_ascii_digit p.whole p.fraction ∙ and_from (list_all is_ascii_digit p.whole) (list_all is_ascii_digit p.fraction) (ap (list_all is_ascii_digit) (sym r.whole) ∙ all) r.fraction;
      digits = r.digits;
    }

unsigned_shape : (u : Text) (p : Parts) → unsigned_parts u ≡ Some p → Shape u p
unsigned_shape u p h =
    let n = digits_len u in
    subst (λ y. Shape y p) (take-append-drop n u) (shape_of (take n u) (drop n u) p (digits_taken u) (behind (take n u) (drop n u) p h))

pub shape : (t : Text) (p : Parts) → parts_of t ≡ Some p → Shape (past_sign t) p
unfolding parts_of
shape t p h = unsigned_shape (past_sign t) p h

-- ---- a scalar that is a number

pub record HasParts (t : Text) : Type 0 where
  pub parts : Parts
  pub is : parts_of t ≡ Some parts
  pub narrow : is_wide parts ≡ false

abbrev LayerFits : Layer → Type 0
LayerFits (Node-F.Whole n t) = unsigned_abs n ≤ 2 ^ 127
LayerFits (Node-F.Decimal t) = HasParts t
LayerFits _ = Unit {0}

abbrev OutcomeFits : Outcome Node → Type 0
OutcomeFits (Ok v) = LayerFits (out-Node v)
OutcomeFits (Err e) = Unit {0}

ok_fits : (v : Node) (l : Layer) → out-Node v ≡ l → LayerFits l → OutcomeFits (Ok v)
ok_fits v l is h = subst LayerFits (sym is) h

chosen_fits : (b : Bool) (x y : Outcome Node) → (b ≡ true → OutcomeFits x) → OutcomeFits y → OutcomeFits (cond b x y)
chosen_fits true x y f h = f refl
chosen_fits false x y f h = h

at_most : (a b : ℕ) → leb a b ≡ true → a ≤ b
at_most a b h = grind (arith, nat_tests)

below_most : (a b : ℕ) → ltb a b ≡ true → a ≤ b
below_most a b h = grind (arith, nat_tests)

size_fits : (below : Bool) (n : ℕ) → fits_whole below n ≡ true → unsigned_abs (with_sign below n) ≤ 2 ^ 127
size_fits false n h = below_most n (2 ^ 127) h
size_fits true zero h = at_most 0 (2 ^ 127) h
size_fits true (suc n) h = at_most (suc n) (2 ^ 127) h

whole_fits : (t : Text) (below : Bool) (size : ℕ) → OutcomeFits (whole 0 t below size)
whole_fits t below size =
    chosen_fits (fits_whole below size) (Ok (nd.Whole (with_sign below size) t)) _
    (λ h. ok_fits (nd.Whole (with_sign below size) t) (Node-F.Whole (with_sign below size) t) (out_whole (with_sign below size) t) (size_fits below size h)) tt

decimal_by : (t : Text) (p : Parts) (w : Bool) → parts_of t ≡ Some p → is_wide p ≡ w → OutcomeFits (decimal 0 t (Some w))
decimal_by t p true is wide = tt
decimal_by t p false is wide = ok_fits (nd.Decimal t) (Node-F.Decimal t) (out_decimal t) (record { parts = p; is = is; narrow = wide })

decimal_fits : (t : Text) (parts : Option Parts) → parts_of t ≡ parts → OutcomeFits (decimal 0 t (option_map is_wide parts))
decimal_fits t None is = ok_fits (nd.Text t) (Node-F.Text t) (out_text t) tt
decimal_fits t (Some p) is = decimal_by t p (is_wide p) is refl

scalar_fits : (t : Text) → OutcomeFits (scalar 0 t)
unfolding scalar
scalar_fits t =
    chosen_fits (is_null t) (Ok nd.Null) _ (λ h. ok_fits nd.Null Node-F.Null out_null tt)
    (chosen_fits (is_true t) (Ok (nd.Bool true)) _ (λ h. ok_fits (nd.Bool true) (Node-F.Bool true) (out_bool true) tt)
    (chosen_fits (is_false t) (Ok (nd.Bool false)) _ (λ h. ok_fits (nd.Bool false) (Node-F.Bool false) (out_bool false) tt)
    (chosen_fits (is_decimal_whole t) (whole 0 t (is_negative t) (number 10 (past_sign t))) _ (λ h. whole_fits t (is_negative t) (number 10 (past_sign t)))
    (chosen_fits (is_octal t) (whole 0 t false (number 8 (drop 2 t))) _ (λ h. whole_fits t false (number 8 (drop 2 t)))
    (chosen_fits (is_hexadecimal t) (whole 0 t false (number 16 (drop 2 t))) _ (λ h. whole_fits t false (number 16 (drop 2 t)))
    (decimal_fits t (parts_of t) refl))))))

pub sound_whole : (n : ℤ) (t : Text) → scalar 0 t ≡ Ok (nd.Whole n t) → unsigned_abs n ≤ 2 ^ 127
sound_whole n t h = subst LayerFits (out_whole n t) (subst OutcomeFits h (scalar_fits t))

pub sound_decimal : (t : Text) → scalar 0 t ≡ Ok (nd.Decimal t) → HasParts t
sound_decimal t h = subst LayerFits (out_decimal t) (subst OutcomeFits h (scalar_fits t))
