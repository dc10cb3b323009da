-- The text of a number is a plain scalar on one line.
--     is_calm b     a byte that no plain scalar ends at, wherever it stands
--     IsBody t      what follows the sign of a number: such bytes, of which the first is a digit, or a point before a digit
use Rattle.std.proofs.Common.{◌≡◌, ℕ, suc, ◌+◌, ◌≤◌, eqb, ltb, leb, Bool, true, false, cond, not, ◌||◌, ◌&&◌, ◌⊎◌, inl, inr, [], ◌∷◌, length, take, drop, Option, Some, None, Ok, Err, refl, ap, sym, subst, ◌∙◌, arith}
use Rattle.std.specs.Prelude.{ℤ, bytes_eq, codes, option_map}
use Rattle.std.specs.Char.{is_ascii_digit, is_ascii_hexdigit}
use Rattle.std.specs.List.{list_all}
use Rattle.std.proofs.lemmas.Bool.Decides.{nat_tests}
use Rattle.dvc_base.specs.declared.node.Node.{Node, out-Node}
use Rattle.dvc_base.specs.declared.node.Node.TheOpen.{Node-F}
use Rattle.dvc_base.specs.declared.node.Node.TheVariants as nd
use Rattle.yaml_text.specs.Outcome.{Text, Outcome}
use Rattle.yaml_text.specs.Line.{is_white, is_bad}
use Rattle.yaml_scalars.specs.Number.{past_sign, digits_len, is_octal_digit, are_all, Parts, exponent_of, fraction_of, behind_whole, unsigned_parts, parts_of, is_wide}
use Rattle.yaml_scalars.specs.Plain.{ends_before, and_more, plain_len, begins_plain, is_reserved, is_gap, may_follow_colon}
use Rattle.yaml_scalars.specs.Kind.{is_null, is_true, is_false, is_based, is_octal, is_hexadecimal, is_decimal_whole, decimal, numeral, scalar}
use Rattle.yaml_print.specs.ScalarText.{Layer, begins_as_marker, is_one_line}
use Rattle.std.proofs.lemmas.List.{take-append-drop}
use Rattle.std.proofs.lemmas.List.Folds.{list_all-append}
use Rattle.yaml_print.proofs.BoolLemmas.{either, true_not_false, same, eq_self, both_left, both_right, both, either_false, right_false}
use Rattle.yaml_print.proofs.NodeCases.{out_null, out_bool, out_whole, out_decimal, out_text}
use Rattle.yaml_print.proofs.InlineRead.{OneLine, one_line}

-- ---- bytes at which nothing ends

abbrev is_calm : ℕ → Bool
is_calm b = leb 33 b && ltb b 127 && not (eqb b 35 || eqb b 58)

calm_apart : (b k : ℕ) → is_calm k ≡ false → is_calm b ≡ true → eqb b k ≡ false
calm_apart b k never h =
    elim (either (eqb b k)) [ inl is ↦ absurd (true_not_false (sym h ∙ ap is_calm (same b k is) ∙ never)) | inr is ↦ is ]

calm_good : (b : ℕ) → is_calm b ≡ true → is_bad b ≡ false
calm_good b h =
    let more : 33 ≤ b = (let e = both_left (leb 33 b) (ltb b 127) (both_left (leb 33 b && ltb b 127) (not (eqb b 35 || eqb b 58)) h) in grind (arith, nat_tests)) in
    let low : ltb b 32 ≡ false = grind (arith, nat_tests) in
    either_false (ltb b 32 && not (eqb b 9 || eqb b 10)) (eqb b 127) (ap (λ v. v && not (eqb b 9 || eqb b 10)) low) (calm_apart b 127 refl h)

calm_goes_on : (white : Bool) (b : ℕ) (t : Text) → is_calm b ≡ true → ends_before false white b t ≡ false
calm_goes_on white b t h =
    either_false (((eqb b 10 || is_bad b) || (white && eqb b 35)) || (eqb b 58 && may_follow_colon false t)) false
    (either_false ((eqb b 10 || is_bad b) || (white && eqb b 35)) (eqb b 58 && may_follow_colon false t)
    (either_false (eqb b 10 || is_bad b) (white && eqb b 35) (either_false (eqb b 10) (is_bad b) (calm_apart b 10 refl h) (calm_good b h)) (right_false white (eqb b 35) (calm_apart b 35 refl h)))
    (ap (λ v. v && may_follow_colon false t) (calm_apart b 58 refl h))) refl

calm_not_white : (b : ℕ) → is_calm b ≡ true → is_white b ≡ false
calm_not_white b h = either_false (eqb b 32) (eqb b 9) (calm_apart b 32 refl h) (calm_apart b 9 refl h)

calm_whole : (white : Bool) (t : Text) → list_all is_calm t ≡ true → plain_len false white t ≡ length t
calm_whole white [] h = refl
calm_whole white (b ∷ t) h =
    let c = both_left (is_calm b) (list_all is_calm t) h in
    let p = and_more (plain_len false true t) in
    ap (λ v. cond v 0 (cond (is_white b) p (suc (plain_len false false t)))) (calm_goes_on white b t c)
    ∙ ap (λ v. cond v p (suc (plain_len false false t))) (calm_not_white b c)
    ∙ ap suc (calm_whole false t (both_right (is_calm b) (list_all is_calm t) h))

-- ---- the body of a number

abbrev IsFirst : Text → Type 0
IsFirst [] = ⊥
IsFirst (b ∷ []) = is_ascii_digit b ≡ true
IsFirst (b ∷ c ∷ t) = (is_ascii_digit b ≡ true) ⊎ ((b ≡ 46) × (is_ascii_digit c ≡ true))

record IsBody (t : Text) : Type 0 where
  calm : list_all is_calm t ≡ true
  first : IsFirst t

digit_calm : (b : ℕ) → is_ascii_digit b ≡ true → is_calm b ≡ true
digit_calm b h =
    let more : 48 ≤ b = grind (arith, nat_tests) in
    let less : b ≤ 57 = grind (arith, nat_tests) in
    let a : leb 33 b ≡ true = grind (arith, nat_tests) in
    let c : ltb b 127 ≡ true = grind (arith, nat_tests) in
    let d : eqb b 35 ≡ false = grind (arith, nat_tests) in
    let e : eqb b 58 ≡ false = grind (arith, nat_tests) in
    both (leb 33 b && ltb b 127) (not (eqb b 35 || eqb b 58)) (both (leb 33 b) (ltb b 127) a c) (ap not (either_false (eqb b 35) (eqb b 58) d e))

digit_apart : (b k : ℕ) → is_ascii_digit k ≡ false → is_ascii_digit b ≡ true → eqb b k ≡ false
digit_apart b k never h =
    elim (either (eqb b k)) [ inl is ↦ absurd (true_not_false (sym h ∙ ap is_ascii_digit (same b k is) ∙ never)) | inr is ↦ is ]

all_calm : (test : ℕ → Bool) → ((b : ℕ) → test b ≡ true → is_calm b ≡ true) → (t : Text) → list_all test t ≡ true → list_all is_calm t ≡ true
all_calm test calm [] h = refl
all_calm test calm (b ∷ t) h =
    both (is_calm b) (list_all is_calm t) (calm b (both_left (test b) (list_all test t) h)) (all_calm test calm t (both_right (test b) (list_all test t) h))

digits_calm : (t : Text) → list_all is_ascii_digit t ≡ true → list_all is_calm t ≡ true
digits_calm = all_calm is_ascii_digit digit_calm

-- a digit, or a point before one
first_by : (b : ℕ) (r : Text) → IsFirst (b ∷ r) → (is_ascii_digit b ≡ true) ⊎ ((b ≡ 46) × (c : ℕ) × (u : Text) × (r ≡ c ∷ u) × (is_ascii_digit c ≡ true))
first_by b [] h = inl h
first_by b (c ∷ u) (inl h) = inl h
first_by b (c ∷ u) (inr h) = inr (h.0, c, u, refl, h.1)

digit_first : (b : ℕ) (r : Text) → is_ascii_digit b ≡ true → IsFirst (b ∷ r)
digit_first b [] h = h
digit_first b (c ∷ u) h = inl h

-- ---- without a sign

digit_free : (b : ℕ) → is_ascii_digit b ≡ true → is_reserved b ≡ false
digit_free b h =
    let other : (k : ℕ) → is_ascii_digit k ≡ false → eqb b k ≡ false = λ k never. digit_apart b k never h in
    either_false ((((((((((((((eqb b 44 || eqb b 91) || eqb b 93) || eqb b 123) || eqb b 125) || eqb b 35) || eqb b 38) || eqb b 42) || eqb b 33) || eqb b 124) || eqb b 62) || eqb b 39) || eqb b 34) || eqb b 37) || eqb b 64) (eqb b 96) (either_false (((((((((((((eqb b 44 || eqb b 91) || eqb b 93) || eqb b 123) || eqb b 125) || eqb b 35) || eqb b 38) || eqb b 42) || eqb b 33) || eqb b 124) || eqb b 62) || eqb b 39) || eqb b 34) || eqb b 37) (eqb b 64) (either_false ((((((((((((eqb b 44 || eqb b 91) || eqb b 93) || eqb b 123) || eqb b 125) || eqb b 35) || eqb b 38) || eqb b 42) || eqb b 33) || eqb b 124) || eqb b 62) || eqb b 39) || eqb b 34) (eqb b 37) (either_false (((((((((((eqb b 44 || eqb b 91) || eqb b 93) || eqb b 123) || eqb b 125) || eqb b 35) || eqb b 38) || eqb b 42) || eqb b 33) || eqb b 124) || eqb b 62) || eqb b 39) (eqb b 34) (either_false ((((((((((eqb b 44 || eqb b 91) || eqb b 93) || eqb b 123) || eqb b 125) || eqb b 35) || eqb b 38) || eqb b 42) || eqb b 33) || eqb b 124) || eqb b 62) (eqb b 39) (either_false (((((((((eqb b 44 || eqb b 91) || eqb b 93) || eqb b 123) || eqb b 125) || eqb b 35) || eqb b 38) || eqb b 42) || eqb b 33) || eqb b 124) (eqb b 62) (either_false ((((((((eqb b 44 || eqb b 91) || eqb b 93) || eqb b 123) || eqb b 125) || eqb b 35) || eqb b 38) || eqb b 42) || eqb b 33) (eqb b 124) (either_false (((((((eqb b 44 || eqb b 91) || eqb b 93) || eqb b 123) || eqb b 125) || eqb b 35) || eqb b 38) || eqb b 42) (eqb b 33) (either_false ((((((eqb b 44 || eqb b 91) || eqb b 93) || eqb b 123) || eqb b 125) || eqb b 35) || eqb b 38) (eqb b 42) (either_false (((((eqb b 44 || eqb b 91) || eqb b 93) || eqb b 123) || eqb b 125) || eqb b 35) (eqb b 38) (either_false ((((eqb b 44 || eqb b 91) || eqb b 93) || eqb b 123) || eqb b 125) (eqb b 35) (either_false (((eqb b 44 || eqb b 91) || eqb b 93) || eqb b 123) (eqb b 125) (either_false ((eqb b 44 || eqb b 91) || eqb b 93) (eqb b 123) (either_false (eqb b 44 || eqb b 91) (eqb b 93) (either_false (eqb b 44) (eqb b 91) (other 44 refl) (other 91 refl)) (other 93 refl)) (other 123 refl)) (other 125 refl)) (other 35 refl)) (other 38 refl)) (other 42 refl)) (other 33 refl)) (other 124 refl)) (other 62 refl)) (other 39 refl)) (other 34 refl)) (other 37 refl)) (other 64 refl)) (other 96 refl)

digit_begins : (b : ℕ) (r : Text) → is_ascii_digit b ≡ true → begins_plain false (b ∷ r) ≡ true
digit_begins b r h =
    let c = digit_calm b h in
    let signs : (eqb b 45 || eqb b 63 || eqb b 58) ≡ false =
    either_false (eqb b 45 || eqb b 63) (eqb b 58) (either_false (eqb b 45) (eqb b 63) (digit_apart b 45 refl h) (digit_apart b 63 refl h)) (digit_apart b 58 refl h) in
    ap not
    (either_false ((is_reserved b || is_white b) || ((eqb b 45 || eqb b 63 || eqb b 58) && is_gap r)) (ends_before false false b r)
    (either_false (is_reserved b || is_white b) ((eqb b 45 || eqb b 63 || eqb b 58) && is_gap r)
    (either_false (is_reserved b) (is_white b) (digit_free b h) (calm_not_white b c)) (ap (λ v. v && is_gap r) signs))
    (calm_goes_on false b r c))

one_line_by : (t : Text) → begins_plain false t ≡ true → list_all is_calm t ≡ true → begins_as_marker t ≡ false → is_one_line t ≡ true
one_line_by t begins calm marked =
    let e : eqb (plain_len false false t) (length t) ≡ true = ap (λ n. eqb n (length t)) (calm_whole false t calm) ∙ eq_self (length t) in
    both (begins_plain false t && eqb (plain_len false false t) (length t)) (not (begins_as_marker t)) (both (begins_plain false t) (eqb (plain_len false false t) (length t)) begins e) (ap not marked)

digit_line : (b : ℕ) (r : Text) → list_all is_calm (b ∷ r) ≡ true → is_ascii_digit b ≡ true → OneLine (b ∷ r)
digit_line b r calm h =
    one_line (b ∷ r)
    (one_line_by (b ∷ r) (digit_begins b r h) calm
    (either_false (bytes_eq (take 3 (b ∷ r)) (codes "---")) (bytes_eq (take 3 (b ∷ r)) (codes "..."))
    (ap (λ v. v && bytes_eq (take 2 r) (45 ∷ 45 ∷ [])) (digit_apart b 45 refl h)) (ap (λ v. v && bytes_eq (take 2 r) (46 ∷ 46 ∷ [])) (digit_apart b 46 refl h))))
    (ap (λ v. v && bytes_eq (take 2 r) (187 ∷ 191 ∷ [])) (digit_apart b 239 refl h))

point_line : (c : ℕ) (u : Text) → list_all is_calm (46 ∷ c ∷ u) ≡ true → is_ascii_digit c ≡ true → OneLine (46 ∷ c ∷ u)
point_line c u calm h =
    one_line (46 ∷ c ∷ u) (one_line_by (46 ∷ c ∷ u) refl calm (ap (λ v. v && bytes_eq (take 1 u) (46 ∷ [])) (digit_apart c 46 refl h))) refl

unsigned_line : (t : Text) → IsBody t → OneLine t
unsigned_line [] r = absurd r.first
unsigned_line (b ∷ t) r =
    elim (first_by b t r.first) [
      | inl h ↦ digit_line b t r.calm h
      | inr w ↦
          let e : b ∷ t ≡ 46 ∷ w.1 ∷ w.2 = ap (λ k. k ∷ t) w.0 ∙ ap (λ u. 46 ∷ u) w.3 in
          subst (λ u. OneLine u) (sym e) (point_line w.1 w.2 (subst (λ u. list_all is_calm u ≡ true) e r.calm) w.4)
    ]

-- ---- with a sign

plus_line : (r : Text) → IsBody r → OneLine (43 ∷ r)
plus_line r h = one_line (43 ∷ r) (one_line_by (43 ∷ r) refl h.calm refl) refl

no_gap : (r : Text) → IsBody r → is_gap r ≡ false
no_gap [] h = absurd h.first
no_gap (c ∷ r) h =
    let k = both_left (is_calm c) (list_all is_calm r) h.calm in either_false (eqb c 32) (eqb c 10) (calm_apart c 32 refl k) (calm_apart c 10 refl k)

no_dash : (c : ℕ) (r : Text) → IsFirst (c ∷ r) → eqb c 45 ≡ false
no_dash c r h = elim (first_by c r h) [ inl d ↦ digit_apart c 45 refl d | inr w ↦ ap (λ k. eqb k 45) w.0 ]

no_dashes : (r : Text) → IsBody r → bytes_eq (take 2 r) (45 ∷ 45 ∷ []) ≡ false
no_dashes [] h = absurd h.first
no_dashes (c ∷ r) h = ap (λ v. v && bytes_eq (take 1 r) (45 ∷ [])) (no_dash c r h.first)

minus_line : (r : Text) → IsBody r → OneLine (45 ∷ r)
minus_line r h =
    one_line (45 ∷ r) (one_line_by (45 ∷ r) (ap (λ v. not (v || false)) (no_gap r h)) h.calm (ap (λ v. v || false) (no_dashes r h))) refl

body_by : (b : ℕ) (r : Text) (plus minus : Bool) → eqb b 43 ≡ plus → eqb b 45 ≡ minus → IsBody (cond (plus || minus) r (b ∷ r)) → OneLine (b ∷ r)
body_by b r true minus h k body = subst (λ c. OneLine (c ∷ r)) (sym (same b 43 h)) (plus_line r body)
body_by b r false true h k body = subst (λ c. OneLine (c ∷ r)) (sym (same b 45 k)) (minus_line r body)
body_by b r false false h k body = unsigned_line (b ∷ r) body

body_line : (t : Text) → IsBody (past_sign t) → OneLine t
body_line [] h = absurd h.first
body_line (b ∷ r) h = body_by b r (eqb b 43) (eqb b 45) refl refl h

-- ---- whole numbers

digits_body : (t : Text) → are_all is_ascii_digit t ≡ true → IsBody t
digits_body [] h = absurd (true_not_false (sym h))
digits_body (b ∷ t) h =
    let all = both_right (ltb 0 (length (b ∷ t))) (list_all is_ascii_digit (b ∷ t)) h in
    record { calm = digits_calm (b ∷ t) all; first = digit_first b t (both_left (is_ascii_digit b) (list_all is_ascii_digit t) all) }

octal_calm : (b : ℕ) → is_octal_digit b ≡ true → is_calm b ≡ true
octal_calm b h = digit_calm b (let a = both_left (leb 48 b) (leb b 55) h in let c = both_right (leb 48 b) (leb b 55) h in grind (arith, nat_tests))

above_calm : (b : ℕ) → 59 ≤ b → b ≤ 126 → is_calm b ≡ true
above_calm b more less =
    let a : leb 33 b ≡ true = grind (arith, nat_tests) in
    let c : ltb b 127 ≡ true = grind (arith, nat_tests) in
    let d : eqb b 35 ≡ false = grind (arith, nat_tests) in
    let e : eqb b 58 ≡ false = grind (arith, nat_tests) in
    both (leb 33 b && ltb b 127) (not (eqb b 35 || eqb b 58)) (both (leb 33 b) (ltb b 127) a c) (ap not (either_false (eqb b 35) (eqb b 58) d e))

between_calm : (a c b : ℕ) → 59 ≤ a → c ≤ 126 → (leb a b && leb b c) ≡ true → is_calm b ≡ true
between_calm a c b ha hc h =
    let low : a ≤ b = (let e = both_left (leb a b) (leb b c) h in grind (arith, nat_tests)) in
    let high : b ≤ c = (let e = both_right (leb a b) (leb b c) h in grind (arith, nat_tests)) in
    above_calm b (omega arith) (omega arith)

letters_calm : (b : ℕ) (v : Bool) → (leb 65 b && leb b 70) ≡ v → (v || (leb 97 b && leb b 102)) ≡ true → is_calm b ≡ true
letters_calm b true is h = between_calm 65 70 b (omega arith) (omega arith) is
letters_calm b false is h = between_calm 97 102 b (omega arith) (omega arith) h

hex_calm : (b : ℕ) → is_ascii_hexdigit b ≡ true → is_calm b ≡ true
hex_calm b h =
    elim (either (is_ascii_digit b)) [
      | inl is ↦ digit_calm b is
      | inr is ↦ letters_calm b (leb 65 b && leb b 70) refl (ap (λ v. (v || (leb 65 b && leb b 70)) || (leb 97 b && leb b 102)) (sym is) ∙ h)
    ]

based_body : (sign : ℕ) (test : ℕ → Bool) (t : Text) → is_calm sign ≡ true → ((b : ℕ) → test b ≡ true → is_calm b ≡ true) → is_based sign t ≡ true → are_all test (drop 2 t) ≡ true → IsBody (past_sign t)
based_body sign test [] c calm h k = absurd (true_not_false (sym h))
based_body sign test (a ∷ []) c calm h k = absurd (true_not_false (sym k))
based_body sign test (a ∷ b ∷ t) c calm h k =
    let zero_is : a ≡ 48 = same a 48 (both_left (eqb a 48) (eqb b sign) h) in
    let sign_is : b ≡ sign = same b sign (both_right (eqb a 48) (eqb b sign) h) in
    let e : a ∷ b ∷ t ≡ 48 ∷ sign ∷ t = ap (λ x. x ∷ b ∷ t) zero_is ∙ ap (λ x. 48 ∷ x ∷ t) sign_is in
    subst (λ u. IsBody (past_sign u)) (sym e) (record {
      calm = both (is_calm sign) (list_all is_calm t) c (all_calm test calm t (both_right (ltb 0 (length t)) (list_all test t) k));
      first = inl refl;
    })

-- ---- numbers with parts

some_chosen : {A : Type 0} (b : Bool) (x : Option A) (p : A) → cond b None x ≡ Some p → (b ≡ false) × (x ≡ Some p)
some_chosen true x p h = absurd (cc)
some_chosen false x p h = (refl, h)

chosen_some : {A : Type 0} (b : Bool) (x p : A) → cond b (Some x) None ≡ Some p → b ≡ true
chosen_some true x p h = refl
chosen_some false x p h = absurd (cc)

sign_calm : (b : ℕ) (v : Bool) → eqb b 43 ≡ v → (v || eqb b 45) ≡ true → is_calm b ≡ true
sign_calm b true is h = ap is_calm (same b 43 is)
sign_calm b false is h = ap is_calm (same b 45 h)

letter_calm : (b : ℕ) (v : Bool) → eqb b 101 ≡ v → (v || eqb b 69) ≡ true → is_calm b ≡ true
letter_calm b true is h = ap is_calm (same b 101 is)
letter_calm b false is h = ap is_calm (same b 69 h)

calm_by : (b : ℕ) (r : Text) (v : Bool) → (eqb b 43 || eqb b 45) ≡ v → list_all is_calm (cond v r (b ∷ r)) ≡ true → list_all is_calm (b ∷ r) ≡ true
calm_by b r true is h = both (is_calm b) (list_all is_calm r) (sign_calm b (eqb b 43) refl is) h
calm_by b r false is h = h

calm_sign : (t : Text) → list_all is_calm (past_sign t) ≡ true → list_all is_calm t ≡ true
calm_sign [] h = refl
calm_sign (b ∷ r) h = calm_by b r (eqb b 43 || eqb b 45) refl h

exponent_calm : (w f x : Text) (p : Parts) → exponent_of w f x ≡ Some p → list_all is_calm x ≡ true
exponent_calm w f [] p h = refl
exponent_calm w f (b ∷ t) p h =
    let test = chosen_some ((eqb b 101 || eqb b 69) && are_all is_ascii_digit (past_sign t)) _ p h in
    let letter = both_left (eqb b 101 || eqb b 69) (are_all is_ascii_digit (past_sign t)) test in
    let digits = both_right (eqb b 101 || eqb b 69) (are_all is_ascii_digit (past_sign t)) test in
    both (is_calm b) (list_all is_calm t) (letter_calm b (eqb b 101) refl letter)
    (calm_sign t (digits_calm (past_sign t) (both_right (ltb 0 (length (past_sign t))) (list_all is_ascii_digit (past_sign t)) digits)))

one_more : (n : ℕ) → 1 + n ≡ suc n
one_more n = omega arith

digits_taken : (t : Text) → list_all is_ascii_digit (take (digits_len t) t) ≡ true
digits_taken [] = refl
digits_taken (b ∷ t) =
    elim (either (is_ascii_digit b)) [
      | inl is ↦
          ap (λ v. list_all is_ascii_digit (take (cond v (1 + digits_len t) 0) (b ∷ t))) is
          ∙ ap (λ n. list_all is_ascii_digit (take n (b ∷ t))) (one_more (digits_len t))
          ∙ both (is_ascii_digit b) (list_all is_ascii_digit (take (digits_len t) t)) is (digits_taken t)
      | inr is ↦ ap (λ v. list_all is_ascii_digit (take (cond v (1 + digits_len t) 0) (b ∷ t))) is
    ]

-- digits, and what is calm behind them
calm_parts : (t : Text) → list_all is_calm (drop (digits_len t) t) ≡ true → list_all is_calm t ≡ true
calm_parts t h =
    let n = digits_len t in
    ap (list_all is_calm) (sym (take-append-drop n t)) ∙ list_all-append is_calm (take n t) (drop n t)
    ∙ both (list_all is_calm (take n t)) (list_all is_calm (drop n t)) (digits_calm (take n t) (digits_taken t)) h

fraction_calm : (w x : Text) (p : Parts) → fraction_of w x ≡ Some p → (eqb (digits_len x) 0 ≡ false) × (list_all is_calm x ≡ true)
fraction_calm w x p h =
    let e = some_chosen (eqb (digits_len x) 0) (exponent_of w (take (digits_len x) x) (drop (digits_len x) x)) p h in
    (e.0, calm_parts x (exponent_calm w (take (digits_len x) x) (drop (digits_len x) x) p e.1))

behind_by : (w : Text) (b : ℕ) (x : Text) (p : Parts) (v : Bool) → eqb b 46 ≡ v → cond v (fraction_of w x) (cond (eqb (length w) 0) None (exponent_of w [] (b ∷ x))) ≡ Some p → list_all is_calm (b ∷ x) ≡ true
behind_by w b x p true is h = both (is_calm b) (list_all is_calm x) (ap is_calm (same b 46 is)) ((fraction_calm w x p h).1)
behind_by w b x p false is h = exponent_calm w [] (b ∷ x) p ((some_chosen (eqb (length w) 0) (exponent_of w [] (b ∷ x)) p h).1)

behind_calm : (w x : Text) (p : Parts) → behind_whole w x ≡ Some p → list_all is_calm x ≡ true
behind_calm w [] p h = refl
behind_calm w (b ∷ x) p h = behind_by w b x p (eqb b 46) refl h

digit_there : (t : Text) → eqb (digits_len t) 0 ≡ false → (c : ℕ) × (u : Text) × (t ≡ c ∷ u) × (is_ascii_digit c ≡ true)
digit_there [] h = absurd (true_not_false h)
digit_there (b ∷ t) h =
    elim (either (is_ascii_digit b)) [
      | inl is ↦ (b, t, refl, is)
      | inr is ↦ absurd (true_not_false (sym (ap (λ v. eqb (cond v (1 + digits_len t) 0) 0) is) ∙ h))
    ]

none_before : (b : ℕ) (x : Text) (p : Parts) (v : Bool) → eqb b 46 ≡ v → cond v (fraction_of [] x) (cond true None (exponent_of [] [] (b ∷ x))) ≡ Some p → IsFirst (b ∷ x)
none_before b x p true is h =
    let w = digit_there x ((fraction_calm [] x p h).0) in
    let e : b ∷ x ≡ 46 ∷ w.0 ∷ w.1 = ap (λ k. k ∷ x) (same b 46 is) ∙ ap (λ u. 46 ∷ u) w.2 in
    subst (λ u. IsFirst u) (sym e) (inr (refl, w.3))
none_before b x p false is h = absurd (cc)

parts_body : (t : Text) (p : Parts) → unsigned_parts t ≡ Some p → IsBody t
parts_body [] p h = absurd (cc)
parts_body (b ∷ t) p h =
    let calm = calm_parts (b ∷ t) (behind_calm (take (digits_len (b ∷ t)) (b ∷ t)) (drop (digits_len (b ∷ t)) (b ∷ t)) p h) in
    elim (either (is_ascii_digit b)) [
      | inl is ↦ record { calm = calm; first = digit_first b t is }
      | inr is ↦
          let e = ap (λ v. behind_whole (take (cond v (1 + digits_len t) 0) (b ∷ t)) (drop (cond v (1 + digits_len t) 0) (b ∷ t))) is in
          record { calm = calm; first = none_before b t p (eqb b 46) refl (sym e ∙ h) }
    ]

-- ---- the number that a scalar is

abbrev is_number_layer : Layer → Bool
is_number_layer (Node-F.Whole n t) = true
is_number_layer (Node-F.Decimal t) = true
is_number_layer _ = false

abbrev is_number : Outcome Node → Bool
is_number (Ok v) = is_number_layer (out-Node v)
is_number (Err e) = false

no_number : (v : Node) (l : Layer) (o : Type 0) → out-Node v ≡ l → is_number_layer l ≡ false → is_number (Ok v) ≡ true → o
no_number v l o is none h = absurd (true_not_false (sym h ∙ ap is_number_layer is ∙ none))

number_chosen : (b : Bool) (x y : Outcome Node) (P : Type 0) → (b ≡ true → is_number x ≡ true → P) → (is_number y ≡ true → P) → is_number (cond b x y) ≡ true → P
number_chosen true x y P f g h = f refl h
number_chosen false x y P f g h = g h

decimal_by : (t : Text) (parts : Option Parts) → parts_of t ≡ parts → is_number (decimal 0 t (option_map is_wide parts)) ≡ true → IsBody (past_sign t)
unfolding parts_of
decimal_by t None is h = no_number (nd.Text t) (Node-F.Text t) _ (out_text t) refl h
decimal_by t (Some p) is h = parts_body (past_sign t) p is

numeral_body : (t : Text) → is_number (numeral 0 t) ≡ true → IsBody (past_sign t)
numeral_body t =
    number_chosen (is_decimal_whole t) _ _ (IsBody (past_sign t)) (λ is h. digits_body (past_sign t) is)
    (number_chosen (is_octal t) _ _ (IsBody (past_sign t))
    (λ is h. based_body 111 is_octal_digit t refl octal_calm (both_left (is_based 111 t) (are_all is_octal_digit (drop 2 t)) is) (both_right (is_based 111 t) (are_all is_octal_digit (drop 2 t)) is))
    (number_chosen (is_hexadecimal t) _ _ (IsBody (past_sign t))
    (λ is h. based_body 120 is_ascii_hexdigit t refl hex_calm (both_left (is_based 120 t) (are_all is_ascii_hexdigit (drop 2 t)) is) (both_right (is_based 120 t) (are_all is_ascii_hexdigit (drop 2 t)) is))
    (decimal_by t (parts_of t) refl)))

number_body : (t : Text) → is_number (scalar 0 t) ≡ true → IsBody (past_sign t)
unfolding scalar
number_body t =
    number_chosen (is_null t) (Ok nd.Null) _ (IsBody (past_sign t)) (λ is. no_number nd.Null Node-F.Null _ out_null refl)
    (number_chosen (is_true t) (Ok (nd.Bool true)) _ (IsBody (past_sign t)) (λ is. no_number (nd.Bool true) (Node-F.Bool true) _ (out_bool true) refl)
    (number_chosen (is_false t) (Ok (nd.Bool false)) _ (IsBody (past_sign t)) (λ is. no_number (nd.Bool false) (Node-F.Bool false) _ (out_bool false) refl) (numeral_body t)))

pub whole_line : (n : ℤ) (t : Text) → scalar 0 t ≡ Ok (nd.Whole n t) → OneLine t
whole_line n t h = body_line t (number_body t (ap is_number h ∙ ap is_number_layer (out_whole n t)))

pub decimal_line : (t : Text) → scalar 0 t ≡ Ok (nd.Decimal t) → OneLine t
decimal_line t h = body_line t (number_body t (ap is_number h ∙ ap is_number_layer (out_decimal t)))
