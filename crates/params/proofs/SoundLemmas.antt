-- Canonical nodes can be printed.
--     number_sound       the canonical node of a number is spelled as its kind is
--     canonical_sound    what can be printed at a depth, can be as its canonical node
use Rattle.std.proofs.Common.{◌≡◌, ℕ, zero, suc, ◌^◌, ◌<◌, ◌≤◌, eqb, leb, ltb, Bool, true, false, cond, ◌||◌, ◌&&◌, List, [], ◌∷◌, ◌++◌, length, map, drop, bytes_eq, Some, Ok, inl, inr, refl, sym, ap, subst, ◌∙◌, arith, lit<}
use Rattle.std.specs.Prelude.{pos, codes, option_map}
use Rattle.std.specs.Char.{is_ascii_digit, is_ascii_hexdigit}
use Rattle.std.specs.Fmt.{decimal}
use Rattle.std.specs.List.{list_all}
use Rattle.std.proofs.lemmas.Bool.{cases_Bool, and_parts}
use Rattle.std.proofs.lemmas.Bool.Decides.{nat_tests}
use Rattle.std.proofs.lemmas.Fmt.{length-decimal-le_wide}
use Rattle.std.proofs.lemmas.List.{append-nil}
use Rattle.std.proofs.lemmas.List.Folds.{list_all-append}
use Rattle.dvc_base.specs.declared.node.Node.{Node, out-Node}
use Rattle.dvc_base.specs.declared.node.Node.TheOpen.{Node-F}
use Rattle.dvc_base.specs.declared.node.Node.TheVariants as nd
use Rattle.dvc_base.specs.declared.node.Pair.{Pair}
use Rattle.yaml_text.specs.Outcome.{Text}
use Rattle.yaml_scalars.specs.Number.{past_sign, is_negative, is_octal_digit, are_all, number, canonical_exponent, significant_part, Parts, parts_of, is_wide, is_wide_number}
use Rattle.yaml_scalars.specs.Kind.{is_null, is_true, is_false, is_based, is_octal, is_hexadecimal, is_decimal_whole, whole, decimal as decimal_kind, numeral, scalar}
use Rattle.yaml_nodes.specs.Part.{key_of}
use Rattle.yaml_print.specs.ScalarText.{Layer}
use Rattle.yaml_print.specs.Print.{value_of}
use Rattle.yaml_print.specs.Sound.{Each, Inside, IsScalar, IsProper, IsSound, are_new}
use Rattle.yaml_print.proofs.BoolLemmas.{either_false, right_false}
use Rattle.yaml_print.proofs.NodeCases.{out_null, out_bool, out_whole, out_decimal, out_text, out_items, out_pairs}
use Rattle.lock_files.specs.Order.{in_order, is_rising}
use Rattle.lock_files.proofs.OrderLemmas.{each_in_order}
use Rattle.lock_files.proofs.PathsBack.{distinct_of_rising}
use Rattle.lock_files.proofs.PrintableLemmas.{new_keys}
use Rattle.params.specs.declared.number.Number.{Number}
use Rattle.params.specs.Number.{decimal_number, whole_number, signed_text, number_text, number_node}
use Rattle.params.specs.Canonical.{with_value, canonical_layer, canonical}
use Rattle.params.proofs.CanonLemmas.{canonical_none, canonical_deep, proper, inside, flat}
use Rattle.params.proofs.DigitLemmas.{reads_decimal, significant_clean}
use Rattle.params.proofs.NumberLemmas.{Fits, low_digits, low_exponent, parts_in, text_parts, sign_free, exponent_is}
use Rattle.params.proofs.AgainLemmas.{Stands, zero_node, other_node, whole_stands, decimal_stands}
use Rattle.params.proofs.PairLemmas.{made_rising}

some_length : (n : ℕ) → eqb (suc n) 0 ≡ false
some_length n = grind (arith, nat_tests)

-- ---- a canonical form is no other scalar

-- a `-` or a digit
abbrev is_lead : ℕ → Bool
is_lead b = eqb b 45 || is_ascii_digit b

letter_apart : (b k : ℕ) → 58 ≤ k → is_lead b ≡ true → eqb b k ≡ false
letter_apart b k high h = grind (arith, nat_tests)

first_apart : (b k : ℕ) (t u : Text) → 58 ≤ k → is_lead b ≡ true → bytes_eq (b ∷ t) (k ∷ u) ≡ false
first_apart b k t u high h = ap (λ v. v && bytes_eq t u) (letter_apart b k high h)

not_null : (b : ℕ) (t : Text) → is_lead b ≡ true → is_null (b ∷ t) ≡ false
not_null b t h =
    either_false (((eqb (length (b ∷ t)) 0 || bytes_eq (b ∷ t) (codes "~")) || bytes_eq (b ∷ t) (codes "null")) || bytes_eq (b ∷ t) (codes "Null")) (bytes_eq (b ∷ t) (codes "NULL"))
    (either_false ((eqb (length (b ∷ t)) 0 || bytes_eq (b ∷ t) (codes "~")) || bytes_eq (b ∷ t) (codes "null")) (bytes_eq (b ∷ t) (codes "Null"))
    (either_false (eqb (length (b ∷ t)) 0 || bytes_eq (b ∷ t) (codes "~")) (bytes_eq (b ∷ t) (codes "null"))
    (either_false (eqb (length (b ∷ t)) 0) (bytes_eq (b ∷ t) (codes "~")) (some_length (length t)) (first_apart b 126 t [] (omega arith) h))
    (first_apart b 110 t (codes "ull") (omega arith) h)) (first_apart b 78 t (codes "ull") (omega arith) h)) (first_apart b 78 t (codes "ULL") (omega arith) h)

not_true : (b : ℕ) (t : Text) → is_lead b ≡ true → is_true (b ∷ t) ≡ false
not_true b t h =
    either_false (bytes_eq (b ∷ t) (codes "true") || bytes_eq (b ∷ t) (codes "True")) (bytes_eq (b ∷ t) (codes "TRUE"))
    (either_false (bytes_eq (b ∷ t) (codes "true")) (bytes_eq (b ∷ t) (codes "True")) (first_apart b 116 t (codes "rue") (omega arith) h) (first_apart b 84 t (codes "rue") (omega arith) h))
    (first_apart b 84 t (codes "RUE") (omega arith) h)

not_false : (b : ℕ) (t : Text) → is_lead b ≡ true → is_false (b ∷ t) ≡ false
not_false b t h =
    either_false (bytes_eq (b ∷ t) (codes "false") || bytes_eq (b ∷ t) (codes "False")) (bytes_eq (b ∷ t) (codes "FALSE"))
    (either_false (bytes_eq (b ∷ t) (codes "false")) (bytes_eq (b ∷ t) (codes "False")) (first_apart b 102 t (codes "alse") (omega arith) h) (first_apart b 70 t (codes "alse") (omega arith) h))
    (first_apart b 70 t (codes "ALSE") (omega arith) h)

-- the letter of a base stands nowhere
not_based : (k b c : ℕ) (t : Text) → eqb c k ≡ false → is_based k (b ∷ c ∷ t) ≡ false
not_based k b c t h = right_false (eqb b 48) (eqb c k) h

-- digits and an `e` are no digits alone
not_digits : (ds r : Text) → list_all is_ascii_digit ds ≡ true → are_all is_ascii_digit (ds ++ 101 ∷ r) ≡ false
not_digits ds r h =
    right_false (ltb 0 (length (ds ++ 101 ∷ r))) (list_all is_ascii_digit (ds ++ 101 ∷ r))
    (list_all-append is_ascii_digit ds (101 ∷ r) ∙ ap (λ v. v && false) h)

-- a text that is none of the other scalars
record IsPlainNumber (t : Text) : Type 0 where
  null : is_null t ≡ false
  yes_text : is_true t ≡ false
  no_text : is_false t ≡ false
  whole : is_decimal_whole t ≡ false
  octal : is_based 111 t ≡ false
  hexadecimal : is_based 120 t ≡ false

digit_lead : (b : ℕ) → is_ascii_digit b ≡ true → is_lead b ≡ true
digit_lead b h = grind (arith, nat_tests)

digit_apart : (b k : ℕ) → 58 ≤ k → is_ascii_digit b ≡ true → eqb b k ≡ false
digit_apart b k high h = grind (arith, nat_tests)

-- a digit, and a digit or an `e` behind it
by_digits : (d c : ℕ) (t ds r : Text) → is_ascii_digit d ≡ true → list_all is_ascii_digit ds ≡ true → 0 < length ds → d ∷ c ∷ t ≡ ds ++ 101 ∷ r → eqb c 111 ≡ false → eqb c 120 ≡ false → IsPlainNumber (d ∷ c ∷ t)
by_digits d c t ds r digit all some is o x =
    let free = sign_free ds (101 ∷ r) all some in
    record {
      null = not_null d (c ∷ t) (digit_lead d digit);
      yes_text = not_true d (c ∷ t) (digit_lead d digit);
      no_text = not_false d (c ∷ t) (digit_lead d digit);
      whole = ap (λ (u : Text). are_all is_ascii_digit (past_sign u)) is ∙ ap (are_all is_ascii_digit) free.0 ∙ not_digits ds r all;
      octal = not_based 111 d c t o;
      hexadecimal = not_based 120 d c t x;
    }

unsigned_plain : (ds r : Text) → list_all is_ascii_digit ds ≡ true → 0 < length ds → IsPlainNumber (ds ++ 101 ∷ r)
unsigned_plain [] r all some = absurd (omega arith)
unsigned_plain (d ∷ []) r all some = by_digits d 101 r (d ∷ []) r (and_parts (is_ascii_digit d) true all).0 all some refl refl refl
unsigned_plain (d ∷ c ∷ ds) r all some =
    let both = and_parts (is_ascii_digit d) (list_all is_ascii_digit (c ∷ ds)) all in
    let next = (and_parts (is_ascii_digit c) (list_all is_ascii_digit ds) both.1).0 in
    by_digits d c (ds ++ 101 ∷ r) (d ∷ c ∷ ds) r both.0 all some refl (digit_apart c 111 (omega arith) next) (digit_apart c 120 (omega arith) next)

signed_plain : (below : Bool) (ds r : Text) → list_all is_ascii_digit ds ≡ true → 0 < length ds → IsPlainNumber (signed_text below (ds ++ 101 ∷ r))
signed_plain false ds r all some = unsigned_plain ds r all some
signed_plain true ds r all some = record {
  null = not_null 45 (ds ++ 101 ∷ r) refl;
  yes_text = not_true 45 (ds ++ 101 ∷ r) refl;
  no_text = not_false 45 (ds ++ 101 ∷ r) refl;
  whole = not_digits ds r all;
  octal = refl;
  hexadecimal = refl;
}

-- ---- and isn't too wide

not_below : (a b : ℕ) → a ≤ b → ltb b a ≡ false
not_below a b h = grind (arith, nat_tests)

not_least : (a b : ℕ) → a < b → leb b a ≡ false
not_least a b h = grind (arith, nat_tests)

narrow_by : (n : Number) → Fits n → is_wide_number (n.digits, 0) (parts_in n) ≡ false
narrow_by n f =
    let e = canonical_exponent n.down (number 10 (decimal n.exponent)) 0 0 in
    let is : e ≡ n.exponent = ap (λ k. canonical_exponent n.down k 0 0) (reads_decimal n.exponent (low_exponent n f)).value ∙ exponent_is n.down n.exponent in
    let short : length (decimal n.exponent) ≤ 30 = length-decimal-le_wide 30 n.exponent (lit< tt) f.small (low_exponent n f) in
    either_false (ltb (2 ^ 127) n.digits || ltb 30 (length (decimal n.exponent))) (ltb 0 n.digits && leb (10 ^ 30) e)
    (either_false (ltb (2 ^ 127) n.digits) (ltb 30 (length (decimal n.exponent))) (not_below n.digits (2 ^ 127) f.low) (not_below (length (decimal n.exponent)) 30 short))
    (right_false (ltb 0 n.digits) (leb (10 ^ 30) e) (ap (leb (10 ^ 30)) is ∙ not_least n.exponent (10 ^ 30) f.small))

narrow : (n : Number) → Fits n → is_wide (parts_in n) ≡ false
unfolding is_wide
narrow n f =
    ap (λ (s : ℕ × ℕ). is_wide_number s (parts_in n)) (ap significant_part (append-nil (decimal n.digits)) ∙ significant_clean n.digits (low_digits n f) f.end) ∙ narrow_by n f

numeral_by : (t : Text) (p : Parts) → IsPlainNumber t → parts_of t ≡ Some p → is_wide p ≡ false → numeral 0 t ≡ Ok (nd.Decimal t)
numeral_by t p is parts wide =
    let last = decimal_kind 0 t (option_map is_wide (parts_of t)) in
    ap (λ v. cond v (whole 0 t (is_negative t) (number 10 (past_sign t))) (cond (is_octal t) (whole 0 t false (number 8 (drop 2 t))) (cond (is_hexadecimal t) (whole 0 t false (number 16 (drop 2 t))) last))) is.whole
    ∙ ap (λ v. cond v (whole 0 t false (number 8 (drop 2 t))) (cond (is_hexadecimal t) (whole 0 t false (number 16 (drop 2 t))) last)) (ap (λ v. v && are_all is_octal_digit (drop 2 t)) is.octal)
    ∙ ap (λ v. cond v (whole 0 t false (number 16 (drop 2 t))) last) (ap (λ v. v && are_all is_ascii_hexdigit (drop 2 t)) is.hexadecimal)
    ∙ ap (λ o. decimal_kind 0 t (option_map is_wide o)) parts
    ∙ ap (λ w. decimal_kind 0 t (Some w)) wide

scalar_by : (t : Text) (p : Parts) → IsPlainNumber t → parts_of t ≡ Some p → is_wide p ≡ false → scalar 0 t ≡ Ok (nd.Decimal t)
unfolding scalar
scalar_by t p is parts wide =
    ap (λ v. cond v (Ok nd.Null) (cond (is_true t) (Ok (nd.Bool true)) (cond (is_false t) (Ok (nd.Bool false)) (numeral 0 t)))) is.null
    ∙ ap (λ v. cond v (Ok (nd.Bool true)) (cond (is_false t) (Ok (nd.Bool false)) (numeral 0 t))) is.yes_text
    ∙ ap (λ v. cond v (Ok (nd.Bool false)) (numeral 0 t)) is.no_text
    ∙ numeral_by t p is parts wide

-- ---- so a canonical number is one

zero_sound : scalar 0 (codes "0") ≡ Ok (nd.Whole (pos 0) (codes "0"))
unfolding scalar
zero_sound = refl

text_sound : (n : Number) → Fits n → scalar 0 (number_text n) ≡ Ok (nd.Decimal (number_text n))
text_sound n f =
    let ds = reads_decimal n.digits (low_digits n f) in
    scalar_by (number_text n) (parts_in n) (signed_plain n.below (decimal n.digits) (signed_text n.down (decimal n.exponent)) ds.digits ds.some) (text_parts n f).parts (narrow n f)

pub number_sound : (n : Number) → Stands n → IsProper (out-Node (number_node n))
number_sound n stands =
    elim (cases_Bool (eqb n.digits 0)) [
      | inl none ↦ subst IsProper (sym (ap out-Node (zero_node n none) ∙ out_whole (pos 0) (codes "0"))) zero_sound
      | inr some ↦ subst IsProper (sym (ap out-Node (other_node n some) ∙ out_decimal (number_text n))) (text_sound n (stands some))
    ]

-- ---- layers

number_holds : (P : Layer → Type 0) → ((t : Text) → P (Node-F.Decimal t)) → P (Node-F.Whole (pos 0) (codes "0")) → (n : Number) → P (out-Node (number_node n))
number_holds P other zero_holds n =
    elim (cases_Bool (eqb n.digits 0)) [
      | inl none ↦ subst P (sym (ap out-Node (zero_node n none) ∙ out_whole (pos 0) (codes "0"))) zero_holds
      | inr some ↦ subst P (sym (ap out-Node (other_node n some) ∙ out_decimal (number_text n))) (other (number_text n))
    ]

rising_new : (ps : List Pair) → is_rising (map key_of ps) ≡ true → are_new [] ps ≡ true
rising_new ps h = new_keys [] ps ∙ distinct_of_rising (map key_of ps) h

layer_proper : (f : Node → Node) (l : Layer) → IsProper l → IsProper (out-Node (canonical_layer f l))
layer_proper f Node-F.Null h = subst IsProper (sym out_null) tt
layer_proper f (Node-F.Bool b) h = subst IsProper (sym (out_bool b)) tt
layer_proper f (Node-F.Whole n t) h = number_sound (whole_number n) (whole_stands n t h)
layer_proper f (Node-F.Decimal t) h = number_sound (decimal_number t) (decimal_stands t h)
layer_proper f (Node-F.Text t) h = subst IsProper (sym (out_text t)) tt
layer_proper f (Node-F.Items xs) h = subst IsProper (sym (out_items (map f xs))) tt
layer_proper f (Node-F.Pairs ps) h =
    let made = in_order key_of (map (with_value f) ps) in
    subst IsProper (sym (out_pairs made)) (rising_new made (made_rising f ps h))

each_made : {A : Type 0} (g : A → A) (P Q : A → Type 0) → ((x : A) → P x → Q (g x)) → (xs : List A) → Each P xs → Each Q (map g xs)
each_made g P Q k [] h = tt
each_made g P Q k (x ∷ xs) h = (k x h.0, each_made g P Q k xs h.1)

layer_inside : (f : Node → Node) (P Q : Node → Type 0) → ((x : Node) → P x → Q (f x)) → (l : Layer) → Inside P l → Inside Q (out-Node (canonical_layer f l))
layer_inside f P Q k Node-F.Null h = subst (Inside Q) (sym out_null) tt
layer_inside f P Q k (Node-F.Bool b) h = subst (Inside Q) (sym (out_bool b)) tt
layer_inside f P Q k (Node-F.Whole n t) h = number_holds (Inside Q) (λ u. tt) tt (whole_number n)
layer_inside f P Q k (Node-F.Decimal t) h = number_holds (Inside Q) (λ u. tt) tt (decimal_number t)
layer_inside f P Q k (Node-F.Text t) h = subst (Inside Q) (sym (out_text t)) tt
layer_inside f P Q k (Node-F.Items xs) h = subst (Inside Q) (sym (out_items (map f xs))) (each_made f P Q k xs h)
layer_inside f P Q k (Node-F.Pairs ps) h =
    subst (Inside Q) (sym (out_pairs (in_order key_of (map (with_value f) ps))))
    (each_in_order key_of (λ p. Q (value_of p)) (map (with_value f) ps) (each_made (with_value f) (λ p. P (value_of p)) (λ p. Q (value_of p)) (λ p. k (value_of p)) ps h))

layer_flat : (f : Node → Node) (l : Layer) → IsScalar l → IsScalar (out-Node (canonical_layer f l))
layer_flat f Node-F.Null h = subst IsScalar (sym out_null) tt
layer_flat f (Node-F.Bool b) h = subst IsScalar (sym (out_bool b)) tt
layer_flat f (Node-F.Whole n t) h = number_holds IsScalar (λ u. tt) tt (whole_number n)
layer_flat f (Node-F.Decimal t) h = number_holds IsScalar (λ u. tt) tt (decimal_number t)
layer_flat f (Node-F.Text t) h = subst IsScalar (sym (out_text t)) tt
layer_flat f (Node-F.Items xs) h = absurd h
layer_flat f (Node-F.Pairs ps) h = absurd h

-- ---- nodes

at_none : (v : Node) → IsProper (out-Node v) → IsScalar (out-Node v) → IsSound 0 v
unfolding IsSound
at_none v p s = (p, s)

at_more : (d : ℕ) (v : Node) → IsProper (out-Node v) → Inside (IsSound d) (out-Node v) → IsSound (suc d) v
unfolding IsSound
at_more d v p s = (p, s)

pub canonical_sound : (d : ℕ) (v : Node) → IsSound d v → IsSound d (canonical d v)
canonical_sound zero v h =
    subst (IsSound 0) (sym (canonical_none v))
    (at_none (canonical_layer (λ x. x) (out-Node v)) (layer_proper (λ x. x) (out-Node v) (proper 0 v h)) (layer_flat (λ x. x) (out-Node v) (flat v h)))
canonical_sound (suc d) v h =
    subst (IsSound (suc d)) (sym (canonical_deep d v))
    (at_more d (canonical_layer (canonical d) (out-Node v)) (layer_proper (canonical d) (out-Node v) (proper (suc d) v h))
    (layer_inside (canonical d) (IsSound d) (IsSound d) (canonical_sound d) (out-Node v) (inside d v h)))
