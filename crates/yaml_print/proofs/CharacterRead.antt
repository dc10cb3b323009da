-- Each character between quotes, as it is read.
use Rattle.std.proofs.Common.{◌≡◌, ℕ, ◌+◌, ◌*◌, ◌/◌, ◌%◌, ◌<◌, ◌≤◌, eqb, ltb, leb, Bool, true, false, cond, not, ◌||◌, ◌&&◌, inl, inr, [], ◌∷◌, ◌++◌, Some, None, refl, ap, sym, subst, ◌∙◌, arith}
use Rattle.std.specs.Prelude.{option_and_then}
use Rattle.std.specs.Char.{encode_utf8, is_ascii_hexdigit}
use Rattle.std.specs.List.{list_all}
use Rattle.std.proofs.lemmas.Bool.Decides.{nat_tests}
use Rattle.yaml_text.specs.Outcome.{Text}
use Rattle.yaml_scalars.specs.Quoted.{digit_value, hex_digit, with_low_digits, hex_2, hex_4, character, escape, is_literal}
use Rattle.yaml_print.specs.ScalarText.{needs_escape, hex_digit as digit_of, hex_2 as digits_of, by_number, in_double, in_single, between}
use Rattle.yaml_print.proofs.BoolLemmas.{either, true_not_false, same, both, neither_left, neither_right, either_false}
use Rattle.yaml_print.proofs.QuoteLemmas.{append_nil}
use Rattle.yaml_print.proofs.Shown.{is_graph, graphs_fine}
use Rattle.yaml_print.proofs.QuotedRead.{Read, as_bytes, by_escape, left_at_meaning, turn_left}

-- ---- bytes that stand for themselves

literal_by : (a b x y z e f g : Bool) → a ≡ false → b ≡ false → x ≡ false → z ≡ false → g ≡ false → not (((a || b) || ((x && y) || z)) || (f && g)) ≡ true
literal_by false false false y false e true false ha hb hx hz hg = refl
literal_by false false false y false e false false ha hb hx hz hg = refl
literal_by true b x y z e f g ha hb hx hz hg = absurd (true_not_false ha)
literal_by false true x y z e f g ha hb hx hz hg = absurd (true_not_false hb)
literal_by false false true y z e f g ha hb hx hz hg = absurd (true_not_false hx)
literal_by false false false y true e f g ha hb hx hz hg = absurd (true_not_false hz)
literal_by false false false y false e f true ha hb hx hz hg = absurd (true_not_false hg)

far_literal : (quote b : ℕ) → quote < 128 → 128 ≤ b → is_literal quote b ≡ true
far_literal quote b q h =
    literal_by (eqb b quote) (eqb b 10) (ltb b 32) (not (eqb b 9 || eqb b 10)) (eqb b 127) true (eqb quote 34) (eqb b 92)
    (grind (arith, nat_tests)) (grind (arith, nat_tests)) (grind (arith, nat_tests)) (grind (arith, nat_tests)) (grind (arith, nat_tests))

near : (c : ℕ) → ltb c 128 ≡ true → encode_utf8 c ≡ c ∷ []
unfolding encode_utf8
near c h = ap (λ v. cond v (c ∷ []) (cond (ltb c 2048) ((192 + c / 64) ∷ (128 + c % 64) ∷ []) (cond (ltb c 65536) ((224 + c / 4096) ∷ (128 + (c / 64) % 64) ∷ (128 + c % 64) ∷ []) ((240 + c / 262144) ∷ (128 + (c / 4096) % 64) ∷ (128 + (c / 64) % 64) ∷ (128 + c % 64) ∷ [])))) h

all_2 : (quote a b : ℕ) → quote < 128 → 128 ≤ a → 128 ≤ b → list_all (is_literal quote) (a ∷ b ∷ []) ≡ true
all_2 quote a b q h k = ap (λ v. v && (is_literal quote b && true)) (far_literal quote a q h) ∙ ap (λ v. v && true) (far_literal quote b q k)

all_3 : (quote a b c : ℕ) → quote < 128 → 128 ≤ a → 128 ≤ b → 128 ≤ c → list_all (is_literal quote) (a ∷ b ∷ c ∷ []) ≡ true
all_3 quote a b c q h k m = ap (λ v. v && (is_literal quote b && (is_literal quote c && true))) (far_literal quote a q h) ∙ all_2 quote b c q k m

all_4 : (quote a b c d : ℕ) → quote < 128 → 128 ≤ a → 128 ≤ b → 128 ≤ c → 128 ≤ d → list_all (is_literal quote) (a ∷ b ∷ c ∷ d ∷ []) ≡ true
all_4 quote a b c d q h k m n = ap (λ v. v && (is_literal quote b && (is_literal quote c && (is_literal quote d && true)))) (far_literal quote a q h) ∙ all_3 quote b c d q k m n

all_by : (quote : ℕ) (x y z : Bool) (a b c d : Text) → list_all (is_literal quote) b ≡ true → list_all (is_literal quote) c ≡ true → list_all (is_literal quote) d ≡ true → x ≡ false
    → list_all (is_literal quote) (cond x a (cond y b (cond z c d))) ≡ true
all_by quote true y z a b c d hb hc hd h = absurd (true_not_false h)
all_by quote false true z a b c d hb hc hd h = hb
all_by quote false false true a b c d hb hc hd h = hc
all_by quote false false false a b c d hb hc hd h = hd

far : (quote c : ℕ) → quote < 128 → ltb c 128 ≡ false → list_all (is_literal quote) (encode_utf8 c) ≡ true
unfolding encode_utf8
far quote c q h =
    all_by quote (ltb c 128) (ltb c 2048) (ltb c 65536) (c ∷ []) ((192 + c / 64) ∷ (128 + c % 64) ∷ []) ((224 + c / 4096) ∷ (128 + (c / 64) % 64) ∷ (128 + c % 64) ∷ [])
    ((240 + c / 262144) ∷ (128 + (c / 4096) % 64) ∷ (128 + (c / 64) % 64) ∷ (128 + c % 64) ∷ [])
    (all_2 quote (192 + c / 64) (128 + c % 64) q (omega arith) (omega arith))
    (all_3 quote (224 + c / 4096) (128 + (c / 64) % 64) (128 + c % 64) q (omega arith) (omega arith) (omega arith))
    (all_4 quote (240 + c / 262144) (128 + (c / 4096) % 64) (128 + (c / 64) % 64) (128 + c % 64) q (omega arith) (omega arith) (omega arith) (omega arith)) h

-- a character whose own byte stands for itself, if it has one byte
encoded_literal : (quote c : ℕ) → quote < 128 → is_literal quote c ≡ true → list_all (is_literal quote) (encode_utf8 c) ≡ true
encoded_literal quote c q h =
    elim (either (ltb c 128)) [
      | inl low ↦ ap (list_all (is_literal quote)) (near c low) ∙ ap (λ v. v && true) h
      | inr high ↦ far quote c q high
    ]

-- ---- numbers of characters

digit_by : (b d : ℕ) (t : Text) → is_ascii_hexdigit b ≡ true → digit_value b ≡ d → hex_digit (b ∷ t) ≡ Some (d, t)
digit_by b d t is value = ap (λ v. cond v (Some (digit_value b, t)) None) is ∙ ap (λ n. Some (n, t)) value

digit_read : (d : ℕ) (t : Text) → d < 16 → hex_digit (digit_of d ∷ t) ≡ Some (d, t)
digit_read d t h =
    elim (either (ltb d 10)) [
      | inl low ↦
          let e : digit_of d ≡ 48 + d = ap (λ v. cond v (48 + d) (87 + d)) low in
          let less : d < 10 = grind (arith, nat_tests) in
          ap (λ b. hex_digit (b ∷ t)) e ∙ digit_by (48 + d) d t (grind (arith, nat_tests)) (grind (arith, nat_tests))
      | inr high ↦
          let e : digit_of d ≡ 87 + d = ap (λ v. cond v (48 + d) (87 + d)) high in
          let more : 10 ≤ d = grind (arith, nat_tests) in
          ap (λ b. hex_digit (b ∷ t)) e ∙ digit_by (87 + d) d t (grind (arith, nat_tests)) (grind (arith, nat_tests))
    ]

hex_read : (a b : ℕ) (t : Text) → a < 16 → b < 16 → hex_2 (digit_of a ∷ digit_of b ∷ t) ≡ Some (16 * a + b, t)
unfolding hex_2
hex_read a b t h k =
    ap (option_and_then (with_low_digits 16 hex_digit)) (digit_read a (digit_of b ∷ t) h)
    ∙ ap (option_and_then (λ low. Some (16 * a + low.0, low.1))) (digit_read b t k)

byte_read : (c : ℕ) (t : Text) → c < 128 → escape (120 ∷ (digits_of c ++ t)) ≡ Some (c, t)
unfolding escape
byte_read c t h =
    let whole : 16 * (c / 16) + c % 16 ≡ c = omega arith in
    let low : ltb c 55296 ≡ true = grind (arith, nat_tests) in
    ap (option_and_then character) (hex_read (c / 16) (c % 16) t (omega arith) (omega arith))
    ∙ ap (λ n. character (n, t)) whole
    ∙ ap (λ v. cond (v || (leb 57344 c && ltb c 1114112)) (Some (c, t)) None) low

digit_graph : (d : ℕ) → d < 16 → is_graph (digit_of d) ≡ true
digit_graph d h =
    elim (either (ltb d 10)) [
      | inl low ↦ let e : digit_of d ≡ 48 + d = ap (λ v. cond v (48 + d) (87 + d)) low in ap is_graph e ∙ both (leb 32 (48 + d)) (ltb (48 + d) 127) (grind (arith, nat_tests)) (grind (arith, nat_tests))
      | inr high ↦ let e : digit_of d ≡ 87 + d = ap (λ v. cond v (48 + d) (87 + d)) high in ap is_graph e ∙ both (leb 32 (87 + d)) (ltb (87 + d) 127) (grind (arith, nat_tests)) (grind (arith, nat_tests))
    ]

digits_graph : (a b : ℕ) → a < 16 → b < 16 → list_all is_graph (120 ∷ digit_of a ∷ digit_of b ∷ []) ≡ true
digits_graph a b h k = both (is_graph (digit_of a)) (is_graph (digit_of b) && true) (digit_graph a h) (both (is_graph (digit_of b)) true (digit_graph b k) refl)

-- ---- double quotes

abbrev form : ℕ → Bool → Bool → Bool → Bool → Text
form c a b d n = cond a (92 ∷ c ∷ []) (cond b (92 ∷ 110 ∷ []) (cond d (92 ∷ 116 ∷ []) (cond n (92 ∷ by_number c) (encode_utf8 c))))

double_form : (c : ℕ) → between 34 c ≡ form c (eqb c 34 || eqb c 92) (eqb c 10) (eqb c 9) (needs_escape c)
unfolding in_double
double_form c = refl

formed : (c : ℕ) (n : Bool) → eqb c 34 ≡ false → eqb c 92 ≡ false → eqb c 10 ≡ false → eqb c 9 ≡ false → needs_escape c ≡ n → between 34 c ≡ form c false false false n
formed c n h34 h92 h10 h9 hn =
    double_form c
    ∙ ap (λ v. form c v (eqb c 10) (eqb c 9) (needs_escape c)) (either_false (eqb c 34) (eqb c 92) h34 h92)
    ∙ ap (λ v. form c false v (eqb c 9) (needs_escape c)) h10
    ∙ ap (λ v. form c false false v (needs_escape c)) h9
    ∙ ap (form c false false false) hn

escapes_by : (a b d e f g : Bool) → (a || b) ≡ true → (((((a || b) || d) || e) || f) || g) ≡ true
escapes_by true b d e f g h = refl
escapes_by false true d e f g h = refl
escapes_by false false d e f g h = absurd (true_not_false (sym h))

none_by : (a b d e f g : Bool) → (a || b) ≡ false → d ≡ false → e ≡ false → f ≡ false → g ≡ false → (((((a || b) || d) || e) || f) || g) ≡ false
none_by a b d e f g h hd he hf hg =
    ap (λ v. (((v || d) || e) || f) || g) h ∙ ap (λ v. ((v || e) || f) || g) hd ∙ ap (λ v. (v || f) || g) he ∙ ap (λ v. v || g) hf ∙ hg

small_by : (v : Bool) (c : ℕ) → ltb c 32 ≡ v → (v || eqb c 127) ≡ true → c < 128
small_by true c is h = grind (arith, nat_tests)
small_by false c is h = grind (arith, nat_tests)

low_read : (over : Bool) (found p : Text) (c : ℕ) (t : Text) → eqb c 34 ≡ false → eqb c 92 ≡ false → eqb c 10 ≡ false → eqb c 9 ≡ false → (ltb c 32 || eqb c 127) ≡ true → Read 34 over found p c t
low_read over found p c t h34 h92 h10 h9 h =
    let small : c < 128 = small_by (ltb c 32) c refl h in
    let little : ltb c 128 ≡ true = grind (arith, nat_tests) in
    by_escape over found p (120 ∷ digits_of c) c t
    (formed c true h34 h92 h10 h9 (escapes_by (ltb c 32) (eqb c 127) (eqb c 133) (eqb c 8232) (eqb c 8233) (eqb c 65279) h)
    ∙ ap (λ v. 92 ∷ cond v (120 ∷ digits_of c) (117 ∷ digits_of (c / 256) ++ digits_of (c % 256))) little)
    (byte_read c t small) refl (digits_graph (c / 16) (c % 16) (omega arith) (omega arith))

double_literal : (c : ℕ) → eqb c 34 ≡ false → eqb c 92 ≡ false → eqb c 10 ≡ false → (ltb c 32 || eqb c 127) ≡ false → is_literal 34 c ≡ true
double_literal c h34 h92 h10 h =
    literal_by (eqb c 34) (eqb c 10) (ltb c 32) (not (eqb c 9 || eqb c 10)) (eqb c 127) true true (eqb c 92) h34 h10
    (neither_left (ltb c 32) (eqb c 127) h) (neither_right (ltb c 32) (eqb c 127) h) h92

plain_read : (over : Bool) (found p : Text) (c : ℕ) (t : Text) → eqb c 34 ≡ false → eqb c 92 ≡ false → eqb c 10 ≡ false → eqb c 9 ≡ false → (ltb c 32 || eqb c 127) ≡ false
    → eqb c 133 ≡ false → eqb c 8232 ≡ false → eqb c 8233 ≡ false → eqb c 65279 ≡ false → Read 34 over found p c t
plain_read over found p c t h34 h92 h10 h9 h a b d e =
    as_bytes 34 over found p c t
    (formed c false h34 h92 h10 h9 (none_by (ltb c 32) (eqb c 127) (eqb c 133) (eqb c 8232) (eqb c 8233) (eqb c 65279) h a b d e))
    (encoded_literal 34 c (omega arith) (double_literal c h34 h92 h10 h))

at_34 : (over : Bool) (found p t : Text) → Read 34 over found p 34 t
unfolding in_double escape
at_34 over found p t = by_escape over found p (34 ∷ []) 34 t refl refl refl refl

at_92 : (over : Bool) (found p t : Text) → Read 34 over found p 92 t
unfolding in_double escape
at_92 over found p t = by_escape over found p (92 ∷ []) 92 t refl refl refl refl

at_10 : (over : Bool) (found p t : Text) → Read 34 over found p 10 t
unfolding in_double escape
at_10 over found p t = by_escape over found p (110 ∷ []) 10 t refl refl refl refl

at_9 : (over : Bool) (found p t : Text) → Read 34 over found p 9 t
unfolding in_double escape
at_9 over found p t = by_escape over found p (116 ∷ []) 9 t refl refl refl refl

at_133 : (over : Bool) (found p t : Text) → Read 34 over found p 133 t
unfolding in_double escape hex_4 hex_2
at_133 over found p t = by_escape over found p (by_number 133) 133 t refl refl refl refl

at_8232 : (over : Bool) (found p t : Text) → Read 34 over found p 8232 t
unfolding in_double escape hex_4 hex_2
at_8232 over found p t = by_escape over found p (by_number 8232) 8232 t refl refl refl refl

at_8233 : (over : Bool) (found p t : Text) → Read 34 over found p 8233 t
unfolding in_double escape hex_4 hex_2
at_8233 over found p t = by_escape over found p (by_number 8233) 8233 t refl refl refl refl

at_65279 : (over : Bool) (found p t : Text) → Read 34 over found p 65279 t
unfolding in_double escape hex_4 hex_2
at_65279 over found p t = by_escape over found p (by_number 65279) 65279 t refl refl refl refl

at_number : (over : Bool) (found p : Text) (c k : ℕ) (t : Text) → eqb c k ≡ true → Read 34 over found p k t → Read 34 over found p c t
at_number over found p c k t is h = subst (λ n. Read 34 over found p n t) (sym (same c k is)) h

other_read : (over : Bool) (found p : Text) (c : ℕ) (t : Text) → eqb c 34 ≡ false → eqb c 92 ≡ false → eqb c 10 ≡ false → eqb c 9 ≡ false → Read 34 over found p c t
other_read over found p c t h34 h92 h10 h9 =
    elim (either (ltb c 32 || eqb c 127)) [
      | inl low ↦ low_read over found p c t h34 h92 h10 h9 low
      | inr high ↦
          elim (either (eqb c 133)) [
            | inl is ↦ at_number over found p c 133 t is (at_133 over found p t)
            | inr a ↦
                elim (either (eqb c 8232)) [
                  | inl is ↦ at_number over found p c 8232 t is (at_8232 over found p t)
                  | inr b ↦
                      elim (either (eqb c 8233)) [
                        | inl is ↦ at_number over found p c 8233 t is (at_8233 over found p t)
                        | inr d ↦
                            elim (either (eqb c 65279)) [
                              | inl is ↦ at_number over found p c 65279 t is (at_65279 over found p t)
                              | inr e ↦
                                  plain_read over found p c t h34 h92 h10 h9 high a b d e
                            ]
                      ]
                ]
          ]
    ]

pub double_read : (over : Bool) (found p : Text) (c : ℕ) (t : Text) → Read 34 over found p c t
double_read over found p c t =
    elim (either (eqb c 34)) [
      | inl is ↦ at_number over found p c 34 t is (at_34 over found p t)
      | inr h34 ↦
          elim (either (eqb c 92)) [
            | inl is ↦ at_number over found p c 92 t is (at_92 over found p t)
            | inr h92 ↦
                elim (either (eqb c 10)) [
                  | inl is ↦ at_number over found p c 10 t is (at_10 over found p t)
                  | inr h10 ↦
                      elim (either (eqb c 9)) [
                        | inl is ↦ at_number over found p c 9 t is (at_9 over found p t)
                        | inr h9 ↦
                            other_read over found p c t h34 h92 h10 h9
                      ]
                ]
          ]
    ]

-- ---- single quotes

at_39 : (over : Bool) (found p t : Text) → Read 39 over found p 39 t
unfolding in_single encode_utf8
at_39 over found p t = record {
  found_more = (found ++ p) ++ 39 ∷ [];
  passed = [];
  reads = left_at_meaning 39 over found p (39 ∷ t) 39 refl ∙ sym (turn_left 39 over ((found ++ p) ++ 39 ∷ []) t);
  grows = append_nil ((found ++ p) ++ 39 ∷ []);
  fine = λ real. graphs_fine (39 ∷ 39 ∷ []) refl;
}

single_form : (c : ℕ) → eqb c 39 ≡ false → between 39 c ≡ encode_utf8 c
unfolding in_single
single_form c h = ap (λ v. cond v (39 ∷ 39 ∷ []) (encode_utf8 c)) h

low_false : (a b d e f g : Bool) → (((((a || b) || d) || e) || f) || g) ≡ false → (a || b) ≡ false
low_false true b d e f g h = absurd (true_not_false h)
low_false false true d e f g h = absurd (true_not_false h)
low_false false false d e f g h = refl

single_literal : (c : ℕ) → eqb c 39 ≡ false → (ltb c 32 || eqb c 127) ≡ false → is_literal 39 c ≡ true
single_literal c h39 h =
    let low = neither_left (ltb c 32) (eqb c 127) h in
    literal_by (eqb c 39) (eqb c 10) (ltb c 32) (not (eqb c 9 || eqb c 10)) (eqb c 127) true false false h39 (grind (arith, nat_tests, low))
    low (neither_right (ltb c 32) (eqb c 127) h) refl

pub single_read : (over : Bool) (found p : Text) (c : ℕ) (t : Text) → needs_escape c ≡ false → Read 39 over found p c t
single_read over found p c t h =
    elim (either (eqb c 39)) [
      | inl is ↦ subst (λ n. Read 39 over found p n t) (sym (same c 39 is)) (at_39 over found p t)
      | inr h39 ↦ as_bytes 39 over found p c t (single_form c h39)
          (encoded_literal 39 c (omega arith) (single_literal c h39 (low_false (ltb c 32) (eqb c 127) (eqb c 133) (eqb c 8232) (eqb c 8233) (eqb c 65279) h)))
    ]
