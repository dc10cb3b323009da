-- An escaped text is read back, and the lexer passes over it.
--     unit_read          four digits are read as a unit of UTF-16
--     character_passes   the escape of a character is read as its bytes
--     text_read          an escaped text is read up to the quote behind it
--     text_passed        and passed over
--     digits_read        digits stand for themselves
--     text_ascii         what is written is ASCII
use Rattle.std.proofs.Common.{◌≡◌, ℕ, zero, suc, length, slice_index, ◌+◌, ◌-◌, ◌*◌, ◌/◌, ◌%◌, ◌<◌, ◌≤◌, Bool, true, false, cond, ◌&&◌, ◌⊎◌, List, [], ◌∷◌, ◌++◌, Option, Some, None, option_and_then, inl, inr, refl, sym, ap, ◌∙◌, subst, arith, append_assoc}
use Rattle.std.specs.Prelude.{nat_lt, nat_le}
use Rattle.std.specs.List.{flat_map, list_all}
use Rattle.std.specs.Char.{digit_char, digit_value, is_digit, IsScalar}
use Rattle.std.specs.Str.{IsUtf8, chars, is_utf8}
use lib.Utf8.{encode, encodes, scalar, scalars, scalar_cases, low_scalar}
use Rattle.std.proofs.lemmas.Bool.{cases_eq, cases_lt, cases_Bool, ne_eqb, le-ltb, lt-ltb, le-leb, lt-leb, leb-true, ltb-true, or_cases, and_parts, and_from, and_right, cond-false}
use Rattle.std.proofs.lemmas.List.{append-nil, get_or_past}
use Rattle.std.proofs.lemmas.Str.{digit_value-digit_char, encode_ascii, encodes-chars, scalars-chars, IsUtf8-from_is_utf8, is_utf8-from_IsUtf8, IsUtf8-from_ascii}
use Rattle.json.specs.Text.{content, plain, after_high, prepend, code_unit, short_escape, is_high_surrogate, is_low_surrogate, surrogate_pair}
use Rattle.json.specs.Word.{is_operator, is_space}
use Rattle.json.specs.Lex.{Lexeme, Mode, lex, lex_byte, between, in_string, operator, space, other}
use Rattle.json.specs.Print.{escape_byte, escape}
use Rattle.json.proofs.Printed.Strings.{content-escape, lex-escape, escape_byte_plain}
use Rattle.dvc_base.specs.Name.{is_digit as is_digit_byte}
use Rattle.file_hash.specs.Listing.{escaped, escaped_text, unit_text}
use Rattle.file_hash.proofs.TextLemmas.{escaped_high, escaped_utf8}

-- what is read of an escape before any text, and that the lexer stays in the string
record Passes (text bytes : List ℕ) : Type 0 where
  read : (r : List ℕ) → content plain (text ++ r) ≡ prepend bytes (content plain r)
  lexed : (r : List ℕ) → lex in_string (text ++ r) ≡ lex in_string r

prepend_both : (a b : List ℕ) (o : Option (List ℕ)) → prepend a (prepend b o) ≡ prepend (a ++ b) o
prepend_both a b None = refl
prepend_both a b (Some s) = ap Some (sym (append_assoc a b s))

prepend_none : (o : Option (List ℕ)) → o ≡ prepend [] o
prepend_none None = refl
prepend_none (Some s) = refl

both_pass : (a b x y : List ℕ) → Passes a x → Passes b y → Passes (a ++ b) (x ++ y)
both_pass a b x y p q =
    record {
      read = λ r. ap (content plain) (append_assoc a b r) ∙ p.read (b ++ r) ∙ ap (prepend x) (q.read r) ∙ prepend_both x y (content plain r);
      lexed = λ r. ap (lex in_string) (append_assoc a b r) ∙ p.lexed (b ++ r) ∙ q.lexed r;
    }

none_passes : Passes [] []
none_passes = record { read = λ r. prepend_none (content plain r); lexed = λ r. refl }

-- ---- digits

digit_small : (n : ℕ) → n < 16 → is_digit (digit_char n) 16 ≡ true
digit_small n l = ap (λ k. nat_lt k 16) (digit_value-digit_char n (omega arith)) ∙ lt-ltb n 16 l

digit_range : (n : ℕ) → n < 16 → ((48 ≤ digit_char n) × (digit_char n < 58)) ⊎ ((97 ≤ digit_char n) × (digit_char n < 103))
digit_range n l =
    elim (cases_lt n 10) [
      | inl low ↦ inl (digit_low (digit_char n) n (ap (λ b. cond b (48 + n) (87 + n)) (lt-ltb n 10 low)) low)
      | inr high ↦ inr (digit_high (digit_char n) n (ap (λ b. cond b (48 + n) (87 + n)) (le-ltb n 10 high)) high l)
    ]
  where
    digit_low : (d n : ℕ) → d ≡ 48 + n → n < 10 → (48 ≤ d) × (d < 58)
    digit_low d n e l = (omega arith, omega arith)

    digit_high : (d n : ℕ) → d ≡ 87 + n → 10 ≤ n → n < 16 → (97 ≤ d) × (d < 103)
    digit_high d n e h l = (omega arith, omega arith)

not_byte : (x : ℕ) → ((48 ≤ x) × (x < 58)) ⊎ ((97 ≤ x) × (x < 103)) → (x ≡ 34 → ⊥) × (x ≡ 92 → ⊥)
not_byte x (inl r) = (λ e. omega (arith, r.0, r.1), λ e. omega (arith, r.0, r.1))
not_byte x (inr r) = (λ e. omega (arith, r.0, r.1), λ e. omega (arith, r.0, r.1))

stays : (o s : Bool) (x : ℕ) (r : List ℕ) (k : Mode → List Lexeme) → lex_byte in_string (cond o operator (cond s space other)) x r k ≡ k in_string
stays true s x r k = refl
stays false true x r k = refl
stays false false x r k = refl

byte_stays : (x : ℕ) (r : List ℕ) → (x ≡ 34 → ⊥) → (x ≡ 92 → ⊥) → lex in_string (x ∷ r) ≡ lex in_string r
unfolding lex
byte_stays x r q b = rw (ne_eqb x 34 q, ne_eqb x 92 b) (stays (is_operator x) (is_space x) x r (λ m. lex m r))

digit_stays : (n : ℕ) (r : List ℕ) → n < 16 → lex in_string (digit_char n ∷ r) ≡ lex in_string r
digit_stays n r l = let no = not_byte (digit_char n) (digit_range n l) in byte_stays (digit_char n) r no.0 no.1

-- ---- units

all_four : (a b c d : Bool) (u v : ℕ) → a ≡ true → b ≡ true → c ≡ true → d ≡ true → u ≡ v → cond (a && b && c && d) (Some u) None ≡ Some v
all_four a b c d u v e f g h is = rw (e, f, g, h) (ap Some is)

abbrev spelled : ℕ → ℕ → ℕ → ℕ → ℕ
spelled a b c d = a * 4096 + b * 256 + c * 16 + d

unit_value : (u : ℕ) → u < 65536 → spelled (u / 4096) (u / 256 % 16) (u / 16 % 16) (u % 16) ≡ u
unit_value u l =
    let first : u / 256 / 16 ≡ u / 4096 = omega arith in
    let second : u / 16 / 16 ≡ u / 256 = omega arith in
    omega arith

code_unit-digits : (u : ℕ) → u < 65536 → code_unit (digit_char (u / 4096)) (digit_char (u / 256 % 16)) (digit_char (u / 16 % 16)) (digit_char (u % 16)) ≡ Some u
unfolding code_unit
code_unit-digits u l =
    let first : u / 4096 < 16 = omega arith in
    let second : u / 256 % 16 < 16 = omega arith in
    let third : u / 16 % 16 < 16 = omega arith in
    let fourth : u % 16 < 16 = omega arith in
    all_four (is_digit (digit_char (u / 4096)) 16) (is_digit (digit_char (u / 256 % 16)) 16) (is_digit (digit_char (u / 16 % 16)) 16) (is_digit (digit_char (u % 16)) 16)
    (spelled (digit_value (digit_char (u / 4096))) (digit_value (digit_char (u / 256 % 16))) (digit_value (digit_char (u / 16 % 16))) (digit_value (digit_char (u % 16)))) u
    (digit_small (u / 4096) first) (digit_small (u / 256 % 16) second) (digit_small (u / 16 % 16) third) (digit_small (u % 16) fourth)
    (ap (λ a. spelled a (digit_value (digit_char (u / 256 % 16))) (digit_value (digit_char (u / 16 % 16))) (digit_value (digit_char (u % 16)))) (digit_value-digit_char (u / 4096) (omega arith))
    ∙ ap (λ b. spelled (u / 4096) b (digit_value (digit_char (u / 16 % 16))) (digit_value (digit_char (u % 16)))) (digit_value-digit_char (u / 256 % 16) (omega arith))
    ∙ ap (λ c. spelled (u / 4096) (u / 256 % 16) c (digit_value (digit_char (u % 16)))) (digit_value-digit_char (u / 16 % 16) (omega arith))
    ∙ ap (λ d. spelled (u / 4096) (u / 256 % 16) (u / 16 % 16) d) (digit_value-digit_char (u % 16) (omega arith))
    ∙ unit_value u l)

-- what a unit leads to
abbrev on_unit : List ℕ → ℕ → Option (List ℕ)
on_unit r u = cond (is_high_surrogate u) (content (after_high u) r) (cond (is_low_surrogate u) None (prepend (encode u) (content plain r)))

unit_read : (u : ℕ) (r : List ℕ) → u < 65536 → content plain (unit_text u ++ r) ≡ on_unit r u
unfolding content
unit_read u r l = ap (option_and_then (on_unit r)) (code_unit-digits u l)

unit_lexed : (u : ℕ) (r : List ℕ) → u < 65536 → lex in_string (unit_text u ++ r) ≡ lex in_string r
unfolding lex
unit_lexed u r l =
    digit_stays (u / 4096) (digit_char (u / 256 % 16) ∷ digit_char (u / 16 % 16) ∷ digit_char (u % 16) ∷ r) (omega arith)
    ∙ digit_stays (u / 256 % 16) (digit_char (u / 16 % 16) ∷ digit_char (u % 16) ∷ r) (omega arith)
    ∙ digit_stays (u / 16 % 16) (digit_char (u % 16) ∷ r) (omega arith)
    ∙ digit_stays (u % 16) r (omega arith)

-- a scalar value is no half of a pair
no_high : (u : ℕ) → (u < 55296) ⊎ ((57344 ≤ u) × (u < 1114112)) → is_high_surrogate u ≡ false
no_high u (inl l) = ap (λ b. b && nat_lt u 56320) (lt-leb 55296 u l)
no_high u (inr h) = and_right (nat_le 55296 u) (nat_lt u 56320) (le-ltb u 56320 (omega (arith, h.0)))

no_low : (u : ℕ) → (u < 55296) ⊎ ((57344 ≤ u) × (u < 1114112)) → is_low_surrogate u ≡ false
no_low u (inl l) = ap (λ b. b && nat_lt u 57344) (lt-leb 56320 u (omega arith))
no_low u (inr h) = and_right (nat_le 56320 u) (nat_lt u 57344) (le-ltb u 57344 h.0)

alone : (high low : Bool) (a b : Option (List ℕ)) → high ≡ false → low ≡ false → cond high a (cond low None b) ≡ b
alone high low a b e f = rw (e, f) refl

unit_passes : (u : ℕ) → u < 65536 → IsScalar u → Passes (unit_text u) (encode u)
unit_passes u l s =
    let range = scalar_cases u s in
    record {
      read = λ r. unit_read u r l ∙ alone (is_high_surrogate u) (is_low_surrogate u) (content (after_high u) r) (prepend (encode u) (content plain r)) (no_high u range) (no_low u range);
      lexed = λ r. unit_lexed u r l;
    }

low_read : (h l : ℕ) (r : List ℕ) → l < 65536 → is_low_surrogate l ≡ true → content (after_high h) (unit_text l ++ r) ≡ prepend (encode (surrogate_pair h l)) (content plain r)
unfolding content
low_read h l r small low =
    ap (option_and_then (λ u. cond (is_low_surrogate u) (prepend (encode (surrogate_pair h u)) (content plain r)) None)) (code_unit-digits l small)
    ∙ ap (λ b. cond b (prepend (encode (surrogate_pair h l)) (content plain r)) None) low

pair_read : (h l c : ℕ) (r : List ℕ) → 55296 ≤ h → h < 56320 → 56320 ≤ l → l < 57344 → surrogate_pair h l ≡ c → content plain (unit_text h ++ (unit_text l ++ r)) ≡ prepend (encode c) (content plain r)
pair_read h l c r h0 h1 l0 l1 is =
    unit_read h (unit_text l ++ r) (omega arith)
    ∙ ap (λ b. cond b (content (after_high h) (unit_text l ++ r)) (cond (is_low_surrogate h) None (prepend (encode h) (content plain (unit_text l ++ r))))) (and_from (nat_le 55296 h) (nat_lt h 56320) (le-leb 55296 h h0) (lt-ltb h 56320 h1))
    ∙ low_read h l r (omega arith) (and_from (nat_le 56320 l) (nat_lt l 57344) (le-leb 56320 l l0) (lt-ltb l 57344 l1))
    ∙ ap (λ x. prepend (encode x) (content plain r)) is

pair_passes : (c : ℕ) → 65536 ≤ c → c < 1114112 → Passes (unit_text (55296 + (c - 65536) / 1024) ++ unit_text (56320 + (c - 65536) % 1024)) (encode c)
pair_passes c above below =
    let h : ℕ = 55296 + (c - 65536) / 1024 in
    let l : ℕ = 56320 + (c - 65536) % 1024 in
    record {
      read = λ r.
          ap (content plain) (append_assoc (unit_text h) (unit_text l) r) ∙ pair_read h l c r (omega arith) (omega arith) (omega arith) (omega arith) (omega arith);
      lexed = λ r. ap (lex in_string) (append_assoc (unit_text h) (unit_text l) r) ∙ unit_lexed h (unit_text l ++ r) (omega arith) ∙ unit_lexed l r (omega arith);
    }

-- ---- characters up to U+007F

quote_passes : Passes (escape_byte 34) (34 ∷ [])
unfolding escape_byte content lex short_escape
quote_passes = record { read = λ r. refl; lexed = λ r. refl }

backslash_passes : Passes (escape_byte 92) (92 ∷ [])
unfolding escape_byte content lex short_escape
backslash_passes = record { read = λ r. refl; lexed = λ r. refl }

backspace_passes : Passes (escape_byte 8) (8 ∷ [])
unfolding escape_byte content lex short_escape
backspace_passes = record { read = λ r. refl; lexed = λ r. refl }

feed_passes : Passes (escape_byte 12) (12 ∷ [])
unfolding escape_byte content lex short_escape
feed_passes = record { read = λ r. refl; lexed = λ r. refl }

newline_passes : Passes (escape_byte 10) (10 ∷ [])
unfolding escape_byte content lex short_escape
newline_passes = record { read = λ r. refl; lexed = λ r. refl }

return_passes : Passes (escape_byte 13) (13 ∷ [])
unfolding escape_byte content lex short_escape
return_passes = record { read = λ r. refl; lexed = λ r. refl }

tab_passes : Passes (escape_byte 9) (9 ∷ [])
unfolding escape_byte content lex short_escape
tab_passes = record { read = λ r. refl; lexed = λ r. refl }

plain_passes : (x : ℕ) → (x ≡ 34 → ⊥) → (x ≡ 92 → ⊥) → 32 ≤ x → Passes (escape_byte x) (x ∷ [])
unfolding content
plain_passes x q b l =
    let same = escape_byte_plain x q b l in
    record {
      read = λ r. rw (same, ne_eqb x 34 q, ne_eqb x 92 b, le-ltb x 32 l);
      lexed = λ r. ap (λ t. lex in_string (t ++ r)) same ∙ byte_stays x r q b;
    }

control_text : (c : ℕ) → c < 32 → 92 ∷ 117 ∷ 48 ∷ 48 ∷ digit_char (c / 16) ∷ digit_char (c % 16) ∷ [] ≡ unit_text c
control_text c l =
    let first : 0 ≡ c / 4096 = omega arith in
    let second : 0 ≡ c / 256 % 16 = omega arith in
    let third : c / 16 ≡ c / 16 % 16 = omega arith in
    ap (λ n. 92 ∷ 117 ∷ digit_char n ∷ 48 ∷ digit_char (c / 16) ∷ digit_char (c % 16) ∷ []) first
    ∙ ap (λ n. 92 ∷ 117 ∷ digit_char (c / 4096) ∷ digit_char n ∷ digit_char (c / 16) ∷ digit_char (c % 16) ∷ []) second
    ∙ ap (λ n. 92 ∷ 117 ∷ digit_char (c / 4096) ∷ digit_char (c / 256 % 16) ∷ digit_char n ∷ digit_char (c % 16) ∷ []) third

control_escape : (c : ℕ) → c < 32 → (c ≡ 8 → ⊥) → (c ≡ 12 → ⊥) → (c ≡ 10 → ⊥) → (c ≡ 13 → ⊥) → (c ≡ 9 → ⊥) → escape_byte c ≡ 92 ∷ 117 ∷ 48 ∷ 48 ∷ digit_char (c / 16) ∷ digit_char (c % 16) ∷ []
unfolding escape_byte
control_escape c l b f n r t =
    rw (
      ne_eqb c 34 (λ e. omega arith),
      ne_eqb c 92 (λ e. omega arith),
      ne_eqb c 8 b,
      ne_eqb c 12 f,
      ne_eqb c 10 n,
      ne_eqb c 13 r,
      ne_eqb c 9 t,
      lt-ltb c 32 l,
    )

control_passes : (c : ℕ) → c < 32 → (c ≡ 8 → ⊥) → (c ≡ 12 → ⊥) → (c ≡ 10 → ⊥) → (c ≡ 13 → ⊥) → (c ≡ 9 → ⊥) → Passes (escape_byte c) (c ∷ [])
control_passes c l b f n r t =
    subst (Passes (escape_byte c)) (encode_ascii c (omega arith))
    (subst (λ text. Passes text (encode c)) (sym (control_escape c l b f n r t ∙ control_text c l)) (unit_passes c (omega arith) (low_scalar c (omega arith))))

ascii_passes : (c : ℕ) → Passes (escape_byte c) (c ∷ [])
ascii_passes c = choose (cases_eq c 34) (cases_eq c 92) (cases_lt c 32) (cases_eq c 8) (cases_eq c 12) (cases_eq c 10) (cases_eq c 13) (cases_eq c 9)
  where
    choose : (c ≡ 34) ⊎ (c ≡ 34 → ⊥) → (c ≡ 92) ⊎ (c ≡ 92 → ⊥) → (c < 32) ⊎ (32 ≤ c) → (c ≡ 8) ⊎ (c ≡ 8 → ⊥) → (c ≡ 12) ⊎ (c ≡ 12 → ⊥) → (c ≡ 10) ⊎ (c ≡ 10 → ⊥) → (c ≡ 13) ⊎ (c ≡ 13 → ⊥) → (c ≡ 9) ⊎ (c ≡ 9 → ⊥) → Passes (escape_byte c) (c ∷ [])
    choose (inl e) s l b f n r t = subst (λ x. Passes (escape_byte x) (x ∷ [])) (sym e) quote_passes
    choose (inr q) (inl e) l b f n r t = subst (λ x. Passes (escape_byte x) (x ∷ [])) (sym e) backslash_passes
    choose (inr q) (inr s) (inr l) b f n r t = plain_passes c q s l
    choose (inr q) (inr s) (inl l) (inl e) f n r t = subst (λ x. Passes (escape_byte x) (x ∷ [])) (sym e) backspace_passes
    choose (inr q) (inr s) (inl l) (inr b) (inl e) n r t = subst (λ x. Passes (escape_byte x) (x ∷ [])) (sym e) feed_passes
    choose (inr q) (inr s) (inl l) (inr b) (inr f) (inl e) r t = subst (λ x. Passes (escape_byte x) (x ∷ [])) (sym e) newline_passes
    choose (inr q) (inr s) (inl l) (inr b) (inr f) (inr n) (inl e) t = subst (λ x. Passes (escape_byte x) (x ∷ [])) (sym e) return_passes
    choose (inr q) (inr s) (inl l) (inr b) (inr f) (inr n) (inr r) (inl e) = subst (λ x. Passes (escape_byte x) (x ∷ [])) (sym e) tab_passes
    choose (inr q) (inr s) (inl l) (inr b) (inr f) (inr n) (inr r) (inr t) = control_passes c l b f n r t

-- ---- characters

escaped_ascii : (c : ℕ) → c < 128 → escape_byte c ≡ escaped c
unfolding escaped
escaped_ascii c l = rw (lt-ltb c 128 l) refl

escaped_unit : (c : ℕ) → 128 ≤ c → c < 65536 → unit_text c ≡ escaped c
unfolding escaped
escaped_unit c a l = rw (le-ltb c 128 a, lt-ltb c 65536 l) refl

most : (c : ℕ) → (c < 55296) ⊎ ((57344 ≤ c) × (c < 1114112)) → c < 1114112
most c (inl l) = omega arith
most c (inr h) = h.1

character_passes : (c : ℕ) → IsScalar c → Passes (escaped c) (encode c)
character_passes c s =
    elim (cases_lt c 128) [
      | inl low ↦ subst (λ text. Passes text (encode c)) (escaped_ascii c low) (subst (Passes (escape_byte c)) (sym (encode_ascii c low)) (ascii_passes c))
      | inr above ↦
          elim (cases_lt c 65536) [
            | inl unit ↦ subst (λ text. Passes text (encode c)) (escaped_unit c above unit) (unit_passes c unit s)
            | inr high ↦ subst (λ text. Passes text (encode c)) (sym (escaped_high c above high)) (pair_passes c high (most c (scalar_cases c s)))
          ]
    ]

characters_pass : (cs : List ℕ) → scalars cs ≡ true → Passes (flat_map escaped cs) (encodes cs)
characters_pass [] h = none_passes
characters_pass (c ∷ cs) h =
    let parts = and_parts (scalar c) (scalars cs) h in
    both_pass (escaped c) (flat_map escaped cs) (encode c) (encodes cs) (character_passes c parts.0) (characters_pass cs parts.1)

-- ---- whole texts

-- a text that isn't UTF-8 has the escapes of its bytes
escaped_bytes : (t : List ℕ) → is_utf8 t ≡ false → escaped_text t ≡ escape t
unfolding escaped_text
escaped_bytes t e = cond-false (is_utf8 t) (flat_map escaped (chars t)) (escape t) e

utf8_read : (t r : List ℕ) → IsUtf8 t → content plain (escaped_text t ++ 34 ∷ r) ≡ Some t
unfolding content
utf8_read t r u =
    ap (λ e. content plain (e ++ 34 ∷ r)) (escaped_utf8 t u)
    ∙ (characters_pass (chars t) (scalars-chars t u)).read (34 ∷ r)
    ∙ ap Some (append-nil (encodes (chars t)) ∙ encodes-chars t u)

pub text_read : (t r : List ℕ) → content plain (escaped_text t ++ 34 ∷ r) ≡ Some t
text_read t r =
    elim (cases_Bool (is_utf8 t)) [
      | inl e ↦ utf8_read t r (IsUtf8-from_is_utf8 t e)
      | inr e ↦ ap (λ x. content plain (x ++ 34 ∷ r)) (escaped_bytes t e) ∙ content-escape t r
    ]

utf8_passed : (t r : List ℕ) → IsUtf8 t → lex in_string (escaped_text t ++ 34 ∷ r) ≡ lex between r
unfolding lex
utf8_passed t r u =
    ap (λ e. lex in_string (e ++ 34 ∷ r)) (escaped_utf8 t u)
    ∙ (characters_pass (chars t) (scalars-chars t u)).lexed (34 ∷ r)

pub text_passed : (t r : List ℕ) → lex in_string (escaped_text t ++ 34 ∷ r) ≡ lex between r
text_passed t r =
    elim (cases_Bool (is_utf8 t)) [
      | inl e ↦ utf8_passed t r (IsUtf8-from_is_utf8 t e)
      | inr e ↦ ap (λ x. lex in_string (x ++ 34 ∷ r)) (escaped_bytes t e) ∙ lex-escape t r
    ]

-- ---- digits stand for themselves

digit_bytes : (x : ℕ) → is_digit_byte x ≡ true → (x ≡ 34 → ⊥) × ((x ≡ 92 → ⊥) × (32 ≤ x))
digit_bytes x h =
    elim (or_cases (nat_le 48 x && nat_le x 57) (nat_le 97 x && nat_le x 102) h) [
      | inl low ↦ from_low (leb-true 48 x (and_parts (nat_le 48 x) (nat_le x 57) low).0) (leb-true x 57 (and_parts (nat_le 48 x) (nat_le x 57) low).1)
      | inr high ↦ from_high (leb-true 97 x (and_parts (nat_le 97 x) (nat_le x 102) high).0) (leb-true x 102 (and_parts (nat_le 97 x) (nat_le x 102) high).1)
    ]
  where
    from_low : 48 ≤ x → x ≤ 57 → (x ≡ 34 → ⊥) × ((x ≡ 92 → ⊥) × (32 ≤ x))
    from_low a b = (λ e. omega arith, (λ e. omega arith, omega arith))

    from_high : 97 ≤ x → x ≤ 102 → (x ≡ 34 → ⊥) × ((x ≡ 92 → ⊥) × (32 ≤ x))
    from_high a b = (λ e. omega arith, (λ e. omega arith, omega arith))

digits_pass : (ds : List ℕ) → list_all is_digit_byte ds ≡ true → Passes ds ds
digits_pass [] h = none_passes
digits_pass (d ∷ ds) h =
    let parts = and_parts (is_digit_byte d) (list_all is_digit_byte ds) h in
    let byte = digit_bytes d parts.0 in
    both_pass (d ∷ []) ds (d ∷ []) ds
    (subst (λ text. Passes text (d ∷ [])) (escape_byte_plain d byte.0 byte.1.0 byte.1.1) (plain_passes d byte.0 byte.1.0 byte.1.1)) (digits_pass ds parts.1)

pub digits_read : (ds r : List ℕ) → list_all is_digit_byte ds ≡ true → content plain (ds ++ 34 ∷ r) ≡ Some ds
unfolding content
digits_read ds r h = (digits_pass ds h).read (34 ∷ r) ∙ ap Some (append-nil ds)

pub digits_passed : (ds r : List ℕ) → list_all is_digit_byte ds ≡ true → lex in_string (ds ++ 34 ∷ r) ≡ lex between r
unfolding lex
digits_passed ds r h = (digits_pass ds h).lexed (34 ∷ r)

-- ---- all of it is ASCII

abbrev pub are_ascii : List ℕ → Bool
are_ascii text = list_all (λ x. nat_lt x 128) text

-- the escapes of the bytes below n are ASCII
abbrev ascii_below : ℕ → Bool
ascii_below zero = true
ascii_below (suc n) = are_ascii (escape_byte n) && ascii_below n

ascii_byte : (n c : ℕ) → ascii_below n ≡ true → c < n → are_ascii (escape_byte c) ≡ true
ascii_byte zero c h l = absurd (omega arith)
ascii_byte (suc n) c h l =
    let parts = and_parts (are_ascii (escape_byte n)) (ascii_below n) h in
    elim (cases_eq c n) [
      | inl same ↦ subst (λ (x : ℕ). are_ascii (escape_byte x) ≡ true) (sym same) parts.0
      | inr lower ↦ ascii_byte n c parts.1 (omega arith)
    ]

all_bytes : ascii_below 128 ≡ true
unfolding escape_byte
all_bytes = refl

digit_ascii : (n : ℕ) → n < 16 → nat_lt (digit_char n) 128 ≡ true
digit_ascii n l = small (digit_char n) (digit_range n l)
  where
    small : (x : ℕ) → ((48 ≤ x) × (x < 58)) ⊎ ((97 ≤ x) × (x < 103)) → nat_lt x 128 ≡ true
    small x (inl r) = lt-ltb x 128 (omega (arith, r.1))
    small x (inr r) = lt-ltb x 128 (omega (arith, r.1))

unit_ascii : (u : ℕ) → u < 65536 → are_ascii (unit_text u) ≡ true
unit_ascii u l =
    and_from (nat_lt (digit_char (u / 4096)) 128) (nat_lt (digit_char (u / 256 % 16)) 128 && (nat_lt (digit_char (u / 16 % 16)) 128 && (nat_lt (digit_char (u % 16)) 128 && true))) (digit_ascii (u / 4096) (omega arith))
    (and_from (nat_lt (digit_char (u / 256 % 16)) 128) (nat_lt (digit_char (u / 16 % 16)) 128 && (nat_lt (digit_char (u % 16)) 128 && true)) (digit_ascii (u / 256 % 16) (omega arith))
    (and_from (nat_lt (digit_char (u / 16 % 16)) 128) (nat_lt (digit_char (u % 16)) 128 && true) (digit_ascii (u / 16 % 16) (omega arith))
    (and_from (nat_lt (digit_char (u % 16)) 128) true (digit_ascii (u % 16) (omega arith)) refl)))

pub ascii_both : (a b : List ℕ) → are_ascii a ≡ true → are_ascii b ≡ true → are_ascii (a ++ b) ≡ true
ascii_both [] b h k = k
ascii_both (x ∷ a) b h k =
    let parts = and_parts (nat_lt x 128) (are_ascii a) h in and_from (nat_lt x 128) (are_ascii (a ++ b)) parts.0 (ascii_both a b parts.1 k)

character_ascii : (c : ℕ) → IsScalar c → are_ascii (escaped c) ≡ true
character_ascii c s =
    elim (cases_lt c 128) [
      | inl low ↦ subst (λ (t : List ℕ). are_ascii t ≡ true) (escaped_ascii c low) (ascii_byte 128 c all_bytes low)
      | inr above ↦
          elim (cases_lt c 65536) [
            | inl unit ↦ subst (λ (t : List ℕ). are_ascii t ≡ true) (escaped_unit c above unit) (unit_ascii c unit)
            | inr high ↦ subst (λ (t : List ℕ). are_ascii t ≡ true) (sym (escaped_high c above high)) (pair_ascii (most c (scalar_cases c s)) high)
          ]
    ]
  where
    pair_ascii : c < 1114112 → 65536 ≤ c → are_ascii (unit_text (55296 + (c - 65536) / 1024) ++ unit_text (56320 + (c - 65536) % 1024)) ≡ true
    pair_ascii below above =
        ascii_both (unit_text (55296 + (c - 65536) / 1024)) (unit_text (56320 + (c - 65536) % 1024)) (unit_ascii (55296 + (c - 65536) / 1024) (omega arith)) (unit_ascii (56320 + (c - 65536) % 1024) (omega arith))

characters_ascii : (cs : List ℕ) → scalars cs ≡ true → are_ascii (flat_map escaped cs) ≡ true
characters_ascii [] h = refl
characters_ascii (c ∷ cs) h =
    let parts = and_parts (scalar c) (scalars cs) h in
    ascii_both (escaped c) (flat_map escaped cs) (character_ascii c parts.0) (characters_ascii cs parts.1)

pub text_ascii : (t : List ℕ) → IsUtf8 t → are_ascii (escaped_text t) ≡ true
text_ascii t u = ap are_ascii (escaped_utf8 t u) ∙ characters_ascii (chars t) (scalars-chars t u)

pub digits_ascii : (ds : List ℕ) → list_all is_digit_byte ds ≡ true → are_ascii ds ≡ true
digits_ascii [] h = refl
digits_ascii (d ∷ ds) h =
    let parts = and_parts (is_digit_byte d) (list_all is_digit_byte ds) h in
    and_from (nat_lt d 128) (are_ascii ds) (low d (or_cases (nat_le 48 d && nat_le d 57) (nat_le 97 d && nat_le d 102) parts.0)) (digits_ascii ds parts.1)
  where
    low : (x : ℕ) → ((nat_le 48 x && nat_le x 57) ≡ true) ⊎ ((nat_le 97 x && nat_le x 102) ≡ true) → nat_lt x 128 ≡ true
    low x (inl h) = lt-ltb x 128 (omega (arith, leb-true x 57 (and_parts (nat_le 48 x) (nat_le x 57) h).1))
    low x (inr h) = lt-ltb x 128 (omega (arith, leb-true x 102 (and_parts (nat_le 97 x) (nat_le x 102) h).1))

past_end : (xs : List ℕ) (i : ℕ) → length xs ≡ 0 → slice_index xs i < 128
past_end xs i none = omega (arith, get_or_past xs i 0 (omega arith))

pub ascii_utf8 : (t : List ℕ) → are_ascii t ≡ true → is_utf8 t ≡ true
ascii_utf8 t h = is_utf8-from_IsUtf8 t (IsUtf8-from_ascii t (bytes t h))
  where
    bytes : (t : List ℕ) → are_ascii t ≡ true → (i : ℕ) → slice_index t i < 128
    bytes [] h i = past_end [] i refl
    bytes (x ∷ t) h zero = ltb-true x 128 (and_parts (nat_lt x 128) (are_ascii t) h).0
    bytes (x ∷ t) h (suc i) = bytes t (and_parts (nat_lt x 128) (are_ascii t) h).1 i
