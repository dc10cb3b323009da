-- Quoted scalars, a byte and a turn at a time.
use Rattle.std.proofs.Common.{◌≡◌, ℕ, zero, suc, ◌+◌, ◌-◌, ◌*◌, ◌<◌, ◌≤◌, eqb, Bool, true, false, cond, ◌&&◌, [], ◌∷◌, ◌++◌, length, get_or, take, drop, Option, Some, None, Ok, Err, ap, sym, ◌∙◌, arith}
use Rattle.std.specs.Prelude.{option_and_then, option_map, slice_index}
use Rattle.std.specs.Option.{IfSome}
use Rattle.std.specs.Char.{is_ascii_hexdigit}
use Rattle.std.proofs.lemmas.Bool.Decides.{nat_tests}
use Rattle.yaml_text.specs.Outcome.{Text, Outcome, syntax}
use Rattle.yaml_text.specs.Line.{is_white, is_bad, blank_lines}
use Rattle.yaml_text.proofs.LineLemmas.{drop_le, past_white_le, blank_lines_le}
use Rattle.yaml_scalars.specs.Turns.{Turn}
use Rattle.yaml_scalars.specs.Quoted.{digit_value, hex_digit, with_low_digits, hex_2, hex_4, hex_8, is_high, is_low, is_character, character, pair_character, surrogate_pair, unit_character, letter, escape_by, escape, solid_len, fold_lines, join_lines, with_escape, at_backslash, at_quote, at_break, at_meaning, literal_len, quoted_turn}
use Rattle.yaml_scalars.proofs.TurnLemmas.{Shrinks, ok_same}

-- ---- white space at the end of a piece

chosen_by : {A : Type 0} (b c : Bool) (x y : A) → b ≡ c → cond b x y ≡ cond c x y
chosen_by b c x y h = ap (λ v. cond v x y) h

pub white_end : (t : Text) (n : ℕ) → n < length t → is_white (get_or t n 0) ≡ true → solid_len (take n t) ≡ solid_len (take (suc n) t)
white_end [] n h w = absurd (omega arith)
white_end (b ∷ t) zero h w = sym (ap (λ v. cond v 0 1) w)
white_end (b ∷ t) (suc n) h w =
    ap (λ k. cond (eqb k 0 && is_white b) 0 (suc k)) (white_end t n (omega arith) w)

never_none : (k : ℕ) (w : Bool) → 0 < k → cond (eqb k 0 && w) 0 (suc k) ≡ suc k
never_none zero w h = absurd (omega arith)
never_none (suc k) w h = let e : eqb (suc k) 0 ≡ false = grind (arith, nat_tests) in ap (λ v. cond (v && w) 0 (suc (suc k))) e

pub solid_end : (t : Text) (n : ℕ) → n < length t → is_white (get_or t n 0) ≡ false → solid_len (take (suc n) t) ≡ suc n
solid_end [] n h w = absurd (omega arith)
solid_end (b ∷ t) zero h w = ap (λ v. cond v 0 1) w
solid_end (b ∷ t) (suc n) h w =
    let e = solid_end t n (omega arith) w in
    ap (λ k. cond (eqb k 0 && is_white b) 0 (suc k)) e ∙ never_none (suc n) (is_white b) (omega arith)

-- ---- an escape leaves no more than there was

abbrev Within : ℕ → Option (ℕ × Text) → Type 0
Within n o = IfSome o (λ r. length r.1 ≤ n)

then_within : (n : ℕ) (f : ℕ × Text → Option (ℕ × Text)) (o : Option (ℕ × Text)) → Within n o → ((c : ℕ × Text) → length c.1 ≤ n → Within n (f c)) → Within n (option_and_then f o)
then_within n f None h k = tt
then_within n f (Some c) h k = k c h

cond_within : (n : ℕ) (b : Bool) (x y : Option (ℕ × Text)) → Within n x → Within n y → Within n (cond b x y)
cond_within n true x y h k = h
cond_within n false x y h k = k

hex_digit_within : (n : ℕ) (t : Text) → length t ≤ n → Within n (hex_digit t)
hex_digit_within n [] h = tt
hex_digit_within n (b ∷ t) h = cond_within n (is_ascii_hexdigit b) (Some (digit_value b, t)) None (omega arith) tt

with_low_digits_within : (n scale : ℕ) (read : Text → Option (ℕ × Text)) → ((u : Text) → length u ≤ n → Within n (read u)) → (c : ℕ × Text) → length c.1 ≤ n → Within n (with_low_digits scale read c)
with_low_digits_within n scale read h c k = then_within n (λ low. Some (scale * c.0 + low.0, low.1)) (read c.1) (h c.1 k) (λ low l. l)

hex_2_within : (n : ℕ) (t : Text) → length t ≤ n → Within n (hex_2 t)
unfolding hex_2
hex_2_within n t h = then_within n (with_low_digits 16 hex_digit) (hex_digit t) (hex_digit_within n t h) (with_low_digits_within n 16 hex_digit (hex_digit_within n))

hex_4_within : (n : ℕ) (t : Text) → length t ≤ n → Within n (hex_4 t)
unfolding hex_4
hex_4_within n t h = then_within n (with_low_digits 256 hex_2) (hex_2 t) (hex_2_within n t h) (with_low_digits_within n 256 hex_2 (hex_2_within n))

hex_8_within : (n : ℕ) (t : Text) → length t ≤ n → Within n (hex_8 t)
unfolding hex_8
hex_8_within n t h = then_within n (with_low_digits 65536 hex_4) (hex_4 t) (hex_4_within n t h) (with_low_digits_within n 65536 hex_4 (hex_4_within n))

character_within : (n : ℕ) (c : ℕ × Text) → length c.1 ≤ n → Within n (character c)
character_within n c h = cond_within n (is_character c.0) (Some c) None h tt

pair_character_within : (n high : ℕ) (c : ℕ × Text) → length c.1 ≤ n → Within n (pair_character high c)
pair_character_within n high c h =
    let whole : ℕ × Text = (65536 + (high - 55296) * 1024 + (c.0 - 56320), c.1) in
    cond_within n (is_low c.0) (character whole) None (character_within n whole h) tt

surrogate_pair_within : (n high : ℕ) (t : Text) → length t ≤ n → Within n (surrogate_pair high t)
unfolding surrogate_pair
surrogate_pair_within n high t h =
    cond_within n (eqb (slice_index t 0) 92 && eqb (slice_index t 1) 117) (option_and_then (pair_character high) (hex_4 (drop 2 t))) None
    (then_within n (pair_character high) (hex_4 (drop 2 t)) (hex_4_within n (drop 2 t) (omega (arith, drop_le 2 t))) (pair_character_within n high)) tt

unit_character_within : (n : ℕ) (c : ℕ × Text) → length c.1 ≤ n → Within n (unit_character c)
unit_character_within n c h = cond_within n (is_high c.0) (surrogate_pair c.0 c.1) (character c) (surrogate_pair_within n c.0 c.1 h) (character_within n c h)

lettered_within : (n : ℕ) (o : Option ℕ) (t : Text) → length t ≤ n → Within n (option_map (λ c. (c, t)) o)
lettered_within n None t h = tt
lettered_within n (Some c) t h = h

escape_by_within : (n b : ℕ) (t : Text) → length t ≤ n → Within n (escape_by b t)
escape_by_within n b t h =
    cond_within n (eqb b 120) (option_and_then character (hex_2 t)) (cond (eqb b 117) (option_and_then unit_character (hex_4 t)) (cond (eqb b 85) (option_and_then character (hex_8 t)) (option_map (λ c. (c, t)) (letter b))))
    (then_within n character (hex_2 t) (hex_2_within n t h) (character_within n))
    (cond_within n (eqb b 117) (option_and_then unit_character (hex_4 t)) (cond (eqb b 85) (option_and_then character (hex_8 t)) (option_map (λ c. (c, t)) (letter b)))
    (then_within n unit_character (hex_4 t) (hex_4_within n t h) (unit_character_within n))
    (cond_within n (eqb b 85) (option_and_then character (hex_8 t)) (option_map (λ c. (c, t)) (letter b))
    (then_within n character (hex_8 t) (hex_8_within n t h) (character_within n))
    (lettered_within n (letter b) t h)))

escape_within : (n : ℕ) (t : Text) → length t ≤ n → Within n (escape t)
unfolding escape
escape_within n [] h = tt
escape_within n (b ∷ t) h = escape_by_within n b t (omega arith)

-- ---- each turn takes something

-- what an outcome leaves is no more than n
abbrev pub Leaves : ℕ → Outcome (Turn Text) → Type 0
Leaves n (Ok r) = length r.1.1 ≤ n
Leaves n (Err e) = Unit {0}

cond_leaves : (n : ℕ) (b : Bool) (x y : Outcome (Turn Text)) → Leaves n x → Leaves n y → Leaves n (cond b x y)
cond_leaves n true x y h k = h
cond_leaves n false x y h k = k

fold_lines_leaves : (n : ℕ) (found t : Text) → length t ≤ n → length (fold_lines found t).1.1 ≤ n
unfolding fold_lines
fold_lines_leaves n found t h = omega (arith, past_white_le (blank_lines t).1, blank_lines_le t)

join_lines_leaves : (n : ℕ) (found t : Text) → length t ≤ n → length (join_lines found t).1.1 ≤ n
unfolding join_lines
join_lines_leaves n found t h = omega (arith, past_white_le (blank_lines t).1, blank_lines_le t)

with_escape_leaves : (n : ℕ) (found at : Text) (o : Option (ℕ × Text)) → Within n o → Leaves n (with_escape found at o)
with_escape_leaves n found at None h = tt
with_escape_leaves n found at (Some c) h = h

at_backslash_leaves : (n : ℕ) (over : Bool) (found at t : Text) → length t ≤ n → Leaves n (at_backslash over found at t)
unfolding at_backslash
at_backslash_leaves n over found at t h =
    cond_leaves n (eqb (slice_index t 0) 10) (cond over (Ok (join_lines found (drop 1 t))) (syntax at)) (with_escape found at (escape t))
    (cond_leaves n over (Ok (join_lines found (drop 1 t))) (syntax at) (join_lines_leaves n found (drop 1 t) (omega (arith, drop_le 1 t))) tt)
    (with_escape_leaves n found at (escape t) (escape_within n t h))

cond_shorter : (n : ℕ) (b : Bool) (x y : Turn Text) → length x.1.1 ≤ n → length y.1.1 ≤ n → length (cond b x y).1.1 ≤ n
cond_shorter n true x y h k = h
cond_shorter n false x y h k = k

pub at_meaning_leaves : (n quote : ℕ) (over : Bool) (found piece t : Text) → length t ≤ suc n → Leaves n (at_meaning quote over found piece t)
at_meaning_leaves n quote over found piece [] h = tt
at_meaning_leaves n quote over found piece (b ∷ t) h =
    let k : length t ≤ n = omega arith in
    let quoted = at_quote quote (found ++ piece) t in
    cond_leaves n (eqb b 10) (at_break over found piece (b ∷ t) t) (cond (is_bad b) (syntax (b ∷ t)) (cond (eqb b quote) (Ok quoted) (at_backslash over (found ++ piece) (b ∷ t) t)))
    (cond_leaves n over (Ok (fold_lines (found ++ take (solid_len piece) piece) t)) (syntax (b ∷ t)) (fold_lines_leaves n (found ++ take (solid_len piece) piece) t k) tt)
    (cond_leaves n (is_bad b) (syntax (b ∷ t)) (cond (eqb b quote) (Ok quoted) (at_backslash over (found ++ piece) (b ∷ t) t)) tt
    (cond_leaves n (eqb b quote) (Ok quoted) (at_backslash over (found ++ piece) (b ∷ t) t)
    (cond_shorter n (eqb quote 39 && eqb (slice_index t 0) 39) (false, ((found ++ piece) ++ 39 ∷ [], drop 1 t)) (true, (found ++ piece, t)) (omega (arith, drop_le 1 t)) k)
    (at_backslash_leaves n over (found ++ piece) (b ∷ t) t k)))

leaves_ok : (n : ℕ) (o : Outcome (Turn Text)) (r : Turn Text) → o ≡ Ok r → Leaves n o → length r.1.1 ≤ n
leaves_ok n (Ok x) r is h = omega (arith, h, ap (λ v. length v.1.1) (ok_same is))
leaves_ok n (Err e) r is h = absurd (cc)

at_meaning_less : (quote : ℕ) (over : Bool) (found piece t u : Text) (r : Text × Text) → length u ≤ length t → at_meaning quote over found piece u ≡ Ok (false, r) → length r.1 < length t
at_meaning_less quote over found piece t [] r h is = absurd (cc)
at_meaning_less quote over found piece t (b ∷ u) r h is =
    let left = leaves_ok (length u) (at_meaning quote over found piece (b ∷ u)) (false, r) is (at_meaning_leaves (length u) quote over found piece (b ∷ u) (omega arith)) in
    omega arith

pub quoted_shrinks : (quote : ℕ) (over : Bool) → Shrinks (quoted_turn quote over)
unfolding quoted_turn
quoted_shrinks quote over s t r is =
    at_meaning_less quote over s (take (literal_len quote t) t) t (drop (literal_len quote t) t) r (drop_le (literal_len quote t) t) is
