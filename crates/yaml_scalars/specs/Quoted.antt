-- Quoted scalars (7.3.1, 7.3.2), read from behind the opening quote, a single or a double one. `over` tells that they may go over
-- lines.
--     quoted quote over t     the scalar's text, its lines folded (6.5), and what is left behind the closing quote
--     escape t                behind a backslash: the character that the escape stands for (5.7), and what is left behind it
use Rattle.std.specs.Prelude.{ℕ, zero, suc, ◌+◌, ◌-◌, ◌*◌, Bool, true, false, not, ◌&&◌, ◌||◌, if◌then◌else◌, ◌==◌, nat_lt, nat_le, List, [], ◌∷◌, ◌++◌, take, drop, replicate, slice_index, Option, Some, None, Ok, option_map, option_and_then}
use Rattle.std.specs.Char.{is_ascii_hexdigit, encode_utf8}
use Rattle.std.specs.List.{prefix_len}
use Rattle.yaml_text.specs.Characters.{tab, line_feed, carriage_return, space, double_quote, single_quote, slash, backslash, underscore, digit_zero, digit_nine, capital_f, capital_l, capital_n, capital_p, capital_u, small_a, small_b, small_e, small_f, small_n, small_r, small_t, small_u, small_v, small_x, capital_offset, small_offset, null, bell, backspace, vertical_tab, form_feed, escape_character, next_line_character, no_break_space, line_separator, paragraph_separator, first_high_surrogate, first_low_surrogate, behind_surrogates, first_supplementary, behind_characters}
use Rattle.yaml_text.specs.Outcome.{Text, Outcome, Step, ◌>>=◌, syntax}
use Rattle.yaml_text.specs.Line.{is_white, is_bad, past_white, blank_lines, breaks}
use Rattle.yaml_scalars.specs.Turns.{Turn, all_turns}

-- ---- escapes

-- the value of a hexadecimal digit, and of any digit
abbrev pub digit_value : ℕ → ℕ
digit_value b = if nat_le b digit_nine then b - digit_zero else (if nat_le b capital_f then b - capital_offset else b - small_offset)

abbrev pub hex_digit : Text → Option (ℕ × Text)
hex_digit [] = None
hex_digit (b ∷ t) = if is_ascii_hexdigit b then Some (digit_value b, t) else None

-- a number in two, four and eight digits: that of `high`, with the low digits behind it
abbrev pub with_low_digits : ℕ → (Text → Option (ℕ × Text)) → ℕ × Text → Option (ℕ × Text)
with_low_digits scale read high = option_and_then (λ low. Some (scale * high.0 + low.0, low.1)) (read high.1)

unfoldable pub hex_2 : Text → Option (ℕ × Text)
hex_2 t = option_and_then (with_low_digits 16 hex_digit) (hex_digit t)

unfoldable pub hex_4 : Text → Option (ℕ × Text)
hex_4 t = option_and_then (with_low_digits 256 hex_2) (hex_2 t)

unfoldable pub hex_8 : Text → Option (ℕ × Text)
hex_8 t = option_and_then (with_low_digits 65536 hex_4) (hex_4 t)

abbrev pub is_high : ℕ → Bool
is_high c = nat_le first_high_surrogate c && nat_lt c first_low_surrogate

abbrev pub is_low : ℕ → Bool
is_low c = nat_le first_low_surrogate c && nat_lt c behind_surrogates

abbrev pub is_character : ℕ → Bool
is_character c = nat_lt c first_high_surrogate || (nat_le behind_surrogates c && nat_lt c behind_characters)

abbrev pub character : ℕ × Text → Option (ℕ × Text)
character c = if is_character c.0 then Some c else None

-- the character that a high and a low surrogate stand for
abbrev pub pair_character : ℕ → ℕ × Text → Option (ℕ × Text)
pair_character high c =
    if is_low c.0 then character (first_supplementary + (high - first_high_surrogate) * 1024 + (c.0 - first_low_surrogate), c.1)
    else None

-- behind a high surrogate: the escape of a low one
unfoldable pub surrogate_pair : ℕ → Text → Option (ℕ × Text)
surrogate_pair high t =
    if slice_index t 0 == backslash && slice_index t 1 == small_u then option_and_then (pair_character high) (hex_4 (drop 2 t)) else None

-- the character of a unit of UTF-16; a high surrogate takes the low one behind it with it
abbrev pub unit_character : ℕ × Text → Option (ℕ × Text)
unit_character c = if is_high c.0 then surrogate_pair c.0 c.1 else character c

-- the character of an escape of one letter
abbrev pub letter : ℕ → Option ℕ
letter b =
    if b == digit_zero then Some null
    else if b == small_a then Some bell
    else if b == small_b then Some backspace
    else if b == small_t then Some tab
    else if b == small_n then Some line_feed
    else if b == small_v then Some vertical_tab
    else if b == small_f then Some form_feed
    else if b == small_r then Some carriage_return
    else if b == small_e then Some escape_character
    else if b == double_quote || b == slash || b == backslash || b == space then Some b
    else if b == capital_n then Some next_line_character
    else if b == underscore then Some no_break_space
    else if b == capital_l then Some line_separator
    else if b == capital_p then Some paragraph_separator
    else None

abbrev pub escape_by : ℕ → Text → Option (ℕ × Text)
escape_by b t =
    if b == small_x then option_and_then character (hex_2 t)
    else if b == small_u then option_and_then unit_character (hex_4 t)
    else if b == capital_u then option_and_then character (hex_8 t)
    else option_map (λ c. (c, t)) (letter b)

unfoldable pub escape : Text → Option (ℕ × Text)
escape [] = None
escape (b ∷ t) = escape_by b t

-- ---- a turn goes to the next byte that has a meaning

abbrev pub is_literal : ℕ → ℕ → Bool
is_literal quote b = not (b == quote || b == line_feed || is_bad b || (quote == double_quote && b == backslash))

-- how long the text is without white space at its end
abbrev pub solid_len : Text → ℕ
solid_len [] = 0
solid_len (b ∷ t) = if solid_len t == 0 && is_white b then 0 else suc (solid_len t)

-- behind a line break, which lines are folded at, and behind one with a backslash before it, which joins them
unfoldable pub fold_lines : Text → Text → Turn Text
fold_lines found t = (false, (found ++ breaks (blank_lines t).0, past_white (blank_lines t).1))

unfoldable pub join_lines : Text → Text → Turn Text
join_lines found t = (false, (found ++ replicate (blank_lines t).0 line_feed, past_white (blank_lines t).1))

abbrev pub with_escape : Text → Text → Option (ℕ × Text) → Outcome (Turn Text)
with_escape found at None = syntax at
with_escape found at (Some e) = Ok (false, (found ++ encode_utf8 e.0, e.1))

-- behind a backslash, which `at` begins with
unfoldable pub at_backslash : Bool → Text → Text → Text → Outcome (Turn Text)
at_backslash over found at t =
    if slice_index t 0 == line_feed then (if over then Ok (join_lines found (drop 1 t)) else syntax at) else with_escape found at (escape t)

abbrev pub at_quote : ℕ → Text → Text → Turn Text
at_quote quote found t = if quote == single_quote && slice_index t 0 == single_quote then (false, (found ++ single_quote ∷ [], drop 1 t)) else (true, (found, t))

-- at a line break, which `at` begins with, behind `piece`
abbrev pub at_break : Bool → Text → Text → Text → Text → Outcome (Turn Text)
at_break over found piece at t = if over then Ok (fold_lines (found ++ take (solid_len piece) piece) t) else syntax at

-- at the next byte with a meaning, before which `piece` stands
abbrev pub at_meaning : ℕ → Bool → Text → Text → Text → Outcome (Turn Text)
at_meaning quote over found piece [] = syntax []
at_meaning quote over found piece (b ∷ t) =
    if b == line_feed then at_break over found piece (b ∷ t) t
    else if is_bad b then syntax (b ∷ t)
    else if b == quote then Ok (at_quote quote (found ++ piece) t)
    else at_backslash over (found ++ piece) (b ∷ t) t

unfoldable pub literal_len : ℕ → Text → ℕ
literal_len quote t = prefix_len (is_literal quote) t

unfoldable pub quoted_turn : ℕ → Bool → Text → Text → Outcome (Turn Text)
quoted_turn quote over found t = at_meaning quote over found (take (literal_len quote t) t) (drop (literal_len quote t) t)

unfoldable pub quoted : ℕ → Bool → Text → Step Text
quoted quote over t = all_turns (quoted_turn quote over) [] t
