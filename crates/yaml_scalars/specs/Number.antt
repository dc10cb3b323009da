-- Numbers as they are written (10.3.2).
--     number base t      what the digits of t stand for
--     parts_of t         the parts of a number with a point or an exponent, or of a whole one
--     is_wide p          the number needs more than 128 bits, or its exponent more than 30 digits
use Rattle.std.specs.Prelude.{ℕ, zero, suc, ◌+◌, ◌-◌, ◌*◌, ◌^◌, Bool, true, false, not, ◌&&◌, ◌||◌, if◌then◌else◌, ◌==◌, nat_lt, nat_le, List, [], ◌∷◌, ◌++◌, length, take, drop, slice_index, Option, Some, None}
use Rattle.std.specs.Char.{is_ascii_digit, is_ascii_hexdigit}
use Rattle.std.specs.List.{prefix_len, list_all, fold}
use Rattle.yaml_text.specs.Characters.{plus, dash, point, digit_zero, digit_seven, capital_e, small_e}
use Rattle.yaml_text.specs.Outcome.{Text}
use Rattle.yaml_scalars.specs.Quoted.{digit_value}

abbrev pub with_base : ℕ → ℕ → ℕ → ℕ
with_base base n b = n * base + digit_value b

abbrev pub number : ℕ → Text → ℕ
number base = fold (with_base base) 0

abbrev pub past_sign : Text → Text
past_sign t = if slice_index t 0 == plus || slice_index t 0 == dash then drop 1 t else t

abbrev pub is_negative : Text → Bool
is_negative t = slice_index t 0 == dash

abbrev pub digits_len : Text → ℕ
digits_len = prefix_len is_ascii_digit

abbrev pub is_octal_digit : ℕ → Bool
is_octal_digit b = nat_le digit_zero b && nat_le b digit_seven

-- digits of the kind that the test takes, one at least
abbrev pub are_all : (ℕ → Bool) → Text → Bool
are_all test t = nat_lt 0 (length t) && list_all test t

-- ---- numbers with a point or an exponent

pub record Parts : Type 0 where
  -- the digits before and behind the point
  pub whole : Text
  pub fraction : Text
  -- whether the exponent has a `-`, and its digits
  pub below : Bool
  pub exponent : Text

abbrev pub exponent_of : Text → Text → Text → Option Parts
exponent_of whole fraction [] = Some (record { whole = whole; fraction = fraction; below = false; exponent = [] })
exponent_of whole fraction (b ∷ t) =
    if (b == small_e || b == capital_e) && are_all is_ascii_digit (past_sign t)
    then Some (record { whole = whole; fraction = fraction; below = is_negative t; exponent = past_sign t }) else None

-- behind the point
abbrev pub fraction_of : Text → Text → Option Parts
fraction_of whole t = if digits_len t == 0 then None else exponent_of whole (take (digits_len t) t) (drop (digits_len t) t)

abbrev pub behind_whole : Text → Text → Option Parts
behind_whole whole t =
    if slice_index t 0 == point then fraction_of whole (drop 1 t)
    else if length whole == 0 then None
    else exponent_of whole [] t

abbrev pub unsigned_parts : Text → Option Parts
unsigned_parts t = behind_whole (take (digits_len t) t) (drop (digits_len t) t)

unfoldable pub parts_of : Text → Option Parts
parts_of t = unsigned_parts (past_sign t)

-- a number without the zeros at its end, and how many those are
abbrev pub with_digit : ℕ × ℕ → ℕ → ℕ × ℕ
with_digit n b = if b == digit_zero then (n.0, n.1 + 1) else (n.0 * 10 ^ (n.1 + 1) + digit_value b, 0)

abbrev pub significant_part : Text → ℕ × ℕ
significant_part = fold with_digit (0, 0)

abbrev pub distance : ℕ → ℕ → ℕ
distance a b = (a - b) + (b - a)

-- the size of the exponent in canonical form: that of the number whose digits have `zeros` zeros taken off
abbrev pub canonical_exponent : Bool → ℕ → ℕ → ℕ → ℕ
canonical_exponent true exponent zeros fraction = distance zeros (exponent + fraction)
canonical_exponent false exponent zeros fraction = distance (exponent + zeros) fraction

abbrev pub is_wide_number : ℕ × ℕ → Parts → Bool
is_wide_number n p =
    nat_lt (2 ^ 127) n.0 || nat_lt 30 (length p.exponent)
    || (nat_lt 0 n.0 && nat_le (10 ^ 30) (canonical_exponent p.below (number 10 p.exponent) n.1 (length p.fraction)))

unfoldable pub is_wide : Parts → Bool
is_wide p = is_wide_number (significant_part (p.whole ++ p.fraction)) p
