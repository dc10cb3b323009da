-- What a plain scalar stands for, by its text (10.3.2).
--     scalar left t     the node; a number that is too wide is refused, with `left` bytes left
use Rattle.std.specs.Prelude.{ℕ, zero, suc, ◌*◌, ◌^◌, ℤ, pos, negsuc, Bool, true, false, ◌&&◌, ◌||◌, if◌then◌else◌, ◌==◌, nat_lt, nat_le, [], ◌∷◌, length, drop, slice_index, bytes_eq, codes, Option, Some, None, Ok, Err, option_map}
use Rattle.std.specs.Char.{is_ascii_digit, is_ascii_hexdigit}
use Rattle.dvc_base.specs.declared.node.Node.{Node}
use Rattle.dvc_base.specs.declared.node.Node.TheVariants as nd
use Rattle.yaml_text.specs.declared.refusal.Refusal.TheVariants.{TooWide}
use Rattle.yaml_text.specs.Characters.{digit_zero, small_o, small_x}
use Rattle.yaml_text.specs.Outcome.{Text, Outcome}
use Rattle.yaml_scalars.specs.Number.{number, past_sign, is_negative, is_octal_digit, are_all, Parts, parts_of, is_wide}

abbrev pub is_null : Text → Bool
is_null t = length t == 0 || bytes_eq t (codes "~") || bytes_eq t (codes "null") || bytes_eq t (codes "Null") || bytes_eq t (codes "NULL")

abbrev pub is_true : Text → Bool
is_true t = bytes_eq t (codes "true") || bytes_eq t (codes "True") || bytes_eq t (codes "TRUE")

abbrev pub is_false : Text → Bool
is_false t = bytes_eq t (codes "false") || bytes_eq t (codes "False") || bytes_eq t (codes "FALSE")

-- begins with 0 and this letter
abbrev pub is_based : ℕ → Text → Bool
is_based sign t = slice_index t 0 == digit_zero && slice_index t 1 == sign

abbrev pub is_octal : Text → Bool
is_octal t = is_based small_o t && are_all is_octal_digit (drop 2 t)

abbrev pub is_hexadecimal : Text → Bool
is_hexadecimal t = is_based small_x t && are_all is_ascii_hexdigit (drop 2 t)

abbrev pub is_decimal_whole : Text → Bool
is_decimal_whole t = are_all is_ascii_digit (past_sign t)

-- a size with its sign
abbrev pub with_sign : Bool → ℕ → ℤ
with_sign false n = pos n
with_sign true zero = pos zero
with_sign true (suc n) = negsuc n

-- from -(2^127) to 2^127 - 1
abbrev pub fits_whole : Bool → ℕ → Bool
fits_whole true n = nat_le n (2 ^ 127)
fits_whole false n = nat_lt n (2 ^ 127)

abbrev pub whole : ℕ → Text → Bool → ℕ → Outcome Node
whole left t below size = if fits_whole below size then Ok (nd.Whole (with_sign below size) t) else Err (TooWide left)

-- whether the text has the parts of a number, and then whether that is too wide
abbrev pub decimal : ℕ → Text → Option Bool → Outcome Node
decimal left t None = Ok (nd.Text t)
decimal left t (Some true) = Err (TooWide left)
decimal left t (Some false) = Ok (nd.Decimal t)

abbrev pub numeral : ℕ → Text → Outcome Node
numeral left t =
    if is_decimal_whole t then whole left t (is_negative t) (number 10 (past_sign t))
    else if is_octal t then whole left t false (number 8 (drop 2 t))
    else if is_hexadecimal t then whole left t false (number 16 (drop 2 t))
    else decimal left t (option_map is_wide (parts_of t))

unfoldable pub scalar : ℕ → Text → Outcome Node
scalar left t =
    if is_null t then Ok nd.Null
    else if is_true t then Ok (nd.Bool true)
    else if is_false t then Ok (nd.Bool false)
    else numeral left t
