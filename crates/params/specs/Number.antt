-- Numbers as values: a sign, digits without zeros at either end, and an exponent.
--     decimal_number t    the number that a text with a point or an exponent is
--     whole_number n      a whole number
--     number_text n       the canonical form, of a number that isn't zero
--     number_node n       the canonical node
--     is_one a b          the two are the same value
use Rattle.std.specs.Prelude.{ℕ, ◌+◌, ◌==◌, ℤ, pos, int_lt, unsigned_abs, Bool, true, false, ◌&&◌, if◌then◌else◌, nat_lt, List, [], ◌∷◌, ◌++◌, length, codes, Option, Some, None}
use Rattle.std.specs.Fmt.{decimal}
use Rattle.dvc_base.specs.declared.node.Node.{Node}
use Rattle.dvc_base.specs.declared.node.Node.TheVariants as nd
use Rattle.yaml_scalars.specs.Number.{Parts, parts_of, is_negative, number, significant_part, canonical_exponent}
use Rattle.lock_files.specs.Mapping.{is_same}
use Rattle.params.specs.declared.number.Number.{Number}

abbrev pub is_down : Bool → ℕ → ℕ → ℕ → Bool
is_down true exponent zeros fraction = nat_lt zeros (exponent + fraction)
is_down false exponent zeros fraction = nat_lt (exponent + zeros) fraction

-- `n` is the digits without the zeros at their end, and how many those are
abbrev pub number_by : Bool → ℕ × ℕ → Parts → Number
number_by below n p = record {
  below = below;
  digits = n.0;
  down = is_down p.below (number 10 p.exponent) n.1 (length p.fraction);
  exponent = canonical_exponent p.below (number 10 p.exponent) n.1 (length p.fraction);
}

abbrev pub number_of_parts : Bool → Option Parts → Number
number_of_parts below None = record { below = below; digits = 0; down = false; exponent = 0 }
number_of_parts below (Some p) = number_by below (significant_part (p.whole ++ p.fraction)) p

abbrev pub decimal_number : List ℕ → Number
decimal_number t = number_of_parts (is_negative t) (parts_of t)

abbrev pub is_below_zero : ℤ → Bool
is_below_zero n = int_lt n (pos 0)

abbrev pub with_zeros : Bool → ℕ × ℕ → Number
with_zeros below n = record { below = below; digits = n.0; down = false; exponent = n.1 }

abbrev pub whole_number : ℤ → Number
whole_number n = with_zeros (is_below_zero n) (significant_part (decimal (unsigned_abs n)))

-- ---- the canonical form

abbrev pub sign : Bool → List ℕ
sign true = 45 ∷ []
sign false = []

abbrev pub signed_text : Bool → List ℕ → List ℕ
signed_text below t = sign below ++ t

abbrev pub number_text : Number → List ℕ
number_text n = signed_text n.below (decimal n.digits ++ 101 ∷ signed_text n.down (decimal n.exponent))

abbrev pub number_node : Number → Node
number_node n = if n.digits == 0 then nd.Whole (pos 0) (codes "0") else nd.Decimal (number_text n)

abbrev pub is_one : Number → Number → Bool
is_one a b =
    if a.digits == 0 then b.digits == 0
    else (a.digits == b.digits) && (is_same a.below b.below && (is_same a.down b.down && (a.exponent == b.exponent)))
