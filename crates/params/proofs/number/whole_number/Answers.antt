-- The digits that are written are read without the zeros at their end.
use Rattle.std.proofs.Common.{◌≡◌, ℕ, false, List, ap, subst, ◌∙◌, arith, rules}
use Rattle.std.specs.Int.{w128}
use Rattle.std.specs.Prelude.{ℤ, int_lt, pos, unsigned_abs}
use Rattle.std.specs.Fmt.{decimal}
use Rattle.std.proofs.lemmas.Int.{to_z-of_z}
use Rattle.yaml_scalars.specs.Number.{significant_part}
use Rattle.yaml_scalars.specs.NumeralParts.{IsSameToLimit}
use Rattle.params.specs.Number.{is_below_zero, with_zeros}
use Rattle.params.proofs.NumberLemmas.{whole_low}
use Rattle.params.proofs.number.whole_number.Goals as goal

pub returns : goal.returns
returns c =
    let v = c.args.value in
    let n = c.unsigned_abs.result in
    let s = c.significant_part-digits.result in
    let low = c.unsigned_abs.ensures.bound in
    let text : c.as_bytes.result.now ≡ decimal n = c.as_bytes.ensures.value ∙ c.format.ensures.text in
    let cut : IsSameToLimit s (significant_part (decimal n)) = subst (λ (t : List ℕ). IsSameToLimit s (significant_part t)) text c.significant_part-digits.ensures.exact in
    let whole : s ≡ significant_part (decimal n) = whole_low n s low cut in
    let same = to_z-of_z w128 v c.ranges.value in
    let size : n ≡ unsigned_abs v = first_of (search rules, grind (arith, to_z-of_z)) in
    record {
      exact =
          ap (λ (z : ℤ). record { below = int_lt z (pos 0); digits = s.0; down = false; exponent = s.1 }) same
          ∙ ap (with_zeros (is_below_zero v)) whole ∙ ap (λ (k : ℕ). with_zeros (is_below_zero v) (significant_part (decimal k))) size;
    }
