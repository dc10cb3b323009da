-- What is cut and counted is the number that the text's parts make.
use Rattle.std.proofs.Common.{◌≡◌, ◌^◌, ◌<◌, min, eqb, Bool, length, ap, subst, ◌∙◌}
use Rattle.std.specs.List.{before_first, after_first}
use Rattle.yaml_scalars.specs.Number.{is_negative, number, canonical_exponent}
use Rattle.yaml_scalars.specs.NumeralParts.{most}
use Rattle.params.specs.Number.{is_down}
use Rattle.params.proofs.NumberLemmas.{decimal_is}
use Rattle.params.proofs.PartLemmas.{is_letter}
use Rattle.params.proofs.number.decimal_number.Goals as goal

pub returns : goal.returns
returns c =
    let t = c.args.text.now in
    let m = c.split.result.0.now in
    let q = c.split.result.1.now in
    let w = c.split-2.result.0.now in
    let f = c.split-2.result.1.now in
    let r = c.significant_part-front.result in
    let s = c.significant_part-digits.result in
    let e = c.number-up.result in
    let x = c.exponent_of-down.result in
    let down : eqb c.byte.result 45 ≡ is_negative q = ap (λ b. eqb b 45) c.byte.ensures.value in
    let below : eqb c.byte-2.result 45 ≡ is_negative t = ap (λ b. eqb b 45) c.byte-2.ensures.value in
    let exponent = subst (λ (v : Bool). e < 2 ^ 127 → (x.0 ≡ is_down v e s.1 (length f)) × (x.1 ≡ canonical_exponent v e s.1 (length f))) down c.exponent_of-down.ensures.exact in
    record {
      exact = λ h.
          ap (λ (v : Bool). record { below = v; digits = s.0; down = x.0; exponent = x.1 }) below
          ∙ decimal_is t m q w f r s e x
          (record {
            mantissa = c.split.ensures.before ∙ ap (before_first is_letter) c.past_sign.ensures.exact;
            power = c.split.ensures.behind ∙ ap (after_first is_letter) c.past_sign.ensures.exact;
            whole = c.split-2.ensures.before;
            fraction = c.split-2.ensures.behind;
            front = c.significant_part-front.ensures.exact;
            digits = c.significant_part-digits.ensures.exact;
            value = c.number-up.ensures.exact ∙ ap (λ d. min (number 10 d) most) c.past_sign-2.ensures.exact;
            exponent = exponent;
          }) h;
    }
