use Rattle.std.proofs.Common.{◌≡◌, ◌∷◌, min, length, sym, ap, ◌∙◌, arith}
use Rattle.std.specs.List.{fold}
use Rattle.yaml_scalars.specs.Number.{with_digit}
use Rattle.yaml_scalars.specs.NumeralParts.{most}
use Rattle.yaml_scalars.proofs.NumberLemmas.{digits_respect}
use Rattle.params.proofs.digits.significant_part.Goals as goal

pub loop-first-preserved : goal.loop-first-preserved
loop-first-preserved c =
    let value = c.loop-first.value in
    let count = c.loop-first.count in
    let behind = c.in-Some.behind.now in
    let h = digits_respect c.with_digit-more.result (with_digit (value, count) c.in-Some.first) behind c.with_digit-more.ensures.exact in
    let same : c.loop-first.rest.now ≡ c.in-Some.first ∷ behind = c.in-Some.ensures in
    let inv = c.loop-first.invariant.0 in
    let least = c.with_digit-more.ensures.within in (
      (
        h.0 ∙ ap (λ t. min (fold with_digit (value, count) t).0 most) (sym same) ∙ inv.0,
        h.1 ∙ ap (λ t. (fold with_digit (value, count) t).1) (sym same) ∙ inv.1,
      ),
      omega (arith, ap length same),
    )
