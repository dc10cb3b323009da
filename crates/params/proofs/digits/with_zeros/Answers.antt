use Rattle.std.proofs.Common.{◌≡◌, suc, ◌-◌, ◌*◌, ◌^◌, min, ap, ◌∙◌, arith}
use Rattle.yaml_scalars.proofs.NumberLemmas.{zeros_more}
use Rattle.params.proofs.digits.with_zeros.Goals as goal

pub loop-left-preserved : goal.loop-left-preserved
loop-left-preserved c =
    let m = 2 ^ 128 - 1 in
    let e : suc (c.loop-left.left - 1) ≡ c.loop-left.left = omega arith in (
      ap (λ v. min (v * 10 ^ (c.loop-left.left - 1)) m) c.saturating_mul-value.ensures
          ∙ zeros_more m c.loop-left.value (c.loop-left.left - 1) ∙ ap (λ n. min (c.loop-left.value * 10 ^ n) m) e ∙ c.loop-left.invariant.0,
      omega arith,
    )
