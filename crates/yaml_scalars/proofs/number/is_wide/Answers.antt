use Rattle.std.proofs.Common.{◌++◌, ◌∙◌}
use Rattle.yaml_scalars.specs.Number.{significant_part, is_wide}
use Rattle.yaml_scalars.specs.NumeralParts.{as_parts}
use Rattle.yaml_scalars.proofs.NumberLemmas.{digits_twice, wide_cut}
use Rattle.yaml_scalars.proofs.number.is_wide.Goals as goal

pub returns : goal.returns
unfolding is_wide
returns c =
    let n = c.args.numeral.now in
    let both = digits_twice c.significant_part-number.result c.significant_part-number-2.result n.whole.now n.fraction.now c.significant_part-number.ensures.value c.significant_part-number-2.ensures.value in
    c.is_wide_number.ensures ∙ wide_cut c.significant_part-number-2.result (significant_part (n.whole.now ++ n.fraction.now)) (as_parts n) both
