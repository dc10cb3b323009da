use Rattle.std.proofs.Common.{◌-◌, ◌^◌, arith, rules}
use Rattle.std.proofs.lemmas.Grind.{common_steps}
use Rattle.yaml_scalars.proofs.NumberLemmas.{number_more}
use Rattle.params.proofs.digits.number.Goals as goal

pub loop-first-preserved : goal.loop-first-preserved
loop-first-preserved c =
    let e = number_more (2 ^ 128 - 1) 10 c.loop-first.value c.in-Some.first c.in-Some.behind.now (omega arith) in
    first_of (search rules, grind (arith, common_steps))
