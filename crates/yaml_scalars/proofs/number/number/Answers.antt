use Rattle.std.proofs.Common.{◌≡◌, ◌-◌, ◌^◌, ◌≤◌, min, ◌∷◌, ap, sym, ◌∙◌, arith, rules}
use Rattle.std.proofs.lemmas.Grind.{common_steps}
use Rattle.std.specs.List.{fold}
use Rattle.yaml_scalars.specs.Number.{with_base}
use Rattle.yaml_scalars.proofs.NumberLemmas.{number_more}
use Rattle.yaml_scalars.proofs.number.number.Goals as goal

pub loop-first-preserved : goal.loop-first-preserved
loop-first-preserved c =
    let e = number_more (2 ^ 128 - 1) c.args.base c.loop-first.value c.in-Some.first c.in-Some.behind.now c.requires in
    first_of (search rules, grind (arith, common_steps))
