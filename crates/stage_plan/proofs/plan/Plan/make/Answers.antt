-- There are few stages.
use Rattle.std.proofs.Common.{◌≤◌, length, arith}
use Rattle.stage_plan.proofs.SchemaLemmas.{few_stages}
use Rattle.stage_plan.proofs.plan.Plan.make.Goals as goal

pub plan_from-requires-clause-few : goal.plan_from-requires-clause-few
plan_from-requires-clause-few c =
    let most : length c.in-Ok.stages ≤ 10000 = few_stages c.args.root.now c.args.files.now c.in-Ok.stages c.in-Ok.ensures.answer in
    omega (arith, most)
