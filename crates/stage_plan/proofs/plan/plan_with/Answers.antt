-- The refusals of the graph are of the plan's kinds.
use Rattle.std.proofs.lemmas.Result.{err_from_is_err_and}
use Rattle.stage_plan.proofs.KindLemmas.{told_kind, kinds_err}
use Rattle.stage_plan.proofs.plan.plan_with.Goals as goal

pub returns-in_err-graph-clause-kinds : goal.returns-in_err-graph-clause-kinds
returns-in_err-graph-clause-kinds c =
    let exit = err_from_is_err_and c.from_residual.result c.from_residual.ensures.1 in
    kinds_err c.from_residual.result exit.0 _ exit.1 exit.2 (told_kind c.as_slice-2.result.now c.args.vars.now c.as_slice-3.result.now c.as_slice.result.now _ c.in_err-graph.ensures.answer)
