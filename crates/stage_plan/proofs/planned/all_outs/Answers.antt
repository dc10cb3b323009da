-- The outputs of the stage at one more place.
use Rattle.std.proofs.Common.{List, [], ◌∷◌, ◌++◌, get_or, sym, ap, ◌∙◌}
use Rattle.dvc_base.specs.Path.{Path}
use Rattle.stage_plan.specs.Plan.{with_turns, all_outs, stages_at}
use Rattle.stage_plan.proofs.PlannedLemmas.{outs_more}
use Rattle.stage_plan.proofs.planned.all_outs.Goals as goal

pub loop-number-preserved : goal.loop-number-preserved
loop-number-preserved c =
    let written = c.args.written.now in
    let ns = c.args.order.now in
    let i = c.loop-number.number-index in
    c.in_ok-push_outs_at.ensures.ok
    ∙ ap (λ (ps : List Path). ps ++ all_outs (with_turns (stages_at written (get_or ns i 0 ∷ [])))) c.loop-number.invariant
    ∙ sym (outs_more written ns i c.loop-number-test.true)
