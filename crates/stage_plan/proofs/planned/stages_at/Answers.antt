-- The stage at one more place.
use Rattle.std.proofs.Common.{List, [], ◌∷◌, ◌++◌, map, get_or, sym, ap, ◌∙◌}
use Rattle.repro_laws.specs.declared.stage.Stage.{Stage}
use Rattle.stage_plan.specs.Plan.{stage_of, with_turns, stages_at}
use Rattle.stage_plan.proofs.PlannedLemmas.{stages_more}
use Rattle.stage_plan.proofs.planned.stages_at.Goals as goal

pub loop-number-preserved : goal.loop-number-preserved
loop-number-preserved c =
    let written = c.args.written.now in
    let outs = c.args.outs.now in
    let ns = c.args.order.now in
    let i = c.loop-number.number-index in
    c.in_ok-push_at.ensures.ok
    ∙ ap (λ (stages : List Stage). stages ++ map (stage_of outs) (with_turns (stages_at written (get_or ns i 0 ∷ [])))) c.loop-number.invariant
    ∙ sym (stages_more outs written ns i c.loop-number-test.true)
