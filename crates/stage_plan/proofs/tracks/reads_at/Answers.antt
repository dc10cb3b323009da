-- What the stage at one more place reads.
use Rattle.std.proofs.Common.{List, [], ◌∷◌, ◌++◌, get_or, sym, ap, ◌∙◌}
use Rattle.dvc_base.specs.Path.{Path}
use Rattle.stage_plan.specs.Plan.{reads_at}
use Rattle.stage_plan.proofs.PlannedLemmas.{reads_more}
use Rattle.stage_plan.proofs.tracks.reads_at.Goals as goal

pub loop-place-preserved : goal.loop-place-preserved
loop-place-preserved c =
    let written = c.args.written.now in
    let ns = c.args.places.now in
    let i = c.loop-place.place-index in
    c.in_ok-push_reads_at.ensures.ok
    ∙ ap (λ (ps : List Path). ps ++ reads_at written (get_or ns i 0 ∷ [])) c.loop-place.invariant
    ∙ sym (reads_more written ns i c.loop-place-test.true)
