-- Where one more target leads.
use Rattle.std.proofs.Common.{List, [], ◌∷◌, ◌++◌, sym, ap, ◌∙◌}
use Rattle.dvc_base.specs.Path.{Path}
use Rattle.stage_plan.specs.Targets.{other_paths}
use Rattle.stage_plan.proofs.TargetLemmas.{other_more}
use Rattle.stage_plan.proofs.tracks.other_paths.Goals as goal

pub loop-target-preserved : goal.loop-target-preserved
loop-target-preserved c =
    let written = c.args.written.now in
    c.in_ok-push_other.ensures.ok
    ∙ ap (λ (ps : List Path). ps ++ other_paths written (c.target-item.result ∷ [])) c.loop-target.invariant
    ∙ sym (other_more written c.args.targets.now c.loop-target.target-index c.target-item.result c.loop-target-test.true c.target-item.is)
