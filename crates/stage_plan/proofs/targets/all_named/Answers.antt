-- The stages that one more target names.
use Rattle.std.proofs.Common.{List, ◌++◌, sym, ap, ◌∙◌, ℕ}
use Rattle.stage_plan.specs.Targets.{named}
use Rattle.stage_plan.proofs.TargetLemmas.{named_more}
use Rattle.stage_plan.proofs.targets.all_named.Goals as goal

pub loop-target-preserved : goal.loop-target-preserved
loop-target-preserved c =
    let written = c.args.written.now in
    c.in_ok-push_named.ensures.ok
    ∙ ap (λ (ns : List ℕ). ns ++ named written c.target-item.result) c.loop-target.invariant
    ∙ sym (named_more written c.args.targets.now c.loop-target.target-index c.target-item.result c.loop-target-test.true c.target-item.is)
