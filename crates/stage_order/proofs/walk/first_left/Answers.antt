-- A stage that is done is passed over.
use Rattle.std.proofs.Common.{◌≡◌, ℕ, sym, ◌∙◌}
use Rattle.stage_order.specs.Seated.{is_marked}
use Rattle.stage_order.proofs.WalkLemmas.{left_further}
use Rattle.stage_order.proofs.walk.first_left.Goals as goal

pub loop-stage-preserved : goal.loop-stage-preserved
loop-stage-preserved c =
    c.loop-stage.invariant ∙ left_further (is_marked c.args.done.now) c.args.count c.loop-stage.stage c.loop-stage-test.true (sym c.if-not-is_marked.ensures.exact)
