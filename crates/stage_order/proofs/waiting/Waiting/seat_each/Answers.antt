-- Stage by stage, all are seated.
use Rattle.std.proofs.Common.{◌≡◌, ℕ, List, subst}
use Rattle.std.proofs.lemmas.List.{drop_more, drop_all}
use Rattle.stage_order.specs.Seated.{AreSeated}
use Rattle.stage_order.proofs.waiting.Waiting.seat_each.Goals as goal

pub loop-stage-preserved : goal.loop-stage-preserved
loop-stage-preserved c = λ done h.
    let now = c.loop-stage.self in
    c.in_ok-seat.ensures.seated done _
    (subst (λ (ps : List ℕ). AreSeated c.args.above.now done ps now.done.items now.ready.keys now.waits.items)
    (drop_more c.args.stages.now c.loop-stage.stage-index 0 c.loop-stage-test.true) (c.loop-stage.invariant done h))

pub returns : goal.returns
returns c = record {
  seated = λ done h.
      let now = c.loop-stage.self in
      subst (λ (ps : List ℕ). AreSeated c.args.above.now done ps now.done.items now.ready.keys now.waits.items)
      (drop_all c.loop-stage.stage-index c.args.stages.now c.loop-stage-test.false) (c.loop-stage.invariant done h);
}
