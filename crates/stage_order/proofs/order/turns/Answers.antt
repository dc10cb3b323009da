-- Turn by turn, the next stage is done.
use Rattle.std.proofs.Common.{◌≡◌, ℕ, ◌+◌, ◌-◌, List, [], ◌∷◌, ◌++◌, length, sym, ap, ◌∙◌, subst}
use Rattle.stage_order.specs.Order.{order, order_from}
use Rattle.stage_order.specs.Seated.{AreSeated}
use Rattle.stage_order.proofs.OrderLemmas.{next_turn, no_turn, at_none, at_some, turn_left}
use Rattle.stage_order.proofs.order.turns.Goals as goal

pub returns-in-None-clause-order : goal.returns-in-None-clause-order
returns-in-None-clause-order c =
    let taken = c.in_ok-stage.ensures.next c.loop-turn.order c.loop-turn.invariant.seated in
    no_turn c.args.above.now _ c.loop-turn.order (sym taken.0 ∙ c.in-None.is) c.loop-turn.invariant.goes_on

pub returns-in-None-clause-done : goal.returns-in-None-clause-done
returns-in-None-clause-done c =
    let taken = c.in_ok-stage.ensures.next c.loop-turn.order c.loop-turn.invariant.seated in
    (at_none c.in_ok-stage.field-0 _ _ c.in-None.is taken.1).marked

pub loop-turn-preserved : goal.loop-turn-preserved
loop-turn-preserved c =
    let above = c.args.above.now in
    let now = c.take_next.new.self in
    let done = c.loop-turn.order in
    let left = length above - (c.loop-turn._turn + 1) in
    let taken = c.in_ok-stage.ensures.next done c.loop-turn.invariant.seated in
    let seated = at_some c.in_ok-stage.field-0 _ _ c.in-Some.stage c.in-Some.is taken.1 in
    let pushed = c.in_ok-push-in-Some.ensures.ok in
    record {
      seated = subst (λ (d : List ℕ). AreSeated above d [] now.done.items now.ready.keys now.waits.items) (sym pushed) seated;
      goes_on = ap (λ (d : List ℕ). order_from left above d) pushed
          ∙ next_turn above left done c.in-Some.stage (sym taken.0 ∙ c.in-Some.is)
          (sym (ap (λ (n : ℕ). order_from n above done) (turn_left (length above) c.loop-turn._turn c.loop-turn-test.true)) ∙ c.loop-turn.invariant.goes_on);
    }
