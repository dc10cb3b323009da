-- The walk ends at a repetition, and else goes on.
use Rattle.std.proofs.Common.{◌≡◌, ℕ, suc, ◌<◌, true, false, length, sym, ◌∙◌, arith, rules}
use Rattle.stage_order.specs.Order.{is_in}
use Rattle.stage_order.specs.Seated.{is_marked}
use Rattle.stage_order.proofs.WalkLemmas.{walk_seen, walk_next}
use Rattle.stage_order.proofs.walk.walk.Goals as goal

pub returns-then-seen : goal.returns-then-seen
returns-then-seen c =
    let n = length c.args.above.now in
    let inside : c.loop-step._step < suc n = omega arith in
    let met : is_in c.loop-step.walked c.loop-step.last ≡ true = search rules in
    record {
      exact = c.in_ok-push.ensures.ok
          ∙ sym (c.loop-step.invariant ∙ walk_seen n c.loop-step._step c.args.above.now (is_marked c.args.done.now) c.loop-step.walked c.loop-step.last inside met);
    }

pub loop-step-preserved : goal.loop-step-preserved
loop-step-preserved c =
    let n = length c.args.above.now in
    let inside : c.loop-step._step < suc n = omega arith in
    let unmet : is_in c.loop-step.walked c.loop-step.last ≡ false = search rules in
    c.loop-step.invariant
    ∙ walk_next n c.loop-step._step c.args.above.now (is_marked c.args.done.now) c.loop-step.walked c.push.new.self c.loop-step.last c.in-Some.stage inside unmet
    c.in_ok-push.ensures.ok (sym c.left_above.ensures.exact ∙ c.in-Some.is)
