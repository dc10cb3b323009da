-- The stage before is taken where it is wanted.
use Rattle.std.proofs.Common.{◌≡◌, ℕ, ◌-◌, Bool, true, false, List, [], ◌∷◌, ◌++◌, length, drop, get_or, refl, sym, ap, ◌∙◌, BTreeSet}
use Rattle.stage_order.specs.Order.{is_in}
use Rattle.stage_order.proofs.NumberLemmas.{in_contains}
use Rattle.stage_order.proofs.TakenLemmas.{taken_skip, taken_more, taken_same, next_back}
use Rattle.stage_order.proofs.chosen.take_wanted.Goals as goal
use Rattle.stage_order.proofs.chosen.take_wanted.Goals.{then-contains+in_ok-push+in_ok-add_above, else-contains}

pub loop-done-preserved : goal.loop-done-preserved
loop-done-preserved c =
    let above = c.args.above.now in
    let chosen = c.args.wanted.now.keys in
    let order = c.args.order.now in
    let s = get_or order (length order - 1 - c.loop-done.done) 0 in
    let later = drop (length order - c.loop-done.done) order in
    let next = sym (next_back order c.loop-done.done c.loop-done-test.true) in
    elim c.if-contains.branch [
      | then-contains+in_ok-push+in_ok-add_above w ↦
          taken_same above chosen _ _ _ _ _ _ next (sym (w.taken-is ∙ w.in_ok-push.ensures.ok)) (sym (ap (λ (ks : BTreeSet ℕ). ks.keys) w.wanted-is))
          (taken_more above chosen later c.loop-done.taken c.loop-done.wanted.keys w.add_above.new.wanted.keys s
          (sym (in_contains c.loop-done.wanted.keys s) ∙ sym c.contains.ensures ∙ w.if-contains.true)
          w.in_ok-add_above.ensures.ok c.loop-done.invariant)
      | else-contains w ↦
          taken_same above chosen _ _ _ _ _ _ next (sym w.taken-is) (sym (ap (λ (ks : BTreeSet ℕ). ks.keys) w.wanted-is))
          (taken_skip above chosen later c.loop-done.taken c.loop-done.wanted.keys s
          (sym (in_contains c.loop-done.wanted.keys s) ∙ sym c.contains.ensures ∙ w.if-contains.false) c.loop-done.invariant)
    ]
