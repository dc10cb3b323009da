use Rattle.std.proofs.Common.{◌∙◌, ◌+◌, ◌/◌, ◌%◌, ◌<◌, List, ◌++◌, [], length, drop, get_or, ap, sym, subst, arith}
use Rattle.std.proofs.lemmas.List.{take_rest}
use Rattle.std.proofs.Math.Nat.{mod-le}
use Rattle.template_expand.specs.declared.matrix.Axis.{Axis}
use Rattle.template_expand.specs.Made.{pick_at}
use Rattle.template_expand.specs.Source.{choices_of, choice_of}
use Rattle.template_expand.proofs.ChoiceLemmas.{length_numbered, axes_from, some_others, first_within, next_choice, next_left, choice_end}
use Rattle.template_expand.proofs.matrix.choice_at.Goals as goal

pub cut_place-first-requires-clause-some : goal.cut_place-first-requires-clause-some
cut_place-first-requires-clause-some c =
    let axes = c.args.axes.now in
    let i = c.loop-i.i in
    let axis = c.index-axes-i.result in
    let from = axes_from axes i axis c.loop-i-test.true c.index-axes-i.is in
    let within = subst (λ (rest : List Axis). c.loop-i.left < length (choices_of rest)) from c.loop-i.invariant.within in
    subst (λ (rest : List Axis). 0 < length (choices_of rest)) (sym (take_rest axes (i + 1))) (some_others axis (drop (i + 1) axes) c.loop-i.left within)

pub picked_at-requires : goal.picked_at-requires
picked_at-requires c =
    let axes = c.args.axes.now in
    let i = c.loop-i.i in
    let axis = c.index-axes-i.result in
    let from = axes_from axes i axis c.loop-i-test.true c.index-axes-i.is in
    let within = subst (λ (rest : List Axis). c.loop-i.left < length (choices_of rest)) from c.loop-i.invariant.within in
    let first = c.cut_place-first.ensures.first ∙ ap (λ (rest : List Axis). c.loop-i.left / length (choices_of rest)) (take_rest axes (i + 1)) in
    let inside = first_within axis (drop (i + 1) axes) c.loop-i.left within in
    let all = length_numbered (pick_at axis.name.now) 0 axis.items.now in
    record { within = omega (arith, first, inside, all) }

pub loop-i-preserved : goal.loop-i-preserved
loop-i-preserved c =
    let axes = c.args.axes.now in
    let i = c.loop-i.i in
    let axis = c.index-axes-i.result in
    let left = c.loop-i.left in
    let behind = c.cut_place-first.result.1 in
    let from = axes_from axes i axis c.loop-i-test.true c.index-axes-i.is in
    let within = subst (λ (rest : List Axis). left < length (choices_of rest)) from c.loop-i.invariant.within in
    let first = c.cut_place-first.ensures.first ∙ ap (λ (rest : List Axis). left / length (choices_of rest)) (take_rest axes (i + 1)) in
    let after = c.cut_place-first.ensures.behind ∙ ap (λ (rest : List Axis). left % length (choices_of rest)) (take_rest axes (i + 1)) in
    let so_far = c.loop-i.invariant.chosen ∙ ap (λ (rest : List Axis). choice_of c.loop-i.choice ++ get_or (choices_of rest) left []) from in
    record {
      chosen =
          next_choice axis (drop (i + 1) axes) c.loop-i.choice c.picked_at.result (get_or (choices_of axes) c.args.place []) left c.cut_place-first.result.0 behind
          within first after c.picked_at.ensures.exact so_far
          ∙ ap (λ made. choice_of made ++ get_or (choices_of (drop (i + 1) axes)) behind []) (sym c.in_ok-push.ensures.ok);
      within = next_left axis (drop (i + 1) axes) left behind within after;
      small = omega (arith, after, mod-le left (length (choices_of (drop (i + 1) axes))), c.loop-i.invariant.small);
    }

pub returns : goal.returns
returns c = record {
  exact =
      choice_end c.args.axes.now c.loop-i.choice c.loop-i.i c.args.place c.loop-i.left c.loop-i-test.false c.requires.within c.loop-i.invariant.chosen c.loop-i.invariant.within;
}
