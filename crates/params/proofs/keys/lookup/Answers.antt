-- The parts that the loop takes are those of the split, from the first to the last.
use Rattle.std.proofs.Common.{◌≡◌, ◌==◌, take, length, map, ap, sym, ◌∙◌, Some, None, option_and_then, option_copied, lit<, rules}
use Rattle.std.specs.List.{slice_split}
use Rattle.std.proofs.lemmas.Iterator.Splits.{YieldsList-from_str_split}
use Rattle.std.proofs.lemmas.Iterator.Consumers.{YieldsList-so_far, YieldsList-turn, YieldsList-end, YieldsList-at}
use Rattle.std.proofs.lemmas.List.{map_push}
use Rattle.params.proofs.LookupLemmas.{walk, part_at, walk-push, walk-stuck, follow_parts}
use Rattle.params.proofs.keys.lookup.Goals as goal

pub loop-part-preserved : goal.loop-part-preserved
loop-part-preserved c =
    let start = c.args.node.now in
    let xs = c.loop-part.yielded in
    let piece = c.in-Some.part in
    ap (λ ys. walk part_at ys start) (map_push (λ x. x.now) xs piece) ∙ walk-push part_at (map (λ x. x.now) xs) piece.now start
    ∙ ap (option_and_then (part_at piece.now)) c.loop-part.invariant ∙ sym c.in_ok-place.ensures.exact

pub returns-in_err-place : goal.returns-in_err-place
returns-in_err-place c =
    let start = c.args.node.now in
    let pieces = slice_split (λ byte. byte == 46) c.args.key.now in
    let xs = c.loop-part.yielded in
    let road = YieldsList-at c.into_iter-part-iterator.ensures.into_iter_gives (YieldsList-from_str_split {s = c.split-part-items.result} 46 c.args.key.now (lit< tt) c.split-part-items.ensures.text c.split-part-items.ensures.has_more c.split-part-items.ensures.pattern) in
    let so_far = YieldsList-so_far road xs _ c.loop-part.yielded_by in
    let turn = YieldsList-turn road xs _ c.loop-part.yielded_by _ _ c.in-Some.part c.in-Some.is c.next.ensures.steps in
    let walked : walk part_at (take (length xs) pieces) start ≡ Some c.loop-part.place.now = ap (λ ys. walk part_at ys start) (sym so_far) ∙ c.loop-part.invariant in
    let gone : option_copied c.from_residual.result ≡ None = search rules in
    record { exact = gone ∙ sym (follow_parts pieces start ∙ walk-stuck part_at start c.loop-part.place.now pieces (length xs) c.in-Some.part.now turn.0 turn.1 walked (sym c.in_err-place.ensures.exact)) }

pub returns : goal.returns
returns c =
    let start = c.args.node.now in
    let pieces = slice_split (λ byte. byte == 46) c.args.key.now in
    let road = YieldsList-at c.into_iter-part-iterator.ensures.into_iter_gives (YieldsList-from_str_split {s = c.split-part-items.result} 46 c.args.key.now (lit< tt) c.split-part-items.ensures.text c.split-part-items.ensures.has_more c.split-part-items.ensures.pattern) in
    let end = YieldsList-end road c.loop-part.yielded _ c.loop-part.yielded_by _ _ c.in-None.is c.next.ensures.steps in
    record { exact = sym (follow_parts pieces start ∙ ap (λ ys. walk part_at ys start) (sym end.0) ∙ c.loop-part.invariant) }
