-- The brackets that the loop takes are those of the split, from the first to the last.
use Rattle.std.proofs.Common.{◌≡◌, ◌==◌, take, length, map, ap, sym, ◌∙◌, Some, None, option_and_then, option_copied, lit<, rules}
use Rattle.std.specs.List.{slice_split}
use Rattle.std.proofs.lemmas.Iterator.Splits.{YieldsList-from_str_split}
use Rattle.std.proofs.lemmas.Iterator.Consumers.{YieldsList-so_far, YieldsList-turn, YieldsList-end, YieldsList-at}
use Rattle.std.proofs.lemmas.List.{map_push}
use Rattle.params.specs.Lookup.{item_at}
use Rattle.params.proofs.LookupLemmas.{walk, walk-push, walk-stuck, follow_brackets}
use Rattle.params.proofs.keys.follow_brackets.Goals as goal

pub loop-bracket-preserved : goal.loop-bracket-preserved
loop-bracket-preserved c =
    let start = c.args.node.now in
    let xs = c.loop-bracket.yielded in
    let piece = c.in-Some.bracket in
    ap (λ ys. walk item_at ys start) (map_push (λ x. x.now) xs piece) ∙ walk-push item_at (map (λ x. x.now) xs) piece.now start
    ∙ ap (option_and_then (item_at piece.now)) c.loop-bracket.invariant ∙ sym c.in_ok-place.ensures.exact

pub returns-in_err-place : goal.returns-in_err-place
returns-in_err-place c =
    let start = c.args.node.now in
    let pieces = slice_split (λ byte. byte == 91) c.args.brackets.now in
    let xs = c.loop-bracket.yielded in
    let road = YieldsList-at c.into_iter-bracket-iterator.ensures.into_iter_gives (YieldsList-from_str_split {s = c.split-bracket-items.result} 91 c.args.brackets.now (lit< tt) c.split-bracket-items.ensures.text c.split-bracket-items.ensures.has_more c.split-bracket-items.ensures.pattern) in
    let so_far = YieldsList-so_far road xs _ c.loop-bracket.yielded_by in
    let turn = YieldsList-turn road xs _ c.loop-bracket.yielded_by _ _ c.in-Some.bracket c.in-Some.is c.next.ensures.steps in
    let walked : walk item_at (take (length xs) pieces) start ≡ Some c.loop-bracket.place.now = ap (λ ys. walk item_at ys start) (sym so_far) ∙ c.loop-bracket.invariant in
    let gone : option_copied c.from_residual.result ≡ None = search rules in
    record { exact = gone ∙ sym (follow_brackets pieces start ∙ walk-stuck item_at start c.loop-bracket.place.now pieces (length xs) c.in-Some.bracket.now turn.0 turn.1 walked (sym c.in_err-place.ensures.exact)) }

pub returns : goal.returns
returns c =
    let start = c.args.node.now in
    let pieces = slice_split (λ byte. byte == 91) c.args.brackets.now in
    let road = YieldsList-at c.into_iter-bracket-iterator.ensures.into_iter_gives (YieldsList-from_str_split {s = c.split-bracket-items.result} 91 c.args.brackets.now (lit< tt) c.split-bracket-items.ensures.text c.split-bracket-items.ensures.has_more c.split-bracket-items.ensures.pattern) in
    let end = YieldsList-end road c.loop-bracket.yielded _ c.loop-bracket.yielded_by _ _ c.in-None.is c.next.ensures.steps in
    record { exact = sym (follow_brackets pieces start ∙ ap (λ ys. walk item_at ys start) (sym end.0) ∙ c.loop-bracket.invariant) }
