-- The pieces that the loop takes are those of the split, from the first to the last.
use Rattle.std.proofs.Common.{◌≡◌, ◌==◌, take, length, map, ap, sym, ◌∙◌, Some, option_and_then, lit<, inl, inr}
use Rattle.std.specs.List.{slice_split}
use Rattle.std.proofs.lemmas.Iterator.Splits.{YieldsList-from_str_split}
use Rattle.std.proofs.lemmas.Iterator.Consumers.{YieldsList-so_far, YieldsList-turn, YieldsList-end, YieldsList-at}
use Rattle.std.proofs.lemmas.List.{map_push}
use Rattle.std.proofs.lemmas.Result.{err_from_is_err_and}
use Rattle.dvc_base.specs.Join.{step, walk}
use Rattle.dvc_base.proofs.PathLemmas.{walk-push, walk-stuck}
use Rattle.dvc_base.proofs.path.follow.Goals as goal

pub loop-piece-preserved : goal.loop-piece-preserved
loop-piece-preserved c =
    let start = c.args.parts.now in
    let xs = c.loop-piece.yielded in
    let piece = c.in-Some.piece in
    ap (walk start) (map_push (λ x. x.now) xs piece) ∙ walk-push start (map (λ x. x.now) xs) piece.now ∙ ap (option_and_then (λ q. step q piece.now)) c.loop-piece.invariant ∙ c.in_ok-take_piece.ensures.read

pub returns-in_err-take_piece : goal.returns-in_err-take_piece
returns-in_err-take_piece c =
    let start = c.args.parts.now in
    let pieces = slice_split (λ byte. byte == 47) c.args.text.now in
    let xs = c.loop-piece.yielded in
    let road = YieldsList-at c.into_iter-piece-iterator.ensures.into_iter_gives (YieldsList-from_str_split {s = c.split-piece-items.result} 47 c.args.text.now (lit< tt) c.split-piece-items.ensures.text c.split-piece-items.ensures.has_more c.split-piece-items.ensures.pattern) in
    let so_far = YieldsList-so_far road xs _ c.loop-piece.yielded_by in
    let turn = YieldsList-turn road xs _ c.loop-piece.yielded_by _ _ c.in-Some.piece c.in-Some.is c.next.ensures.steps in
    let walked : walk start (take (length xs) pieces) ≡ Some c.loop-piece.parts.items = ap (walk start) (sym so_far) ∙ c.loop-piece.invariant in
    let exit = err_from_is_err_and c.from_residual-in_err-take_piece.result c.from_residual-in_err-take_piece.ensures.1 in
    rw (exit.1, exit.2) (record {
      read =
          elim c.in_err-take_piece.ensures.read [
            | inl memory ↦ inl memory
            | inr outside ↦ inr (outside.0, walk-stuck start c.loop-piece.parts.items pieces (length xs) c.in-Some.piece.now turn.0 turn.1 walked outside.1)
          ];
    })

pub returns : goal.returns
returns c =
    let road = YieldsList-at c.into_iter-piece-iterator.ensures.into_iter_gives (YieldsList-from_str_split {s = c.split-piece-items.result} 47 c.args.text.now (lit< tt) c.split-piece-items.ensures.text c.split-piece-items.ensures.has_more c.split-piece-items.ensures.pattern) in
    let end = YieldsList-end road c.loop-piece.yielded _ c.loop-piece.yielded_by _ _ c.in-None.is c.next.ensures.steps in
    record { read = ap (walk c.args.parts.now) (sym end.0) ∙ c.loop-piece.invariant }
