-- One place more.
use Rattle.std.proofs.Common.{◌≡◌, ◌+◌, List, ℕ, ◌∷◌, [], ◌++◌, sym, ap, ◌∙◌, arith}
use Rattle.std.specs.List.{range_with_len}
use Rattle.stage_plan.proofs.NumberedLemmas.{range_more}
use Rattle.stage_plan.proofs.tracks.all_places.Goals as goal

pub loop-place-preserved : goal.loop-place-preserved
loop-place-preserved c =
    let n = c.loop-place.place in
    let same : 0 + n ≡ n = omega arith in
    c.in_ok-push.ensures.ok ∙ ap (λ (ns : List ℕ). ns ++ n ∷ []) c.loop-place.invariant ∙ sym (range_more 0 n ∙ ap (λ (k : ℕ). range_with_len 0 n ++ k ∷ []) same)
