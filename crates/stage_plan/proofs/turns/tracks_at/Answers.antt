-- The track file at one more place.
use Rattle.std.proofs.Common.{List, [], ◌∷◌, ◌++◌, get_or, sym, ap, ◌∙◌, slice_get}
use Rattle.std.specs.List.{filter_map}
use Rattle.stage_graph.specs.declared.track.TrackFile.{TrackFile}
use Rattle.stage_plan.proofs.NumberedLemmas.{tracks_more}
use Rattle.stage_plan.proofs.turns.tracks_at.Goals as goal

pub loop-number-preserved : goal.loop-number-preserved
loop-number-preserved c =
    let tracks = c.args.tracks.now in
    let ns = c.args.numbers.now in
    let i = c.loop-number.number-index in
    c.in_ok-push_track.ensures.ok
    ∙ ap (λ (found : List TrackFile). found ++ filter_map (slice_get tracks) (get_or ns i 0 ∷ [])) c.loop-number.invariant
    ∙ sym (tracks_more tracks ns i c.loop-number-test.true)
