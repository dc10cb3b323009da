use Rattle.std.proofs.Common.{◌≡◌, ◌++◌, drop}
use Rattle.path_index.specs.Overlap.{places, places_from}
use Rattle.stage_plan.specs.Plan.{is_track_for}
use Rattle.stage_plan.proofs.tracks.places_for.Given as goal

-- the places so far, and those that are left
abbrev pub invariant-loop-place : goal.invariant-loop-place
invariant-loop-place l = places (is_track_for l.named l.reads) l.tracks ≡ l.found ++ places_from (is_track_for l.named l.reads) l.place (drop l.place l.tracks)
