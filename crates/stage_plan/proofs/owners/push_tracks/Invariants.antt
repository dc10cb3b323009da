use Rattle.std.proofs.Common.{◌≡◌, ◌++◌, take}
use Rattle.std.specs.List.{flat_map}
use Rattle.stage_plan.specs.Targets.{track_outs}
use Rattle.stage_plan.proofs.owners.push_tracks.Given as goal

-- the paths so far
abbrev pub invariant-loop-track : goal.invariant-loop-track
invariant-loop-track l = l.owned ≡ l.initial.owned ++ flat_map track_outs (take l.track-index l.tracks)
