use Rattle.std.proofs.Common.{◌≡◌, ◌++◌, take}
use Rattle.std.specs.List.{flat_map}
use Rattle.stage_graph.specs.Paths.{track_owners}
use Rattle.stage_graph.proofs.owner.push_tracks.Given as goal

-- the owners so far
abbrev pub invariant-loop-track : goal.invariant-loop-track
invariant-loop-track l = l.all ≡ l.initial.all ++ flat_map track_owners (take l.track-index l.tracks)
