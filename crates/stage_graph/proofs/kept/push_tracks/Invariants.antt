use Rattle.std.proofs.Common.{◌≡◌, ◌++◌, map, take}
use Rattle.stage_graph.proofs.kept.push_tracks.Given as goal

-- the paths so far
abbrev pub invariant-loop-track : goal.invariant-loop-track
invariant-loop-track l = l.paths ≡ l.initial.paths ++ map (λ t. t.file) (take l.track-index l.tracks)
