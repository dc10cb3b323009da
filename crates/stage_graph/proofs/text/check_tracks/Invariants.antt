use Rattle.std.proofs.Common.{◌≡◌, drop}
use Rattle.stage_graph.specs.Fault.{first_of}
use Rattle.stage_graph.specs.Texts.{track_texts}
use Rattle.stage_graph.proofs.text.check_tracks.Given as goal

-- the refusal that is due is that of what is left
abbrev pub invariant-loop-track : goal.invariant-loop-track
invariant-loop-track l = first_of track_texts l.tracks ≡ first_of track_texts (drop l.track-index l.tracks)
