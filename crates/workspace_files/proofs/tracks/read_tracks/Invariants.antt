use Rattle.std.proofs.Common.{◌≡◌, take, drop, IsTrue}
use Rattle.world_api.specs.History.{IsCaused}
use Rattle.world_api.specs.Outside.{tree_of, IsUntouched}
use Rattle.workspace_files.specs.Tracks.{tracks_of, AreTracks}
use Rattle.workspace_files.proofs.TrackLemmas.{with_front}
use Rattle.workspace_files.proofs.tracks.read_tracks.Given as goal

-- nothing has changed, and what is due is what was read so far, before the rest
abbrev pub invariant-loop-path : goal.invariant-loop-path
invariant-loop-path g l = record {
  same : IsUntouched g.F.Ground.tells (g.F.Ground.history l.fn.files) (g.F.Ground.history l.files);
  left : IsTrue g.F.Ground.tells → tracks_of (tree_of (g.F.Ground.history l.fn.files)) l.paths
      ≡ with_front l.tracks (tracks_of (tree_of (g.F.Ground.history l.fn.files)) (drop l.path-index l.paths));
  form : AreTracks (take l.path-index l.paths) l.tracks;
  counted : IsCaused (g.F.Ground.faults l.fn.files) (g.F.Ground.faults l.files) ⊥;
}
