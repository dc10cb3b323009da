use Rattle.std.proofs.Common.{◌≡◌, take, [], None, IsTrue}
use Rattle.std.specs.List.{AllByRecursion}
use Rattle.world_api.specs.Tree.{item_at}
use Rattle.world_api.specs.History.{Passes, IsCaused}
use Rattle.track_record.specs.Sources.{track_fault, file_now}
use Rattle.track_record.specs.Records.{AreHeld, InRecords}
use Rattle.track_record.proofs.record.record_tracks.Given as goal

-- each file so far is as is due, what it names is held, and none of them was refused
abbrev pub invariant-loop-track : goal.invariant-loop-track
invariant-loop-track g l = record {
  moments : IsTrue g.F.Ground.tells → Passes (InRecords l.tracks (g.F.Ground.history l.fn.files).present) (g.F.Ground.history l.fn.files) (g.F.Ground.history l.files);
  files : IsTrue g.F.Ground.tells → AllByRecursion (λ x. item_at (g.F.Ground.history l.files).present.tree x.file ≡ file_now (g.F.Ground.history l.fn.files).present.tree x) (take l.track-index l.tracks);
  held : IsTrue g.F.Ground.tells → AllByRecursion (AreHeld (g.F.Ground.history l.fn.files).present.tree (g.F.Ground.history l.files).present.tree) (take l.track-index l.tracks);
  due : IsTrue g.F.Ground.tells → AllByRecursion (λ x. track_fault (g.F.Ground.history l.fn.files).present.tree x ≡ None) (take l.track-index l.tracks);
  none : IsTrue g.F.Ground.tells → l.tracks ≡ [] → g.F.Ground.history l.files ≡ g.F.Ground.history l.fn.files;
  counted : IsCaused (g.F.Ground.faults l.fn.files) (g.F.Ground.faults l.files) ⊥;
}
