-- What the track files of a workspace say.
--     track_at at item       the track file at a path: none may be missing, and its first refusal is told with the path
--     tracks_of t paths      those at the paths, in their order, or the first refusal among them
--     AreTracks paths got    one for each path, each in form, over any world
use Rattle.std.specs.Prelude.{◌≡◌, ℕ, List, [], ◌∷◌, map, Option, Some, None, Result, Ok, Err}
use Rattle.std.specs.List.{AllByRecursion}
use Rattle.dvc_base.specs.Path.{Path}
use Rattle.dvc_base.specs.declared.fault.Fault.{Fault}
use Rattle.dvc_base.specs.declared.fault.Fault.TheVariants as f
use Rattle.dvc_base.specs.declared.fault.FaultKind.{FaultKind}
use Rattle.dvc_base.specs.declared.fault.FaultKind.TheVariants as k
use Rattle.world_api.specs.Tree.{Tree, Item, item_at}
use Rattle.lock_files.specs.Form.{IsTrack}
use Rattle.lock_files.specs.Read.{track_read}
use Rattle.lock_files.specs.declared.entry.Track.{Track}
use Rattle.lock_files.specs.declared.fault.LockFault.{LockFault}
use Rattle.lock_files.specs.declared.fault.LockFault.TheVariants as l
use Rattle.stage_graph.specs.declared.track.TrackFile.{TrackFile}
use Rattle.workspace_files.specs.Read.{text_at, with_first}

abbrev pub track_answer : Path → LockFault → Fault
track_answer at (l.Yaml why) = f.Yaml at why
track_answer at (l.Schema key) = f.Schema at key
track_answer at (l.Unsupported key) = f.Unsupported at key
track_answer at l.Legacy = f.Legacy at
track_answer at l.NoMemory = f.NoMemory

abbrev pub track_or : Path → Result Track LockFault → Result TrackFile Fault
track_or at (Ok track) = Ok (record { file = at; track = track })
track_or at (Err why) = Err (track_answer at why)

abbrev pub track_by_text : Path → Result (Option (List ℕ)) Fault → Result TrackFile Fault
track_by_text at (Ok None) = Err (f.NoFile at)
track_by_text at (Ok (Some text)) = track_or at (track_read text)
track_by_text at (Err fault) = Err fault

abbrev pub track_at : Path → Option Item → Result TrackFile Fault
track_at at item = track_by_text at (text_at at item)

abbrev pub tracks_of : Tree → List Path → Result (List TrackFile) Fault
tracks_of t [] = Ok []
tracks_of t (p ∷ ps) = with_first (track_at p (item_at t p)) (tracks_of t ps)

-- ---- over any world

abbrev pub file_of : TrackFile → Path
file_of t = t.file

pub record IsTrackAt (at : Path) (t : TrackFile) : Type 0 where
  pub file : t.file ≡ at
  pub form : IsTrack t.track

pub record AreTracks (paths : List Path) (ts : List TrackFile) : Type 0 where
  pub files : map file_of ts ≡ paths
  pub form : AllByRecursion (λ t. IsTrack t.track) ts

-- which faults may come of the text of a track file, and of the file
abbrev pub record_kinds : List FaultKind
record_kinds = k.NoMemory ∷ k.Yaml ∷ k.Schema ∷ k.Unsupported ∷ k.Legacy ∷ []

abbrev pub track_kinds : List FaultKind
track_kinds = k.WorldFault ∷ k.NoFile ∷ k.TooLarge ∷ k.Changed ∷ record_kinds
