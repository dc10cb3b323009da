-- What a workspace says beyond `dvc.yaml`: its track files, and its `.dvcignore` files, none of which has a rule.
--     sources_in t found     those that were found; the first refusal of a `.dvcignore` file comes before that of a track file
--     sources_of t           those of a tree; the refusal of the walk over it comes first
--     IsTrackFile f          its path is that of a track file, and what it says is in form
use Rattle.std.specs.Prelude.{◌≡◌, true, List, ◌++◌, Option, Some, None, Result, Ok, Err}
use Rattle.dvc_base.specs.Path.{Path}
use Rattle.dvc_base.specs.declared.fault.Fault.{Fault}
use Rattle.dvc_base.specs.declared.fault.FaultKind.{FaultKind}
use Rattle.world_api.specs.Tree.{Tree}
use Rattle.lock_files.specs.Form.{IsTrack}
use Rattle.stage_graph.specs.declared.track.TrackFile.{TrackFile}
use Rattle.workspace_files.specs.Ignores.{ignores_fault, ignore_kinds}
use Rattle.workspace_files.specs.Tracks.{tracks_of, track_kinds}
use Rattle.workspace_files.specs.Walk.{is_track_path, found_in, find_kinds}
use Rattle.workspace_files.specs.declared.search.Found.{Found}
use Rattle.stage_plan.specs.declared.sources.Sources.{Sources}

abbrev pub sources_by : List Path → Option Fault → Result (List TrackFile) Fault → Result Sources Fault
sources_by ignores (Some fault) tracks = Err fault
sources_by ignores None (Err fault) = Err fault
sources_by ignores None (Ok tracks) = Ok (record { tracks = tracks; ignores = ignores })

abbrev pub sources_in : Tree → Found → Result Sources Fault
sources_in t found = sources_by found.ignores (ignores_fault t found.ignores) (tracks_of t found.tracks)

abbrev pub sources_with : Tree → Result Found Fault → Result Sources Fault
sources_with t (Ok found) = sources_in t found
sources_with t (Err fault) = Err fault

unfoldable pub sources_of : Tree → Result Sources Fault
sources_of t = sources_with t (found_in t)

-- over any world
pub record IsTrackFile (f : TrackFile) : Type 0 where
  pub path : is_track_path f.file ≡ true
  pub form : IsTrack f.track

-- which faults may come of those that were found, and of the whole
abbrev pub found_kinds : List FaultKind
found_kinds = ignore_kinds ++ track_kinds

abbrev pub reading_kinds : List FaultKind
reading_kinds = find_kinds ++ found_kinds
