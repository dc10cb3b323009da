-- The paths that are kept from owners, from what is read, and from variables.
--     near_fault kept p      p overlaps one of the paths that are kept
--     reserved_fault ..      the first of these, in this order:
--         tool_fault         an owner, or what a stage needs, overlaps `.dvc` or `dvc.lock`
--         file_fault         an owner overlaps `dvc.yaml`, a `.dvcignore` or a track file
--         name_fault         an owner's last component ends in `.dvc`
--         dir_fault          a stage's folder is `.dvc` or `dvc.lock`, or lies there
--         var_fault          a file of variables overlaps `.dvc` or `dvc.lock`, or is a track file
use Rattle.std.specs.Prelude.{Bool, false, nat_eq, ◌-◌, List, [], ◌∷◌, ◌++◌, map, length, codes, slice_get, Option, Some, None, option_map, if◌then◌else◌}
use Rattle.std.specs.Option.{option_or, option_map_or}
use Rattle.std.specs.List.{list_any, find, ends_with}
use Rattle.dvc_base.specs.Path.{Path, overlap, under, is_one}
use Rattle.dvc_base.specs.declared.fault.Fault.{Fault}
use Rattle.dvc_base.specs.declared.fault.Fault.TheVariants as f
use Rattle.world_api.specs.Layout.{dvc_path, lock_path, yaml_path}
use Rattle.stage_schema.specs.declared.stage.Stage.{Stage}
use Rattle.stage_graph.specs.Fault.{first_of}
use Rattle.stage_graph.specs.Paths.{needs}
use Rattle.stage_graph.specs.declared.track.TrackFile.{TrackFile}

-- ---- paths that are kept

-- the tool's own
abbrev pub tool_paths : List Path
tool_paths = dvc_path ∷ lock_path ∷ []

unfoldable pub ignore_path : Path
ignore_path = codes ".dvcignore" ∷ []

-- the files that the tool reads; the two at the root are kept where they are missing too
abbrev pub file_paths : List TrackFile → List Path → List Path
file_paths tracks ignores = yaml_path ∷ ignore_path ∷ ignores ++ map (λ t. t.file) tracks

-- ---- refusals

abbrev pub near_fault : List Path → Path → Option Fault
near_fault kept p = option_map (f.Reserved p) (find (λ q. overlap q p) kept)

abbrev pub tool_fault : List Path → List Stage → Option Fault
tool_fault owned stages =
    option_or (first_of (near_fault tool_paths) owned) (first_of (λ s. first_of (near_fault tool_paths) (needs s)) stages)

abbrev pub file_fault : List TrackFile → List Path → List Path → Option Fault
file_fault tracks ignores owned = first_of (near_fault (file_paths tracks ignores)) owned

-- the path itself is what is kept
abbrev pub itself_if : Bool → Path → Option Fault
itself_if test p = if test then Some (f.Reserved p p) else None

abbrev pub has_track_name : Path → Bool
has_track_name p = option_map_or (λ part. ends_with nat_eq part (codes ".dvc")) (slice_get p (length p - 1)) false

abbrev pub name_fault : Path → Option Fault
name_fault p = itself_if (has_track_name p) p

abbrev pub dir_fault : Stage → Option Fault
dir_fault s = option_map (f.Reserved s.dir) (find (λ kept. under kept s.dir) tool_paths)

abbrev pub is_track : List TrackFile → Path → Bool
is_track tracks p = list_any (λ t. is_one t.file p) tracks

abbrev pub var_fault : List TrackFile → Path → Option Fault
var_fault tracks p = option_or (near_fault tool_paths p) (itself_if (is_track tracks p) p)

abbrev pub reserved_fault : List Path → List Stage → List TrackFile → List Path → List Path → Option Fault
reserved_fault owned stages tracks vars ignores =
    option_or (tool_fault owned stages)
    (option_or (file_fault tracks ignores owned)
    (option_or (first_of name_fault owned)
    (option_or (first_of dir_fault stages) (first_of (var_fault tracks) vars))))
