-- What track files come to where things stand.
--     source_path dir e      where an out of a track file stands: its text is read from the file's folder
--     source_paths f         where all of them stand
--     source_due p v         the refusal of an out with this value: nothing stands there, or it passes a limit
--     source_told p why      a refusal of the cache, as it is told of an out
--     tracks_fault t fs      the first refusal, in the order of the track files and of their outs
--     track_now t f          the track file with the names of what stands there; its other pairs stay
--     is_same t f            each of its entries is as the file says
--     text_now t f           the text of the track file that is due
--     file_now t f           what is to stand at the file: where no entry differs it stays as it is
use Rattle.std.specs.Prelude.{ℕ, Bool, List, map, Option, Some, None, if◌then◌else◌}
use Rattle.std.specs.List.{list_all, flat_map}
use Rattle.dvc_base.specs.Path.{Path}
use Rattle.dvc_base.specs.declared.fault.Fault.{Fault}
use Rattle.dvc_base.specs.declared.fault.Fault.TheVariants as f
use Rattle.world_api.specs.Tree.{Tree, Item, file, Value, nothing, item_at, value_at}
use Rattle.world_api.specs.Effect.{path_from}
use Rattle.yaml_print.specs.Print.{print_text}
use Rattle.file_hash.specs.Naming.{named_of}
use Rattle.file_hash.specs.declared.named.Named.{Named}
use Rattle.lock_files.specs.Nodes.{track_node}
use Rattle.lock_files.specs.declared.entry.PathEntry.{PathEntry}
use Rattle.lock_files.specs.declared.entry.Track.{Track}
use Rattle.change_check.specs.Same.{told_of, is_named}
use Rattle.object_cache.specs.declared.fault.CacheFault.{CacheFault}
use Rattle.object_cache.specs.declared.fault.CacheFault.TheVariants as c
use Rattle.stage_graph.specs.Paths.{folder_of}
use Rattle.stage_graph.specs.declared.track.TrackFile.{TrackFile}
use Rattle.repro_laws.specs.Limits.{limit_fault}
use Rattle.repro_laws.specs.Refusals.{first_of}

-- ---- what stands

abbrev pub source_path : Path → PathEntry → Path
source_path dir e = path_from dir e.path

abbrev pub source_paths : TrackFile → List Path
source_paths f = map (source_path (folder_of f.file)) f.track.outs

abbrev pub all_sources : List TrackFile → List Path
all_sources fs = flat_map source_paths fs

-- ---- refusals

abbrev pub source_due : Path → Value → Option Fault
source_due p nothing = Some (f.MissingSource p)
source_due p v = limit_fault v

abbrev pub source_told : Path → CacheFault → Fault
source_told p (c.Absent object) = f.NotInCache p object
source_told p c.Missing = f.MissingSource p
source_told p (c.Changed path told found) = f.Changed path told found
source_told p (c.TooLarge what limit) = f.TooLarge what limit
source_told p (c.NotFolder path) = f.NotFolder path
source_told p c.Failed = f.WorldFault
source_told p c.NoMemory = f.NoMemory

abbrev pub source_fault : Path → Tree → PathEntry → Option Fault
source_fault dir t e = source_due (source_path dir e) (value_at t (source_path dir e))

abbrev pub track_fault : Tree → TrackFile → Option Fault
track_fault t x = first_of (source_fault (folder_of x.file) t) x.track.outs

abbrev pub tracks_fault : Tree → List TrackFile → Option Fault
tracks_fault t fs = first_of (track_fault t) fs

-- ---- entries

abbrev pub entry_with : PathEntry → Option Named → PathEntry
entry_with e None = e
entry_with e (Some named) = record e { name = named.name; size = named.size; nfiles = named.nfiles }

-- the entry of what stands at an out
abbrev pub entry_now : Path → Tree → PathEntry → PathEntry
entry_now dir t e = entry_with e (named_of (value_at t (source_path dir e)))

abbrev pub track_now : Tree → TrackFile → Track
track_now t f = record { outs = map (entry_now (folder_of f.file) t) f.track.outs; rest = f.track.rest }

abbrev pub is_same_source : Path → Tree → PathEntry → Bool
is_same_source dir t e = is_named (told_of e) (named_of (value_at t (source_path dir e)))

abbrev pub is_same : Tree → TrackFile → Bool
is_same t f = list_all (is_same_source (folder_of f.file) t) f.track.outs

-- ---- the file

abbrev pub text_now : Tree → TrackFile → List ℕ
text_now t f = print_text (track_node (track_now t f))

abbrev pub file_now : Tree → TrackFile → Option Item
file_now t f = if is_same t f then item_at t f.file else Some (file (text_now t f))
