-- What a lock, a track file and an entry say, as a value of the pairs of their mappings. What is refused says nothing: it isn't asked.
--     path_entry_in ps     the path entry of a mapping, where all its parts are there
--     entry_in v           the entry: lists by the bytes of their paths, files and keys by their bytes
--     track_in v           the outputs as they stand, and all pairs but that of the outputs
--     lock_in v            the stages in their order
use Rattle.std.specs.Prelude.{ℕ, Bool, not, List, [], ◌∷◌, map, Option, Some, None, option_and_then, unwrap_or, bytes_eq, codes}
use Rattle.std.specs.List.{filter, filter_map}
use Rattle.std.specs.Option.{option_map_or}
use Rattle.dvc_base.specs.Name.{ObjectName}
use Rattle.dvc_base.specs.declared.data.ParamFile.{ParamFile}
use Rattle.dvc_base.specs.declared.node.Node.{Node, out-Node}
use Rattle.dvc_base.specs.declared.node.Node.TheOpen.{Node-F}
use Rattle.dvc_base.specs.declared.node.Pair.{Pair}
use Rattle.yaml_nodes.specs.Part.{key_of}
use Rattle.yaml_print.specs.ScalarText.{Layer}
use Rattle.yaml_print.specs.Print.{value_of}
use Rattle.lock_files.specs.declared.entry.PathEntry.{PathEntry}
use Rattle.lock_files.specs.declared.entry.Entry.{Entry}
use Rattle.lock_files.specs.declared.entry.Track.{Track}
use Rattle.lock_files.specs.Mapping.{pairs_in, items_in, text_in, value_at, text_at, number_at}
use Rattle.lock_files.specs.Order.{in_order}
use Rattle.lock_files.specs.Refused.{name_at}
use Rattle.lock_files.specs.Book.{Lock, set}

-- ---- path entries

abbrev pub path_entry_by : Option (List ℕ) → Option ObjectName → Option ℕ → Option ℕ → Option PathEntry
path_entry_by (Some path) (Some name) (Some size) nfiles = Some (record { path = path; name = name; size = size; nfiles = nfiles })
path_entry_by _ _ _ nfiles = None

abbrev pub path_entry_in : List Pair → Option PathEntry
path_entry_in ps =
    path_entry_by (text_at (codes "path") ps) (name_at ps) (number_at (codes "size") ps) (number_at (codes "nfiles") ps)

abbrev pub item_in : Node → Option PathEntry
item_in v = option_and_then path_entry_in (pairs_in v)

abbrev pub path_at : PathEntry → List ℕ
path_at e = e.path

abbrev pub items_or_none : Node → List Node
items_or_none v = unwrap_or (items_in v) []

-- the items of a list under a key; none where it is left out
abbrev pub items_at : List ℕ → List Pair → List Node
items_at key ps = option_map_or items_or_none (value_at key ps) []

abbrev pub path_entries : List ℕ → List Pair → List PathEntry
path_entries key ps = filter_map item_in (items_at key ps)

abbrev pub sorted_entries : List ℕ → List Pair → List PathEntry
sorted_entries key ps = in_order path_at (path_entries key ps)

-- ---- entries

abbrev pub commands_of : Layer → List (List ℕ)
commands_of (Node-F.Text t) = t ∷ []
commands_of (Node-F.Items vs) = filter_map text_in vs
commands_of _ = []

abbrev pub commands_at : Option Node → List (List ℕ)
commands_at None = []
commands_at (Some v) = commands_of (out-Node v)

abbrev pub commands_in : List Pair → List (List ℕ)
commands_in ps = commands_at (value_at (codes "cmd") ps)

abbrev pub pairs_or_none : Node → List Pair
pairs_or_none v = unwrap_or (pairs_in v) []

abbrev pub keys_of : List Pair → List Pair
keys_of ps = in_order key_of ps

-- a parameter file with its keys
abbrev pub param_file : Pair → ParamFile
param_file p = record { file = key_of p; keys = keys_of (pairs_or_none (value_of p)) }

abbrev pub params_of : List Pair → List ParamFile
params_of ps = map param_file (in_order key_of ps)

abbrev pub params_in : List Pair → List ParamFile
params_in ps = option_map_or (λ v. params_of (pairs_or_none v)) (value_at (codes "params") ps) []

abbrev pub entry_of : List Pair → Entry
entry_of ps = record {
  commands = commands_in ps;
  deps = sorted_entries (codes "deps") ps;
  params = params_in ps;
  outs = sorted_entries (codes "outs") ps;
}

abbrev pub entry_in : Node → Entry
entry_in v = entry_of (pairs_or_none v)

-- ---- track files

abbrev pub is_other_key : Pair → Bool
is_other_key p = not (bytes_eq (key_of p) (codes "outs"))

abbrev pub track_of : List Pair → Track
track_of ps = record { outs = path_entries (codes "outs") ps; rest = filter is_other_key ps }

abbrev pub track_in : Node → Track
track_in v = track_of (pairs_or_none v)

-- ---- locks

abbrev pub with_stage : Lock → Pair → Lock
with_stage book p = set book (key_of p) (entry_in (value_of p))

abbrev pub with_stages : Lock → List Pair → Lock
with_stages book [] = book
with_stages book (p ∷ ps) = with_stages (with_stage book p) ps

abbrev pub stages_in : List Pair → List Pair
stages_in ps = option_map_or pairs_or_none (value_at (codes "stages") ps) []

abbrev pub lock_in : Node → Lock
lock_in v = with_stages [] (stages_in (pairs_or_none v))
