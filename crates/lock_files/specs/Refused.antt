-- What is refused in a lock, a track file and an entry, from a node to the first refusal; None where it says a good one.
--     path_entry_refused before ps    a path entry, where the paths `before` stand before it in its list
--     entry_refused name v            an entry, which is refused by this name where it is no mapping
--     track_refused v, lock_refused v
-- A table is read from its top: the first line that refuses counts. The key of a refusal is the missing key, else the last mapping
-- key on the way to what is refused, and nothing for the root.
use Rattle.std.specs.Prelude.{ℕ, Bool, true, false, not, ◌&&◌, List, [], ◌∷◌, ◌++◌, length, Option, Some, None, is_some, option_and_then, unwrap_or, bytes_eq, codes, ◌==◌}
use Rattle.std.specs.Option.{option_map_or}
use Rattle.std.specs.List.{list_all, list_any}
use Rattle.dvc_base.specs.Name.{ObjectName, name_in}
use Rattle.dvc_base.specs.declared.node.Node.{Node, out-Node}
use Rattle.dvc_base.specs.declared.node.Node.TheOpen.{Node-F}
use Rattle.dvc_base.specs.declared.node.Pair.{Pair}
use Rattle.yaml_nodes.specs.Part.{key_of}
use Rattle.yaml_print.specs.ScalarText.{Layer}
use Rattle.yaml_print.specs.Print.{value_of}
use Rattle.lock_files.specs.declared.fault.LockFault.{LockFault}
use Rattle.lock_files.specs.declared.fault.LockFault.TheVariants.{Schema, Unsupported, Legacy}
use Rattle.lock_files.specs.Mapping.{pairs_in, items_in, text_in, is_within, value_at, has, text_at, scalar_at, number_at, is_bool_at, is_text}

-- ---- tables of refusals

abbrev pub Refusal : Type 0
Refusal = Option LockFault

abbrev pub refuse_if : Bool → LockFault → Refusal
refuse_if true fault = Some fault
refuse_if false fault = None

abbrev pub refuse_unless : Bool → LockFault → Refusal
refuse_unless true fault = None
refuse_unless false fault = Some fault

abbrev pub or_then : Refusal → Refusal → Refusal
or_then (Some fault) later = Some fault
or_then None later = later

abbrev pub first_refusal : List Refusal → Refusal
first_refusal [] = None
first_refusal (last ∷ []) = last
first_refusal (refusal ∷ next ∷ later) = or_then refusal (first_refusal (next ∷ later))

-- ---- a path entry

-- the name under `md5`: the scalar's text as written
abbrev pub name_at : List Pair → Option ObjectName
name_at ps = option_and_then name_in (scalar_at (codes "md5") ps)

abbrev pub is_among : List ℕ → List (List ℕ) → Bool
is_among path paths = list_any (λ p. bytes_eq p path) paths

-- there is a path, and it stands nowhere before
abbrev pub is_new : List (List ℕ) → Option (List ℕ) → Bool
is_new before None = false
is_new before (Some path) = not (is_among path before)

abbrev pub has_count_by : Bool → List Pair → Bool
has_count_by true ps = is_some (number_at (codes "nfiles") ps)
has_count_by false ps = not (has (codes "nfiles") ps)

-- `nfiles` stands exactly beside the name of a folder, and is a number
abbrev pub has_count : Option ObjectName → List Pair → Bool
has_count None ps = false
has_count (Some name) ps = has_count_by name.dir ps

-- releases of old write no `hash`
abbrev pub age_refused : List Pair → Refusal
age_refused ps = refuse_unless (has (codes "hash") ps) Legacy

-- what the tool leaves out
abbrev pub asked_refused : List Pair → Refusal
asked_refused ps = first_refusal (
    refuse_unless (is_text (codes "md5") (text_at (codes "hash") ps)) (Unsupported (codes "hash"))
    ∷ refuse_if (has (codes "cache") ps) (Unsupported (codes "cache"))
    ∷ refuse_if (has (codes "remote") ps) (Unsupported (codes "remote"))
    ∷ refuse_if (is_bool_at (codes "persist") true ps) (Unsupported (codes "persist"))
    ∷ refuse_if (is_bool_at (codes "push") false ps) (Unsupported (codes "push"))
    ∷ [])

-- what is missing or ill-formed
abbrev pub fields_refused : List (List ℕ) → List Pair → Refusal
fields_refused before ps = first_refusal (
    refuse_unless (is_new before (text_at (codes "path") ps)) (Schema (codes "path"))
    ∷ refuse_unless (is_some (name_at ps)) (Schema (codes "md5"))
    ∷ refuse_unless (is_some (number_at (codes "size") ps)) (Schema (codes "size"))
    ∷ refuse_unless (has_count (name_at ps) ps) (Schema (codes "nfiles"))
    ∷ [])

abbrev pub path_entry_refused : List (List ℕ) → List Pair → Refusal
path_entry_refused before ps = first_refusal (age_refused ps ∷ asked_refused ps ∷ fields_refused before ps ∷ [])

-- ---- lists of path entries, under a key

abbrev pub item_refused : List ℕ → List (List ℕ) → Node → Refusal
item_refused key before v = option_map_or (path_entry_refused before) (pairs_in v) (Some (Schema key))

abbrev pub path_or_none : List Pair → List ℕ
path_or_none ps = unwrap_or (text_at (codes "path") ps) []

-- the path of an item, which is nothing where it has none
abbrev pub path_of : Node → List ℕ
path_of v = option_map_or path_or_none (pairs_in v) []

-- the items of a list behind those with the paths `before`
abbrev pub items_refused : List ℕ → List (List ℕ) → List Node → Refusal
items_refused key before [] = None
items_refused key before (v ∷ vs) = or_then (item_refused key before v) (items_refused key (before ++ path_of v ∷ []) vs)

abbrev pub list_refused : List ℕ → Node → Refusal
list_refused key v = option_map_or (items_refused key []) (items_in v) (Some (Schema key))

-- a list that may be left out
abbrev pub paths_refused : List ℕ → List Pair → Refusal
paths_refused key ps = option_map_or (list_refused key) (value_at key ps) None

-- ---- the commands of an entry

abbrev pub is_command : Node → Bool
is_command v = is_some (text_in v)

abbrev pub are_some_texts : List Node → Bool
are_some_texts vs = not (length vs == 0) && list_all is_command vs

-- a text, or a list of at least one text
abbrev pub are_commands_of : Layer → Bool
are_commands_of (Node-F.Text t) = true
are_commands_of (Node-F.Items vs) = are_some_texts vs
are_commands_of _ = false

abbrev pub are_commands : Option Node → Bool
are_commands None = false
are_commands (Some v) = are_commands_of (out-Node v)

abbrev pub has_commands : List Pair → Bool
has_commands ps = are_commands (value_at (codes "cmd") ps)

-- ---- the parameters of an entry

-- a key of a parameter file
abbrev pub key_refused : Pair → Refusal
key_refused p = refuse_unless (is_within 59 (value_of p)) (Schema (key_of p))

abbrev pub keys_refused : List Pair → Refusal
keys_refused [] = None
keys_refused (p ∷ ps) = or_then (key_refused p) (keys_refused ps)

abbrev pub file_refused : Pair → Refusal
file_refused p = option_map_or keys_refused (pairs_in (value_of p)) (Some (Schema (key_of p)))

abbrev pub files_refused : List Pair → Refusal
files_refused [] = None
files_refused (p ∷ ps) = or_then (file_refused p) (files_refused ps)

abbrev pub files_node_refused : Node → Refusal
files_node_refused v = option_map_or files_refused (pairs_in v) (Some (Schema (codes "params")))

-- they may be left out
abbrev pub params_refused : List Pair → Refusal
params_refused ps = option_map_or files_node_refused (value_at (codes "params") ps) None

-- ---- an entry

abbrev pub parts_refused : List Pair → Refusal
parts_refused ps = first_refusal (
    refuse_unless (has_commands ps) (Schema (codes "cmd"))
    ∷ paths_refused (codes "deps") ps
    ∷ paths_refused (codes "outs") ps
    ∷ params_refused ps
    ∷ [])

abbrev pub entry_refused : List ℕ → Node → Refusal
entry_refused name v = option_map_or parts_refused (pairs_in v) (Some (Schema name))

-- ---- a track file

abbrev pub is_filled_by : Option (List Node) → Bool
is_filled_by None = false
is_filled_by (Some vs) = not (length vs == 0)

-- a list with an item
abbrev pub is_filled : Node → Bool
is_filled v = is_filled_by (items_in v)

abbrev pub outs_by : Node → Refusal
outs_by v = first_refusal (refuse_unless (is_filled v) (Schema (codes "outs")) ∷ list_refused (codes "outs") v ∷ [])

abbrev pub outs_refused : List Pair → Refusal
outs_refused ps = option_map_or outs_by (value_at (codes "outs") ps) (Some (Schema (codes "outs")))

abbrev pub track_pairs_refused : List Pair → Refusal
track_pairs_refused ps = first_refusal (
    outs_refused ps
    ∷ refuse_if (has (codes "deps") ps) (Unsupported (codes "deps"))
    ∷ refuse_if (has (codes "wdir") ps) (Unsupported (codes "wdir"))
    ∷ [])

abbrev pub track_refused : Node → Refusal
track_refused v = option_map_or track_pairs_refused (pairs_in v) (Some (Schema []))

-- ---- a lock

abbrev pub entries_refused : List Pair → Refusal
entries_refused [] = None
entries_refused (p ∷ ps) = or_then (entry_refused (key_of p) (value_of p)) (entries_refused ps)

-- Null is no stage
abbrev pub stages_by : Layer → Refusal
stages_by Node-F.Null = None
stages_by (Node-F.Pairs ps) = entries_refused ps
stages_by _ = Some (Schema (codes "stages"))

abbrev pub stages_node_refused : Node → Refusal
stages_node_refused v = stages_by (out-Node v)

abbrev pub stages_refused : List Pair → Refusal
stages_refused ps = option_map_or stages_node_refused (value_at (codes "stages") ps) (Some (Schema (codes "stages")))

abbrev pub book_refused : List Pair → Refusal
book_refused ps = first_refusal (
    refuse_unless (has (codes "schema") ps) Legacy
    ∷ refuse_unless (is_text (codes "2.0") (scalar_at (codes "schema") ps)) (Schema (codes "schema"))
    ∷ stages_refused ps
    ∷ [])

-- Null is the empty lock
abbrev pub lock_by : Layer → Refusal
lock_by Node-F.Null = None
lock_by (Node-F.Pairs ps) = book_refused ps
lock_by _ = Some (Schema [])

abbrev pub lock_refused : Node → Refusal
lock_refused v = lock_by (out-Node v)
