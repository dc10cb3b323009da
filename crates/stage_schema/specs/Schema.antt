-- What the schema of `dvc.yaml` refuses, before variables are put into its texts: the first of these that applies, in the order in
-- which they are written here and in the file.
--     root_fault root        the first refusal of a file's own keys
--     stage_fault s          that of a written stage: its name, its keys, and then a key that is missing
--     value_fault name at p  that of a key of a stage: the table of stage keys
--     option_fault name at key path p    that of an option of an output
--     path_fault name p      that of the paths of a key, whose texts are as they stand in the end
-- `name` is the stage as it is written, and `at` the text of the place where its keys stand: at its name, or at its `do`.
use Rattle.std.specs.Prelude.{ℕ, zero, suc, ◌+◌, Bool, true, false, not, ◌&&◌, ◌||◌, List, [], ◌∷◌, length, ◌==◌, nat_eq, bytes_eq, codes, Option, Some, None, Result, Ok, Err, if◌then◌else◌}
use Rattle.std.specs.Option.{option_or}
use Rattle.std.specs.List.{list_any, list_all, position_or_len}
use Rattle.dvc_base.specs.declared.node.Node.{Node, out-Node}
use Rattle.dvc_base.specs.declared.node.Node.TheOpen.{Node-F}
use Rattle.dvc_base.specs.declared.node.Pair.{Pair, out-Pair}
use Rattle.dvc_base.specs.declared.path.PathFault.{PathFault}
use Rattle.dvc_base.specs.Path.{Path}
use Rattle.dvc_base.specs.Join.{join}
use Rattle.stage_schema.specs.Node.{Layer, key_of, value_of, text_of, is_text, is_bool, is_true, is_false, is_list, items_of, is_mapping, pairs_of, has_key, begins, has_part}
use Rattle.stage_schema.specs.Refusal.{dotted, schema_at, unsupported_at, unless, first_in}
use Rattle.stage_schema.specs.declared.fault.ExpandFault.{ExpandFault}
use Rattle.stage_schema.specs.declared.fault.ExpandFault.TheVariants as e

-- ---- the values of stage keys

abbrev pub are_texts : Layer → Bool
are_texts v = is_list v && list_all (λ item. is_text (out-Node item)) (items_of v)

-- a text, or a list of at least one
abbrev pub are_commands : Layer → Bool
are_commands v = is_text v || (not (length (items_of v) == 0) && are_texts v)

-- an option of an output that the tool leaves out: `persist: true`, `push: false`, and any `remote`
abbrev pub is_left_out : List ℕ → Layer → Bool
is_left_out word v =
    if bytes_eq word (codes "persist") then is_true v
    else if bytes_eq word (codes "push") then is_false v
    else bytes_eq word (codes "remote")

-- the others are passed over
abbrev pub option_fault : List ℕ → List ℕ → List ℕ → List ℕ → Pair → Option ExpandFault
option_fault name at key path p =
    let word = key_of p in
    if bytes_eq word (codes "cache") then unless (is_bool (value_of p)) (schema_at (at ∷ key ∷ path ∷ word ∷ []))
    else unless (not (is_left_out word (value_of p))) (unsupported_at (codes "stages" ∷ name ∷ word ∷ []))

abbrev pub options_fault : List ℕ → List ℕ → List ℕ → Pair → Option ExpandFault
options_fault name at key p =
    let path = key_of p in let v = value_of p in
    if is_mapping v then first_in (option_fault name at key path) (pairs_of v) else Some (schema_at (at ∷ key ∷ path ∷ []))

-- an output: a path, or a mapping of one path to its options
abbrev pub out_fault : List ℕ → List ℕ → List ℕ → Layer → Option ExpandFault
out_fault name at key (Node-F.Text path) = None
out_fault name at key (Node-F.Pairs (p ∷ [])) = options_fault name at key p
out_fault name at key _ = Some (schema_at (at ∷ key ∷ []))

abbrev pub outs_fault : List ℕ → List ℕ → List ℕ → Layer → Option ExpandFault
outs_fault name at key v =
    if is_list v then first_in (λ item. out_fault name at key (out-Node item)) (items_of v)
    else Some (schema_at (at ∷ key ∷ []))

-- a file with a list of its keys, or with Null for the whole file
abbrev pub param_file_fault : List ℕ → List ℕ → Pair → Option ExpandFault
param_file_fault at key p = unless (are_texts (value_of p)) (schema_at (at ∷ key ∷ key_of p ∷ []))

-- a key of `params.yaml`, or a mapping of files
abbrev pub param_fault : List ℕ → List ℕ → Layer → Option ExpandFault
param_fault at key (Node-F.Text t) = None
param_fault at key (Node-F.Pairs files) = first_in (param_file_fault at key) files
param_fault at key _ = Some (schema_at (at ∷ key ∷ []))

abbrev pub params_fault : List ℕ → List ℕ → Layer → Option ExpandFault
params_fault at key v =
    if is_list v then first_in (λ item. param_fault at key (out-Node item)) (items_of v) else Some (schema_at (at ∷ key ∷ []))

-- ---- variables

abbrev pub is_template : List ℕ → Bool
is_template text = has_part (codes "${") text

-- `inside` looks into what stands in a collection
abbrev pub is_template_of : (Node → Bool) → Layer → Bool
is_template_of inside (Node-F.Text text) = is_template text
is_template_of inside (Node-F.Items items) = list_any inside items
is_template_of inside (Node-F.Pairs pairs) = list_any (λ p. is_template (key_of p) || inside (out-Pair p).value) pairs
is_template_of inside _ = false

-- a template stands in a text, at most d collections down
unfoldable pub has_template : ℕ → Node → Bool
has_template zero v = is_template (text_of (out-Node v))
has_template (suc d) v = is_template_of (has_template d) (out-Node v)

-- no text has more collections in one another
abbrev pub max_depth : ℕ
max_depth = 64

abbrev pub is_vars_item : Layer → Bool
is_vars_item (Node-F.Text t) = true
is_vars_item (Node-F.Pairs pairs) = true
is_vars_item _ = false

-- a file, or a mapping of variables, without templates. `key` is where the schema refuses it, `left_out` where a template
abbrev pub vars_item_fault : List ℕ → List ℕ → Node → Option ExpandFault
vars_item_fault key left_out item =
    if is_vars_item (out-Node item) then unless (not (has_template max_depth item)) (e.Unsupported left_out)
    else Some (e.Schema key)

abbrev pub vars_fault : List ℕ → List ℕ → Layer → Option ExpandFault
vars_fault key left_out v =
    if is_list v then first_in (vars_item_fault key left_out) (items_of v) else Some (e.Schema key)

-- ---- the keys of a stage

-- where the keys of a stage stand
abbrev pub stage_at : List ℕ → List ℕ
stage_at name = dotted (codes "stages" ∷ name ∷ [])

abbrev pub do_at : List ℕ → List ℕ
do_at name = dotted (stage_at name ∷ codes "do" ∷ [])

abbrev pub stage_vars_fault : List ℕ → List ℕ → Layer → Option ExpandFault
stage_vars_fault name at v = vars_fault (dotted (at ∷ codes "vars" ∷ [])) (dotted (stage_at name ∷ codes "vars" ∷ [])) v

abbrev pub is_outs_key : List ℕ → Bool
is_outs_key key = bytes_eq key (codes "outs") || (bytes_eq key (codes "metrics") || bytes_eq key (codes "plots"))

abbrev pub is_bool_key : List ℕ → Bool
is_bool_key key = bytes_eq key (codes "frozen") || bytes_eq key (codes "always_changed")

-- what is passed over, whatever it is
abbrev pub is_note_key : List ℕ → Bool
is_note_key key = bytes_eq key (codes "desc") || bytes_eq key (codes "meta")

-- the table of the other keys, where only the key itself is refused
abbrev pub is_value : List ℕ → Layer → Bool
is_value key v =
    if bytes_eq key (codes "cmd") then are_commands v
    else if bytes_eq key (codes "wdir") then is_text v
    else if bytes_eq key (codes "deps") then are_texts v
    else if is_bool_key key then is_bool v
    else is_note_key key

abbrev pub value_fault : List ℕ → List ℕ → Pair → Option ExpandFault
value_fault name at p =
    let key = key_of p in let v = value_of p in
    if is_outs_key key then outs_fault name at key v
    else if bytes_eq key (codes "params") then params_fault at key v
    else if bytes_eq key (codes "vars") then stage_vars_fault name at v
    else unless (is_value key v) (schema_at (at ∷ key ∷ []))

-- ---- stages that are written once and made many times

-- from `${` to the first `}`, which ends the text
abbrev pub is_whole_key : List ℕ → Bool
is_whole_key text = begins (codes "${") text && (position_or_len (λ b. b == 125) text + 1 == length text)

-- a list, or a key that leads to one
abbrev pub is_axis : Layer → Bool
is_axis (Node-F.Items items) = true
is_axis v = is_text v && is_whole_key (text_of v)

-- a list, a mapping, or a key that leads to one
abbrev pub is_source : Layer → Bool
is_source (Node-F.Pairs pairs) = true
is_source v = is_axis v

abbrev pub axis_fault : List ℕ → Pair → Option ExpandFault
axis_fault name p = unless (is_axis (value_of p)) (schema_at (stage_at name ∷ codes "matrix" ∷ key_of p ∷ []))

abbrev pub matrix_fault : List ℕ → Layer → Option ExpandFault
matrix_fault name (Node-F.Pairs axes) = first_in (axis_fault name) axes
matrix_fault name _ = Some (schema_at (stage_at name ∷ codes "matrix" ∷ []))

-- ---- paths

-- a path that is none of the workspace's files
abbrev pub is_url : List ℕ → Bool
is_url text = has_part (codes "://") text

abbrev pub is_key_url : Layer → Bool
is_key_url v = list_any (λ p. is_url (key_of p)) (pairs_of v)

abbrev pub is_path_url : Layer → Bool
is_path_url v = is_url (text_of v) || is_key_url v

-- the paths of this key have one: those of dependencies and outputs, and the files of parameters
abbrev pub has_url : List ℕ → List Node → Bool
has_url key items =
    if bytes_eq key (codes "params") then list_any (λ item. is_key_url (out-Node item)) items
    else if bytes_eq key (codes "deps") || is_outs_key key then list_any (λ item. is_path_url (out-Node item)) items
    else false

abbrev pub outside_fault : List ℕ → Result Path PathFault → Option ExpandFault
outside_fault text (Ok dir) = None
outside_fault text (Err why) = Some (e.Outside text why)

-- the folder is read from the root
abbrev pub dir_fault : List ℕ → List ℕ → List ℕ → Option ExpandFault
dir_fault name key text =
    if is_url text then Some (unsupported_at (codes "stages" ∷ name ∷ key ∷ [])) else outside_fault text (join [] text)

abbrev pub path_fault : List ℕ → Pair → Option ExpandFault
path_fault name p =
    let key = key_of p in let v = value_of p in
    if bytes_eq key (codes "wdir") then dir_fault name key (text_of v)
    else unless (not (has_url key (items_of v))) (unsupported_at (codes "stages" ∷ name ∷ key ∷ []))

-- ---- stages

-- `@`, `:`, `/` and the line feed stand in no name of a stage
abbrev pub is_separator : ℕ → Bool
is_separator b = list_any (nat_eq b) (codes "@:/\n")

abbrev pub is_stage_name : List ℕ → Bool
is_stage_name name = not (length name == 0) && not (list_any is_separator name)

abbrev pub command_missing : List ℕ → List Pair → Option ExpandFault
command_missing at pairs = unless (has_key (codes "cmd") pairs) (schema_at (at ∷ codes "cmd" ∷ []))

-- a stage that stands for itself, or for one of each choice of a matrix
abbrev pub plain_value_fault : List ℕ → Pair → Option ExpandFault
plain_value_fault name p =
    if bytes_eq (key_of p) (codes "matrix") then matrix_fault name (value_of p) else value_fault name (stage_at name) p

abbrev pub plain_fault : List ℕ → List Pair → Option ExpandFault
plain_fault name pairs = option_or (first_in (plain_value_fault name) pairs) (command_missing (stage_at name) pairs)

-- the stage that is made of each item
abbrev pub do_fault : List ℕ → Layer → Option ExpandFault
do_fault name (Node-F.Pairs pairs) =
    option_or (first_in (value_fault name (do_at name)) pairs) (command_missing (do_at name) pairs)
do_fault name _ = Some (e.Schema (do_at name))

-- beside `foreach` only `do` may stand
abbrev pub each_value_fault : List ℕ → Pair → Option ExpandFault
each_value_fault name p =
    let key = key_of p in
    if bytes_eq key (codes "do") then do_fault name (value_of p)
    else unless (bytes_eq key (codes "foreach") && is_source (value_of p)) (schema_at (stage_at name ∷ key ∷ []))

abbrev pub each_fault : List ℕ → List Pair → Option ExpandFault
each_fault name pairs =
    option_or (first_in (each_value_fault name) pairs) (unless (has_key (codes "do") pairs) (e.Schema (do_at name)))

abbrev pub keys_fault : List ℕ → List Pair → Option ExpandFault
keys_fault name pairs = if has_key (codes "foreach") pairs then each_fault name pairs else plain_fault name pairs

abbrev pub named_fault : List ℕ → List Pair → Option ExpandFault
named_fault name pairs = if is_stage_name name then keys_fault name pairs else Some (e.Schema (stage_at name))

abbrev pub body_fault : List ℕ → Layer → Option ExpandFault
body_fault name (Node-F.Pairs pairs) = named_fault name pairs
body_fault name _ = Some (e.Schema (stage_at name))

abbrev pub stage_fault : Pair → Option ExpandFault
stage_fault s = body_fault (key_of s) (value_of s)

-- ---- the file

-- what is passed over at the top, whatever it is
abbrev pub is_top_note_key : List ℕ → Bool
is_top_note_key key =
    bytes_eq key (codes "artifacts")
    || (bytes_eq key (codes "plots") || (bytes_eq key (codes "metrics") || bytes_eq key (codes "params")))

-- the table of top-level keys
abbrev pub top_fault : Pair → Option ExpandFault
top_fault p =
    let key = key_of p in let v = value_of p in
    if bytes_eq key (codes "vars") then vars_fault key key v
    else unless ((bytes_eq key (codes "stages") && is_mapping v) || is_top_note_key key) (schema_at (key ∷ []))

abbrev pub root_fault : Layer → Option ExpandFault
root_fault Node-F.Null = None
root_fault (Node-F.Pairs pairs) = first_in top_fault pairs
root_fault _ = Some (schema_at [])
