-- The variables that a stage sees: `params.yaml`, and each item of `vars` merged in order.
--     node_of files path             what a file of variables holds; none where it is missing
--     path_in left_out text          the path that an item names
--     with_item files left_out vars item    the variables with an item more: a file, chosen keys of one, or a mapping
--     top_vars files root            the variables of the whole file
-- `left_out` is the key at which a path that is none of the workspace's is refused.
use Rattle.std.specs.Prelude.{ℕ, List, [], ◌∷◌, ◌++◌, Option, Some, None, Result, Ok, Err, codes, if◌then◌else◌}
use Rattle.std.specs.List.{list_any}
use Rattle.dvc_base.specs.Path.{Path, is_one}
use Rattle.dvc_base.specs.Join.{join}
use Rattle.dvc_base.specs.declared.path.PathFault.{PathFault}
use Rattle.dvc_base.specs.declared.node.Node.{Node, out-Node}
use Rattle.dvc_base.specs.declared.node.Node.TheOpen.{Node-F}
use Rattle.dvc_base.specs.declared.node.Pair.{Pair}
use Rattle.template_vars.specs.Merge.{merge_answer}
use Rattle.template_vars.specs.Item.{file_in, keys_in, chosen}
use Rattle.stage_schema.specs.Node.{Layer, items_of, pairs_of, value_at}
use Rattle.stage_schema.specs.Schema.{is_url}
use Rattle.stage_schema.specs.declared.fault.ExpandFault.TheVariants as e
use Rattle.template_expand.specs.declared.files.VarFile.{VarFile}
use Rattle.template_expand.specs.declared.vars.Vars.{Vars}
use Rattle.template_expand.specs.Answer.{Answer, then_by, folded_by, told_of}

-- ---- files

abbrev pub params_path : Path
params_path = codes "params.yaml" ∷ []

abbrev pub node_of : List VarFile → Path → Option Node
node_of [] path = None
node_of (f ∷ files) path = if is_one f.file path then f.node else node_of files path

abbrev pub path_or : List ℕ → Result Path PathFault → Answer Path
path_or text (Ok path) = Ok path
path_or text (Err why) = Err (e.Outside text why)

abbrev pub path_in : List ℕ → List ℕ → Answer Path
path_in left_out text = if is_url text then Err (e.Unsupported left_out) else path_or text (join [] text)

-- ---- merges

abbrev pub with_pairs : Path → Vars → List Pair → Answer Vars
with_pairs file vars pairs =
    then_by (λ made. Ok (record vars { variables = made })) (told_of file (merge_answer vars.variables pairs))

-- the file was taken whole, and is passed over from here on
abbrev pub taken : Path → Vars → Answer Vars
taken path vars = Ok (record vars { whole = vars.whole ++ path ∷ [] })

abbrev pub with_root : Path → Vars → Option (List ℕ) → List Pair → Answer Vars
with_root path vars None pairs = then_by (taken path) (with_pairs path vars pairs)
with_root path vars (Some keys) pairs = then_by (with_pairs path vars) (told_of path (chosen keys pairs))

abbrev pub with_node : Path → Vars → Option (List ℕ) → Option Node → Answer Vars
with_node path vars keys None = Err (e.NoFile path)
with_node path vars keys (Some root) = with_root path vars keys (pairs_of (out-Node root))

abbrev pub with_file : List VarFile → Vars → Option (List ℕ) → Path → Answer Vars
with_file files vars keys path =
    if list_any (is_one path) vars.whole then Ok vars else with_node path vars keys (node_of files path)

-- ---- items

abbrev pub with_layer : List VarFile → List ℕ → Vars → Layer → Answer Vars
with_layer files left_out vars (Node-F.Text text) =
    then_by (with_file files vars (keys_in text)) (path_in left_out (file_in text))
with_layer files left_out vars v = with_pairs [] vars (pairs_of v)

abbrev pub with_item : List VarFile → List ℕ → Vars → Node → Answer Vars
with_item files left_out vars item = with_layer files left_out vars (out-Node item)

abbrev pub with_items : List VarFile → List ℕ → Vars → List Node → Answer Vars
with_items files left_out vars items = folded_by (with_item files left_out) vars items

-- ---- the whole file

abbrev pub whole_vars : Node → Path → Vars
whole_vars root path = record { variables = pairs_of (out-Node root); whole = path ∷ [] }

abbrev pub first_vars_of : Option Node → Vars
first_vars_of None = record { variables = []; whole = [] }
first_vars_of (Some root) = whole_vars root params_path

abbrev pub first_vars : List VarFile → Vars
first_vars files = first_vars_of (node_of files params_path)

abbrev pub top_vars : List VarFile → Layer → Answer Vars
top_vars files root = with_items files (codes "vars") (first_vars files) (items_of (value_at (codes "vars") (pairs_of root)))
