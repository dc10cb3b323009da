-- The files of variables that a `dvc.yaml` names.
--     named_in pairs   `params.yaml`, the files of the top-level `vars`, and those of each stage's
--     each_once paths  each path once, at its first place
--     wanted root      the files that are named, each once
--     AreTexts ts ps   texts by which paths are found
use Rattle.std.specs.Prelude.{◌≡◌, ℕ, List, [], ◌∷◌, ◌++◌, Option, Some, None, Ok, Err, fold, map, codes, if◌then◌else◌}
use Rattle.std.specs.List.{list_any, flat_map, All}
use Rattle.dvc_base.specs.Path.{Path, is_one, path_text}
use Rattle.dvc_base.specs.Normal.{IsNormal}
use Rattle.dvc_base.specs.declared.node.Node.{Node, out-Node}
use Rattle.dvc_base.specs.declared.node.Node.TheOpen.{Node-F}
use Rattle.dvc_base.specs.declared.node.Pair.{Pair}
use Rattle.template_vars.specs.Item.{file_in}
use Rattle.stage_schema.specs.Node.{Layer, value_of, items_of, pairs_of, value_at}
use Rattle.stage_schema.specs.Wanted.{wanted_fault}
use Rattle.stage_schema.specs.declared.fault.ExpandFault.{ExpandFault}
use Rattle.template_expand.specs.Answer.{Answer, then_by, folded_by}
use Rattle.template_expand.specs.Vars.{params_path, path_in}

-- ---- the top-level `vars`

abbrev pub with_top_layer : List Path → Layer → Answer (List Path)
with_top_layer paths (Node-F.Text text) = then_by (λ path. Ok (paths ++ path ∷ [])) (path_in (codes "vars") (file_in text))
with_top_layer paths _ = Ok paths

abbrev pub with_top : List Path → Node → Answer (List Path)
with_top paths item = with_top_layer paths (out-Node item)

-- ---- those of stages, which are refused in their turn

abbrev pub paths_in : Answer Path → List Path
paths_in (Ok path) = path ∷ []
paths_in (Err fault) = []

abbrev pub layer_paths : Layer → List Path
layer_paths (Node-F.Text text) = paths_in (path_in [] (file_in text))
layer_paths _ = []

abbrev pub item_paths : Node → List Path
item_paths item = layer_paths (out-Node item)

abbrev pub vars_paths : List Pair → List Path
vars_paths pairs = flat_map item_paths (items_of (value_at (codes "vars") pairs))

-- a stage's own, and those of its `do`
abbrev pub body_paths : List Pair → List Path
body_paths pairs = vars_paths pairs ++ vars_paths (pairs_of (value_at (codes "do") pairs))

abbrev pub stage_paths : Pair → List Path
stage_paths s = body_paths (pairs_of (value_of s))

-- ---- all of them

abbrev pub named_in : List Pair → Answer (List Path)
named_in pairs =
    then_by (λ paths. Ok (paths ++ flat_map stage_paths (pairs_of (value_at (codes "stages") pairs))))
    (folded_by with_top (params_path ∷ []) (items_of (value_at (codes "vars") pairs)))

abbrev pub with_path : List Path → Path → List Path
with_path paths path = if list_any (is_one path) paths then paths else paths ++ path ∷ []

abbrev pub each_once : List Path → List Path
each_once paths = fold with_path [] paths

abbrev pub wanted_of : List Pair → Answer (List Path)
wanted_of pairs = then_by (λ paths. Ok (each_once paths)) (named_in pairs)

abbrev pub wanted_unless : Option ExpandFault → List Pair → Answer (List Path)
wanted_unless None pairs = wanted_of pairs
wanted_unless (Some fault) pairs = Err fault

abbrev pub wanted : Node → Answer (List Path)
wanted root = wanted_unless (wanted_fault (out-Node root)) (pairs_of (out-Node root))

-- the texts are those of the paths, of which each is in normal form
pub record AreTexts (texts : List (List ℕ)) (paths : List Path) : Type 0 where
  pub same : texts ≡ map path_text paths
  pub normal : All IsNormal paths
