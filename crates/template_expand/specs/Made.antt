-- The stages that are made of a written one.
--     itself_made               that of a stage which stands for itself
--     list_made, pair_made      those of `foreach`: one of each item, or of each pair
--     choices axes              the choices of a matrix, the first name outermost
--     choice_made c             that of `matrix`: one of each choice
--     mades name top own pairs  all of them. `top` are the variables of the file, `own` those of the stage
use Rattle.std.specs.Prelude.{ℕ, ◌+◌, List, [], ◌∷◌, ◌++◌, map, Option, Some, None, Ok, Err, codes, if◌then◌else◌}
use Rattle.std.specs.List.{flat_map, join_with_byte}
use Rattle.std.specs.Fmt.{decimal}
use Rattle.dvc_base.specs.declared.node.Node.{Node, out-Node}
use Rattle.dvc_base.specs.declared.node.Node.TheOpen.{Node-F}
use Rattle.dvc_base.specs.declared.node.Node.TheVariants as nd
use Rattle.dvc_base.specs.declared.node.Pair.{Pair, out-Pair}
use Rattle.lock_files.specs.Nodes.{pair}
use Rattle.template_vars.specs.Template.{whole_key}
use Rattle.template_vars.specs.Resolve.{text_of, key_node}
use Rattle.stage_schema.specs.Node.{Layer, key_of, pairs_of, has_key, value_at}
use Rattle.stage_schema.specs.Refusal.{schema_at}
use Rattle.stage_schema.specs.declared.fault.ExpandFault.{ExpandFault}
use Rattle.template_expand.specs.declared.made.Made.{Made}
use Rattle.template_expand.specs.Answer.{Answer, then_by, all_by, told_of}

-- what is made of each item and its place
abbrev pub numbered : {A : Type 0} → (ℕ → Node → A) → ℕ → List Node → List A
numbered f place [] = []
numbered f place (v ∷ items) = f place v ∷ numbered f (place + 1) items

abbrev pub itself_made : Made
itself_made = record { suffix = []; hiding = [] }

abbrev pub marked : List ℕ → List ℕ
marked text = codes "@" ++ text

abbrev pub item_pair : Node → Pair
item_pair v = pair (codes "item") v

abbrev pub key_pair : List ℕ → Pair
key_pair text = pair (codes "key") (nd.Text text)

-- the text of a scalar; that of a list or a mapping is its place, behind a name
abbrev pub part_or : Option (List ℕ) → List ℕ → ℕ → List ℕ
part_or (Some text) name place = text
part_or None name place = name ++ decimal place

abbrev pub part_of : List ℕ → ℕ → Node → List ℕ
part_of name place v = part_or (text_of (out-Node v)) name place

-- ---- keys that lead to a list or a mapping

abbrev pub layer_of_key : List Pair → List ℕ → Answer Layer
layer_of_key vars key = then_by (λ v. Ok (out-Node v)) (told_of [] (key_node vars key))

abbrev pub node_under : ExpandFault → List Pair → Option (List ℕ) → Answer Layer
node_under refused vars None = Err refused
node_under refused vars (Some key) = layer_of_key vars key

-- what a key leads to where the text is one, and any other node itself
abbrev pub source : ExpandFault → List Pair → Layer → Answer Layer
source refused vars (Node-F.Text text) = node_under refused vars (whole_key text)
source refused vars v = Ok v

-- ---- `foreach`

abbrev pub item_made : ℕ → Node → Made
item_made place v = record { suffix = marked (part_of [] place v); hiding = item_pair v ∷ [] }

abbrev pub list_made : List Node → List Made
list_made items = numbered item_made 0 items

abbrev pub pair_made : Pair → Made
pair_made p =
    record { suffix = marked (key_of p); hiding = item_pair (out-Pair p).value ∷ key_pair (key_of p) ∷ [] }

abbrev pub source_made : ExpandFault → Layer → Answer (List Made)
source_made refused (Node-F.Items items) = Ok (list_made items)
source_made refused (Node-F.Pairs pairs) = Ok (map pair_made pairs)
source_made refused _ = Err refused

abbrev pub each_at : ExpandFault → List Pair → Layer → Answer (List Made)
each_at refused top v = then_by (source_made refused) (source refused top v)

abbrev pub each_made : List ℕ → List Pair → Layer → Answer (List Made)
each_made name top v = each_at (schema_at (codes "stages" ∷ name ∷ codes "foreach" ∷ [])) top v

-- ---- `matrix`

-- one item of an axis: the axis's name, its part of the stage's name, and its value
pub record Pick : Type 0 where
  pub name : List ℕ
  pub part : List ℕ
  pub value : Node

abbrev pub pick_at : List ℕ → ℕ → Node → Pick
pick_at name place v = record { name = name; part = part_of name place v; value = v }

abbrev pub picks : List ℕ → List Node → List Pick
picks name items = numbered (pick_at name) 0 items

abbrev pub choices : List (List Pick) → List (List Pick)
choices [] = [] ∷ []
choices (axis ∷ axes) = flat_map (λ pick. map (λ choice. pick ∷ choice) (choices axes)) axis

-- the parts of a choice, with `-` between them
abbrev pub choice_text : List Pick → List ℕ
choice_text choice = join_with_byte 45 (map (λ pick. pick.part) choice)

abbrev pub choice_node : List Pick → Node
choice_node choice = nd.Pairs (map (λ pick. pair pick.name pick.value) choice)

abbrev pub choice_made : List Pick → Made
choice_made choice = record {
  suffix = marked (choice_text choice);
  hiding = item_pair (choice_node choice) ∷ key_pair (choice_text choice) ∷ [];
}

abbrev pub axis_items : ExpandFault → List ℕ → Layer → Answer (List Pick)
axis_items refused name (Node-F.Items items) = Ok (picks name items)
axis_items refused name _ = Err refused

abbrev pub axis : List ℕ → List Pair → Pair → Answer (List Pick)
axis name own p =
    let refused = schema_at (codes "stages" ∷ name ∷ codes "matrix" ∷ key_of p ∷ []) in
    then_by (axis_items refused (key_of p)) (source refused own (out-Node (out-Pair p).value))

abbrev pub matrix_made : List ℕ → List Pair → List Pair → Answer (List Made)
matrix_made name own axes = then_by (λ made. Ok (map choice_made (choices made))) (all_by (axis name own) axes)

-- ---- all of them

abbrev pub mades : List ℕ → List Pair → List Pair → List Pair → Answer (List Made)
mades name top own pairs =
    if has_key (codes "foreach") pairs then each_made name top (value_at (codes "foreach") pairs)
    else if has_key (codes "matrix") pairs then matrix_made name own (pairs_of (value_at (codes "matrix") pairs))
    else Ok (itself_made ∷ [])
