-- The texts of a stage, with variables put into them.
--     filled_text scope t       a text with what its templates stand for
--     filled_pairs scope ps     the stage's pairs with their texts so; all else is as it was
-- `scope` are the variables that are seen, of which the first with a name counts.
use Rattle.std.specs.Prelude.{ℕ, Bool, ◌||◌, List, [], Ok, bytes_eq, codes, if◌then◌else◌}
use Rattle.dvc_base.specs.declared.node.Node.{Node, out-Node}
use Rattle.dvc_base.specs.declared.node.Node.TheOpen.{Node-F}
use Rattle.dvc_base.specs.declared.node.Node.TheVariants as nd
use Rattle.dvc_base.specs.declared.node.Pair.{Pair, out-Pair, roll-Pair}
use Rattle.template_vars.specs.Resolve.{resolved}
use Rattle.stage_schema.specs.Node.{Layer, key_of}
use Rattle.stage_schema.specs.Schema.{is_outs_key}
use Rattle.template_expand.specs.Answer.{Answer, then_by, all_by, told_of}

abbrev pub filled_text : List Pair → List ℕ → Answer (List ℕ)
filled_text scope text = told_of [] (resolved scope text)

-- a text, which another node is not
abbrev pub filled_layer : List Pair → Layer → Node → Answer Node
filled_layer scope (Node-F.Text text) v = then_by (λ made. Ok (nd.Text made)) (filled_text scope text)
filled_layer scope _ v = Ok v

abbrev pub filled_node : List Pair → Node → Answer Node
filled_node scope v = filled_layer scope (out-Node v) v

-- the texts of a list, as the keys of a file of parameters are; options of an output are none
abbrev pub filled_list : List Pair → Layer → Node → Answer Node
filled_list scope (Node-F.Items items) v = then_by (λ made. Ok (nd.Items made)) (all_by (filled_node scope) items)
filled_list scope _ v = Ok v

abbrev pub pair_with : List ℕ → Answer Node → Answer Pair
pair_with key value = then_by (λ made. Ok (roll-Pair (record { key = key; value = made }))) value

-- a path with its options, or a file with its keys
abbrev pub filled_path : List Pair → Pair → Answer Pair
filled_path scope p =
    let value = (out-Pair p).value in
    then_by (λ key. pair_with key (filled_list scope (out-Node value) value)) (filled_text scope (key_of p))

abbrev pub filled_item_layer : List Pair → Layer → Node → Answer Node
filled_item_layer scope (Node-F.Pairs pairs) v = then_by (λ made. Ok (nd.Pairs made)) (all_by (filled_path scope) pairs)
filled_item_layer scope layer v = filled_layer scope layer v

abbrev pub filled_item : List Pair → Node → Answer Node
filled_item scope v = filled_item_layer scope (out-Node v) v

-- ---- the values of stage keys

abbrev pub filled_value_layer : List Pair → Layer → Node → Answer Node
filled_value_layer scope (Node-F.Items items) v = then_by (λ made. Ok (nd.Items made)) (all_by (filled_item scope) items)
filled_value_layer scope layer v = filled_layer scope layer v

abbrev pub filled_value : List Pair → Node → Answer Node
filled_value scope v = filled_value_layer scope (out-Node v) v

-- in the others no text is looked at
abbrev pub is_filled_key : List ℕ → Bool
is_filled_key key =
    is_outs_key key
    || (bytes_eq key (codes "cmd")
    || (bytes_eq key (codes "wdir") || (bytes_eq key (codes "deps") || bytes_eq key (codes "params"))))

abbrev pub filled_pair : List Pair → Pair → Answer Pair
filled_pair scope p =
    if is_filled_key (key_of p) then pair_with (key_of p) (filled_value scope (out-Pair p).value) else Ok p

abbrev pub filled_pairs : List Pair → List Pair → Answer (List Pair)
filled_pairs scope pairs = all_by (filled_pair scope) pairs
