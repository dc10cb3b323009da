-- Nodes, as the schema of `dvc.yaml` sees them.
--     Layer                  a node, opened once
--     is_list, items_of      a list, for which Null may stand, and its items
--     is_mapping, pairs_of   a mapping, for which Null may stand, and its pairs
--     value_at key pairs     the value at a key; Null where there is none
--     has_part part text     a text has a part somewhere
use Rattle.std.specs.Prelude.{ℕ, Bool, true, false, ◌||◌, List, [], ◌∷◌, length, take, bytes_eq, if◌then◌else◌}
use Rattle.std.specs.List.{list_any}
use Rattle.dvc_base.specs.declared.node.Node.{Node, out-Node}
use Rattle.dvc_base.specs.declared.node.Node.TheOpen.{Node-F}
use Rattle.dvc_base.specs.declared.node.Pair.{Pair, out-Pair}

abbrev pub Layer : Type 0
Layer = Node-F Node Pair

abbrev pub key_of : Pair → List ℕ
key_of p = (out-Pair p).key

abbrev pub value_of : Pair → Layer
value_of p = out-Node (out-Pair p).value

-- ---- kinds

abbrev pub is_text : Layer → Bool
is_text (Node-F.Text t) = true
is_text _ = false

-- the text; the empty one of any other node
abbrev pub text_of : Layer → List ℕ
text_of (Node-F.Text t) = t
text_of _ = []

abbrev pub is_bool : Layer → Bool
is_bool (Node-F.Bool b) = true
is_bool _ = false

abbrev pub is_true : Layer → Bool
is_true (Node-F.Bool b) = b
is_true _ = false

abbrev pub is_false : Layer → Bool
is_false (Node-F.Bool true) = false
is_false (Node-F.Bool false) = true
is_false _ = false

abbrev pub is_null : Layer → Bool
is_null Node-F.Null = true
is_null _ = false

-- ---- lists and mappings, for which Null may stand

abbrev pub is_list : Layer → Bool
is_list Node-F.Null = true
is_list (Node-F.Items items) = true
is_list _ = false

abbrev pub items_of : Layer → List Node
items_of (Node-F.Items items) = items
items_of _ = []

abbrev pub is_mapping : Layer → Bool
is_mapping Node-F.Null = true
is_mapping (Node-F.Pairs pairs) = true
is_mapping _ = false

abbrev pub pairs_of : Layer → List Pair
pairs_of (Node-F.Pairs pairs) = pairs
pairs_of _ = []

-- ---- keys

abbrev pub has_key : List ℕ → List Pair → Bool
has_key key pairs = list_any (λ p. bytes_eq (key_of p) key) pairs

-- the value at a key; Null where there is none
abbrev pub value_at : List ℕ → List Pair → Layer
value_at key [] = Node-F.Null
value_at key (p ∷ pairs) = if bytes_eq (key_of p) key then value_of p else value_at key pairs

-- ---- parts of texts

abbrev pub begins : List ℕ → List ℕ → Bool
begins part text = bytes_eq (take (length part) text) part

abbrev pub has_part : List ℕ → List ℕ → Bool
has_part part [] = false
has_part part (b ∷ text) = begins part (b ∷ text) || has_part part text
