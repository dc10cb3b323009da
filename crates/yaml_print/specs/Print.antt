-- A node as a text: mappings and sequences in block style (8.2), each further level two columns deeper, and the items of a
-- mapping's value at the column of its key.
--     inline_text l        a scalar, `[]` or `{}`
--     node_text d n v      a node of at most d collections in one another, from its first character, at column n, to its last line's end
--     print_text v         the text of a whole node
use Rattle.std.specs.Prelude.{ℕ, zero, suc, ◌+◌, if◌then◌else◌, List, [], ◌∷◌, ◌++◌, replicate, codes, Option, Some, None}
use Rattle.dvc_base.specs.declared.node.Node.{Node, out-Node}
use Rattle.dvc_base.specs.declared.node.Node.TheOpen.{Node-F}
use Rattle.dvc_base.specs.declared.node.Pair.{Pair, out-Pair}
use Rattle.yaml_text.specs.Characters.{line_feed, space, dash, colon}
use Rattle.yaml_text.specs.Outcome.{Text}
use Rattle.yaml_nodes.specs.Part.{key_of}
use Rattle.yaml_nodes.specs.Document.{max_depth}
use Rattle.yaml_print.specs.ScalarText.{Layer, scalar_text}

abbrev pub value_of : Pair → Node
value_of p = (out-Pair p).value

abbrev pub inline_text : Layer → Text
inline_text Node-F.Null = codes "null"
inline_text (Node-F.Bool b) = if b then codes "true" else codes "false"
inline_text (Node-F.Whole value t) = t
inline_text (Node-F.Decimal t) = t
inline_text (Node-F.Text t) = scalar_text t
inline_text (Node-F.Items xs) = codes "[]"
inline_text (Node-F.Pairs ps) = codes "{}"

-- ---- `inner` gives the text of what stands in a collection, from its column

abbrev pub Inner : Type 0
Inner = ℕ → Node → Text

-- lines at indentation n
abbrev pub rows : {A : Type 0} → ℕ → (A → Text) → List A → Text
rows n line [] = []
rows n line (x ∷ xs) = replicate n space ++ (line x ++ rows n line xs)

abbrev pub item_text : Inner → ℕ → Node → Text
item_text inner n x = dash ∷ space ∷ inner (n + 2) x

-- how much deeper than its key a value stands on the lines below, or that it stands beside the key
abbrev pub extra_columns : Layer → Option ℕ
extra_columns (Node-F.Items (x ∷ xs)) = Some 0
extra_columns (Node-F.Pairs (p ∷ ps)) = Some 2
extra_columns _ = None

abbrev pub value_by : Inner → ℕ → Node → Option ℕ → Text
value_by inner n v None = space ∷ inner n v
value_by inner n v (Some more) = line_feed ∷ (replicate (n + more) space ++ inner (n + more) v)

abbrev pub value_text : Inner → ℕ → Node → Text
value_text inner n v = value_by inner n v (extra_columns (out-Node v))

abbrev pub pair_text : Inner → ℕ → Pair → Text
pair_text inner n p = scalar_text (key_of p) ++ (colon ∷ value_text inner n (value_of p))

abbrev pub layer_text : Inner → ℕ → Layer → Text
layer_text inner n (Node-F.Items (x ∷ xs)) = item_text inner n x ++ rows n (item_text inner n) xs
layer_text inner n (Node-F.Pairs (p ∷ ps)) = pair_text inner n p ++ rows n (pair_text inner n) ps
layer_text inner n l = inline_text l ++ line_feed ∷ []

unfoldable pub node_text : ℕ → Inner
node_text zero n v = inline_text (out-Node v) ++ line_feed ∷ []
node_text (suc depth) n v = layer_text (node_text depth) n (out-Node v)

unfoldable pub print_text : Node → Text
print_text v = node_text max_depth 0 v
