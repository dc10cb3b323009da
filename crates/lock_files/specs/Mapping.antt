-- What stands under the keys of a mapping, and as what a node is read.
--     value_at key ps       the value under a key, if there is one
--     pairs_in, items_in    the pairs of a mapping, the items of a list
--     text_in               a Text
--     scalar_in             a scalar's text as it was written; that of Null or a Bool is none that is asked for anywhere
--     number_in             a Whole from 0 to 2^64 - 1
--     is_bool b             just this Bool
--     is_within d           at most d collections stand in one another
-- Each of them is None for another node. `text_at`, `scalar_at` and `number_at` read the value under a key, and are None too where
-- there is none.
use Rattle.std.specs.Prelude.{ℕ, zero, suc, ◌^◌, ℤ, pos, negsuc, Bool, true, false, not, List, [], ◌∷◌, Option, Some, None, option_and_then, is_some, nat_lt, bytes_eq, if◌then◌else◌}
use Rattle.std.specs.List.{list_all}
use Rattle.dvc_base.specs.declared.node.Node.{Node, out-Node}
use Rattle.dvc_base.specs.declared.node.Node.TheOpen.{Node-F}
use Rattle.dvc_base.specs.declared.node.Pair.{Pair}
use Rattle.yaml_nodes.specs.Part.{key_of}
use Rattle.yaml_print.specs.ScalarText.{Layer}
use Rattle.yaml_print.specs.Print.{value_of}

-- ---- a node, opened once

abbrev pub pairs_of : Layer → Option (List Pair)
pairs_of (Node-F.Pairs ps) = Some ps
pairs_of _ = None

abbrev pub items_of : Layer → Option (List Node)
items_of (Node-F.Items vs) = Some vs
items_of _ = None

abbrev pub text_of : Layer → Option (List ℕ)
text_of (Node-F.Text t) = Some t
text_of _ = None

abbrev pub scalar_of : Layer → Option (List ℕ)
scalar_of (Node-F.Whole n t) = Some t
scalar_of (Node-F.Decimal t) = Some t
scalar_of (Node-F.Text t) = Some t
scalar_of _ = None

-- the number, where 64 bits hold it
abbrev pub unsigned : ℤ → Option ℕ
unsigned (pos n) = if nat_lt n (2 ^ 64) then Some n else None
unsigned (negsuc n) = None

abbrev pub number_of : Layer → Option ℕ
number_of (Node-F.Whole n t) = unsigned n
number_of _ = None

abbrev pub is_same : Bool → Bool → Bool
is_same true b = b
is_same false b = not b

abbrev pub is_bool_of : Bool → Layer → Bool
is_bool_of b (Node-F.Bool c) = is_same b c
is_bool_of b _ = false

-- ---- nodes

abbrev pub pairs_in : Node → Option (List Pair)
pairs_in v = pairs_of (out-Node v)

abbrev pub items_in : Node → Option (List Node)
items_in v = items_of (out-Node v)

abbrev pub text_in : Node → Option (List ℕ)
text_in v = text_of (out-Node v)

abbrev pub scalar_in : Node → Option (List ℕ)
scalar_in v = scalar_of (out-Node v)

abbrev pub number_in : Node → Option ℕ
number_in v = number_of (out-Node v)

abbrev pub is_null_of : Layer → Bool
is_null_of Node-F.Null = true
is_null_of _ = false

-- `inside` tests what stands in a collection
abbrev pub all_inside : (Node → Bool) → Layer → Bool
all_inside inside (Node-F.Items vs) = list_all inside vs
all_inside inside (Node-F.Pairs ps) = list_all (λ p. inside (value_of p)) ps
all_inside inside _ = true

abbrev pub is_scalar_of : Layer → Bool
is_scalar_of (Node-F.Items vs) = false
is_scalar_of (Node-F.Pairs ps) = false
is_scalar_of _ = true

unfoldable pub is_within : ℕ → Node → Bool
is_within zero v = is_scalar_of (out-Node v)
is_within (suc d) v = all_inside (is_within d) (out-Node v)

-- ---- mappings

abbrev pub value_at : List ℕ → List Pair → Option Node
value_at key [] = None
value_at key (p ∷ ps) = if bytes_eq (key_of p) key then Some (value_of p) else value_at key ps

abbrev pub has : List ℕ → List Pair → Bool
has key ps = is_some (value_at key ps)

abbrev pub text_at : List ℕ → List Pair → Option (List ℕ)
text_at key ps = option_and_then text_in (value_at key ps)

abbrev pub scalar_at : List ℕ → List Pair → Option (List ℕ)
scalar_at key ps = option_and_then scalar_in (value_at key ps)

abbrev pub number_at : List ℕ → List Pair → Option ℕ
number_at key ps = option_and_then number_in (value_at key ps)

abbrev pub is_bool : Bool → Option Node → Bool
is_bool b None = false
is_bool b (Some v) = is_bool_of b (out-Node v)

-- this Bool stands under the key
abbrev pub is_bool_at : List ℕ → Bool → List Pair → Bool
is_bool_at key b ps = is_bool b (value_at key ps)

abbrev pub is_text : List ℕ → Option (List ℕ) → Bool
is_text text None = false
is_text text (Some t) = bytes_eq t text
