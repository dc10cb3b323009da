-- Nodes as values.
--     number_in l        the number that a layer is
--     is_number m n      n is a number, and the same value as m
--     StandsIn f ps p    the same value stands under p's key in ps, as f makes it
--     canonical d v      the canonical node of a node of at most d collections in one another: each number in canonical form, and the
--                        pairs of each mapping in the order of their keys
use Rattle.std.specs.Prelude.{◌≡◌, ℕ, zero, suc, Bool, false, List, map, Option, Some, None, option_map}
use Rattle.dvc_base.specs.declared.node.Node.{Node, out-Node}
use Rattle.dvc_base.specs.declared.node.Node.TheOpen.{Node-F}
use Rattle.dvc_base.specs.declared.node.Node.TheVariants as nd
use Rattle.dvc_base.specs.declared.node.Pair.{Pair, roll-Pair}
use Rattle.yaml_nodes.specs.Part.{key_of}
use Rattle.yaml_print.specs.ScalarText.{Layer}
use Rattle.yaml_print.specs.Print.{value_of}
use Rattle.lock_files.specs.Mapping.{value_at}
use Rattle.lock_files.specs.Order.{in_order}
use Rattle.params.specs.declared.number.Number.{Number}
use Rattle.params.specs.Number.{is_one, decimal_number, whole_number, number_node}

abbrev pub number_in : Layer → Option Number
number_in (Node-F.Whole n t) = Some (whole_number n)
number_in (Node-F.Decimal t) = Some (decimal_number t)
number_in _ = None

abbrev pub is_number : Number → Option Number → Bool
is_number m None = false
is_number m (Some n) = is_one m n

-- `inner` gives the canonical node of what stands in a collection
abbrev pub with_value : (Node → Node) → Pair → Pair
with_value inner p = roll-Pair (record { key = key_of p; value = inner (value_of p) })

abbrev pub canonical_layer : (Node → Node) → Layer → Node
canonical_layer inner Node-F.Null = nd.Null
canonical_layer inner (Node-F.Bool b) = nd.Bool b
canonical_layer inner (Node-F.Whole n t) = number_node (whole_number n)
canonical_layer inner (Node-F.Decimal t) = number_node (decimal_number t)
canonical_layer inner (Node-F.Text t) = nd.Text t
canonical_layer inner (Node-F.Items xs) = nd.Items (map inner xs)
canonical_layer inner (Node-F.Pairs ps) = nd.Pairs (in_order key_of (map (with_value inner) ps))

unfoldable pub canonical : ℕ → Node → Node
canonical zero v = canonical_layer (λ x. x) (out-Node v)
canonical (suc d) v = canonical_layer (canonical d) (out-Node v)

-- under the pair's key stands the same value in other pairs
abbrev pub StandsIn : (Node → Node) → List Pair → Pair → Type 0
StandsIn f others p = option_map f (value_at (key_of p) others) ≡ Some (f (value_of p))
