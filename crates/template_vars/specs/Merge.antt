-- A mapping, merged into another one.
--     clash d a b      the key at which two values meet of which one is no mapping. It is the first in the order of b's pairs,
--                      where what stands inside a pair's value comes before the next pair
--     merged d a b     a's pairs in their places, with the mappings under one key merged inside, and then b's other pairs
--     merge_answer a b what the merge of two whole mappings comes to: the merged one, or Schema with the key of the clash
-- At most d mappings are entered, one inside another; two that meet deeper clash. No YAML text has more than 64 collections in
-- one another.
use Rattle.std.specs.Prelude.{ℕ, zero, suc, Bool, not, List, [], ◌∷◌, ◌++◌, map, Option, Some, None, Result, Ok, Err}
use Rattle.std.specs.Option.{option_or}
use Rattle.std.specs.List.{filter}
use Rattle.dvc_base.specs.declared.node.Node.{Node}
use Rattle.dvc_base.specs.declared.node.Node.TheVariants as nd
use Rattle.dvc_base.specs.declared.node.Pair.{Pair}
use Rattle.yaml_nodes.specs.Part.{key_of}
use Rattle.yaml_print.specs.Print.{value_of}
use Rattle.lock_files.specs.Mapping.{pairs_in, value_at, has}
use Rattle.lock_files.specs.Nodes.{pair}
use Rattle.template_vars.specs.declared.fault.TemplateFault.{TemplateFault}
use Rattle.template_vars.specs.declared.fault.TemplateFault.TheVariants.{Schema}

-- ---- the first clash

-- `inside` gives the clash of two mappings that stand under a key
abbrev pub Inside : Type 0
Inside = List ℕ → List Pair → List Pair → Option (List ℕ)

abbrev pub clash_of : Inside → List ℕ → Option (List Pair) → Option (List Pair) → Option (List ℕ)
clash_of inside key (Some a) (Some b) = inside key a b
clash_of inside key _ _ = Some key

-- what stands under the pair's key already, if anything does
abbrev pub clash_with : Inside → Pair → Option Node → Option (List ℕ)
clash_with inside p None = None
clash_with inside p (Some v) = clash_of inside (key_of p) (pairs_in v) (pairs_in (value_of p))

abbrev pub first_clash : Inside → List Pair → List Pair → Option (List ℕ)
first_clash inside a [] = None
first_clash inside a (p ∷ b) = option_or (clash_with inside p (value_at (key_of p) a)) (first_clash inside a b)

unfoldable pub clash_inside : ℕ → Inside
clash_inside zero key a b = Some key
clash_inside (suc d) key a b = first_clash (clash_inside d) a b

abbrev pub clash : ℕ → List Pair → List Pair → Option (List ℕ)
clash d a b = first_clash (clash_inside d) a b

-- ---- the merged mapping

-- `inside` merges two mappings
abbrev pub Merges : Type 0
Merges = List Pair → List Pair → List Pair

abbrev pub mapping_with : Merges → Node → Option (List Pair) → Option (List Pair) → Node
mapping_with inside v (Some a) (Some b) = nd.Pairs (inside a b)
mapping_with inside v _ _ = v

abbrev pub value_with : Merges → Node → Option Node → Node
value_with inside v None = v
value_with inside v (Some w) = mapping_with inside v (pairs_in v) (pairs_in w)

-- a pair, with what b has under its key
abbrev pub pair_with : Merges → List Pair → Pair → Pair
pair_with inside b p = pair (key_of p) (value_with inside (value_of p) (value_at (key_of p) b))

abbrev pub is_new : List Pair → Pair → Bool
is_new a p = not (has (key_of p) a)

abbrev pub merged_by : Merges → Merges
merged_by inside a b = map (pair_with inside b) a ++ filter (is_new a) b

unfoldable pub merged_inside : ℕ → Merges
merged_inside zero a b = a
merged_inside (suc d) a b = merged_by (merged_inside d) a b

abbrev pub merged : ℕ → Merges
merged d a b = merged_by (merged_inside d) a b

-- ---- whole mappings

-- how many mappings are entered
abbrev pub max_depth : ℕ
max_depth = 64

abbrev pub merge_unless : Option (List ℕ) → List Pair → Result (List Pair) TemplateFault
merge_unless None made = Ok made
merge_unless (Some key) made = Err (Schema key)

abbrev pub merge_answer : List Pair → List Pair → Result (List Pair) TemplateFault
merge_answer a b = merge_unless (clash max_depth a b) (merged max_depth a b)
