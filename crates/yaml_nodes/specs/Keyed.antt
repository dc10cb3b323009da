-- A set that has just the keys of some pairs.
use Rattle.std.specs.Prelude.{◌≡◌, ℕ, List}
use Rattle.std.specs.BTreeSet.{BTreeSet, contains_text}
use Rattle.std.specs.declared.alloc.Global.{Global}
use Rattle.std.specs.Prelude.{String}
use Rattle.dvc_base.specs.declared.node.Pair.{Pair}
use Rattle.yaml_nodes.specs.Part.{has_key}

abbrev pub HasKeys : BTreeSet (String Global) → List Pair → Type 0
HasKeys keys pairs = (q : List ℕ) → contains_text keys q ≡ has_key q pairs
