-- Parameters that can be compared by value.
--     AreSound ps        each value can be printed
--     AreCanonical ps    and is its own canonical node
use Rattle.std.specs.Prelude.{◌≡◌, List}
use Rattle.dvc_base.specs.declared.data.ParamFile.{ParamFile}
use Rattle.dvc_base.specs.declared.node.Pair.{Pair}
use Rattle.yaml_print.specs.Print.{value_of}
use Rattle.yaml_print.specs.Sound.{Each, IsSound}
use Rattle.params.specs.Canonical.{canonical}

abbrev pub IsSoundPair : Pair → Type 0
IsSoundPair p = IsSound 64 (value_of p)

abbrev pub IsCanonicalPair : Pair → Type 0
IsCanonicalPair p = IsSound 64 (value_of p) × (canonical 64 (value_of p) ≡ value_of p)

abbrev pub AreSound : List ParamFile → Type 0
AreSound ps = Each (λ f. Each IsSoundPair f.keys) ps

abbrev pub AreCanonical : List ParamFile → Type 0
AreCanonical ps = Each (λ f. Each IsCanonicalPair f.keys) ps
