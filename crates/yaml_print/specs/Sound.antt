-- Which nodes are printed.
--     IsSound d v     at most d collections stand in one another, the keys of each mapping are distinct, and each number's text is one of
--                     its kind and value
--     AreTexts d v    each text in v is UTF-8
use Rattle.std.specs.Prelude.{◌≡◌, ℕ, zero, suc, Bool, true, not, ◌&&◌, List, [], ◌∷◌, ◌++◌, Ok}
use Rattle.std.specs.Str.{IsUtf8}
use Rattle.dvc_base.specs.declared.node.Node.{Node, out-Node}
use Rattle.dvc_base.specs.declared.node.Node.TheOpen.{Node-F}
use Rattle.dvc_base.specs.declared.node.Node.TheVariants as nd
use Rattle.dvc_base.specs.declared.node.Pair.{Pair}
use Rattle.yaml_scalars.specs.Kind.{scalar}
use Rattle.yaml_nodes.specs.Part.{key_of, has_key}
use Rattle.yaml_nodes.specs.Document.{max_depth}
use Rattle.yaml_print.specs.ScalarText.{Layer}
use Rattle.yaml_print.specs.Print.{value_of}

abbrev pub Each : {A : Type 0} → (A → Type 0) → List A → Type 0
Each P [] = Unit {0}
Each P (x ∷ xs) = P x × Each P xs

-- of what stands in a collection
abbrev pub Inside : (Node → Type 0) → Layer → Type 0
Inside P (Node-F.Items xs) = Each P xs
Inside P (Node-F.Pairs ps) = Each (λ p. P (value_of p)) ps
Inside P _ = Unit {0}

abbrev pub IsScalar : Layer → Type 0
IsScalar (Node-F.Items xs) = ⊥
IsScalar (Node-F.Pairs ps) = ⊥
IsScalar _ = Unit {0}

-- a scalar or an empty collection
abbrev pub IsFlat : Layer → Type 0
IsFlat (Node-F.Items (x ∷ xs)) = ⊥
IsFlat (Node-F.Pairs (p ∷ ps)) = ⊥
IsFlat _ = Unit {0}

-- none of these keys stands before it, nor among `found`
abbrev pub are_new : List Pair → List Pair → Bool
are_new found [] = true
are_new found (p ∷ ps) = not (has_key (key_of p) found) && are_new (found ++ p ∷ []) ps

abbrev pub IsProper : Layer → Type 0
IsProper (Node-F.Whole value t) = scalar 0 t ≡ Ok (nd.Whole value t)
IsProper (Node-F.Decimal t) = scalar 0 t ≡ Ok (nd.Decimal t)
IsProper (Node-F.Pairs ps) = are_new [] ps ≡ true
IsProper _ = Unit {0}

unfoldable pub IsSound : ℕ → Node → Type 0
IsSound zero v = IsProper (out-Node v) × IsScalar (out-Node v)
IsSound (suc depth) v = IsProper (out-Node v) × Inside (IsSound depth) (out-Node v)

abbrev pub IsPrintable : Node → Type 0
IsPrintable v = IsSound max_depth v

-- ---- UTF-8, which the type of each text keeps

abbrev pub IsSpelt : Layer → Type 0
IsSpelt (Node-F.Whole value t) = IsUtf8 t
IsSpelt (Node-F.Decimal t) = IsUtf8 t
IsSpelt (Node-F.Text t) = IsUtf8 t
IsSpelt (Node-F.Pairs ps) = Each (λ p. IsUtf8 (key_of p)) ps
IsSpelt _ = Unit {0}

unfoldable pub AreTexts : ℕ → Node → Type 0
AreTexts zero v = IsSpelt (out-Node v)
AreTexts (suc depth) v = IsSpelt (out-Node v) × Inside (AreTexts depth) (out-Node v)
