-- The text of a node and what is asked of it, by the number of collections that may stand in one another.
use Rattle.std.proofs.Common.{◌≡◌, ℕ, suc, ◌-◌, ◌<◌, ◌++◌, ◌∷◌, [], refl, ap, sym, subst, ◌∙◌, arith}
use Rattle.dvc_base.specs.declared.node.Node.{Node, out-Node}
use Rattle.dvc_base.specs.declared.node.Node.TheOpen.{Node-F}
use Rattle.yaml_print.specs.ScalarText.{Layer}
use Rattle.yaml_print.specs.Print.{inline_text, layer_text, node_text}
use Rattle.yaml_print.specs.Sound.{Inside, IsScalar, IsFlat, IsSound, IsSpelt, AreTexts}

pub scalar_flat : (l : Layer) → IsScalar l → IsFlat l
scalar_flat (Node-F.Items xs) h = absurd h
scalar_flat (Node-F.Pairs ps) h = absurd h
scalar_flat Node-F.Null h = tt
scalar_flat (Node-F.Bool b) h = tt
scalar_flat (Node-F.Whole value t) h = tt
scalar_flat (Node-F.Decimal t) h = tt
scalar_flat (Node-F.Text t) h = tt

before : (depth : ℕ) → 0 < depth → depth ≡ suc (depth - 1)
before depth some = omega arith

pub text_none : (depth n : ℕ) (v : Node) → depth ≡ 0 → node_text depth n v ≡ inline_text (out-Node v) ++ 10 ∷ []
unfolding node_text
text_none depth n v e = ap (λ d. node_text d n v) e

deep_text : (depth n : ℕ) (v : Node) → node_text (suc depth) n v ≡ layer_text (node_text depth) n (out-Node v)
unfolding node_text
deep_text depth n v = refl

pub text_deep : (depth n : ℕ) (v : Node) → 0 < depth → node_text depth n v ≡ layer_text (node_text (depth - 1)) n (out-Node v)
text_deep depth n v some = ap (λ d. node_text d n v) (before depth some) ∙ deep_text (depth - 1) n v

none_sound : (v : Node) → IsSound 0 v → IsScalar (out-Node v)
unfolding IsSound
none_sound v h = h.1

pub sound_none : (depth : ℕ) (v : Node) → depth ≡ 0 → IsSound depth v → IsFlat (out-Node v)
sound_none depth v e h = scalar_flat (out-Node v) (none_sound v (subst (λ d. IsSound d v) e h))

deep_sound : (depth : ℕ) (v : Node) → IsSound (suc depth) v → Inside (IsSound depth) (out-Node v)
unfolding IsSound
deep_sound depth v h = h.1

pub sound_deep : (depth : ℕ) (v : Node) → 0 < depth → IsSound depth v → Inside (IsSound (depth - 1)) (out-Node v)
sound_deep depth v some h = deep_sound (depth - 1) v (subst (λ d. IsSound d v) (before depth some) h)

none_texts : (v : Node) → IsSpelt (out-Node v) → AreTexts 0 v
unfolding AreTexts
none_texts v h = h

pub texts_none : (depth : ℕ) (v : Node) → depth ≡ 0 → IsSpelt (out-Node v) → AreTexts depth v
texts_none depth v e h = subst (λ d. AreTexts d v) (sym e) (none_texts v h)

deep_texts : (depth : ℕ) (v : Node) → IsSpelt (out-Node v) × Inside (AreTexts depth) (out-Node v) → AreTexts (suc depth) v
unfolding AreTexts
deep_texts depth v h = h

pub texts_deep : (depth : ℕ) (v : Node) → 0 < depth → IsSpelt (out-Node v) × Inside (AreTexts (depth - 1)) (out-Node v) → AreTexts depth v
texts_deep depth v some h = subst (λ d. AreTexts d v) (sym (before depth some)) (deep_texts (depth - 1) v h)
