-- Canonical nodes, kind by kind.
--     of_layer                what is canonical of a node's layer, whatever stands inside, is so of the node at any depth
--     of_decimal, of_items, of_pairs    a text with a point or an exponent, a list, a mapping
--     proper_at, inside_at, flat_at     what a node that is sound is, by its layer
use Rattle.std.proofs.Common.{◌≡◌, ℕ, zero, suc, List, map, Result, Ok, Err, refl, sym, ap, subst, ◌∙◌}
use Rattle.std.specs.Prelude.{IfOk}
use Rattle.dvc_base.specs.declared.node.Node.{Node, out-Node}
use Rattle.dvc_base.specs.declared.node.Node.TheOpen.{Node-F}
use Rattle.dvc_base.specs.declared.node.Node.TheVariants as nd
use Rattle.dvc_base.specs.declared.node.Pair.{Pair}
use Rattle.yaml_scalars.specs.Kind.{scalar}
use Rattle.yaml_nodes.specs.Part.{key_of}
use Rattle.yaml_print.specs.ScalarText.{Layer}
use Rattle.yaml_print.specs.Print.{value_of}
use Rattle.yaml_print.specs.Sound.{Each, Inside, IsScalar, IsProper, IsSound}
use Rattle.yaml_print.proofs.NodeCases.{out_decimal, out_items, out_pairs}
use Rattle.lock_files.specs.Order.{in_order}
use Rattle.params.specs.Number.{decimal_number, number_node}
use Rattle.params.specs.Canonical.{with_value, canonical_layer, canonical}

pub canonical_none : (v : Node) → canonical 0 v ≡ canonical_layer (λ x. x) (out-Node v)
unfolding canonical
canonical_none v = refl

pub canonical_deep : (d : ℕ) (v : Node) → canonical (suc d) v ≡ canonical_layer (canonical d) (out-Node v)
unfolding canonical
canonical_deep d v = refl

pub of_layer : (v : Node) (l : Layer) (m : Node) → out-Node v ≡ l → ((f : Node → Node) → m ≡ canonical_layer f l) → (d : ℕ) → m ≡ canonical d v
of_layer v l m is h zero = h (λ x. x) ∙ sym (canonical_none v ∙ ap (canonical_layer (λ x. x)) is)
of_layer v l m is h (suc d) = h (canonical d) ∙ sym (canonical_deep d v ∙ ap (canonical_layer (canonical d)) is)

-- ---- what is sound

pub proper : (d : ℕ) (v : Node) → IsSound d v → IsProper (out-Node v)
unfolding IsSound
proper zero v h = h.0
proper (suc d) v h = h.0

pub inside : (d : ℕ) (v : Node) → IsSound (suc d) v → Inside (IsSound d) (out-Node v)
unfolding IsSound
inside d v h = h.1

pub flat : (v : Node) → IsSound 0 v → IsScalar (out-Node v)
unfolding IsSound
flat v h = h.1

pub proper_at : (d : ℕ) (v : Node) (l : Layer) → out-Node v ≡ l → IsSound d v → IsProper l
proper_at d v l is h = subst IsProper is (proper d v h)

pub inside_at : (d : ℕ) (v : Node) (l : Layer) → out-Node v ≡ l → IsSound (suc d) v → Inside (IsSound d) l
inside_at d v l is h = subst (Inside (IsSound d)) is (inside d v h)

pub flat_at : (v : Node) (l : Layer) → out-Node v ≡ l → IsSound 0 v → IsScalar l
flat_at v l is h = subst IsScalar is (flat v h)

-- ---- kind by kind

pub of_decimal : (v : Node) (t : List ℕ) (m : Node) → v ≡ nd.Decimal t → (scalar 0 t ≡ Ok (nd.Decimal t) → m ≡ number_node (decimal_number t)) → (d : ℕ) → IsSound d v → m ≡ canonical d v
of_decimal v t m is h d sound =
    let layer : out-Node v ≡ Node-F.Decimal t = ap out-Node is ∙ out_decimal t in
    let e = h (proper_at d v (Node-F.Decimal t) layer sound) in
    of_layer v (Node-F.Decimal t) m layer (λ f. e) d

pub of_items : (v : Node) (xs made : List Node) → v ≡ nd.Items xs → ((d : ℕ) → Each (IsSound d) xs → made ≡ map (canonical d) xs) → (d : ℕ) → IsSound d v → nd.Items made ≡ canonical d v
of_items v xs made is h zero sound = absurd (flat_at v (Node-F.Items xs) (ap out-Node is ∙ out_items xs) sound)
of_items v xs made is h (suc d) sound =
    let layer : out-Node v ≡ Node-F.Items xs = ap out-Node is ∙ out_items xs in
    ap nd.Items (h d (inside_at d v (Node-F.Items xs) layer sound)) ∙ sym (canonical_deep d v ∙ ap (canonical_layer (canonical d)) layer)

pub of_pairs : (v m : Node) (ps made : List Pair) → v ≡ nd.Pairs ps → m ≡ nd.Pairs (in_order key_of made) → ((d : ℕ) → Each (λ p. IsSound d (value_of p)) ps → made ≡ map (with_value (canonical d)) ps)
    → (d : ℕ) → IsSound d v → m ≡ canonical d v
of_pairs v m ps made is e h zero sound = absurd (flat_at v (Node-F.Pairs ps) (ap out-Node is ∙ out_pairs ps) sound)
of_pairs v m ps made is e h (suc d) sound =
    let layer : out-Node v ≡ Node-F.Pairs ps = ap out-Node is ∙ out_pairs ps in
    e ∙ ap (λ qs. nd.Pairs (in_order key_of qs)) (h d (inside_at d v (Node-F.Pairs ps) layer sound)) ∙ sym (canonical_deep d v ∙ ap (canonical_layer (canonical d)) layer)

-- ---- what a call answers

pub if_ok : {A E : Type 0} {P Q : A → Type 0} (r : Result A E) → IfOk r P → ((x : A) → P x → Q x) → IfOk r Q
if_ok (Ok x) h f = f x h
if_ok (Err e) h f = tt

pub list_same : (xs ys made : List Node) → xs ≡ ys → ((d : ℕ) → Each (IsSound d) xs → made ≡ map (canonical d) xs) → (d : ℕ) → Each (IsSound d) ys → made ≡ map (canonical d) ys
list_same xs ys made is h = subst (λ (zs : List Node). (d : ℕ) → Each (IsSound d) zs → made ≡ map (canonical d) zs) is h

pub pairs_same : (xs ys made : List Pair) → xs ≡ ys → ((d : ℕ) → Each (λ p. IsSound d (value_of p)) xs → made ≡ map (with_value (canonical d)) xs)
    → (d : ℕ) → Each (λ p. IsSound d (value_of p)) ys → made ≡ map (with_value (canonical d)) ys
pairs_same xs ys made is h = subst (λ (zs : List Pair). (d : ℕ) → Each (λ p. IsSound d (value_of p)) zs → made ≡ map (with_value (canonical d)) zs) is h
