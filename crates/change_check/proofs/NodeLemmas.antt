-- Nodes that are the same as they stand.
--     list_same, list_itself      lists, by a test of items
--     layer_same, layer_itself    layers, by a test of what stands inside
--     node_same                   what passes the test is the same
--     node_decides                and so the test tells, where no more collections stand in one another than are looked into
use Rattle.std.proofs.Common.{◌≡◌, ℕ, zero, suc, Bool, true, false, ◌&&◌, List, [], ◌∷◌, refl, sym, ap, subst, ◌∙◌}
use Rattle.std.specs.Prelude.{ℤ, bytes_eq}
use Rattle.std.specs.Bool.{Decides}
use Rattle.std.specs.Ordering.{int_eq}
use Rattle.std.specs.Cmp.Lexicographic.{pointwise}
use Rattle.std.proofs.lemmas.Bool.{and_parts, and_from, false≢true, not-true}
use Rattle.std.proofs.lemmas.Bool.Decides.{Decides-int_eq}
use Rattle.std.proofs.lemmas.Slice.Eq.{bytes_eq-Decides}
use Rattle.dvc_base.specs.declared.node.Node.{Node, out-Node, roll-Node}
use Rattle.dvc_base.specs.declared.node.Node.TheOpen.{Node-F}
use Rattle.dvc_base.specs.declared.node.Pair.{Pair}
use Rattle.yaml_nodes.specs.Part.{key_of}
use Rattle.yaml_print.specs.ScalarText.{Layer}
use Rattle.yaml_print.specs.Print.{value_of}
use Rattle.yaml_print.specs.Sound.{Each, Inside, IsScalar, IsSound}
use Rattle.yaml_print.proofs.NodeCases.{back}
use Rattle.params.proofs.PairLemmas.{same_pair}
use Rattle.params.proofs.CanonLemmas.{inside, flat}
use Rattle.change_check.specs.Same.{same_truth, same_layer, same_node}

-- ---- scalars

bytes_same : (a b : List ℕ) → bytes_eq a b ≡ true → a ≡ b
bytes_same a b e = (bytes_eq-Decides a b).0 e

bytes_itself : (a : List ℕ) → bytes_eq a a ≡ true
bytes_itself a = (bytes_eq-Decides a a).1 refl

truth_same : (a b : Bool) → same_truth a b ≡ true → a ≡ b
truth_same true b e = sym e
truth_same false b e = sym (not-true b e)

truth_itself : (a : Bool) → same_truth a a ≡ true
truth_itself true = refl
truth_itself false = refl

-- ---- lists

pub list_same : {A : Type 0} (E : A → A → Bool) → ((x y : A) → E x y ≡ true → x ≡ y) → (xs ys : List A) → pointwise E xs ys ≡ true → xs ≡ ys
list_same E same [] [] h = refl
list_same E same [] (y ∷ ys) h = absurd (false≢true h)
list_same E same (x ∷ xs) [] h = absurd (false≢true h)
list_same E same (x ∷ xs) (y ∷ ys) h =
    let parts = and_parts (E x y) (pointwise E xs ys) h in
    ap (λ z. z ∷ xs) (same x y parts.0) ∙ ap (λ zs. y ∷ zs) (list_same E same xs ys parts.1)

pub list_itself : {A : Type 0} (E : A → A → Bool) (P : A → Type 0) → ((x : A) → P x → E x x ≡ true) → (xs : List A) → Each P xs → pointwise E xs xs ≡ true
list_itself E P itself [] all = refl
list_itself E P itself (x ∷ xs) all =
    and_from (E x x) (pointwise E xs xs) (itself x all.0) (list_itself E P itself xs all.1)

-- ---- layers

module _ (inner : Node → Node → Bool) where
  abbrev at_pairs : Pair → Pair → Bool
  at_pairs p q = bytes_eq (key_of p) (key_of q) && inner (value_of p) (value_of q)

  module _ (same : (x y : Node) → inner x y ≡ true → x ≡ y) where
    pair_same : (p q : Pair) → at_pairs p q ≡ true → p ≡ q
    pair_same p q e =
        let parts = and_parts (bytes_eq (key_of p) (key_of q)) (inner (value_of p) (value_of q)) e in
        same_pair p q (bytes_same (key_of p) (key_of q) parts.0) (same (value_of p) (value_of q) parts.1)

    layer_same : (k l : Layer) → same_layer inner k l ≡ true → k ≡ l
    layer_same Node-F.Null Node-F.Null e = refl
    layer_same (Node-F.Bool a) (Node-F.Bool b) e = ap (λ (x : Bool). Node-F.Bool x) (truth_same a b e)
    layer_same (Node-F.Whole m t) (Node-F.Whole n u) e =
        let parts = and_parts (int_eq m n) (bytes_eq t u) e in
        ap (λ (x : ℤ). Node-F.Whole x t) ((Decides-int_eq m n).0 parts.0) ∙ ap (λ (x : List ℕ). Node-F.Whole n x) (bytes_same t u parts.1)
    layer_same (Node-F.Decimal t) (Node-F.Decimal u) e = ap (λ (x : List ℕ). Node-F.Decimal x) (bytes_same t u e)
    layer_same (Node-F.Text t) (Node-F.Text u) e = ap (λ (x : List ℕ). Node-F.Text x) (bytes_same t u e)
    layer_same (Node-F.Items xs) (Node-F.Items ys) e = ap (λ (x : List Node). Node-F.Items x) (list_same inner same xs ys e)
    layer_same (Node-F.Pairs ps) (Node-F.Pairs qs) e = ap (λ (x : List Pair). Node-F.Pairs x) (list_same at_pairs pair_same ps qs e)
    layer_same _ _ e = absurd (false≢true e)

    opened_same : (a b : Node) → same_layer inner (out-Node a) (out-Node b) ≡ true → a ≡ b
    opened_same a b e = sym (back a) ∙ ap roll-Node (layer_same (out-Node a) (out-Node b) e) ∙ back b

  module _ (P : Node → Type 0) (itself : (x : Node) → P x → inner x x ≡ true) where
    pair_itself : (p : Pair) → P (value_of p) → at_pairs p p ≡ true
    pair_itself p h =
        and_from (bytes_eq (key_of p) (key_of p)) (inner (value_of p) (value_of p)) (bytes_itself (key_of p)) (itself (value_of p) h)

    layer_itself : (k : Layer) → Inside P k → same_layer inner k k ≡ true
    layer_itself Node-F.Null h = refl
    layer_itself (Node-F.Bool b) h = truth_itself b
    layer_itself (Node-F.Whole n t) h = and_from (int_eq n n) (bytes_eq t t) ((Decides-int_eq n n).1 refl) (bytes_itself t)
    layer_itself (Node-F.Decimal t) h = bytes_itself t
    layer_itself (Node-F.Text t) h = bytes_itself t
    layer_itself (Node-F.Items xs) h = list_itself inner P itself xs h
    layer_itself (Node-F.Pairs ps) h = list_itself at_pairs (λ p. P (value_of p)) pair_itself ps h

-- ---- nodes

pub node_same : (d : ℕ) (a b : Node) → same_node d a b ≡ true → a ≡ b
unfolding same_node
node_same zero a b e = opened_same (λ x y. false) (λ x y h. absurd (false≢true h)) a b e
node_same (suc d) a b e = opened_same (same_node d) (node_same d) a b e

nothing_inside : (l : Layer) → IsScalar l → Inside (λ v. ⊥) l
nothing_inside (Node-F.Items xs) h = absurd h
nothing_inside (Node-F.Pairs ps) h = absurd h
nothing_inside Node-F.Null h = tt
nothing_inside (Node-F.Bool b) h = tt
nothing_inside (Node-F.Whole n t) h = tt
nothing_inside (Node-F.Decimal t) h = tt
nothing_inside (Node-F.Text t) h = tt

node_itself : (d : ℕ) (a : Node) → IsSound d a → same_node d a a ≡ true
unfolding same_node
node_itself zero a h = layer_itself (λ x y. false) (λ v. ⊥) (λ x k. absurd k) (out-Node a) (nothing_inside (out-Node a) (flat a h))
node_itself (suc d) a h = layer_itself (same_node d) (IsSound d) (node_itself d) (out-Node a) (inside d a h)

pub node_decides : (d : ℕ) (a b : Node) → IsSound d a → Decides (same_node d a b) (a ≡ b)
node_decides d a b h = (node_same d a b, λ e. subst (λ (x : Node). same_node d a x ≡ true) e (node_itself d a h))
