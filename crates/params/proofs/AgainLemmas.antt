-- The canonical node of a canonical node is that node.
use Rattle.std.proofs.Common.{◌≡◌, ℕ, zero, suc, ◌≤◌, eqb, true, false, List, [], ◌∷◌, map, inl, inr, refl, sym, ap, ◌∙◌, arith, lit<}
use Rattle.std.specs.Prelude.{ℤ, pos, codes}
use Rattle.std.specs.Fmt.{decimal}
use Rattle.std.proofs.lemmas.Bool.{cases_Bool, cond-true, cond-false}
use Rattle.std.proofs.lemmas.Bool.Decides.{nat_tests}
use Rattle.dvc_base.specs.declared.node.Node.{Node, out-Node}
use Rattle.dvc_base.specs.declared.node.Node.TheOpen.{Node-F}
use Rattle.dvc_base.specs.declared.node.Node.TheVariants as nd
use Rattle.dvc_base.specs.declared.node.Pair.{Pair}
use Rattle.yaml_scalars.specs.Number.{significant_part}
use Rattle.yaml_nodes.specs.Part.{key_of}
use Rattle.yaml_print.specs.ScalarText.{Layer}
use Rattle.yaml_print.specs.Print.{value_of}
use Rattle.yaml_print.specs.Sound.{Each, Inside, IsScalar, IsProper, IsSound, are_new}
use Rattle.yaml_print.proofs.NodeCases.{out_null, out_bool, out_whole, out_decimal, out_text, out_items, out_pairs}
use Rattle.lock_files.specs.Order.{in_order}
use Rattle.lock_files.proofs.SortLemmas.{map_in_order}
use Rattle.params.specs.declared.number.Number.{Number}
use Rattle.params.specs.Number.{decimal_number, whole_number, number_text, number_node}
use Rattle.params.specs.Canonical.{with_value, canonical_layer, canonical}
use Rattle.params.proofs.NumberLemmas.{Fits, read_back, decimal_fits, whole_fits, made_small}
use Rattle.params.proofs.PartLemmas.{sound_whole}
use Rattle.params.proofs.CanonLemmas.{canonical_none, canonical_deep, proper, inside, flat}
use Rattle.params.proofs.PairLemmas.{made_distinct, order_again, same_pair}

-- ---- numbers

-- zero, or a number whose canonical form is read back
abbrev pub Stands : Number → Type 0
Stands n = eqb n.digits 0 ≡ false → Fits n

pub zero_node : (n : Number) → eqb n.digits 0 ≡ true → number_node n ≡ nd.Whole (pos 0) (codes "0")
zero_node n h = cond-true (eqb n.digits 0) (nd.Whole (pos 0) (codes "0")) (nd.Decimal (number_text n)) h

pub other_node : (n : Number) → eqb n.digits 0 ≡ false → number_node n ≡ nd.Decimal (number_text n)
other_node n h = cond-false (eqb n.digits 0) (nd.Whole (pos 0) (codes "0")) (nd.Decimal (number_text n)) h

none_is_zero : (a : ℕ) → a ≤ 0 → eqb a 0 ≡ true
none_is_zero a h = grind (arith, nat_tests)

zero_again : number_node (whole_number (pos 0)) ≡ nd.Whole (pos 0) (codes "0")
zero_again = zero_node (whole_number (pos 0)) (none_is_zero (significant_part (decimal 0)).0 (made_small 0 (lit< tt)))

pub number_again : (f : Node → Node) (n : Number) → Stands n → canonical_layer f (out-Node (number_node n)) ≡ number_node n
number_again f n stands =
    elim (cases_Bool (eqb n.digits 0)) [
      | inl none ↦
          ap (λ (v : Node). canonical_layer f (out-Node v)) (zero_node n none) ∙ ap (canonical_layer f) (out_whole (pos 0) (codes "0")) ∙ zero_again ∙ sym (zero_node n none)
      | inr some ↦
          ap (λ (v : Node). canonical_layer f (out-Node v)) (other_node n some) ∙ ap (canonical_layer f) (out_decimal (number_text n)) ∙ ap number_node (read_back n (stands some))
    ]

pub whole_stands : (n : ℤ) (t : List ℕ) → IsProper (Node-F.Whole n t) → Stands (whole_number n)
whole_stands n t h = whole_fits n (sound_whole n t h)

pub decimal_stands : (t : List ℕ) → IsProper (Node-F.Decimal t) → Stands (decimal_number t)
decimal_stands t h = decimal_fits t h

-- ---- lists and mappings

map_again : {A : Type 0} (P : A → Type 0) (g : A → A) → ((x : A) → P x → g (g x) ≡ g x) → (xs : List A) → Each P xs → map g (map g xs) ≡ map g xs
map_again P g again [] h = refl
map_again P g again (x ∷ xs) h = ap (λ y. y ∷ map g (map g xs)) (again x h.0) ∙ ap (λ ys. g x ∷ ys) (map_again P g again xs h.1)

pair_again : (f : Node → Node) (p : Pair) → f (f (value_of p)) ≡ f (value_of p) → with_value f (with_value f p) ≡ with_value f p
pair_again f p h = same_pair (with_value f (with_value f p)) (with_value f p) refl h

pairs_again : (f : Node → Node) (P : Node → Type 0) → ((x : Node) → P x → f (f x) ≡ f x) → (ps : List Pair) → are_new [] ps ≡ true → Each (λ p. P (value_of p)) ps
    → in_order key_of (map (with_value f) (in_order key_of (map (with_value f) ps))) ≡ in_order key_of (map (with_value f) ps)
pairs_again f P again ps new h =
    let made = map (with_value f) ps in
    ap (in_order key_of) (map_in_order (with_value f) key_of made
    ∙ ap (in_order key_of) (map_again (λ p. P (value_of p)) (with_value f) (λ p k. pair_again f p (again (value_of p) k)) ps h))
    ∙ order_again made (made_distinct f ps new)

layer_again : (f : Node → Node) (P : Node → Type 0) → ((x : Node) → P x → f (f x) ≡ f x) → (l : Layer) → IsProper l → Inside P l → canonical_layer f (out-Node (canonical_layer f l)) ≡ canonical_layer f l
layer_again f P again Node-F.Null h k = ap (canonical_layer f) out_null
layer_again f P again (Node-F.Bool b) h k = ap (canonical_layer f) (out_bool b)
layer_again f P again (Node-F.Whole n t) h k = number_again f (whole_number n) (whole_stands n t h)
layer_again f P again (Node-F.Decimal t) h k = number_again f (decimal_number t) (decimal_stands t h)
layer_again f P again (Node-F.Text t) h k = ap (canonical_layer f) (out_text t)
layer_again f P again (Node-F.Items xs) h k = ap (canonical_layer f) (out_items (map f xs)) ∙ ap nd.Items (map_again P f again xs k)
layer_again f P again (Node-F.Pairs ps) h k =
    ap (canonical_layer f) (out_pairs (in_order key_of (map (with_value f) ps))) ∙ ap nd.Pairs (pairs_again f P again ps h k)

nothing_inside : (l : Layer) → IsScalar l → Inside (λ v. Unit {0}) l
nothing_inside (Node-F.Items xs) h = absurd h
nothing_inside (Node-F.Pairs ps) h = absurd h
nothing_inside Node-F.Null h = tt
nothing_inside (Node-F.Bool b) h = tt
nothing_inside (Node-F.Whole n t) h = tt
nothing_inside (Node-F.Decimal t) h = tt
nothing_inside (Node-F.Text t) h = tt

pub canonical_again : (d : ℕ) (v : Node) → IsSound d v → canonical d (canonical d v) ≡ canonical d v
canonical_again zero v h =
    canonical_none (canonical 0 v) ∙ ap (λ (w : Node). canonical_layer (λ x. x) (out-Node w)) (canonical_none v)
    ∙ layer_again (λ x. x) (λ x. Unit {0}) (λ x k. refl) (out-Node v) (proper 0 v h) (nothing_inside (out-Node v) (flat v h)) ∙ sym (canonical_none v)
canonical_again (suc d) v h =
    canonical_deep d (canonical (suc d) v) ∙ ap (λ (w : Node). canonical_layer (canonical d) (out-Node w)) (canonical_deep d v)
    ∙ layer_again (canonical d) (IsSound d) (canonical_again d) (out-Node v) (proper (suc d) v h) (inside d v h) ∙ sym (canonical_deep d v)
