-- Which nodes are printed, variant by variant.
use Rattle.std.proofs.Common.{◌≡◌, ℕ, zero, suc, ◌-◌, ◌<◌, ◌≤◌, true, List, [], ◌∷◌, Ok, sym, subst, arith}
use Rattle.std.specs.Prelude.{ℤ, Bool}
use Rattle.std.proofs.Common.{inl, inr}
use Rattle.std.proofs.lemmas.Bool.{cases_lt}
use Rattle.dvc_base.specs.declared.node.Node.{Node, out-Node}
use Rattle.dvc_base.specs.declared.node.Node.TheOpen.{Node-F}
use Rattle.dvc_base.specs.declared.node.Node.TheVariants as nd
use Rattle.dvc_base.specs.declared.node.Pair.{Pair}
use Rattle.yaml_text.specs.Outcome.{Text}
use Rattle.yaml_scalars.specs.Kind.{scalar}
use Rattle.yaml_print.specs.ScalarText.{Layer}
use Rattle.yaml_print.specs.Print.{value_of}
use Rattle.yaml_print.specs.Sound.{Each, Inside, IsScalar, IsProper, are_new, IsSound}
use Rattle.yaml_print.proofs.NodeCases.{out_null, out_bool, out_whole, out_decimal, out_text, out_items, out_pairs}

-- ---- scalars

nothing_inside : (d : ℕ) (l : Layer) → IsScalar l → Inside (IsSound d) l
nothing_inside d (Node-F.Items xs) h = absurd h
nothing_inside d (Node-F.Pairs ps) h = absurd h
nothing_inside d Node-F.Null h = tt
nothing_inside d (Node-F.Bool b) h = tt
nothing_inside d (Node-F.Whole n t) h = tt
nothing_inside d (Node-F.Decimal t) h = tt
nothing_inside d (Node-F.Text t) h = tt

scalar_by : (d : ℕ) (v : Node) → IsProper (out-Node v) → IsScalar (out-Node v) → IsSound d v
unfolding IsSound
scalar_by zero v p s = (p, s)
scalar_by (suc d) v p s = (p, nothing_inside d (out-Node v) s)

scalar_as : (d : ℕ) (v : Node) (l : Layer) → out-Node v ≡ l → IsProper l → IsScalar l → IsSound d v
scalar_as d v l is p s = scalar_by d v (subst (λ k. IsProper k) (sym is) p) (subst (λ k. IsScalar k) (sym is) s)

pub sound_null : (d : ℕ) → IsSound d nd.Null
sound_null d = scalar_as d nd.Null Node-F.Null out_null tt tt

pub sound_bool : (d : ℕ) (b : Bool) → IsSound d (nd.Bool b)
sound_bool d b = scalar_as d (nd.Bool b) (Node-F.Bool b) (out_bool b) tt tt

pub sound_text : (d : ℕ) (t : Text) → IsSound d (nd.Text t)
sound_text d t = scalar_as d (nd.Text t) (Node-F.Text t) (out_text t) tt tt

pub sound_whole : (d : ℕ) (n : ℤ) (t : Text) → scalar 0 t ≡ Ok (nd.Whole n t) → IsSound d (nd.Whole n t)
sound_whole d n t h = scalar_as d (nd.Whole n t) (Node-F.Whole n t) (out_whole n t) h tt

pub sound_decimal : (d : ℕ) (t : Text) → scalar 0 t ≡ Ok (nd.Decimal t) → IsSound d (nd.Decimal t)
sound_decimal d t h = scalar_as d (nd.Decimal t) (Node-F.Decimal t) (out_decimal t) h tt

-- ---- collections

above : (d : ℕ) → 0 < d → d ≡ suc (d - 1)
above d some = omega arith

more_by : (d : ℕ) (v : Node) → IsProper (out-Node v) → Inside (IsSound d) (out-Node v) → IsSound (suc d) v
unfolding IsSound
more_by d v p s = (p, s)

more_as : (d : ℕ) (v : Node) (l : Layer) → 0 < d → out-Node v ≡ l → IsProper l → Inside (IsSound (d - 1)) l → IsSound d v
more_as d v l some is p s =
    subst (λ k. IsSound k v) (sym (above d some)) (more_by (d - 1) v (subst (λ k. IsProper k) (sym is) p) (subst (λ k. Inside (IsSound (d - 1)) k) (sym is) s))

pub sound_items : (d : ℕ) (xs : List Node) → 0 < d → Each (IsSound (d - 1)) xs → IsSound d (nd.Items xs)
sound_items d xs some h = more_as d (nd.Items xs) (Node-F.Items xs) some (out_items xs) tt h

pub sound_pairs : (d : ℕ) (ps : List Pair) → 0 < d → are_new [] ps ≡ true → Each (λ p. IsSound (d - 1) (value_of p)) ps → IsSound d (nd.Pairs ps)
sound_pairs d ps some fresh h = more_as d (nd.Pairs ps) (Node-F.Pairs ps) some (out_pairs ps) fresh h

-- ---- what may be printed may stand deeper

each_by : {A : Type 0} (P Q : A → Type 0) → ((x : A) → P x → Q x) → (xs : List A) → Each P xs → Each Q xs
each_by P Q f [] h = tt
each_by P Q f (x ∷ xs) h = (f x h.0, each_by P Q f xs h.1)

inside_by : (P Q : Node → Type 0) → ((v : Node) → P v → Q v) → (l : Layer) → Inside P l → Inside Q l
inside_by P Q f (Node-F.Items xs) h = each_by P Q f xs h
inside_by P Q f (Node-F.Pairs ps) h = each_by (λ p. P (value_of p)) (λ p. Q (value_of p)) (λ p k. f (value_of p) k) ps h
inside_by P Q f Node-F.Null h = tt
inside_by P Q f (Node-F.Bool b) h = tt
inside_by P Q f (Node-F.Whole n t) h = tt
inside_by P Q f (Node-F.Decimal t) h = tt
inside_by P Q f (Node-F.Text t) h = tt

pub sound_more : (d : ℕ) (v : Node) → IsSound d v → IsSound (suc d) v
unfolding IsSound
sound_more zero v h = (h.0, nothing_inside zero (out-Node v) h.1)
sound_more (suc d) v h = (h.0, inside_by (IsSound d) (IsSound (suc d)) (sound_more d) (out-Node v) h.1)

zero_only : (d : ℕ) → d ≤ 0 → d ≡ 0
zero_only d h = omega arith

pub sound_within : (d e : ℕ) (v : Node) → d ≤ e → IsSound d v → IsSound e v
sound_within d zero v h s = subst (λ k. IsSound k v) (zero_only d h) s
sound_within d (suc e) v h s =
    elim (cases_lt d (suc e)) [
      | inl less ↦ sound_more e v (sound_within d e v (omega arith) s)
      | inr more ↦ let same : d ≡ suc e = omega arith in subst (λ k. IsSound k v) same s
    ]
