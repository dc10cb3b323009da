-- The places of stages that have their turns one after another.
--     once_placed     none has two
--     none_above      a stage stands behind all that are above it
use Rattle.std.proofs.Common.{◌≡◌, ℕ, zero, suc, ◌+◌, Bool, true, false, ◌==◌, cond, List, [], ◌∷◌, map, Some, ap, subst, ◌∙◌, arith, slice_get}
use Rattle.std.proofs.lemmas.Bool.{or_left, or_right, false_from_ne_true, eq-eqb}
use Rattle.path_index.specs.Overlap.{places, places_from}
use Rattle.stage_order.specs.Closure.{StandsBehind}
use Rattle.stage_order.specs.Order.{is_in, above_of}
use Rattle.stage_schema.specs.declared.stage.Stage.{Stage as Written}
use Rattle.stage_graph.specs.Cycle.{all_above}
use Rattle.stage_graph.specs.Paths.{is_above}
use Rattle.stage_plan.proofs.PairLemmas.{AreOnce, none_is_some, some_same}

-- ---- no stage stands twice

pub once_placed : (above : List (List ℕ)) (ns : List ℕ) → StandsBehind above ns → AreOnce ns
once_placed above [] h = tt
once_placed above (n ∷ ns) h = (h.1, once_placed above ns h.2)

-- ---- those above it

above_at : (g : Written → List ℕ) (xs : List Written) (n : ℕ) (b : Written) → slice_get xs n ≡ Some b → above_of (map g xs) n ≡ g b
above_at g [] n b e = absurd (none_is_some b e)
above_at g (x ∷ xs) zero b e = ap g (some_same x b e)
above_at g (x ∷ xs) (suc n) b e = above_at g xs n b e

in_rest : (b : Bool) (k n : ℕ) (rest : List ℕ) → is_in rest n ≡ true → is_in (cond b (k ∷ rest) rest) n ≡ true
in_rest true k n rest h = or_right (k == n) (is_in rest n) h
in_rest false k n rest h = h

place_in : (t : Written → Bool) (k : ℕ) (xs : List Written) (n : ℕ) (a : Written) → slice_get xs n ≡ Some a → t a ≡ true → is_in (places_from t k xs) (k + n) ≡ true
place_in t k [] n a e h = absurd (none_is_some a e)
place_in t k (x ∷ xs) zero a e h =
    let here : t x ≡ true = ap t (some_same x a e) ∙ h in
    let rest : List ℕ = places_from t (suc k) xs in
    let same : k ≡ k + 0 = omega arith in
    ap (λ (b : Bool). is_in (cond b (k ∷ rest) rest) (k + 0)) here ∙ or_left (k == k + 0) (is_in rest (k + 0)) (eq-eqb k (k + 0) same)
place_in t k (x ∷ xs) (suc n) a e h =
    let rest : List ℕ = places_from t (suc k) xs in
    let same : suc k + n ≡ k + suc n = omega arith in
    in_rest (t x) k (k + suc n) rest (subst (λ (m : ℕ). is_in rest m ≡ true) same (place_in t (suc k) xs n a e h))

-- a stage at a place that isn't among those above another isn't above it
pub none_above : (ss : List Written) (m n : ℕ) (a b : Written) → slice_get ss m ≡ Some a → slice_get ss n ≡ Some b → (is_in (above_of (all_above ss) n) m ≡ true → ⊥) → is_above a b ≡ false
none_above ss m n a b d e apart =
    let same : 0 + m ≡ m = omega arith in
    false_from_ne_true (is_above a b) (λ h.
    apart (ap (λ (ns : List ℕ). is_in ns m) (above_at (λ y. places (λ x. is_above x y) ss) ss n b e)
    ∙ subst (λ (k : ℕ). is_in (places (λ x. is_above x b) ss) k ≡ true) same (place_in (λ x. is_above x b) 0 ss m a d h)))
