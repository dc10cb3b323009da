-- Whether each name and the next are in order says whether they rise.
--     rising-from_answers      by the answers at each name and the next
use Rattle.std.proofs.Common.{◌≡◌, ◌<◌, ◌+◌, ℕ, zero, suc, Bool, true, false, List, [], ◌∷◌, length, refl, sym, arith, add-one, slice_index_or}
use Rattle.std.proofs.lemmas.Bool.{and_left, and_right}
use Rattle.std.specs.Ordering.{nat_cmp, is_lt}
use Rattle.std.specs.Cmp.Lexicographic.{slice_cmp}
use Rattle.std.specs.List.{AllAdjacentBelow, IsAllAdjacentAnswer}
use Rattle.world_api.specs.Calls.{are_rising}

abbrev pub comes_before : List ℕ → List ℕ → Bool
comes_before a b = is_lt (slice_cmp nat_cmp a b)

abbrev Answers : List ℕ → List ℕ → Bool → Type 0
Answers a b r = r ≡ comes_before a b

tail_all : (a : List ℕ) (names : List (List ℕ)) → AllAdjacentBelow (λ x y. Answers x y true) (a ∷ names) (length (a ∷ names)) → AllAdjacentBelow (λ x y. Answers x y true) names (length names)
tail_all a names h = λ k d l. simp add-one (simp add-one at (h (k + 1) d (omega arith)))

rising-all : (names : List (List ℕ)) → AllAdjacentBelow (λ x y. Answers x y true) names (length names) → are_rising names ≡ true
rising-all [] h = refl
rising-all (a ∷ []) h = refl
rising-all (a ∷ b ∷ names) h =
    let first : true ≡ comes_before a b = h 0 a (omega arith) in
    rw (← first) (rising-all (b ∷ names) (tail_all a (b ∷ names) h))

not_rising-at : (names : List (List ℕ)) (k : ℕ) → k + 1 < length names → ((d : List ℕ) → Answers (slice_index_or names k d) (slice_index_or names (k + 1) d) false) → are_rising names ≡ false
not_rising-at [] k l h = absurd (omega arith)
not_rising-at (a ∷ []) k l h = absurd (omega arith)
not_rising-at (a ∷ b ∷ names) zero l h = and_left (comes_before a b) (are_rising (b ∷ names)) (sym (h a))
not_rising-at (a ∷ b ∷ names) (suc k) l h =
    and_right (comes_before a b) (are_rising (b ∷ names)) (not_rising-at (b ∷ names) k (omega arith) (λ d. simp add-one (simp add-one at (h d))))

pub rising-from_answers : (names : List (List ℕ)) (r : Bool) → IsAllAdjacentAnswer (λ x y b. b ≡ is_lt (slice_cmp nat_cmp x y)) names r → r ≡ are_rising names
rising-from_answers names true h = sym (rising-all names h)
rising-from_answers names false h = sym (not_rising-at names h.0 h.1 h.2)
