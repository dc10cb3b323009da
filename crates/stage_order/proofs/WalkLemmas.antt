-- The first stage that is left, and the walk, step by step.
--     left_further               a stage that is done is passed over
--     walk_seen, walk_on         the walk ends at a repetition, and else goes on
use Rattle.std.proofs.Common.{◌≡◌, ℕ, suc, ◌+◌, ◌-◌, ◌<◌, Bool, true, false, not, cond, List, [], ◌∷◌, ◌++◌, Option, Some, refl, sym, ap, ◌∙◌, arith}
use Rattle.std.specs.List.{range_with_len}
use Rattle.stage_order.specs.Order.{is_in, above_of}
use Rattle.stage_order.specs.Walk.{first_left, walk_from}
use Rattle.stage_order.proofs.NumberLemmas.{range_step}

pub left_further : (is_done : ℕ → Bool) (n i : ℕ) → i < n → is_done i ≡ true →
    first_left is_done (range_with_len i (n - i)) ≡ first_left is_done (range_with_len (i + 1) (n - (i + 1)))
left_further is_done n i inside met =
    ap (first_left is_done) (range_step n i inside)
    ∙ ap (λ (b : Bool). cond (not b) (Some i) (first_left is_done (range_with_len (i + 1) (n - (i + 1))))) met

one_more : (n i : ℕ) → i < suc n → suc n - i ≡ suc (suc n - (i + 1))
one_more n i inside = omega arith

pub walk_seen : (n i : ℕ) (above : List (List ℕ)) (is_done : ℕ → Bool) (walked : List ℕ) (s : ℕ) → i < suc n → is_in walked s ≡ true →
    walk_from (suc n - i) above is_done walked (Some s) ≡ walked ++ s ∷ []
walk_seen n i above is_done walked s inside met =
    ap (λ (m : ℕ). walk_from m above is_done walked (Some s)) (one_more n i inside)
    ∙ ap (λ (b : Bool). cond b (walked ++ s ∷ []) (walk_from (suc n - (i + 1)) above is_done (walked ++ s ∷ []) (first_left is_done (above_of above s)))) met

pub walk_on : (n i : ℕ) (above : List (List ℕ)) (is_done : ℕ → Bool) (walked : List ℕ) (s : ℕ) → i < suc n → is_in walked s ≡ false →
    walk_from (suc n - i) above is_done walked (Some s)
    ≡ walk_from (suc n - (i + 1)) above is_done (walked ++ s ∷ []) (first_left is_done (above_of above s))
walk_on n i above is_done walked s inside unmet =
    ap (λ (m : ℕ). walk_from m above is_done walked (Some s)) (one_more n i inside)
    ∙ ap (λ (b : Bool). cond b (walked ++ s ∷ []) (walk_from (suc n - (i + 1)) above is_done (walked ++ s ∷ []) (first_left is_done (above_of above s)))) unmet

pub walk_next : (n i : ℕ) (above : List (List ℕ)) (is_done : ℕ → Bool) (walked walked' : List ℕ) (s t : ℕ) → i < suc n → is_in walked s ≡ false →
    walked' ≡ walked ++ s ∷ [] → first_left is_done (above_of above s) ≡ Some t →
    walk_from (suc n - i) above is_done walked (Some s) ≡ walk_from (suc n - (i + 1)) above is_done walked' (Some t)
walk_next n i above is_done walked walked' s t inside unmet grown met =
    walk_on n i above is_done walked s inside unmet
    ∙ ap (walk_from (suc n - (i + 1)) above is_done (walked ++ s ∷ [])) met
    ∙ ap (λ (w : List ℕ). walk_from (suc n - (i + 1)) above is_done w (Some t)) (sym grown)
