-- The walk round a cycle. What is done is told by a test.
--     first_left is_done stages    the first of the stages that isn't done
--     walk above is_done s         the walk from s: each time to the first stage that is left above the last one, up to and with
--                                  the first repetition
--     first_walk above is_done     the walk from the first stage that is left, if there is one
use Rattle.std.specs.Prelude.{ℕ, zero, suc, Bool, not, List, [], ◌∷◌, ◌++◌, length, Option, Some, None, option_map, if◌then◌else◌}
use Rattle.std.specs.List.{find, range_with_len}
use Rattle.stage_order.specs.Order.{is_in, above_of}

abbrev pub first_left : (ℕ → Bool) → List ℕ → Option ℕ
first_left is_done stages = find (λ s. not (is_done s)) stages

-- at most n more stages of a walk that goes on at s
abbrev pub walk_from : ℕ → List (List ℕ) → (ℕ → Bool) → List ℕ → Option ℕ → List ℕ
walk_from n above is_done walked None = walked
walk_from zero above is_done walked (Some s) = walked
walk_from (suc n) above is_done walked (Some s) =
    if is_in walked s
    then walked ++ s ∷ []
    else walk_from n above is_done (walked ++ s ∷ []) (first_left is_done (above_of above s))

-- one more than there are stages: a walk without a repetition is no longer than the list of all
abbrev pub walk : List (List ℕ) → (ℕ → Bool) → ℕ → List ℕ
walk above is_done s = walk_from (suc (length above)) above is_done [] (Some s)

abbrev pub first_walk : List (List ℕ) → (ℕ → Bool) → Option (List ℕ)
first_walk above is_done = option_map (walk above is_done) (first_left is_done (range_with_len 0 (length above)))
