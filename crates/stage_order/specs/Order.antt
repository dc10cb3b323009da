-- The order of numbered stages. `above` has for each stage the numbers of those above it.
--     above_of above s     those above a stage
--     next above done      the first stage that isn't done and whose stages above are all done
--     order above          again and again the next one; those in a cycle, or below one, are left out
use Rattle.std.specs.Prelude.{ℕ, zero, suc, Bool, not, ◌&&◌, ◌==◌, List, [], ◌∷◌, ◌++◌, length, slice_index_or, Option}
use Rattle.std.specs.List.{list_any, list_all, find, range_with_len}
use Rattle.std.specs.Option.{option_map_or}

abbrev pub is_in : List ℕ → ℕ → Bool
is_in ns n = list_any (λ m. m == n) ns

abbrev pub above_of : List (List ℕ) → ℕ → List ℕ
above_of above s = slice_index_or above s []

abbrev pub is_next : List (List ℕ) → List ℕ → ℕ → Bool
is_next above done s = not (is_in done s) && list_all (is_in done) (above_of above s)

abbrev pub next : List (List ℕ) → List ℕ → Option ℕ
next above done = find (is_next above done) (range_with_len 0 (length above))

-- what is done after at most n more stages
abbrev pub order_from : ℕ → List (List ℕ) → List ℕ → List ℕ
order_from zero above done = done
order_from (suc n) above done = option_map_or (λ s. order_from n above (done ++ s ∷ [])) (next above done) done

abbrev pub order : List (List ℕ) → List ℕ
order above = order_from (length above) above []
