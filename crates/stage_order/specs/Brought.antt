-- Chosen stages, and all that are above them.
--     brought above chosen order     of the stages in order, those that are chosen or above one that is taken
-- A stage stands behind all that are above it, so the order is gone through from its end.
use Rattle.std.specs.Prelude.{ℕ, Bool, ◌||◌, List, [], ◌∷◌, if◌then◌else◌}
use Rattle.std.specs.List.{list_any}
use Rattle.stage_order.specs.Order.{is_in, above_of}

-- s is chosen, or above one of those that are taken
abbrev pub is_wanted : List (List ℕ) → List ℕ → List ℕ → ℕ → Bool
is_wanted above chosen taken s = is_in chosen s || list_any (λ b. is_in (above_of above b) s) taken

abbrev pub with_wanted : List (List ℕ) → List ℕ → List ℕ → ℕ → List ℕ
with_wanted above chosen taken s = if is_wanted above chosen taken s then s ∷ taken else taken

abbrev pub brought : List (List ℕ) → List ℕ → List ℕ → List ℕ
brought above chosen [] = []
brought above chosen (s ∷ later) = with_wanted above chosen (brought above chosen later) s
