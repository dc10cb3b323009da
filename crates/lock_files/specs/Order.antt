-- Lists in the order of a text's bytes.
--     in_order key xs      the items by what `key` gives of each; items that tie stay as they stand
--     is_rising texts      each text is less than the next
use Rattle.std.specs.Prelude.{ℕ, Bool, true, ◌&&◌, List, [], ◌∷◌, if◌then◌else◌}
use Rattle.std.specs.Ordering.{nat_cmp, is_lt}
use Rattle.std.specs.Cmp.Lexicographic.{slice_cmp}

abbrev pub is_less : List ℕ → List ℕ → Bool
is_less a b = is_lt (slice_cmp nat_cmp a b)

-- an item put before the first that isn't less
abbrev pub put_in : {A : Type 0} → (A → List ℕ) → A → List A → List A
put_in key a [] = a ∷ []
put_in key a (b ∷ bs) = if is_less (key b) (key a) then b ∷ put_in key a bs else a ∷ b ∷ bs

abbrev pub in_order : {A : Type 0} → (A → List ℕ) → List A → List A
in_order key [] = []
in_order key (a ∷ rest) = put_in key a (in_order key rest)

abbrev pub is_rising : List (List ℕ) → Bool
is_rising [] = true
is_rising (text ∷ []) = true
is_rising (text ∷ next ∷ texts) = is_less text next && is_rising (next ∷ texts)
