-- Which paths of a list overlap one.
--     places test xs           the places of the members that pass a test, in order
--     first_overlap paths p    the place of the first path that overlaps p
--     overlapping paths p      the places of all paths that overlap p
use Rattle.std.specs.Prelude.{ℕ, Bool, suc, List, [], ◌∷◌, Option, if◌then◌else◌}
use Rattle.std.specs.List.{position_from}
use Rattle.dvc_base.specs.Path.{Path, overlap}

-- the places from n on
abbrev pub places_from : {A : Type 0} → (A → Bool) → ℕ → List A → List ℕ
places_from test n [] = []
places_from test n (x ∷ xs) = if test x then n ∷ places_from test (suc n) xs else places_from test (suc n) xs

abbrev pub places : {A : Type 0} → (A → Bool) → List A → List ℕ
places test xs = places_from test 0 xs

abbrev pub first_overlap : List Path → Path → Option ℕ
first_overlap paths p = position_from (λ q. overlap q p) 0 paths

abbrev pub overlapping : List Path → Path → List ℕ
overlapping paths p = places (λ q. overlap q p) paths
