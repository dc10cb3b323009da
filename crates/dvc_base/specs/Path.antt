-- Paths: lists of components, from the root of the repository down.
--     under q p         p is q, or lies below q
--     is_one p q        the two are one path
--     overlap p q       one of them is the other, or lies below it
--     is_within p q     p lies below q
--     path_text p       the text of a path: components with a slash between them, `.` for the root
use Rattle.std.specs.Prelude.{ℕ, Bool, true, false, ◌&&◌, ◌||◌, List, [], ◌∷◌, ◌++◌, length, nat_lt, bytes_eq, codes}

-- a path, by its components; the root has none
abbrev pub Path : Type 0
Path = List (List ℕ)

abbrev pub under : Path → Path → Bool
under [] p = true
under (c ∷ q) [] = false
under (c ∷ q) (d ∷ p) = bytes_eq c d && under q p

-- each lies at or below the other
abbrev pub is_one : Path → Path → Bool
is_one p q = under q p && under p q

abbrev pub overlap : Path → Path → Bool
overlap p q = under p q || under q p

abbrev pub is_within : Path → Path → Bool
is_within p q = under q p && nat_lt (length q) (length p)

-- the components with a slash between them
abbrev pub joined : Path → List ℕ
joined [] = []
joined (c ∷ []) = c
joined (c ∷ d ∷ p) = c ++ 47 ∷ joined (d ∷ p)

abbrev pub path_text : Path → List ℕ
path_text [] = codes "."
path_text (c ∷ p) = joined (c ∷ p)
