-- Trees of files and folders, and the values that stand in them.
--     item_at t p       what stands at a path; the root is a folder
--     value_at t p      Nothing, the bytes of a file, or the files below a folder
--     names_in t p      the names of what stands directly in a folder
--     IsRelPath p       a path that a workspace may have: in normal form, and not too long
--     IsTree t          each member's parent is a folder, and its path is one that a workspace may have
use Rattle.std.specs.Prelude.{◌≡◌, ◌≤◌, ℕ, List, [], ◌∷◌, ◌++◌, length, drop, Option, Some, None, IsSome, bytes_eq, if◌then◌else◌}
use Rattle.std.specs.List.{flat_map}
use Rattle.std.specs.Ordering.{nat_cmp}
use Rattle.std.specs.Cmp.Lexicographic.{slice_cmp}
use Rattle.std.specs.declared.cmp.Ordering.{Ordering}
use Rattle.std.specs.FinMap.{FinMap, get, entries, from_entries}
use Rattle.dvc_base.specs.Path.{Path, under, joined}
use Rattle.dvc_base.specs.Normal.{IsNormal}

pub data Item : Type 0 where
  folder : Item
  file : List ℕ → Item

-- paths in the order of their components' bytes
abbrev pub path_cmp : Path → Path → Ordering
path_cmp = slice_cmp (slice_cmp nat_cmp)

-- the members of a tree; the root isn't listed, since it is always there
abbrev pub Tree : Type 0
Tree = FinMap path_cmp Item

abbrev pub item_at : Tree → Path → Option Item
item_at t [] = Some folder
item_at t (c ∷ p) = get t (c ∷ p)

pub record IsRelPath (p : Path) : Type 0 where
  pub normal : IsNormal p
  pub short : length (joined p) ≤ 1024

pub record IsTree (t : Tree) : Type 0 where
  pub rootless : get t [] ≡ None
  pub parents : (p : Path) (c : List ℕ) → IsSome (get t (p ++ c ∷ [])) → item_at t p ≡ Some folder
  pub paths : (p : Path) → IsSome (get t p) → IsRelPath p

-- the name of a path that lies directly in a folder
abbrev pub name_below : Path → Path → List (List ℕ)
name_below [] (c ∷ []) = c ∷ []
name_below (b ∷ p) (c ∷ q) = if bytes_eq b c then name_below p q else []
name_below _ _ = []

-- the names of what stands directly in a folder, in the order of their bytes
abbrev pub names_in : Tree → Path → List (List ℕ)
names_in t p = flat_map (λ e. name_below p e.0) (entries t)

-- the value at a path. Empty folders inside a folder aren't seen
pub data Value : Type 0 where
  nothing : Value
  content : List ℕ → Value
  members : FinMap path_cmp (List ℕ) → Value

-- an entry of a tree, as a member of the folder at p: its path from there, where it is a file below p
abbrev pub member_of : Path → Path → Item → List (Path × List ℕ)
member_of p q folder = []
member_of p q (file bytes) = if under p q then (drop (length p) q, bytes) ∷ [] else []

abbrev pub members_of : Path → List (Path × Item) → List (Path × List ℕ)
members_of p [] = []
members_of p (e ∷ es) = member_of p e.0 e.1 ++ members_of p es

abbrev pub value_of : Tree → Path → Option Item → Value
value_of t p None = nothing
value_of t p (Some (file bytes)) = content bytes
value_of t p (Some folder) = members (from_entries (members_of p (entries t)))

abbrev pub value_at : Tree → Path → Value
value_at t p = value_of t p (item_at t p)
