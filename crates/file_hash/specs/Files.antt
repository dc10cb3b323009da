-- The files of a folder as a value: a map from paths to bytes.
--     IsFileMap m      no file at the root, none below another, each path one that a workspace may have
--     size_of m        the bytes of all files together
--     count_of m       how many files
use Rattle.std.specs.Prelude.{◌≡◌, ℕ, ◌+◌, List, [], ◌∷◌, length, true, None, IsSome}
use Rattle.std.specs.FinMap.{FinMap, get, entries}
use Rattle.dvc_base.specs.Path.{Path, under}
use Rattle.world_api.specs.Tree.{path_cmp, IsRelPath}

pub record IsFileMap (m : FinMap path_cmp (List ℕ)) : Type 0 where
  pub rootless : get m [] ≡ None
  pub apart : (p q : Path) → IsSome (get m p) → IsSome (get m q) → under p q ≡ true → p ≡ q
  pub paths : (p : Path) → IsSome (get m p) → IsRelPath p

abbrev pub bytes_in : List (Path × List ℕ) → ℕ
bytes_in [] = 0
bytes_in (e ∷ es) = length e.1 + bytes_in es

abbrev pub size_of : FinMap path_cmp (List ℕ) → ℕ
size_of m = bytes_in (entries m)

abbrev pub count_of : FinMap path_cmp (List ℕ) → ℕ
count_of m = length (entries m)
