-- The places of paths in the order of the paths' components, and a run of such places.
--     path_at paths n           the path at a place, and the root where there is none
--     path_cmp p q              the first component in which they differ decides, and a path stands before those that lie in it
--     IsTable paths order       order has the places of all paths, and the paths ascend along it
--     is_in ns n                whether n is among the numbers
--     is_at test paths n        whether there is a path at the place, and it passes the test
--     is_cut depth front q      the first `depth` components of q are those of front
use Rattle.std.specs.Prelude.{◌≡◌, ℕ, Bool, ◌&&◌, nat_eq, nat_lt, List, [], length, take, slice_index_or}
use Rattle.std.specs.Cmp.Lexicographic.{slice_cmp}
use Rattle.std.specs.List.{list_any}
use Rattle.std.specs.List.Sorted.{IsSortedByKey}
use Rattle.std.specs.declared.cmp.Ordering.{Ordering}
use Rattle.std.specs.Ordering.{nat_cmp, is_eq}
use Rattle.dvc_base.specs.Path.{Path}

abbrev pub path_at : List Path → ℕ → Path
path_at paths n = slice_index_or paths n []

abbrev pub path_cmp : Path → Path → Ordering
path_cmp = slice_cmp (slice_cmp nat_cmp)

abbrev pub is_in : List ℕ → ℕ → Bool
is_in ns n = list_any (nat_eq n) ns

abbrev pub is_at : (Path → Bool) → List Path → ℕ → Bool
is_at test paths n = nat_lt n (length paths) && test (path_at paths n)

abbrev pub is_cut : ℕ → Path → Path → Bool
is_cut depth front q = is_eq (path_cmp (take depth q) front)

pub record IsTable (paths : List Path) (order : List ℕ) : Type 0 where
  pub sorted : IsSortedByKey (path_at paths) path_cmp order
  pub all : (n : ℕ) → is_in order n ≡ nat_lt n (length paths)
