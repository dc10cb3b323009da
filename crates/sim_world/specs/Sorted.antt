-- How values stand by their paths, in the order of the paths.
--     pairs_of ms         the members as entries of a map
--     IsPlace k ps n      where a member of the path k belongs among these paths
use Rattle.std.specs.Prelude.{◌≡◌, ◌≢◌, ◌≤◌, ℕ, List, [], ◌∷◌, map, take, drop, length, T, ⊤}
use Rattle.std.specs.List.{AllByRecursion}
use Rattle.std.specs.FinMap.{is_sorted}
use Rattle.std.specs.declared.cmp.Ordering.TheVariants.{Greater}
use Rattle.dvc_base.specs.Path.{Path}
use Rattle.world_api.specs.Tree.{path_cmp}
use Rattle.sim_world.specs.declared.sorted.Member.{Member}

abbrev pub pair_of : {V : Type 0} → Member V → Path × V
pair_of m = (m.path, m.value)

abbrev pub pairs_of : {V : Type 0} → List (Member V) → List (Path × V)
pairs_of ms = map pair_of ms

abbrev pub IsInOrder : {V : Type 0} → List (Member V) → Type 0
IsInOrder ms = T (is_sorted path_cmp (pairs_of ms))

-- the first of them isn't below the key
abbrev pub NextIsAbove : Path → List Path → Type 0
NextIsAbove k [] = ⊤
NextIsAbove k (p ∷ ps) = path_cmp k p ≢ Greater

pub record IsPlace (k : Path) (ps : List Path) (n : ℕ) : Type 0 where
  pub within : n ≤ length ps
  pub before : AllByRecursion (λ p. path_cmp k p ≡ Greater) (take n ps)
  pub next : NextIsAbove k (drop n ps)
