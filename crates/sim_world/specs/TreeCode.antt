-- How trees and maps of files are stored as models' values, and that a tree is one in one way.
use Rattle.std.specs.Prelude.{ℕ, List, ◌≡◌}
use Rattle.std.specs.Coded.{Coded, coded_ℕ, coded_list, coded_option, Coded-set, →_prop, le_prop}
use Rattle.std.specs.FinMap as finmap
use Rattle.dvc_base.specs.Path.{Path}
use Rattle.dvc_base.specs.Normal.{IsName}
use Rattle.world_api.specs.Tree.{Tree, path_cmp, IsRelPath, IsTree}
use Rattle.sim_world.specs.Item.{item_code}

abbrev pub tree_code : Coded Tree
tree_code = finmap.code (coded_list (coded_list coded_ℕ)) item_code

abbrev pub file_map_code : Coded (finmap.FinMap path_cmp (List ℕ))
file_map_code = finmap.code (coded_list (coded_list coded_ℕ)) (coded_list coded_ℕ)

none : {A : Type 0} (f g : A → ⊥) → f ≡ g
none f g = →_prop (λ a b. absurd a) f g

IsName-prop : (c : List ℕ) → IsProp (IsName c)
IsName-prop c a b = λ i. record {
  not_empty = le_prop a.not_empty b.not_empty i;
  not_here = none a.not_here b.not_here i;
  not_up = none a.not_up b.not_up i;
  no_slash = λ k d l. none (a.no_slash k d l) (b.no_slash k d l) i;
  no_nul = λ k d l. none (a.no_nul k d l) (b.no_nul k d l) i;
}

IsRelPath-prop : (p : Path) → IsProp (IsRelPath p)
IsRelPath-prop p a b = λ i. record {
  normal = λ k d l. IsName-prop _ (a.normal k d l) (b.normal k d l) i;
  short = le_prop a.short b.short i;
}

pub IsTree-prop : (t : Tree) → IsProp (IsTree t)
IsTree-prop t a b = λ i. record {
  rootless = Coded-set (coded_option item_code) _ _ a.rootless b.rootless i;
  parents = λ p c some. Coded-set (coded_option item_code) _ _ (a.parents p c some) (b.parents p c some) i;
  paths = λ p some. IsRelPath-prop p (a.paths p some) (b.paths p some) i;
}
