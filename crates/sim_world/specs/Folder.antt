-- Entries put into a map one after another, the last of them first.
use Rattle.std.specs.Prelude.{ℕ, List, [], ◌∷◌}
use Rattle.std.specs.FinMap.{FinMap, insert}
use Rattle.dvc_base.specs.Path.{Path}
use Rattle.world_api.specs.Tree.{path_cmp}

abbrev pub with_entries : List (Path × List ℕ) → FinMap path_cmp (List ℕ) → FinMap path_cmp (List ℕ)
with_entries [] m = m
with_entries (e ∷ es) m = insert (with_entries es m) e.0 e.1
