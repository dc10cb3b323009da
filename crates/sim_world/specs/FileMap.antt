-- Where a file may be put in a map of files.
--     is_free m p      the path isn't the root, and overlaps none of the map
use Rattle.std.specs.Prelude.{ℕ, Bool, ◌&&◌, not, List}
use Rattle.std.specs.List.{list_all}
use Rattle.std.specs.FinMap.{FinMap, entries}
use Rattle.dvc_base.specs.Path.{Path, overlap}
use Rattle.world_api.specs.Tree.{path_cmp}
use Rattle.sim_world.specs.Root.{is_root}

abbrev pub is_free : FinMap path_cmp (List ℕ) → Path → Bool
is_free m p = not (is_root p) && list_all (λ e. not (overlap p e.0)) (entries m)
