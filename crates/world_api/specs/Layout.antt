-- The paths in the workspace that the tool keeps for itself, or reads.
--     dvc_path         `.dvc`, the folder of the tool's own files
--     tmp_path         `.dvc/tmp`, the folder of the lanes
--     lane_path n      the file of a lane
--     lock_path        `dvc.lock`, the file of what is remembered
--     yaml_path        `dvc.yaml`, the file of the stages
use Rattle.std.specs.Prelude.{ℕ, [], ◌∷◌, ◌++◌, codes}
use Rattle.std.specs.Fmt.{decimal}
use Rattle.dvc_base.specs.Path.{Path}

unfoldable pub dvc_path : Path
dvc_path = codes ".dvc" ∷ []

unfoldable pub tmp_path : Path
tmp_path = codes ".dvc" ∷ codes "tmp" ∷ []

unfoldable pub lane_path : ℕ → Path
lane_path lane = codes ".dvc" ∷ codes "tmp" ∷ (codes "new-" ++ decimal lane) ∷ []

unfoldable pub lock_path : Path
lock_path = codes "dvc.lock" ∷ []

unfoldable pub yaml_path : Path
yaml_path = codes "dvc.yaml" ∷ []
