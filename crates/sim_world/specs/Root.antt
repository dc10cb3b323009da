-- Whether a path is the root.
use Rattle.std.specs.Prelude.{Bool, true, false, [], ◌∷◌}
use Rattle.dvc_base.specs.Path.{Path}

abbrev pub is_root : Path → Bool
is_root [] = true
is_root (c ∷ p) = false
