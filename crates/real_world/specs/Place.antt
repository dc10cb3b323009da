-- Where a path of the workspace stands in the file system.
use Rattle.std.specs.Prelude.{ℕ, List, [], ◌∷◌, ◌++◌}
use Rattle.dvc_base.specs.Path.{Path, path_text}

-- the root's text, a slash and the path's; for the root itself its own text
abbrev pub place : List ℕ → Path → List ℕ
place root [] = root
place root (c ∷ p) = root ++ 47 ∷ path_text (c ∷ p)
