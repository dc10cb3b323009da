-- Paths in normal form.
--     IsName c      c may be a component: not empty, not `.`, not `..`, with no slash and no NUL
--     IsNormal p    each component of p is a name
use Rattle.std.specs.Prelude.{ℕ, ◌≢◌, ◌<◌, List, length, codes}
use Rattle.std.specs.List.{All}
use Rattle.dvc_base.specs.Path.{Path}

pub record IsName (c : List ℕ) : Type 0 where
  pub not_empty : 0 < length c
  pub not_here : c ≢ codes "."
  pub not_up : c ≢ codes ".."
  pub no_slash : All (λ byte. byte ≢ 47) c
  pub no_nul : All (λ byte. byte ≢ 0) c

abbrev pub IsNormal : Path → Type 0
IsNormal p = All IsName p
