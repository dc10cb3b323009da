-- The most that there may be of each counted quantity.
use Rattle.std.specs.Prelude.{ℕ, ◌^◌}
use Rattle.dvc_base.specs.declared.limits.What.{What}
use Rattle.dvc_base.specs.declared.limits.What.TheVariants.{Path, YamlText, Stages, Members, Listing, FileSize, Paths, Names}

abbrev pub limit_of : What → ℕ
limit_of Path = 1024
limit_of YamlText = 67108864
limit_of Stages = 10000
limit_of Members = 1000000
limit_of Listing = 268435456
limit_of FileSize = 2 ^ 60
limit_of Paths = 4000000
limit_of Names = 4000000
