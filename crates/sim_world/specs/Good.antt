-- Values as the code makes them, and where they fit.
--     IsGood v           a map of files is one of a folder
--     IsFit at v         each of its files has a path below `at` that a workspace may have
use Rattle.std.specs.Prelude.{ℕ, List, ◌++◌, ⊤}
use Rattle.std.specs.List.{AllByRecursion}
use Rattle.std.specs.FinMap.{entries}
use Rattle.dvc_base.specs.Path.{Path}
use Rattle.world_api.specs.Tree.{IsRelPath}
use Rattle.file_hash.specs.Files.{IsFileMap}
use Rattle.sim_world.specs.declared.value.Value.{Value}
use Rattle.sim_world.specs.declared.value.Value.TheVariants.{Nothing, File, Files}
use Rattle.sim_world.specs.declared.value.PathValue.{PathValue}

abbrev pub IsGood : Value → Type 0
IsGood Nothing = ⊤
IsGood (File bytes) = ⊤
IsGood (Files m) = IsFileMap m

abbrev pub AreGood : List PathValue → Type 0
AreGood values = AllByRecursion (λ (e : PathValue). IsGood e.value) values

abbrev pub AreFit : Path → List (Path × List ℕ) → Type 0
AreFit at es = AllByRecursion (λ e. IsRelPath (at ++ e.0)) es

abbrev pub IsFit : Path → Value → Type 0
IsFit at Nothing = ⊤
IsFit at (File bytes) = ⊤
IsFit at (Files m) = AreFit at (entries m)
