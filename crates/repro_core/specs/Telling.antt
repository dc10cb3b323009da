-- What a refusal of a turn tells of, over each world: the stage's name, one of its paths, or a path of the cache.
--     IsOneOf ps p                   the path is one of the paths
--     TellsOwn s got                 what is told of a refusal is the stage's own
--     TellsDep, TellsOut             the same of a single dependency, or output
use Rattle.std.specs.Prelude.{◌≡◌, ◌⊎◌, ℕ, true, List, [], ◌∷◌, ◌++◌, map, Option, Some, ⊤}
use Rattle.dvc_base.specs.Path.{Path, under}
use Rattle.dvc_base.specs.Limits.{limit_of}
use Rattle.dvc_base.specs.declared.fault.Fault.{Fault}
use Rattle.dvc_base.specs.declared.fault.Fault.TheVariants.{MissingDependency, NoFile, NoKey, Yaml, Schema, MissingOutput, NotInCache, NotFolder, Changed, TooLarge, CommandFailed}
use Rattle.world_api.specs.Effect.{is_in_any}
use Rattle.object_cache.specs.Store.{shelf_path, is_cache_folder}
use Rattle.repro_laws.specs.Stage.{dep_path, tracked_path, read_paths, stage_outs}
use Rattle.repro_laws.specs.Turns.{is_way}
use Rattle.repro_laws.specs.declared.stage.Dep.{Dep}
use Rattle.repro_laws.specs.declared.stage.Out.{Out}
use Rattle.repro_laws.specs.declared.stage.Stage.{Stage}

abbrev pub IsOneOf : List Path → Path → Type 0
IsOneOf [] p = ⊥
IsOneOf (q ∷ qs) p = (p ≡ q) ⊎ IsOneOf qs p

-- what has changed while it was read lies at a path that the stage names, or is an object
abbrev pub TellsOwn : Stage → Option Fault → Type 0
TellsOwn s (Some (MissingDependency stage path)) = (stage ≡ s.name) × IsOneOf (map dep_path s.deps) path
TellsOwn s (Some (NoFile file)) = IsOneOf (map tracked_path s.params) file
TellsOwn s (Some (NoKey file key)) = IsOneOf (map tracked_path s.params) file
TellsOwn s (Some (Yaml file why)) = IsOneOf (map tracked_path s.params) file
TellsOwn s (Some (Schema file key)) = IsOneOf (map tracked_path s.params) file
TellsOwn s (Some (MissingOutput stage path)) = (stage ≡ s.name) × IsOneOf (stage_outs s) path
TellsOwn s (Some (CommandFailed stage code)) = stage ≡ s.name
TellsOwn s (Some (NotInCache path name)) = IsOneOf (stage_outs s) path
TellsOwn s (Some (NotFolder path)) = (is_way s path ≡ true) ⊎ (is_cache_folder path ≡ true)
TellsOwn s (Some (Changed path told found)) =
    (is_in_any (read_paths s ++ stage_outs s) path ≡ true) ⊎ (under shelf_path path ≡ true)
TellsOwn s (Some (TooLarge what limit)) = limit ≡ limit_of what
TellsOwn s _ = ⊤

-- ---- of a single path

abbrev pub TellsDep : List ℕ → Dep → Option Fault → Type 0
TellsDep name d (Some (MissingDependency stage path)) = (stage ≡ name) × (path ≡ d.path)
TellsDep name d (Some (Changed path told found)) = under d.path path ≡ true
TellsDep name d (Some (TooLarge what limit)) = limit ≡ limit_of what
TellsDep name d _ = ⊤

abbrev pub TellsOut : List ℕ → Out → Option Fault → Type 0
TellsOut name o (Some (MissingOutput stage path)) = (stage ≡ name) × (path ≡ o.path)
TellsOut name o (Some (NotInCache path object)) = path ≡ o.path
TellsOut name o (Some (NotFolder path)) = is_cache_folder path ≡ true
TellsOut name o (Some (Changed path told found)) = (under o.path path ≡ true) ⊎ (under shelf_path path ≡ true)
TellsOut name o (Some (TooLarge what limit)) = limit ≡ limit_of what
TellsOut name o _ = ⊤

-- the same of one of the stages
pub record TellsOfOne (stages : List Stage) (got : Option Fault) : Type 0 where
  pub stage : Stage
  pub before : List Stage
  pub after : List Stage
  pub cut : stages ≡ before ++ stage ∷ after
  pub own : TellsOwn stage got
