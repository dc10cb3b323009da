-- What a stage's commands do: a function of what the stage declares, and of nothing else.
--     Effect                from an invocation to a failing code, or to one value for each output
--     invocation_of j t     what a job's commands are given in a tree
use Rattle.std.specs.Prelude.{ℕ, ℤ, Bool, List, [], ◌∷◌, map, Result, Ok, Err}
use Rattle.std.specs.List.{list_any}
use Rattle.dvc_base.specs.Path.{Path, under}
use Rattle.dvc_base.specs.Join.{join}
use Rattle.dvc_base.specs.declared.data.ParamFile.{ParamFile}
use Rattle.dvc_base.specs.declared.path.PathFault.{PathFault}
use Rattle.world_api.specs.Tree.{Tree, Value, value_at}
use Rattle.world_api.specs.declared.job.Job.{Job}

-- the commands, each dependency's text with the value at it, the parameters, and the outputs' texts
pub record Invocation : Type 0 where
  pub commands : List (List ℕ)
  pub deps : List (List ℕ × Value)
  pub params : List ParamFile
  pub outs : List (List ℕ)

pub data Outcome : Type 0 where
  fails : ℤ → Outcome
  gives : List Value → Outcome

abbrev pub Effect : Type 0
Effect = Invocation → Outcome

-- a path that was read; the root where there is none
abbrev pub path_or_root : Result Path PathFault → Path
path_or_root (Ok p) = p
path_or_root (Err why) = []

-- the path that a text names from a folder
abbrev pub path_from : Path → List ℕ → Path
path_from dir text = path_or_root (join dir text)

abbrev pub out_paths : Job → List Path
out_paths job = map (path_from job.dir) job.outs

abbrev pub given_values : Tree → Path → List (List ℕ) → List (List ℕ × Value)
given_values t dir [] = []
given_values t dir (d ∷ ds) = (d, value_at t (path_from dir d)) ∷ given_values t dir ds

abbrev pub invocation_of : Job → Tree → Invocation
invocation_of job t = record { commands = job.commands; deps = given_values t job.dir job.deps; params = job.params; outs = job.outs }

-- whether a path is at or below one of the paths
abbrev pub is_in_any : List Path → Path → Bool
is_in_any outs p = list_any (λ out. under out p) outs
