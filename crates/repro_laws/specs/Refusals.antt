-- What ends a stage's turn.
--     see_fault s t             the refusal by what stands at its dependencies, parameters and outputs
--     way_fault s t             a file in the way of a folder that its run needs
--     outcome_fault s outcome   the refusal by what the commands gave
--     job_fault effect s job t  the refusal of a run with this job
--     run_fault effect s ps t   the same with these parameters
-- Each is the first one in the order in which the paths are written.
use Rattle.std.specs.Prelude.{ℕ, List, [], ◌∷◌, ◌++◌, bytes_eq, Option, Some, None, option_map, if◌then◌else◌}
use Rattle.dvc_base.specs.Path.{Path}
use Rattle.dvc_base.specs.Answer.{fault_in}
use Rattle.dvc_base.specs.declared.data.ParamFile.{ParamFile}
use Rattle.dvc_base.specs.declared.fault.Fault.{Fault}
use Rattle.dvc_base.specs.declared.fault.Fault.TheVariants as f
use Rattle.world_api.specs.Tree.{Tree, Value, nothing, item_at, value_at}
use Rattle.world_api.specs.Effect.{Effect, Outcome, fails, gives, invocation_of}
use Rattle.world_api.specs.Calls.{parent}
use Rattle.world_api.specs.declared.job.Job.{Job}
use Rattle.repro_laws.specs.Limits.{limit_fault}
use Rattle.repro_laws.specs.Anew.{is_file}
use Rattle.repro_laws.specs.Stage.{dep_value, params_at, job_with}
use Rattle.repro_laws.specs.declared.stage.Dep.{Dep}
use Rattle.repro_laws.specs.declared.stage.Out.{Out}
use Rattle.repro_laws.specs.declared.stage.Stage.{Stage}

-- the first of two refusals
abbrev pub first_fault : Option Fault → Option Fault → Option Fault
first_fault None later = later
first_fault (Some fault) later = Some fault

abbrev pub first_of : {A : Type 0} → (A → Option Fault) → List A → Option Fault
first_of fault [] = None
first_of fault (x ∷ xs) = first_fault (fault x) (first_of fault xs)

-- ---- what is seen

abbrev pub refused_dep : List ℕ → Dep → Value → Option Fault
refused_dep name d nothing = Some (f.MissingDependency name d.path)
refused_dep name d v = limit_fault v

abbrev pub deps_fault : Stage → Tree → Option Fault
deps_fault s t = first_of (λ d. refused_dep s.name d (dep_value t d)) s.looks

abbrev pub present_fault : Stage → Tree → Option Fault
present_fault s t = first_of (λ o. limit_fault (value_at t o.path)) s.outs

abbrev pub see_fault : Stage → Tree → Option Fault
see_fault s t = first_fault (deps_fault s t) (first_fault (fault_in (params_at s t)) (present_fault s t))

-- ---- the way

-- the first file from a folder down to a path, that path among them
abbrev pub file_on : Tree → Path → Path → Option Path
file_on t above [] = if is_file (item_at t above) then Some above else None
file_on t above (c ∷ p) = if is_file (item_at t above) then Some above else file_on t (above ++ c ∷ []) p

abbrev pub road_fault : Tree → Path → Option Fault
road_fault t p = option_map f.NotFolder (file_on t [] p)

-- at the stage's folder or above it, and then above each output
abbrev pub way_fault : Stage → Tree → Option Fault
way_fault s t = first_fault (road_fault t s.dir) (first_of (λ o. road_fault t (parent o.path)) s.outs)

-- ---- what the commands gave

-- the value of the output of this text; nothing where there is none
abbrev pub value_under : List Out → List Value → List ℕ → Value
value_under (o ∷ os) (v ∷ vs) text = if bytes_eq o.text text then v else value_under os vs text
value_under _ _ text = nothing

abbrev pub refused_out : List ℕ → Out → Value → Option Fault
refused_out name o nothing = Some (f.MissingOutput name o.path)
refused_out name o v = None

abbrev pub missing_fault : Stage → List Value → Option Fault
missing_fault s vs = first_of (λ o. refused_out s.name o (value_under s.made vs o.text)) s.outs

abbrev pub large_fault : Stage → List Value → Option Fault
large_fault s vs = first_of (λ o. limit_fault (value_under s.made vs o.text)) s.outs

abbrev pub outcome_fault : Stage → Outcome → Option Fault
outcome_fault s (fails code) = Some (f.CommandFailed s.name code)
outcome_fault s (gives vs) = first_fault (missing_fault s vs) (large_fault s vs)

abbrev pub job_fault : Effect → Stage → Job → Tree → Option Fault
job_fault effect s job t = first_fault (way_fault s t) (outcome_fault s (effect (invocation_of job t)))

abbrev pub run_fault : Effect → Stage → List ParamFile → Tree → Option Fault
run_fault effect s ps t = job_fault effect s (job_with s ps) t
