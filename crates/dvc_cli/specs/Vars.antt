-- What the files of variables hold that a `dvc.yaml` names.
--     var_at at item      a file of variables; nothing is refused where none stands there
--     vars_of t root      all that the node of `dvc.yaml` names, in their order, or the first refusal
use Rattle.std.specs.Prelude.{List, [], ◌∷◌, Option, Some, None, Result, Ok, Err}
use Rattle.dvc_base.specs.Path.{Path}
use Rattle.dvc_base.specs.declared.fault.Fault.{Fault}
use Rattle.dvc_base.specs.declared.node.Node.{Node}
use Rattle.world_api.specs.Tree.{Tree, Item, item_at}
use Rattle.params.specs.Read.{params_at}
use Rattle.params.specs.declared.fault.ParamsFault.{ParamsFault}
use Rattle.template_expand.specs.declared.files.VarFile.{VarFile}
use Rattle.template_expand.specs.Wanted.{wanted}
use Rattle.stage_schema.specs.declared.fault.ExpandFault.{ExpandFault}
use Rattle.repro_laws.specs.Params.{params_answer, with_first}
use Rattle.stage_plan.specs.Plan.{schema_answer}

abbrev pub var_of : Path → Result Node ParamsFault → Result VarFile Fault
var_of at (Ok root) = Ok (record { file = at; node = Some root })
var_of at (Err why) = Err (params_answer at why)

-- one that is missing is refused where it is asked for
abbrev pub var_at : Path → Option Item → Result VarFile Fault
var_at at None = Ok (record { file = at; node = None })
var_at at (Some item) = var_of at (params_at (Some item))

abbrev pub vars_at : Tree → List Path → Result (List VarFile) Fault
vars_at t [] = Ok []
vars_at t (p ∷ ps) = with_first (var_at p (item_at t p)) (vars_at t ps)

abbrev pub vars_by : Tree → Result (List Path) ExpandFault → Result (List VarFile) Fault
vars_by t (Ok paths) = vars_at t paths
vars_by t (Err why) = Err (schema_answer why)

abbrev pub vars_of : Tree → Node → Result (List VarFile) Fault
vars_of t root = vars_by t (wanted root)
