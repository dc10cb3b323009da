-- What the workspace says: its stages and track files, and what is remembered. They are those that the targets choose.
--     plan_in targets t            what targets choose of a tree, or why there is nothing to choose from
--     chosen_of targets t          what they choose, where it isn't refused
--     workspace_fault targets t    why a workspace can't be read: the first refusal in their order
--     workspace_of targets t       the workspace of a tree, where nothing is refused
use Rattle.std.specs.Prelude.{ℕ, List, ◌∷◌, ◌++◌, [], Option, Some, None, Result, Ok, Err}
use Rattle.std.specs.Result.{result_ok}
use Rattle.dvc_base.specs.Answer.{fault_in}
use Rattle.dvc_base.specs.declared.fault.Fault.{Fault}
use Rattle.dvc_base.specs.declared.fault.Fault.TheVariants.{NotFolder}
use Rattle.dvc_base.specs.declared.fault.FaultKind.{FaultKind}
use Rattle.dvc_base.specs.declared.fault.FaultKind.TheVariants as k
use Rattle.dvc_base.specs.declared.node.Node.{Node}
use Rattle.world_api.specs.Tree.{Tree, Item, file, item_at}
use Rattle.world_api.specs.Layout.{dvc_path, lock_path, yaml_path}
use Rattle.lock_files.specs.Book.{Lock}
use Rattle.repro_laws.specs.Refusals.{first_fault}
use Rattle.repro_laws.specs.Sound.{lock_of}
use Rattle.repro_laws.specs.declared.stage.Stage.{Stage}
use Rattle.template_expand.specs.declared.files.VarFile.{VarFile}
use Rattle.stage_graph.specs.declared.track.TrackFile.{TrackFile}
use Rattle.repro_core.specs.Steps.{tracked_kinds}
use Rattle.stage_plan.specs.Plan.{plan_of, schema_kinds, plan_kinds}
use Rattle.stage_plan.specs.declared.turns.Turns.{Turns}
use Rattle.dvc_cli.specs.Vars.{vars_of}
use Rattle.dvc_cli.specs.Sources.{sources_of}
use Rattle.dvc_cli.specs.Read.{root_at, book_at}
use Rattle.stage_plan.specs.declared.sources.Sources.{Sources}

-- ---- what is chosen

abbrev pub plan_by_files : List (List ℕ) → Node → Result (List VarFile) Fault → Result Sources Fault → Result Turns Fault
plan_by_files targets root (Ok files) (Ok sources) = plan_of targets root files sources
plan_by_files targets root (Ok files) (Err fault) = Err fault
plan_by_files targets root (Err fault) sources = Err fault

abbrev pub plan_by_root : List (List ℕ) → Tree → Result Node Fault → Result Turns Fault
plan_by_root targets t (Ok root) = plan_by_files targets root (vars_of t root) (sources_of t)
plan_by_root targets t (Err fault) = Err fault

abbrev pub plan_in : List (List ℕ) → Tree → Result Turns Fault
plan_in targets t = plan_by_root targets t (root_at (item_at t yaml_path))

abbrev pub chosen_of : List (List ℕ) → Tree → Option Turns
chosen_of targets t = result_ok (plan_in targets t)

-- ---- what is refused of it

-- which faults may come of a text, of a file, of files of variables, and of the whole
abbrev pub parse_kinds : List FaultKind
parse_kinds = k.NoMemory ∷ k.Yaml ∷ k.Schema ∷ k.Unsupported ∷ k.Legacy ∷ []

abbrev pub file_kinds : List FaultKind
file_kinds = k.WorldFault ∷ k.NoFile ∷ k.TooLarge ∷ k.Changed ∷ parse_kinds

-- of files of variables
abbrev pub vars_kinds : List FaultKind
vars_kinds = tracked_kinds ++ schema_kinds

abbrev pub read_kinds : List FaultKind
read_kinds = k.NotFolder ∷ k.IgnoreRules ∷ file_kinds ++ plan_kinds

-- a file stands where the folder of the tool's own has to be
abbrev pub place_fault : Option Item → Option Fault
place_fault (Some (file bytes)) = Some (NotFolder dvc_path)
place_fault _ = None

-- behind the node of `dvc.yaml`: the files of variables, the walk with the `.dvcignore` and track files that it finds, the
-- lock, and then what `dvc.yaml` says
abbrev pub rest_fault : List (List ℕ) → Tree → Node → Option Fault
rest_fault targets t root =
    first_fault (fault_in (vars_of t root))
    (first_fault (fault_in (sources_of t))
    (first_fault (fault_in (book_at (item_at t lock_path))) (fault_in (plan_by_root targets t (Ok root)))))

abbrev pub rest_by_root : List (List ℕ) → Tree → Result Node Fault → Option Fault
rest_by_root targets t (Ok root) = rest_fault targets t root
rest_by_root targets t (Err fault) = Some fault

-- the folder of the tool's own, and the text of `dvc.yaml`, come before
abbrev pub workspace_fault : List (List ℕ) → Tree → Option Fault
workspace_fault targets t = first_fault (place_fault (item_at t dvc_path)) (rest_by_root targets t (root_at (item_at t yaml_path)))

-- ---- what it is about

-- the stages that have turns, the track files that are recorded before, and what is remembered
pub record Workspace : Type 0 where
  pub stages : List Stage
  pub tracks : List TrackFile
  pub lock : Lock

abbrev pub workspace_by : Option Fault → Option Turns → Option Lock → Option Workspace
workspace_by None (Some chosen) (Some lock) = Some (record { stages = chosen.stages; tracks = chosen.tracks; lock = lock })
workspace_by _ _ _ = None

abbrev pub workspace_of : List (List ℕ) → Tree → Option Workspace
workspace_of targets t = workspace_by (workspace_fault targets t) (chosen_of targets t) (lock_of t)
