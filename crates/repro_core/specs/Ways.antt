-- The folders that a run needs, and what must be before its job is run.
--     is_on_any roads q         the path is one of the roads, or lies above one
--     roads_fault t roads       the first file on them, road by road and from above down
--     TellsWay roads got        a file that is told of is on one of them
--     TellsMade name outs got   an output that is told missing is one of them
--     InFolders roads m n       each moment while they are made
--     IsReadied job m n         the folders of the job stand, and it is given what stood at the start
--     IsLaneFirst s m n         each moment of a run: its lane has been begun before anything of an output is touched
use Rattle.std.specs.Prelude.{◌≡◌, ◌⊎◌, ℕ, Bool, true, List, map, Option, Some, None, if◌then◌else◌, ⊤}
use Rattle.std.specs.List.{AllByRecursion, list_any}
use Rattle.dvc_base.specs.Path.{Path, under}
use Rattle.dvc_base.specs.declared.fault.Fault.{Fault}
use Rattle.dvc_base.specs.declared.fault.Fault.TheVariants.{NotFolder, MissingOutput}
use Rattle.world_api.specs.Tree.{Tree, Item, item_at}
use Rattle.world_api.specs.Effect.{invocation_of, is_in_any}
use Rattle.world_api.specs.declared.job.Job.{Job}
use Rattle.world_api.specs.Calls.{IsFileAt, HasFolders}
use Rattle.world_api.specs.History.{Moment, Keeps}
use Rattle.world_api.specs.Layout.{lane_path}
use Rattle.world_api.specs.Writes.{IsMade, HasRoad, IsFolderAt}
use Rattle.repro_laws.specs.Anew.{is_file}
use Rattle.repro_laws.specs.Stage.{out_path, stage_outs}
use Rattle.repro_laws.specs.Refusals.{first_of, road_fault}
use Rattle.repro_laws.specs.declared.stage.Out.{Out}
use Rattle.repro_laws.specs.declared.stage.Stage.{Stage}
use Rattle.repro_core.specs.Telling.{IsOneOf}

abbrev pub is_on_any : List Path → Path → Bool
is_on_any roads q = list_any (λ road. under q road) roads

abbrev pub roads_fault : Tree → List Path → Option Fault
roads_fault t roads = first_of (road_fault t) roads

-- a file at the path
abbrev pub file_fault : Path → Option Item → Option Fault
file_fault at item = if is_file item then Some (NotFolder at) else None

abbrev pub TellsWay : List Path → Option Fault → Type 0
TellsWay roads (Some (NotFolder path)) = is_on_any roads path ≡ true
TellsWay roads _ = ⊤

-- an output that is told missing is one of these
abbrev pub TellsMade : List ℕ → List Out → Option Fault → Type 0
TellsMade name outs (Some (MissingOutput stage path)) = (stage ≡ name) × IsOneOf (map out_path outs) path
TellsMade name outs _ = ⊤

abbrev pub HaveRoads : List Path → Tree → Type 0
HaveRoads roads t = AllByRecursion (λ road. HasRoad road t) roads

abbrev pub AreFolders : Tree → List Path → Type 0
AreFolders t roads = AllByRecursion (IsFolderAt t) roads

-- folders are made on the roads, and nothing else is touched
pub record InFolders (roads : List Path) (m n : Moment) : Type 0 where
  pub made : (q : Path) → IsMade q m n
  pub others : Keeps (is_on_any roads) m n

pub record IsReadied (job : Job) (m n : Moment) : Type 0 where
  pub folders : HasFolders job n.tree
  pub given : invocation_of job n.tree ≡ invocation_of job m.tree

-- the outputs are as they were, or the lane for the next lock has been begun
abbrev pub IsLaneFirst : Stage → Moment → Moment → Type 0
IsLaneFirst s m n =
    ((p : Path) → is_in_any (stage_outs s) p ≡ true → item_at n.tree p ≡ item_at m.tree p) ⊎ IsFileAt n.tree (lane_path 0)
