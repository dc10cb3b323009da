-- What each step of a turn leaves.
--     IsPrepared s prepared            what is prepared has a job of the stage, its roads and the lock's path
--     .._kinds                         which faults each step may answer
--     InWork s jobs m n                each moment of a turn before its lock is written, with the jobs that have run
--     InStored m n                     each moment while outputs are put into the cache
--     InRecord lock m n                each moment of the write of a lock
--     AreNamed texts entries           path entries in form, of these texts
--     IsGoodSeen s ps seen             what is seen has the stage's texts, a name for each dependency, and these parameters
use Rattle.std.specs.Prelude.{◌≡◌, ◌≢◌, ◌⊎◌, ℕ, ℤ, pos, Bool, true, false, ◌||◌, List, [], ◌∷◌, ◌++◌, length, map, Option, Some, None, IsTrue}
use Rattle.std.specs.List.{list_all}
use Rattle.dvc_base.specs.Path.{Path}
use Rattle.dvc_base.specs.Name.{ObjectName}
use Rattle.dvc_base.specs.Answer.{IsAnswer, Gains}
use Rattle.dvc_base.specs.declared.fault.Fault.{Fault}
use Rattle.dvc_base.specs.declared.fault.Fault.TheVariants.{NoMemory, WorldFault, CommandFailed, NotFolder}
use Rattle.dvc_base.specs.declared.fault.FaultKind.{FaultKind}
use Rattle.dvc_base.specs.declared.fault.FaultKind.TheVariants as k
use Rattle.dvc_base.specs.declared.data.ParamFile.{ParamFile}
use Rattle.world_api.specs.Tree.{Tree, folder, item_at, value_at}
use Rattle.world_api.specs.Effect.{Effect, gives, invocation_of, is_in_any}
use Rattle.world_api.specs.History.{Moment, Stays, KeepsPaths, Keeps, itself}
use Rattle.world_api.specs.Calls.{IsRun, parent}
use Rattle.world_api.specs.declared.job.Job.{Job}
use Rattle.world_api.specs.Layout.{dvc_path, lock_path}
use Rattle.world_api.specs.Writes.{IsMade, IsSameUnder, in_scratch, in_write}
use Rattle.object_cache.specs.Objects.{object_path, object_at}
use Rattle.object_cache.specs.Store.{is_cache_folder, IsKeptPlace}
use Rattle.lock_files.specs.declared.entry.PathEntry.{PathEntry}
use Rattle.lock_files.specs.Value.{path_at}
use Rattle.lock_files.specs.Form.{is_path_entry}
use Rattle.lock_files.specs.Book.{Lock}
use Rattle.change_check.specs.Same.{canonical_files}
use Rattle.change_check.specs.declared.seen.Seen.{Seen}
use Rattle.repro_laws.specs.Params.{AreParams}
use Rattle.repro_laws.specs.Stage.{dep_text, stage_outs}
use Rattle.repro_laws.specs.Entries.{all_named}
use Rattle.repro_laws.specs.Refusals.{missing_fault, way_fault, job_fault}
use Rattle.repro_laws.specs.Turns.{is_way}
use Rattle.repro_laws.specs.Moments.{in_places, IsJobOf, AreJobsOf, IsNewLock}
use Rattle.repro_laws.specs.declared.stage.Out.{Out}
use Rattle.repro_laws.specs.declared.stage.Stage.{Stage}
use Rattle.repro_laws.specs.declared.stage.Choice.{Choice}
use Rattle.repro_laws.specs.declared.stage.Choice.TheVariants.{Skip, Run}
use Rattle.repro_core.specs.declared.prepared.Prepared.{Prepared}

abbrev pub above_out : Out → Path
above_out o = parent o.path

-- `roads` are the folders that a run needs: the stage's own, and the one above each output as they are written
pub record IsPrepared (s : Stage) (prepared : Prepared) : Type 0 where
  pub job : IsJobOf s prepared.job
  pub roads : prepared.roads ≡ s.dir ∷ map above_out s.outs
  pub lock : prepared.lock ≡ lock_path

-- nothing stands at or below the paths
abbrev pub IsClear : Tree → List Path → Type 0
IsClear t outs = (p : Path) → is_in_any outs p ≡ true → item_at t p ≡ None

abbrev pub choice_if : Bool → Choice
choice_if true = Skip
choice_if false = Run

-- ---- which faults may come

-- of a look at dependencies, and of one at outputs as they stand
abbrev pub dep_kinds : List FaultKind
dep_kinds = k.NoMemory ∷ k.WorldFault ∷ k.MissingDependency ∷ k.TooLarge ∷ k.Changed ∷ []

abbrev pub out_kinds : List FaultKind
out_kinds = k.NoMemory ∷ k.WorldFault ∷ k.TooLarge ∷ k.Changed ∷ []

-- of a file of parameters, and of files with their tracked keys
abbrev pub params_kinds : List FaultKind
params_kinds = k.NoMemory ∷ k.WorldFault ∷ k.NoFile ∷ k.Yaml ∷ k.Schema ∷ k.TooLarge ∷ k.Changed ∷ []

abbrev pub tracked_kinds : List FaultKind
tracked_kinds = k.NoMemory ∷ k.WorldFault ∷ k.NoFile ∷ k.NoKey ∷ k.Yaml ∷ k.Schema ∷ k.TooLarge ∷ k.Changed ∷ []

abbrev pub see_kinds : List FaultKind
see_kinds = k.MissingDependency ∷ tracked_kinds

-- of the roads of a run, of its job, of the look at what it left, and of all three
abbrev pub way_kinds : List FaultKind
way_kinds = k.NoMemory ∷ k.WorldFault ∷ k.NotFolder ∷ []

abbrev pub end_kinds : List FaultKind
end_kinds = k.NoMemory ∷ k.WorldFault ∷ k.CommandFailed ∷ []

abbrev pub look_kinds : List FaultKind
look_kinds = k.NoMemory ∷ k.WorldFault ∷ k.MissingOutput ∷ []

abbrev pub work_kinds : List FaultKind
work_kinds = k.NoMemory ∷ k.WorldFault ∷ k.NotFolder ∷ k.CommandFailed ∷ k.MissingOutput ∷ []

-- of outputs that are put into the cache
abbrev pub store_kinds : List FaultKind
store_kinds =
    k.NoMemory ∷ k.WorldFault ∷ k.MissingOutput ∷ k.NotInCache ∷ k.NotFolder ∷ k.TooLarge ∷ k.Changed ∷ []

-- of the lines, and of the write of the lock
abbrev pub put_kinds : List FaultKind
put_kinds = k.NoMemory ∷ k.OutFault ∷ []

abbrev pub record_kinds : List FaultKind
record_kinds = k.NoMemory ∷ k.WorldFault ∷ []

-- of a run as a whole, and of a turn
abbrev pub run_kinds : List FaultKind
run_kinds =
    k.NoMemory ∷ k.WorldFault ∷ k.CommandFailed ∷ k.MissingOutput ∷ k.NotInCache ∷ k.NotFolder ∷ k.TooLarge ∷ k.Changed ∷ []

abbrev pub turn_kinds : List FaultKind
turn_kinds =
    k.NoMemory ∷ k.WorldFault ∷ k.OutFault ∷ k.MissingDependency ∷ k.NoFile ∷ k.NoKey ∷ k.Yaml ∷ k.Schema ∷ k.CommandFailed
    ∷ k.MissingOutput ∷ k.NotInCache ∷ k.NotFolder ∷ k.TooLarge ∷ k.Changed ∷ []

-- ---- moments

-- what a turn may touch before its lock is written, but for folders on its ways
abbrev pub in_work : Stage → Path → Bool
in_work s p = is_in_any (stage_outs s) p || (in_scratch p || (is_cache_folder p || in_places p))

-- folders are made, objects are put, the outputs hold anything, these jobs have run, and all else is as it was
pub record InWork (s : Stage) (jobs : List Job) (m n : Moment) : Type 0 where
  pub paths : KeepsPaths (λ p. in_work s p || is_way s p) m n
  pub ways : (p : Path) → in_work s p ≡ false → IsMade p m n
  pub dvc : IsMade dvc_path m n
  pub folders : (p : Path) → is_cache_folder p ≡ true → IsMade p m n
  pub places : (name : ObjectName) → IsKeptPlace (object_path name) m n
  pub objects : (name : ObjectName) (bytes : List ℕ) → object_at m.tree name ≡ Some bytes → object_at n.tree name ≡ Some bytes
  pub aside : Stays (λ f. record f { ran = f.ran ++ jobs }) m.aside n.aside

-- the stage's job has run since, or not
pub record InWorks (s : Stage) (m n : Moment) : Type 0 where
  pub jobs : List Job
  pub its : AreJobsOf jobs (s ∷ [])
  pub work : InWork s jobs m n

abbrev pub in_stored : Path → Bool
in_stored p = in_scratch p || (is_cache_folder p || in_places p)

-- while values are put into the cache: objects are put, and all else is as it was
pub record InStored (m n : Moment) : Type 0 where
  pub folders : (p : Path) → is_cache_folder p ≡ true → IsMade p m n
  pub places : (name : ObjectName) → IsKeptPlace (object_path name) m n
  pub objects : (name : ObjectName) (bytes : List ℕ) → object_at m.tree name ≡ Some bytes → object_at n.tree name ≡ Some bytes
  pub others : Keeps in_stored m n

abbrev pub is_record : Path → Bool
is_record p = in_write lock_path p

-- during the write of a lock: its path is as it was, or has just this lock
pub record InRecord (lock : Lock) (m n : Moment) : Type 0 where
  pub path : IsSameUnder lock_path m n ⊎ IsNewLock lock n
  pub dvc : IsMade dvc_path m n
  pub others : Keeps is_record m n

-- ---- the run of a job

-- how a run ended: with 0, with another code, or with a code that couldn't be told
abbrev pub IsEndOf : List ℕ → ℤ → Option Fault → Type 0
IsEndOf name code None = code ≡ pos 0
IsEndOf name code (Some NoMemory) = code ≢ pos 0
IsEndOf name code (Some (CommandFailed stage found)) = (stage ≡ name) × (found ≡ code) × (found ≢ pos 0)
IsEndOf name code _ = ⊥

abbrev pub WasRun : Job → List ℕ → Option Fault → Moment → Moment → Type 0
WasRun job name (Some WorldFault) m n = Stays itself m.aside n.aside
WasRun job name got m n = (code : ℤ) × IsRun job code m n × IsEndOf name code got

-- the job has run, but where a file was in the way of it
abbrev pub RunsJob : Job → Option Fault → Moment → Moment → Type 0
RunsJob job (Some (NotFolder path)) m n = n.aside.fixed.ran ≡ m.aside.fixed.ran
RunsJob job got m n = Gains got m.aside.fixed.ran (job ∷ []) n.aside.fixed.ran

-- the commands have made what stands at the outputs, each of which is there
pub record HasMade (effect : Effect) (s : Stage) (job : Job) (m n : Moment) : Type 0 where
  pub way : way_fault s m.tree ≡ None
  pub gave : effect (invocation_of job m.tree) ≡ gives (map (value_at n.tree) (stage_outs s))
  pub there : missing_fault s (map (value_at n.tree) (stage_outs s)) ≡ None
  -- what lies in an output is the commands'
  pub dir : is_in_any (stage_outs s) s.dir ≡ false → item_at n.tree s.dir ≡ Some folder

-- the work before the outputs are put: it is refused as is due, or has made them
abbrev pub MakesOuts : Effect → Stage → Job → Option Fault → Moment → Moment → Type 0
MakesOuts effect s job None m n = HasMade effect s job m n
MakesOuts effect s job (Some fault) m n = IsAnswer (Some fault) (job_fault effect s job m.tree)

-- ---- names

-- path entries in form, one for each of the texts
pub record AreNamed (texts : List (List ℕ)) (entries : List PathEntry) : Type 0 where
  pub paths : map path_at entries ≡ texts
  pub good : IsTrue (list_all is_path_entry entries)

-- what is seen has a name in form for each dependency, the parameters by value, and a place for each output
pub record IsGoodSeen (s : Stage) (ps : List ParamFile) (seen : Seen) : Type 0 where
  pub entries : List PathEntry
  pub deps : all_named seen.deps ≡ Some entries
  pub named : AreNamed (map dep_text s.deps) entries
  pub params : AreParams ps
  pub canonical : seen.params ≡ canonical_files ps
  pub outs : length seen.outs ≡ length s.made
