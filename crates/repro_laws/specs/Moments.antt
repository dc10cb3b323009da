-- What the tool keeps of its own in the workspace, and what every moment of turns is.
--     is_own p                                     whether the tool may keep something of its own at the path
--     IsNewLock lock n                             the lock was written, as a text that is read as just this lock
--     InTurns flags effect stages lock m end n     each moment n of the turns of stages, which begin at m and stop at the end
use Rattle.std.specs.Prelude.{◌≡◌, ◌⊎◌, ℕ, Bool, ◌&&◌, ◌||◌, ◌==◌, true, false, List, [], ◌∷◌, ◌++◌, length, drop, Some, Ok, ⊤}
use Rattle.std.specs.List.{AllByRecursion, flat_map}
use Rattle.dvc_base.specs.Path.{Path, under}
use Rattle.dvc_base.specs.Name.{ObjectName}
use Rattle.dvc_base.specs.declared.data.ParamFile.{ParamFile}
use Rattle.world_api.specs.Effect.{Effect, is_in_any}
use Rattle.world_api.specs.History.{Moment, KeepsPaths, Stays}
use Rattle.world_api.specs.Writes.{IsMade, IsSameUnder, IsNewFile, in_scratch}
use Rattle.world_api.specs.Layout.{dvc_path, lock_path}
use Rattle.world_api.specs.declared.job.Job.{Job}
use Rattle.yaml_print.specs.Print.{print_text}
use Rattle.lock_files.specs.Book.{Lock}
use Rattle.lock_files.specs.Nodes.{lock_node}
use Rattle.lock_files.specs.Read.{lock_read}
use Rattle.object_cache.specs.Objects.{object_path, object_at}
use Rattle.object_cache.specs.Store.{shelf_path, is_cache_folder, IsKeptPlace}
use Rattle.repro_laws.specs.Stage.{job_with, stage_outs}
use Rattle.repro_laws.specs.Entries.{IsMade as IsAnew}
use Rattle.repro_laws.specs.Lock.{HasEntry}
use Rattle.repro_laws.specs.Due.{Due}
use Rattle.repro_laws.specs.Turns.{State, state, Turns, stages_of, AreStored}
use Rattle.repro_laws.specs.Headline.{is_any_way}
use Rattle.repro_laws.specs.declared.stage.Stage.{Stage}
use Rattle.repro_laws.specs.declared.stage.Flags.{Flags}
use Rattle.repro_laws.specs.declared.stage.Choice.TheVariants.{Run}

-- at or below `.dvc` or `dvc.lock`
abbrev pub is_own : Path → Bool
is_own p = under dvc_path p || under lock_path p

pub record IsNewLock (lock : Lock) (n : Moment) : Type 0 where
  pub file : IsNewFile lock_path (print_text (lock_node lock)) n
  pub read_back : lock_read (print_text (lock_node lock)) ≡ Ok lock

-- ---- jobs

-- a job of the stage, whatever its parameters
abbrev pub IsJobOf : Stage → Job → Type 0
IsJobOf s job = (ps : List ParamFile) × (job ≡ job_with s ps)

-- jobs of some of the stages, in order
abbrev pub AreJobsOf : List Job → List Stage → Type 0
AreJobsOf [] stages = ⊤
AreJobsOf (job ∷ jobs) [] = ⊥
AreJobsOf (job ∷ jobs) (s ∷ ss) = (IsJobOf s job × AreJobsOf jobs ss) ⊎ AreJobsOf (job ∷ jobs) ss

-- the job has run since
pub record HasRun (job : Job) (m n : Moment) : Type 0 where
  pub before : List Job
  pub after : List Job
  pub ran : n.aside.fixed.ran ≡ m.aside.fixed.ran ++ before ++ job ∷ after

-- jobs have run since, and nothing else beside the tree has changed
pub record HaveRun (stages : List Stage) (m n : Moment) : Type 0 where
  pub jobs : List Job
  pub some : AreJobsOf jobs stages
  pub aside : Stays (λ f. record f { ran = f.ran ++ jobs }) m.aside n.aside

-- ---- the lock of a moment

-- a run since m has made the stage's entry, and what it read and wrote still stands at the end
pub record IsRunOf (effect : Effect) (lock : Lock) (m end : Moment) (d : Due) : Type 0 where
  pub ran : HasRun d.job m end
  pub made : IsAnew effect d.stage end.tree
  pub entry : HasEntry lock end.tree d.stage

abbrev pub RunsStand : Effect → Lock → Moment → Moment → List Due → Type 0
RunsStand effect lock m end ds = AllByRecursion (λ d. d.choice ≡ Run → IsRunOf effect lock m end d) ds

-- the lock is the one after the turns of a front of the stages, in order and none skipped. What the runs among them made stands
-- until the end, and their cached outputs are in the cache
pub record IsRecorded (flags : Flags) (effect : Effect) (stages : List Stage) (lock : Lock) (m end n : Moment) : Type 0 where
  pub ended : List Due
  pub others : List Stage
  pub cut : stages ≡ stages_of ended ++ others
  pub reached : State
  pub turns : Turns is_own flags effect ended (state m.tree lock) reached
  pub runs : RunsStand effect reached.lock m end ended
  pub held : AllByRecursion (λ d. d.choice ≡ Run → AreStored n.tree d.stage.made) ended
  pub stands : IsNewLock reached.lock n

-- ---- moments

-- whether a path from the shelf leads to an object's place: a folder of two digits, and a name in it
abbrev pub has_place : Path → Bool
has_place (c ∷ d ∷ rest) = length c == 2
has_place _ = false

-- at or below a place where an object may stand
abbrev pub in_places : Path → Bool
in_places p = under shelf_path p && has_place (drop (length shelf_path) p)

-- what the turns of stages may touch, but for folders on their ways
abbrev pub in_turns : List Stage → Path → Bool
in_turns stages p =
    is_in_any (flat_map stage_outs stages) p
    || (in_scratch p || (is_cache_folder p || (in_places p || under lock_path p)))

pub record InTurns (flags : Flags) (effect : Effect) (stages : List Stage) (lock : Lock) (m end n : Moment) : Type 0 where
  pub paths : KeepsPaths (λ p. in_turns stages p || is_any_way stages p) m n
  -- folders are made, and none of them is a file's place
  pub ways : (p : Path) → in_turns stages p ≡ false → IsMade p m n
  pub dvc : IsMade dvc_path m n
  pub folders : (p : Path) → is_cache_folder p ≡ true → IsMade p m n
  -- each object is as it was, or new and whole; none that was whole is lost
  pub places : (name : ObjectName) → IsKeptPlace (object_path name) m n
  pub objects : (name : ObjectName) (bytes : List ℕ) → object_at m.tree name ≡ Some bytes → object_at n.tree name ≡ Some bytes
  pub ran : HaveRun stages m n
  pub remembered : IsSameUnder lock_path m n ⊎ IsRecorded flags effect stages lock m end n
