-- What a request is due to do, and what it does. There is none where the words are those of no command.
--     refusal request t              the refusal that comes before any turn, if there is one
--     work_due request t             what there is to do, where nothing is refused: the stages to have their turns, the track files to be
--                                    recorded before, and the lock
--     fault_due request effect t begun   the refusal that is due, in the order of the refusals; none where Ok is
--     turns_due request effect t begun   the turns that are due until then
--     IsReliable                   what is remembered at the start is true, and no two contents met share an MD5
--     Reproduces                   Ok: outputs and lock are those of running every chosen stage anew in dependency order
--     TakesTurns                   Ok, whatever was remembered: each chosen stage has had its turn
--     InCommand                    each moment of a command
-- The chosen stages are those that the targets name and all that are above them; without targets they are all stages. The chosen track
-- files are those that targets name, and those of what a chosen stage reads; without targets they are all track files. They are recorded
-- before the first turn: t is the tree at the start, and `begun` is the one in which the turns begin.
-- The contract of a request, which each way to do one has:
--     DoesCommand                  what it does over a world that tells the effect of commands
--     Refuses                      what the words and the workspace refuse comes before any turn
--     Answers                      which faults it may answer
--     PutsReport                   the lines that it puts
use Rattle.std.specs.Prelude.{◌≡◌, ◌⊎◌, ℕ, Bool, true, false, List, [], ◌∷◌, ◌++◌, Option, Some, None, IfSome, IsSome, IsTrue}
use Rattle.std.specs.Option.{option_map_or}
use Rattle.dvc_base.specs.Fault.{status_of, MayBe, IsHonest}
use Rattle.dvc_base.specs.Answer.{IsAnswer}
use Rattle.dvc_base.specs.declared.fault.Fault.{Fault}
use Rattle.dvc_base.specs.declared.fault.Fault.TheVariants.{BadWords}
use Rattle.dvc_base.specs.declared.fault.FaultKind.{FaultKind}
use Rattle.dvc_base.specs.declared.fault.FaultKind.TheVariants as k
use Rattle.world_api.specs.Tree.{Tree}
use Rattle.world_api.specs.Effect.{Effect}
use Rattle.world_api.specs.History.{Moment, History, Passes, Grows, Book}
use Rattle.world_api.specs.Outside.{tree_of, jobs_of, WithEffect}
use Rattle.lock_files.specs.Book.{Lock}
use Rattle.repro_laws.specs.Refusals.{first_fault}
use Rattle.repro_laws.specs.Due.{Due, standing_of, due, fault_of, report, jobs}
use Rattle.repro_laws.specs.Turns.{state}
use Rattle.repro_laws.specs.Headline.{is_ordered, LeavesAnew}
use Rattle.repro_laws.specs.Moments.{is_own, InTurns}
use Rattle.repro_laws.specs.Sound.{lock_of, IsSound, IsMetSince, IsAnswerAt, GainsAt, AreHalted, IsReport}
use Rattle.repro_laws.specs.declared.stage.Stage.{Stage}
use Rattle.repro_laws.specs.declared.stage.Flags.{Flags}
use Rattle.repro_core.specs.Steps.{turn_kinds}
use Rattle.repro_core.specs.Turning.{JobsGain, AreTaken}
use Rattle.stage_graph.specs.declared.track.TrackFile.{TrackFile}
use Rattle.track_record.specs.Sources.{tracks_fault}
use Rattle.track_record.specs.Records.{InRecords, AreRecorded, source_kinds}
use Rattle.dvc_cli.specs.declared.words.Request.{Request}
use Rattle.dvc_cli.specs.declared.words.Request.TheVariants.{Repro}
use Rattle.dvc_cli.specs.Workspace.{read_kinds, workspace_fault, Workspace, workspace_of}

-- ---- what is due

-- words that ask for nothing are refused
abbrev pub refusal : Option Request → Tree → Option Fault
refusal None t = Some BadWords
refusal (Some (Repro force targets)) t = workspace_fault targets t

-- the stages to have their turns, whether they are forced, the track files to be recorded before, and what is remembered
pub record Work : Type 0 where
  pub force : Bool
  pub stages : List Stage
  pub tracks : List TrackFile
  pub lock : Lock

abbrev pub work_in : Bool → Option Workspace → Option Work
work_in force None = None
work_in force (Some w) = Some (record { force = force; stages = w.stages; tracks = w.tracks; lock = w.lock })

abbrev pub work_due : Option Request → Tree → Option Work
work_due None t = None
work_due (Some (Repro force targets)) t = work_in force (workspace_of targets t)

abbrev pub stages_due : Option Request → Tree → List Stage
stages_due request t = option_map_or (λ w. w.stages) (work_due request t) []

abbrev pub tracks_due : Option Request → Tree → List TrackFile
tracks_due request t = option_map_or (λ w. w.tracks) (work_due request t) []

-- no output comes back from the cache yet
abbrev pub flags_of : Bool → Flags
flags_of force = record { force = force; run_cache = false }

-- what the record of the chosen track files is refused by
abbrev pub tracks_refusal : Option Request → Tree → Option Fault
tracks_refusal request t = tracks_fault t (tracks_due request t)

abbrev pub fault_due : Option Request → Effect → Tree → Tree → Option Fault
fault_due request effect t begun =
    first_fault (refusal request t)
    (first_fault (tracks_refusal request t)
    (option_map_or (λ w. fault_of (flags_of w.force) effect w.stages (standing_of begun w.lock)) (work_due request t) None))

-- there are none where it is refused
abbrev pub turns_unless : Option Fault → List Due → List Due
turns_unless None ds = ds
turns_unless (Some fault) ds = []

abbrev pub turns_due : Option Request → Effect → Tree → Tree → List Due
turns_due request effect t begun =
    turns_unless (tracks_refusal request t)
    (option_map_or (λ w. due (flags_of w.force) effect w.stages (standing_of begun w.lock)) (work_due request t) [])

-- ---- the headline

-- no two contents that were met share an MD5: there is a book, with one content under each MD5, by which the moment at the
-- start is sound, and which has what was met since
pub record IsReliable (request : Option Request) (effect : Effect) (m n : Moment) : Type 0 where
  pub book : Book
  pub sound : IsSound book effect m
  pub met : (w : Work) → work_due request m.tree ≡ Some w → IsMetSince book w.stages m n

-- the chosen track files are recorded, and from there the outputs and the lock's entries of the chosen stages are those of running each
-- of them anew in dependency order; the other entries, and every other path, are as before, but for folders that runs needed
pub record Reproduces (request : Option Request) (effect : Effect) (old new : Moment) : Type 0 where
  pub work : Work
  pub is_due : work_due request old.tree ≡ Some work
  pub begun : Moment
  pub recorded : AreRecorded work.tracks old begun
  pub in_order : is_ordered work.stages ≡ true
  pub new_lock : Lock
  pub remembers : lock_of new.tree ≡ Some new_lock
  pub anew : LeavesAnew is_own effect work.stages (state begun.tree work.lock) (state new.tree new_lock)

-- whatever was remembered: the turns that were taken are turns of all chosen stages, in order, and their jobs have run
pub record TakesTurns (request : Option Request) (effect : Effect) (old new : Moment) : Type 0 where
  pub work : Work
  pub is_due : work_due request old.tree ≡ Some work
  pub begun : Moment
  pub recorded : AreRecorded work.tracks old begun
  pub new_lock : Lock
  pub remembers : lock_of new.tree ≡ Some new_lock
  pub taken : AreTaken (flags_of work.force) effect work.stages work.lock new_lock begun new

-- ---- refusals

-- what stops the reading of words and of a workspace that have nothing to refuse
abbrev pub halt_kinds : List FaultKind
halt_kinds = k.NoMemory ∷ k.WorldFault ∷ []

-- the record of track files was refused, or couldn't go on
pub record IsUnrecorded (tracks : List TrackFile) (fault : Fault) (m n : Moment) : Type 0 where
  pub due : IsAnswerAt n.tree (Some fault) (tracks_fault m.tree tracks)
  pub left : InRecords tracks m n

-- turns have ended, and the next one was refused
pub record IsHaltedTurn (w : Work) (effect : Effect) (fault : Fault) (m n : Moment) : Type 0 where
  pub begun : Moment
  pub recorded : AreRecorded w.tracks m begun
  pub turns : AreHalted (flags_of w.force) effect w.stages w.lock fault begun n

-- the workspace couldn't be read, and nothing is touched; or the track files couldn't be recorded; or a turn was refused
abbrev pub IsHaltedIn : Effect → Option Work → Fault → Moment → Moment → Type 0
IsHaltedIn effect None fault m n = n ≡ m
IsHaltedIn effect (Some w) fault m n =
    (MayBe halt_kinds (Some fault) × (n ≡ m)) ⊎ (IsUnrecorded w.tracks fault m n ⊎ IsHaltedTurn w effect fault m n)

abbrev pub IsHalted : Option Request → Effect → Fault → Moment → Moment → Type 0
IsHalted request effect fault m n = IsHaltedIn effect (work_due request m.tree) fault m n

-- ---- moments

-- a moment of the turns, which begin where the track files are recorded
pub record InWorkTurns (w : Work) (effect : Effect) (m end n : Moment) : Type 0 where
  pub begun : Moment
  pub recorded : AreRecorded w.tracks m begun
  pub turns : InTurns (flags_of w.force) effect w.stages w.lock begun end n

abbrev pub InWork : Effect → Option Work → Moment → Moment → Moment → Type 0
InWork effect None m end n = n ≡ m
InWork effect (Some w) m end n = InRecords w.tracks m n ⊎ InWorkTurns w effect m end n

abbrev pub InCommand : Option Request → Effect → Moment → Moment → Moment → Type 0
InCommand request effect m end n = InWork effect (work_due request m.tree) m end n

-- ---- the contract of a request

-- the turns begin at a moment in which the chosen track files are recorded; a refusal may come before that, and then there are no turns
abbrev pub Begins : Option Request → Option Fault → Moment → Moment → Moment → Type 0
Begins request got m begun n = AreRecorded (tracks_due request m.tree) m begun ⊎ (IsSome got × (n ≡ begun))

-- the answer, and what stands before and after
pub record DoesCommand (request : Option Request) (effect : Effect) (got : Option Fault) (old new : History) : Type 0 where
  -- Ok leaves the outputs and the lock's entries that running every chosen stage anew in dependency order gives, and all else
  -- as before, but for the chosen track files and folders that runs needed
  pub headline : got ≡ None → IsReliable request effect old.present new.present → Reproduces request effect old.present new.present
  pub taken : got ≡ None → TakesTurns request effect old.present new.present
  pub begun : Moment
  pub begins : Begins request got old.present begun new.present
  -- the answer is the refusal that is due, where one is, and else Ok; three answers are free, and two come where something is in the
  -- way of the cache
  pub answer : IsReliable request effect old.present new.present → IsAnswerAt (tree_of new) got (fault_due request effect (tree_of old) begun.tree)
  -- the jobs that have run are those that are due to run
  pub ran : IsReliable request effect old.present new.present →
      JobsGain (tree_of new) got (jobs_of old) (jobs (turns_due request effect (tree_of old) begun.tree)) (jobs_of new)
  -- from a sound moment on each is sound, and so a stop at any of them leaves true entries
  pub sound : (reliable : IsReliable request effect old.present new.present) → Passes (IsSound reliable.book effect) old new
  -- where no track file is chosen and no turn is due nothing is touched
  pub untouched : tracks_due request (tree_of old) ≡ [] → turns_due request effect (tree_of old) begun.tree ≡ [] → new ≡ old
  -- after any refusal the lock has the entries of the turns that ended, and that of the next one only where a call to the world failed
  pub halted : IfSome got (λ fault. IsHalted request effect fault old.present new.present)
  -- in each moment nothing is touched but the chosen track files, the outputs of the chosen stages, folders that runs need and the tool's
  -- own files; a track file is as it was, or has its new text and all that it names in the cache; no whole object is lost, and the lock is
  -- as it was, or has the entries of runs that have ended, in order and none skipped
  pub moments : Passes (InCommand request effect old.present new.present) old new
  pub book : Grows old.present.aside.book new.present.aside.book

-- what the words and the workspace refuse is answered, and nothing is touched
abbrev pub Refuses : Option Request → Option Fault → History → History → Type 0
Refuses request got old new = IsSome (refusal request (tree_of old)) → IsAnswer got (refusal request (tree_of old)) × (new ≡ old)

abbrev pub command_kinds : List FaultKind
command_kinds = k.BadWords ∷ (read_kinds ++ (source_kinds ++ turn_kinds))

-- which faults may come, over any world
pub record Answers (request : Option Request) (tells : Bool) (got : Option Fault) : Type 0 where
  pub kinds : MayBe command_kinds got
  pub honest : IsHonest tells got
  -- the words are refused just where they are those of no command
  pub good_words : IsSome request → got ≡ Some BadWords → ⊥
  pub bad_words : request ≡ None → got ≡ Some BadWords

-- lines over any world: a report of some stages, or a front of one. Where the world tells its tree the stages are those
-- that are to have their turns
pub record IsToldOf (request : Option Request) (tells : Bool) (got : Option Fault) (t : Tree) (before taken : List ℕ) : Type 0 where
  pub stages : List Stage
  pub theirs : IsTrue tells → stages ≡ stages_due request t
  pub report : IsReport stages got before taken

-- the lines are the report of what is due
pub record ReportsTurns (request : Option Request) (effect : Effect) (got : Option Fault) (old new : History) (before taken : List ℕ) : Type 0 where
  pub begun : Moment
  pub begins : Begins request got old.present begun new.present
  pub lines : GainsAt (tree_of new) got before (report (turns_due request effect (tree_of old) begun.tree)) taken

-- what an output has taken that tells it
pub record PutsReport (request : Option Request) (tells : Bool) (got : Option Fault) (old new : History) (before taken : List ℕ) : Type 0 where
  -- no line is put where the words or the workspace are refused
  pub quiet : IsTrue tells → IsSome (refusal request (tree_of old)) → taken ≡ before
  pub report : WithEffect tells old (λ effect. IsReliable request effect old.present new.present →
      ReportsTurns request effect got old new before taken)
  pub lines : IsToldOf request tells got (tree_of old) before taken

abbrev pub exit_status : Option Fault → ℕ
exit_status None = 0
exit_status (Some fault) = status_of fault
