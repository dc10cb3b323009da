-- What a workspace remembers, and when it can be relied upon.
--     lock_of t                      the lock of a tree; none where what stands there isn't read as one
--     IsSound book effect n          each entry of the lock is true, and no stop changes what the tool keeps
--     IsImage n t                    a tree that a stop at a moment may leave
--     IsMetSince book stages m n     the book has what the turns between two moments read and wrote
--     AreReliable                    what the headline asks for
--     IsAnswerAt t got due           the answer is what is due, or a file or an object is in the way of the cache
--     AreHalted                      what turns leave that end with a refusal
--     IsReport                       the lines of turns
use Rattle.std.specs.Prelude.{◌≡◌, ◌⊎◌, ◌<◌, ℕ, true, false, List, [], ◌∷◌, ◌++◌, length, map, Option, Some, None}
use Rattle.std.specs.List.{AllByRecursion}
use Rattle.std.specs.Result.{result_ok}
use Rattle.dvc_base.specs.Path.{Path, under}
use Rattle.dvc_base.specs.Name.{ObjectName}
use Rattle.dvc_base.specs.Limits.{limit_of}
use Rattle.dvc_base.specs.declared.limits.What.TheVariants.{FileSize}
use Rattle.dvc_base.specs.Answer.{IsAnswer, GainsFront, Gains}
use Rattle.dvc_base.specs.declared.fault.Fault.{Fault}
use Rattle.dvc_base.specs.declared.fault.Fault.TheVariants.{WorldFault, OutFault, NotFolder, TooLarge}
use Rattle.world_api.specs.Tree.{Tree, Item, folder, file, item_at}
use Rattle.world_api.specs.Effect.{Effect, is_in_any}
use Rattle.world_api.specs.History.{Moment, Book}
use Rattle.world_api.specs.Calls.{IsFileAt}
use Rattle.world_api.specs.declared.job.Job.{Job}
use Rattle.world_api.specs.Layout.{dvc_path, tmp_path, lock_path, yaml_path}
use Rattle.lock_files.specs.Book.{Lock}
use Rattle.lock_files.specs.Read.{lock_read}
use Rattle.object_cache.specs.Objects.{object_path}
use Rattle.object_cache.specs.Store.{is_cache_folder}
use Rattle.repro_laws.specs.Stage.{stage_outs}
use Rattle.repro_laws.specs.Due.{Due, standing_of, fault_of, lines_of}
use Rattle.repro_laws.specs.Lock.{IsTruthful, HasEntry}
use Rattle.repro_laws.specs.Turns.{State, state, Turn, Turns, stages_of}
use Rattle.repro_laws.specs.Headline.{Covers, IsPlanned}
use Rattle.repro_laws.specs.Moments.{is_own, IsJobOf, HasRun, InTurns}
use Rattle.repro_laws.specs.declared.stage.Stage.{Stage}
use Rattle.repro_laws.specs.declared.stage.Flags.{Flags}
use Rattle.repro_laws.specs.declared.stage.Choice.{Choice}

-- ---- the lock of a tree

-- nothing is remembered where no lock stands
abbrev pub lock_by : Option Item → Option Lock
lock_by None = Some []
lock_by (Some folder) = None
lock_by (Some (file text)) = result_ok (lock_read text)

abbrev pub lock_of : Tree → Option Lock
lock_of t = lock_by (item_at t lock_path)

-- ---- sound moments

pub record IsSound (book : Book) (effect : Effect) (n : Moment) : Type 0 where
  pub truthful : (lock : Lock) → lock_of n.tree ≡ Some lock → IsTruthful book effect lock
  pub lock_firm : (p : Path) → under lock_path p ≡ true → n.loose p ≡ false
  pub yaml_firm : n.loose yaml_path ≡ false
  pub dvc_firm : (p : Path) → under dvc_path p ≡ true → under tmp_path p ≡ false → n.loose p ≡ false

-- a stop touches loose paths alone
abbrev pub IsImage : Moment → Tree → Type 0
IsImage n t = (p : Path) → n.loose p ≡ false → item_at t p ≡ item_at n.tree p

-- every tree that a stop at a sound moment may leave has true entries alone
abbrev pub StopsLeaveTruth : Type 0
StopsLeaveTruth =
    (book : Book) (effect : Effect) (n : Moment) (t : Tree) (lock : Lock)
    → IsSound book effect n → IsImage n t → lock_of t ≡ Some lock → IsTruthful book effect lock

-- ---- what is met

-- the lock that stands there has the entry that the stage has
pub record IsKnown (n : Moment) (s : Stage) : Type 0 where
  pub lock : Lock
  pub read : lock_of n.tree ≡ Some lock
  pub has : HasEntry lock n.tree s

pub record HasRunFor (s : Stage) (m n : Moment) : Type 0 where
  pub job : Job
  pub own : IsJobOf s job
  pub ran : HasRun job m n

-- the book has what each stage read and wrote whose job has run since, or whose entry is its present one: no two contents that were
-- met share an MD5
abbrev pub IsMetSince : Book → List Stage → Moment → Moment → Type 0
IsMetSince book stages m n =
    AllByRecursion (λ s. HasRunFor s m n ⊎ IsKnown n s → Covers book n.tree s) stages

-- what the headline asks for: no two contents met share an MD5. That is, there is a book, with one content under each digest, by which
-- each entry that was remembered is true, and which has what was met
pub record AreReliable (effect : Effect) (stages : List Stage) (lock : Lock) (m n : Moment) : Type 0 where
  pub book : Book
  pub truthful : IsTruthful book effect lock
  pub met : IsMetSince book stages m n

-- the outputs lie apart from what the tool keeps
pub record IsOutside (s : Stage) : Type 0 where
  pub yaml : is_in_any (stage_outs s) yaml_path ≡ false
  pub dvc : (p : Path) → under dvc_path p ≡ true → is_in_any (stage_outs s) p ≡ false

-- each moment of turns that begin at a sound one is sound
abbrev pub TurnsAreSound : Type 0
TurnsAreSound =
    (flags : Flags) (book : Book) (effect : Effect) (stages : List Stage) (lock : Lock) (m end n : Moment)
    -- nothing is restored yet
    → flags.run_cache ≡ false
    → IsPlanned is_own stages
    → AllByRecursion IsOutside stages
    → lock_of m.tree ≡ Some lock
    → IsSound book effect m
    → IsMetSince book stages m end
    → InTurns flags effect stages lock m end n
    → IsSound book effect n

-- ---- answers

-- a file stands where a folder of the cache has to be, or an object's file is larger than any that is read
abbrev pub IsBarred : Tree → Option Fault → Type 0
IsBarred t (Some (NotFolder p)) = (is_cache_folder p ≡ true) × IsFileAt t p
IsBarred t (Some (TooLarge FileSize limit)) =
    (name : ObjectName) × (bytes : List ℕ)
    × ((item_at t (object_path name) ≡ Some (file bytes)) × (limit_of FileSize < length bytes))
IsBarred t _ = ⊥

-- t is the tree that the call has left
abbrev pub IsAnswerAt : Tree → Option Fault → Option Fault → Type 0
IsAnswerAt t got due = IsAnswer got due ⊎ IsBarred t got

abbrev pub GainsAt : {A : Type 0} → Tree → Option Fault → List A → List A → List A → Type 0
GainsAt t got old whole new = Gains got old whole new ⊎ (IsBarred t got × GainsFront old whole new)

-- ---- turns that end with a refusal

-- the next turn's lock was published, and the call that did so failed
pub record IsLate (flags : Flags) (effect : Effect) (next : Stage) (reached : State) (n : Moment) : Type 0 where
  pub turn : Due
  pub its : turn.stage ≡ next
  pub lock : Lock
  pub read : lock_of n.tree ≡ Some lock
  pub taken : Turn is_own flags effect turn reached (state n.tree lock)

-- the turns of some stages have ended, and the next one's was refused as is due. The lock has the entries of those that ended, and that
-- which the next one's run has made only where a call to the world failed; a failing output changes nothing
pub record AreHalted (flags : Flags) (effect : Effect) (stages : List Stage) (lock : Lock) (fault : Fault) (m n : Moment) : Type 0 where
  pub ended : List Due
  pub next : Stage
  pub others : List Stage
  pub cut : stages ≡ stages_of ended ++ next ∷ others
  pub reached : State
  pub turns : Turns is_own flags effect ended (state m.tree lock) reached
  pub due : IsAnswerAt n.tree (Some fault) (fault_of flags effect (next ∷ []) (standing_of reached.tree reached.lock))
  pub output_first : fault ≡ OutFault → n.tree ≡ reached.tree
  pub left : (lock_of n.tree ≡ Some reached.lock) ⊎ ((fault ≡ WorldFault) × IsLate flags effect next reached n)

-- lines of a choice for each stage were taken, or a front of them after a refusal
abbrev pub choice_lines : List (Stage × Choice) → List ℕ
choice_lines [] = []
choice_lines (c ∷ cs) = lines_of c.0 c.1 ++ choice_lines cs

pub record IsReport (stages : List Stage) (got : Option Fault) (old new : List ℕ) : Type 0 where
  pub choices : List (Stage × Choice)
  pub each : map (λ c. c.0) choices ≡ stages
  pub taken : GainsFront old (choice_lines choices) new
  pub whole : got ≡ None → new ≡ old ++ choice_lines choices
