-- What the turn of one stage does, and the turns of all, where the world tells what it holds and the effect of commands.
--     JobsGain          the jobs that are due have run
--     HasTurned         a turn that has ended
--     Halts             what a refusal leaves of the lock
--     Turned            all of this in one: what is answered, what is left, what has run, and each moment
--     AreTaken          what Ok of all turns leaves, whatever was remembered
use Rattle.std.specs.Prelude.{◌≡◌, ◌⊎◌, ℕ, List, [], ◌∷◌, ◌++◌, Option, Some, None, IfSome, ⊤}
use Rattle.dvc_base.specs.declared.fault.Fault.{Fault}
use Rattle.dvc_base.specs.declared.fault.Fault.TheVariants.{WorldFault, NotFolder}
use Rattle.world_api.specs.Tree.{Tree}
use Rattle.world_api.specs.Effect.{Effect}
use Rattle.world_api.specs.History.{Moment, History, Passes}
use Rattle.world_api.specs.Outside.{tree_of, jobs_of}
use Rattle.world_api.specs.Writes.{CanWrite}
use Rattle.world_api.specs.Layout.{lock_path}
use Rattle.world_api.specs.declared.job.Job.{Job}
use Rattle.lock_files.specs.Book.{Lock}
use Rattle.repro_laws.specs.Due.{Due, standing_of, due, turn_fault, jobs, report}
use Rattle.repro_laws.specs.Turns.{state, Turn, Turns, stages_of}
use Rattle.repro_laws.specs.Moments.{is_own, IsRunOf, InTurns}
use Rattle.repro_laws.specs.Sound.{lock_of, IsAnswerAt, GainsAt, IsLate}
use Rattle.repro_laws.specs.declared.stage.Stage.{Stage}
use Rattle.repro_laws.specs.declared.stage.Flags.{Flags}
use Rattle.repro_laws.specs.declared.stage.Choice.{Choice}
use Rattle.repro_laws.specs.declared.stage.Choice.TheVariants.{Run}

abbrev pub IsNotFolder : Option Fault → Type 0
IsNotFolder (Some (NotFolder path)) = ⊤
IsNotFolder _ = ⊥

-- all of them but the last one, in whose way a file stood
pub record LacksLast (old whole new : List Job) : Type 0 where
  pub front : List Job
  pub last : Job
  pub cut : whole ≡ front ++ last ∷ []
  pub grown : new ≡ old ++ front

abbrev pub JobsGain : Tree → Option Fault → List Job → List Job → List Job → Type 0
JobsGain t got old whole new = GainsAt t got old whole new ⊎ (IsNotFolder got × LacksLast old whole new)

-- ---- one turn

-- a turn of the choice has ended, what its run made stands, and the lock is that of the tree
pub record HasTurned (flags : Flags) (effect : Effect) (s : Stage) (choice : Choice) (lock new : Lock) (m n : Moment) : Type 0 where
  pub due : Due
  pub its : due.stage ≡ s
  pub chosen : due.choice ≡ choice
  pub turn : Turn is_own flags effect due (state m.tree lock) (state n.tree new)
  pub run : choice ≡ Run → IsRunOf effect new m n due
  pub remembered : lock_of n.tree ≡ Some new
  pub place : CanWrite lock_path n.tree

-- after a refusal the lock is as it was; where a call to the world failed it may have the stage's entry
abbrev pub Halts : Flags → Effect → Stage → Lock → Fault → Moment → Moment → Type 0
Halts flags effect s lock fault m n =
    (lock_of n.tree ≡ Some lock) ⊎ ((fault ≡ WorldFault) × IsLate flags effect s (state m.tree lock) n)

pub record Turned (flags : Flags) (effect : Effect) (s : Stage) (choice : Choice) (lock new : Lock) (got : Option Fault) (old now : History) : Type 0 where
  pub answer : IsAnswerAt (tree_of now) got (turn_fault flags effect s (standing_of (tree_of old) lock))
  pub turn : got ≡ None → HasTurned flags effect s choice lock new old.present now.present
  pub halted : IfSome got (λ fault. Halts flags effect s lock fault old.present now.present)
  pub ran : JobsGain (tree_of now) got (jobs_of old) (jobs (due flags effect (s ∷ []) (standing_of (tree_of old) lock))) (jobs_of now)
  pub moments : Passes (InTurns flags effect (s ∷ []) lock old.present now.present) old now

-- the lines that were taken are the report of what is due
abbrev pub ReportsDue : Flags → Stage → Lock → Option Fault → History → History → List ℕ → List ℕ → Type 0
ReportsDue flags s lock got old now before taken =
    IfSome old.present.aside.fixed.effect (λ effect.
    GainsAt (tree_of now) got before (report (due flags effect (s ∷ []) (standing_of (tree_of old) lock))) taken)

-- ---- all turns

-- the turns that were taken are turns of the stages, and their jobs have run
pub record AreTaken (flags : Flags) (effect : Effect) (stages : List Stage) (lock new : Lock) (m n : Moment) : Type 0 where
  pub ended : List Due
  pub its : stages_of ended ≡ stages
  pub turns : Turns is_own flags effect ended (state m.tree lock) (state n.tree new)
  pub ran : n.aside.fixed.ran ≡ m.aside.fixed.ran ++ jobs ended
