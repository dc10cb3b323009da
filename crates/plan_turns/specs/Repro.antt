-- What the turns of a plan do: its track files are recorded, and then the chosen stages have their turns.
--     CanTurn turns lock         what may be done of a plan, in every tree
--     CanTurnAlone s             the same of the turn of a single stage
--     IsReady turns lock t       what a tree has to be for it
--     HasRecorded                what the record of the track files does
--     HasTaken                   what the turns of the stages do, where the effect of commands is told
--     Takes                      the track files couldn't be recorded, or they are and then come the turns
use Rattle.std.specs.Prelude.{◌≡◌, ◌⊎◌, ◌<◌, ◌^◌, ◌++◌, ℕ, Bool, true, List, [], ◌∷◌, length, Option, Some, None, Result, Err, IfOk, IfErr, IfSome, OnOk, IsTrue}
use Rattle.dvc_base.specs.Answer.{fault_in}
use Rattle.dvc_base.specs.declared.fault.Fault.{Fault}
use Rattle.dvc_base.specs.declared.fault.FaultKind.{FaultKind}
use Rattle.world_api.specs.Tree.{Tree}
use Rattle.world_api.specs.Effect.{Effect}
use Rattle.world_api.specs.History.{History, Passes}
use Rattle.world_api.specs.Outside.{tree_of, jobs_of}
use Rattle.world_api.specs.Layout.{lock_path}
use Rattle.world_api.specs.Writes.{CanWrite}
use Rattle.lock_files.specs.Book.{Lock}
use Rattle.lock_files.specs.Form.{IsBook}
use Rattle.stage_graph.specs.declared.track.TrackFile.{TrackFile}
use Rattle.repro_laws.specs.Stage.{IsStage}
use Rattle.repro_laws.specs.Due.{standing_of, due, fault_of, report, jobs}
use Rattle.repro_laws.specs.Turns.{state}
use Rattle.repro_laws.specs.Headline.{is_ordered, IsKept, LeavesAnew}
use Rattle.repro_laws.specs.Moments.{is_own, InTurns}
use Rattle.repro_laws.specs.Sound.{lock_of, AreReliable, IsAnswerAt, GainsAt, AreHalted}
use Rattle.repro_laws.specs.declared.stage.Stage.{Stage}
use Rattle.repro_laws.specs.declared.stage.Flags.{Flags}
use Rattle.repro_core.specs.Steps.{turn_kinds}
use Rattle.repro_core.specs.Summaries.{summary_of}
use Rattle.repro_core.specs.Turning.{JobsGain, AreTaken}
use Rattle.repro_core.specs.declared.summary.Summary.{Summary}
use Rattle.stage_plan.specs.Plan.{AreUsable}
use Rattle.stage_plan.specs.declared.turns.Turns.{Turns}
use Rattle.track_record.specs.Records.{AreTracked, AreReady, InRecords, AreRecorded, source_kinds}
use Rattle.track_record.specs.Sources.{tracks_fault}

-- ---- what is asked

pub record CanTurn (turns : Turns) (lock : Lock) : Type 0 where
  pub usable : AreUsable turns.stages
  pub few : length turns.stages < 2 ^ 32
  pub tracked : AreTracked turns.tracks
  pub form : IsBook lock

-- the same of the turn of a single stage
pub record CanTurnAlone (s : Stage) : Type 0 where
  pub stage : IsStage s
  pub kept : IsKept is_own s
  pub ordered : is_ordered (s ∷ []) ≡ true

-- the lock is that of the tree
pub record IsReady (turns : Turns) (lock : Lock) (t : Tree) : Type 0 where
  pub tracks : AreReady turns.tracks t
  pub remembered : lock_of t ≡ Some lock
  pub place : CanWrite lock_path t

-- ---- what is done

pub record HasRecorded (tracks : List TrackFile) (got : Option Fault) (old new : History) : Type 0 where
  pub answer : IsAnswerAt (tree_of new) got (tracks_fault (tree_of old) tracks)
  pub recorded : got ≡ None → AreRecorded tracks old.present new.present
  pub moments : Passes (InRecords tracks old.present) old new
  pub none : tracks ≡ [] → new ≡ old

pub record HasTaken (flags : Flags) (effect : Effect) (stages : List Stage) (lock new_lock : Lock) (got : Result Summary Fault) (old new : History) : Type 0 where
  -- Ok leaves the outputs and the lock's entries of running every stage anew
  pub headline : OnOk got (AreReliable effect stages lock old.present new.present → LeavesAnew is_own effect stages (state (tree_of old) lock) (state (tree_of new) new_lock))
  -- whatever was remembered, Ok leaves turns of all stages, which are counted
  pub taken : IfOk got (λ summary. (turns : AreTaken flags effect stages lock new_lock old.present new.present) × (summary ≡ summary_of turns.ended))
  -- the answer, and the jobs that have run, are those that are due
  pub answer : AreReliable effect stages lock old.present new.present → IsAnswerAt (tree_of new) (fault_in got) (fault_of flags effect stages (standing_of (tree_of old) lock))
  pub ran : AreReliable effect stages lock old.present new.present → JobsGain (tree_of new) (fault_in got) (jobs_of old) (jobs (due flags effect stages (standing_of (tree_of old) lock))) (jobs_of new)
  pub untouched : due flags effect stages (standing_of (tree_of old) lock) ≡ [] → new ≡ old
  pub halted : IfErr got (λ fault. AreHalted flags effect stages lock fault old.present new.present)
  pub moments : Passes (InTurns flags effect stages lock old.present new.present) old new

-- the track files couldn't be recorded: no turn is taken, and no line put
pub record IsUnrecorded (turns : Turns) (lock new_lock : Lock) (got : Result Summary Fault) (old new : History) (before taken : List ℕ) : Type 0 where
  pub fault : Fault
  pub answer : got ≡ Err fault
  pub tracks : HasRecorded turns.tracks (Some fault) old new
  pub kept : new_lock ≡ lock
  pub quiet : taken ≡ before

-- the lines are the report of what is due
pub record AreTurned (flags : Flags) (turns : Turns) (lock new_lock : Lock) (got : Result Summary Fault) (old new : History) (lines : Bool) (before taken : List ℕ) : Type 0 where
  pub begun : History
  pub tracks : HasRecorded turns.tracks None old begun
  pub turned : IfSome begun.present.aside.fixed.effect (λ effect. HasTaken flags effect turns.stages lock new_lock got begun new)
  pub remembered : OnOk got (lock_of (tree_of new) ≡ Some new_lock)
  pub report : IsTrue lines → IfSome begun.present.aside.fixed.effect (λ effect. AreReliable effect turns.stages lock begun.present new.present →
      GainsAt (tree_of new) (fault_in got) before (report (due flags effect turns.stages (standing_of (tree_of begun) lock))) taken)

abbrev pub Takes : Flags → Turns → Lock → Lock → Result Summary Fault → History → History → Bool → List ℕ → List ℕ → Type 0
Takes flags turns lock new_lock got old new lines before taken =
    IsUnrecorded turns lock new_lock got old new before taken ⊎ AreTurned flags turns lock new_lock got old new lines before taken

-- which faults may come
abbrev pub plan_turn_kinds : List FaultKind
plan_turn_kinds = source_kinds ++ turn_kinds
