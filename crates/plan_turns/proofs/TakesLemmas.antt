-- What the turns of a plan do, on each way that they may end.
--     refused_record, whole_record   the record of the track files, as its clauses tell it
--     taken_at                       what the turns do, as their clauses tell it
--     .._told                        clauses of a world that tells
--     nothing_recorded, nothing_told nothing was done, and no line put
--     both_same                      the turns of a plan, from those of two lists
use Rattle.std.proofs.Common.{◌≡◌, ℕ, Bool, List, [], ◌∷◌, ◌∙◌, map, Option, Some, None, Result, Ok, Err, OnOk, IfOk, IfErr, IfSome, IsTrue, refl, ap, inl}
use Rattle.dvc_base.specs.Answer.{fault_in}
use Rattle.dvc_base.specs.declared.fault.Fault.{Fault}
use Rattle.dvc_base.specs.declared.fault.Fault.TheVariants.{NoMemory}
use Rattle.world_api.specs.Effect.{Effect}
use Rattle.world_api.specs.History.{History, Passes}
use Rattle.world_api.specs.Outside.{tree_of, jobs_of}
use Rattle.world_api.proofs.HistoryLemmas.{passes_same}
use Rattle.lock_files.specs.Book.{Lock}
use Rattle.stage_graph.specs.declared.track.TrackFile.{TrackFile}
use Rattle.repro_laws.specs.Due.{standing_of, due, fault_of, jobs}
use Rattle.repro_laws.specs.Turns.{state}
use Rattle.repro_laws.specs.Headline.{LeavesAnew}
use Rattle.repro_laws.specs.Moments.{is_own, InTurns}
use Rattle.repro_laws.specs.Sound.{AreReliable, IsAnswerAt, AreHalted, IsReport, choice_lines}
use Rattle.repro_laws.specs.declared.stage.Stage.{Stage}
use Rattle.repro_laws.specs.declared.stage.Flags.{Flags}
use Rattle.repro_laws.specs.declared.stage.Choice.{Choice}
use Rattle.repro_laws.specs.declared.stage.Choice.TheVariants.{Run}
use Rattle.repro_core.specs.Summaries.{summary_of}
use Rattle.repro_core.specs.Turning.{JobsGain, AreTaken}
use Rattle.repro_core.specs.declared.summary.Summary.{Summary}
use Rattle.repro_core.proofs.GainLemmas.{front_none}
use Rattle.stage_plan.specs.declared.turns.Turns.{Turns}
use Rattle.track_record.specs.Sources.{tracks_fault}
use Rattle.track_record.specs.Records.{InRecords, AreRecorded}
use Rattle.plan_turns.specs.Repro.{HasRecorded, HasTaken}
use Rattle.plan_turns.proofs.KeptLemmas.{records_itself}

some_none : (fault : Fault) → Some fault ≡ None → ⊥
some_none fault e = cc

-- a refusal of the record of track files, as its clauses tell it
pub refused_record : (tracks : List TrackFile) (fault : Fault) (old new : History) → IsAnswerAt (tree_of new) (Some fault) (tracks_fault (tree_of old) tracks)
    → Passes (InRecords tracks old.present) old new → (tracks ≡ [] → new ≡ old) → HasRecorded tracks (Some fault) old new
refused_record tracks fault old new answer moments none = record {
  answer = answer;
  recorded = λ e. absurd (some_none fault e);
  moments = moments;
  none = none;
}

pub whole_record : (tracks : List TrackFile) (old new : History) → IsAnswerAt (tree_of new) None (tracks_fault (tree_of old) tracks)
    → AreRecorded tracks old.present new.present → Passes (InRecords tracks old.present) old new → (tracks ≡ [] → new ≡ old) → HasRecorded tracks None old new
whole_record tracks old new answer recorded moments none = record { answer = answer; recorded = λ e. recorded; moments = moments; none = none }

pub taken_at : (flags : Flags) (o : Option Effect) (stages : List Stage) (lock new_lock : Lock) (r : Result Summary Fault) (old new : History)
    → OnOk r (IfSome o (λ effect. AreReliable effect stages lock old.present new.present → LeavesAnew is_own effect stages (state (tree_of old) lock) (state (tree_of new) new_lock)))
    → IfOk r (λ summary. IfSome o (λ effect. (turns : AreTaken flags effect stages lock new_lock old.present new.present) × (summary ≡ summary_of turns.ended)))
    → IfSome o (λ effect. AreReliable effect stages lock old.present new.present → IsAnswerAt (tree_of new) (fault_in r) (fault_of flags effect stages (standing_of (tree_of old) lock)))
    → IfSome o (λ effect. AreReliable effect stages lock old.present new.present → JobsGain (tree_of new) (fault_in r) (jobs_of old) (jobs (due flags effect stages (standing_of (tree_of old) lock))) (jobs_of new))
    → IfSome o (λ effect. due flags effect stages (standing_of (tree_of old) lock) ≡ [] → new ≡ old)
    → IfErr r (λ fault. IfSome o (λ effect. AreHalted flags effect stages lock fault old.present new.present))
    → IfSome o (λ effect. Passes (InTurns flags effect stages lock old.present new.present) old new)
    → IfSome o (λ effect. HasTaken flags effect stages lock new_lock r old new)
taken_at flags None stages lock new_lock r old new headline taken answer ran untouched halted moments = tt
taken_at flags (Some effect) stages lock new_lock r old new headline taken answer ran untouched halted moments = record {
  headline = headline;
  taken = taken;
  answer = answer;
  ran = ran;
  untouched = untouched;
  halted = halted;
  moments = moments;
}

-- ---- the clauses are told of a world that tells

pub if_told : {A : Type 0} (P : A → Type 0) (tells : Bool) (r : Result A Fault) → IsTrue tells → IfOk r (λ x. IsTrue tells → P x) → IfOk r P
if_told P tells (Ok x) t p = p t
if_told P tells (Err fault) t p = tt

pub ok_told : {A : Type 0} (P : Type 0) (tells : Bool) (r : Result A Fault) → IsTrue tells → OnOk r (IsTrue tells → P) → OnOk r P
ok_told P tells (Ok x) t p = p t
ok_told P tells (Err fault) t p = tt

pub err_told : {A : Type 0} (P : Fault → Type 0) (tells : Bool) (r : Result A Fault) → IsTrue tells → IfErr r (λ fault. IsTrue tells → P fault) → IfErr r P
err_told P tells (Ok x) t p = tt
err_told P tells (Err fault) t p = p t

-- ---- nothing was done

pub nothing_recorded : (tracks : List TrackFile) (h : History) → HasRecorded tracks (Some NoMemory) h h
nothing_recorded tracks h =
    refused_record tracks NoMemory h h (inl (inl refl)) (passes_same (InRecords tracks h.present) h h refl (records_itself tracks h.present)) (λ e. refl)

runs_of : List Stage → List (Stage × Choice)
runs_of [] = []
runs_of (s ∷ ss) = (s, Run) ∷ runs_of ss

runs_of-stages : (stages : List Stage) → map (λ c. c.0) (runs_of stages) ≡ stages
unfolding runs_of
runs_of-stages [] = refl
runs_of-stages (s ∷ ss) = ap (λ l. s ∷ l) (runs_of-stages ss)

-- no line is a front of the report of any stages
pub nothing_told : (stages : List Stage) (fault : Fault) (old : List ℕ) → IsReport stages (Some fault) old old
nothing_told stages fault old = record {
  choices = runs_of stages;
  each = runs_of-stages stages;
  taken = front_none old (choice_lines (runs_of stages));
  whole = λ e. absurd (some_none fault e);
}

-- ---- the turns of a plan, from those of two lists

abbrev pub with_both : List Stage → List TrackFile → Turns
with_both stages tracks = record { stages = stages; tracks = tracks }

pub both_same : (stages read : List Stage) (tracks found : List TrackFile) → stages ≡ read → tracks ≡ found → with_both stages tracks ≡ with_both read found
both_same stages read tracks found e f = ap (λ (ss : List Stage). with_both ss tracks) e ∙ ap (λ (fs : List TrackFile). with_both read fs) f
