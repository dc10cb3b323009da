-- What a command does, from what the turns of its plan did.
--     took_does, took_puts
use Rattle.std.proofs.Common.{◌≡◌, ℕ, Bool, List, Option, Some, None, Result, Ok, Err, OnOk, IfOk, IfSome, IsTrue, refl, sym, ap, ◌∙◌, subst, inl, inr}
use Rattle.dvc_base.specs.Answer.{fault_in}
use Rattle.dvc_base.specs.declared.fault.Fault.{Fault}
use Rattle.world_api.specs.Effect.{Effect}
use Rattle.world_api.specs.History.{History}
use Rattle.world_api.specs.Outside.{tree_of}
use Rattle.lock_files.specs.Book.{Lock}
use Rattle.stage_graph.specs.declared.track.TrackFile.{TrackFile}
use Rattle.repro_laws.specs.Sound.{IsReport}
use Rattle.repro_laws.specs.declared.stage.Stage.{Stage}
use Rattle.repro_laws.specs.declared.stage.Flags.{Flags}
use Rattle.repro_core.specs.Summaries.{summary_of}
use Rattle.repro_core.specs.Turning.{AreTaken}
use Rattle.repro_core.specs.declared.summary.Summary.{Summary}
use Rattle.stage_plan.specs.Plan.{AreUsable}
use Rattle.plan_turns.specs.Repro.{HasRecorded, HasTaken, Takes}
use Rattle.plan_turns.proofs.TakesLemmas.{with_both}
use Rattle.dvc_cli.specs.declared.words.Request.{Request}
use Rattle.dvc_cli.specs.Command.{Work, stages_due, flags_of, IsReliable, DoesCommand, ReportsTurns, PutsReport}
use Rattle.dvc_cli.proofs.CommandLemmas.{each_effect}
use Rattle.dvc_cli.proofs.TurnsLemmas.{IsWorkOf, Turned, Unrecorded, IsBegun, begun_by, stages_due-is, not_refused, unrecorded_does, unrecorded_puts, turned_does, turned_puts}

unrecorded_of : (tracks : List TrackFile) (fault : Fault) (old new : History) → HasRecorded tracks (Some fault) old new → Unrecorded tracks fault old new
unrecorded_of tracks fault old new h = record { answer = h.answer; moments = h.moments; none = h.none }

begun_of : (tracks : List TrackFile) (old mid : History) → HasRecorded tracks None old mid → IsBegun tracks old mid
begun_of tracks old mid h = begun_by tracks old mid h.answer (h.recorded refl) h.moments h.none

taken_of : (flags : Flags) (effect : Effect) (stages : List Stage) (lock new_lock : Lock) (r : Result Summary Fault) (mid new : History)
    → IfOk r (λ summary. (turns : AreTaken flags effect stages lock new_lock mid.present new.present) × (summary ≡ summary_of turns.ended))
    → OnOk r (AreTaken flags effect stages lock new_lock mid.present new.present)
taken_of flags effect stages lock new_lock (Ok summary) mid new h = h.0
taken_of flags effect stages lock new_lock (Err fault) mid new h = tt

turned_of : (flags : Flags) (effect : Effect) (stages : List Stage) (lock new_lock : Lock) (r : Result Summary Fault) (mid new : History) → HasTaken flags effect stages lock new_lock r mid new
    → Turned flags effect stages lock new_lock r mid new
turned_of flags effect stages lock new_lock r mid new h = record {
  headline = h.headline;
  taken = taken_of flags effect stages lock new_lock r mid new h.taken;
  answer = h.answer;
  ran = h.ran;
  untouched = h.untouched;
  halted = h.halted;
  moments = h.moments;
}

-- ---- what is left

pub took_does : (r : Result Summary Fault) (request : Option Request) (w : Work) (new_lock : Lock) (start old new : History) (lines : Bool) (before taken : List ℕ) → old ≡ start
    → AreUsable w.stages → IsWorkOf request (tree_of old) w → Takes (flags_of w.force) (with_both w.stages w.tracks) w.lock new_lock r old new lines before taken
    → IfSome start.present.aside.fixed.effect (λ effect. DoesCommand request effect (fault_in r) start new)
took_does r request w new_lock start old new lines before taken same u is (inl h) =
    subst (λ (x : Result Summary Fault). IfSome start.present.aside.fixed.effect (λ effect. DoesCommand request effect (fault_in x) start new)) (sym h.answer)
    (unrecorded_does request w h.fault start old new same is (unrecorded_of w.tracks h.fault old new h.tracks))
took_does r request w new_lock start old new lines before taken same u is (inr h) =
    turned_does r request w new_lock start old h.begun new same u is (begun_of w.tracks old h.begun h.tracks) h.remembered
    (each_effect h.begun.present.aside.fixed.effect (λ effect. HasTaken (flags_of w.force) effect w.stages w.lock new_lock r h.begun new) (λ effect. Turned (flags_of w.force) effect w.stages w.lock new_lock r h.begun new)
    (λ effect. turned_of (flags_of w.force) effect w.stages w.lock new_lock r h.begun new) h.turned)

-- ---- what is put

abbrev Reported : Option Request → Option Fault → History → History → List ℕ → List ℕ → Type 0
Reported request got start new before taken =
    IfSome start.present.aside.fixed.effect (λ effect. IsReliable request effect start.present new.present → ReportsTurns request effect got start new before taken)

reported : (r : Result Summary Fault) (request : Option Request) (tells output : Bool) (w : Work) (new_lock : Lock) (start old new : History) (before taken : List ℕ) → IsTrue tells → IsTrue output → old ≡ start
    → IsWorkOf request (tree_of old) w → IsReport w.stages (fault_in r) before taken → Takes (flags_of w.force) (with_both w.stages w.tracks) w.lock new_lock r old new output before taken
    → Reported request (fault_in r) start new before taken
reported r request tells output w new_lock start old new before taken told lines_told same is lines (inl h) =
    let puts = unrecorded_puts request tells w h.fault start old new taken (λ t. same) (λ t. is) (λ t. unrecorded_of w.tracks h.fault old new h.tracks) in
    subst (λ (x : Result Summary Fault). Reported request (fault_in x) start new before taken) (sym h.answer)
    (subst (λ (l : List ℕ). Reported request (Some h.fault) start new l taken) h.quiet (puts.report told))
reported r request tells output w new_lock start old new before taken told lines_told same is lines (inr h) =
    let puts = turned_puts r request tells w new_lock start old h.begun new before taken (λ t. same) (λ t. is) (λ t. begun_of w.tracks old h.begun h.tracks) (λ t. h.report lines_told) lines in
    puts.report told

pub took_puts : (r : Result Summary Fault) (request : Option Request) (tells output : Bool) (w : Work) (new_lock : Lock) (start old new : History) (before taken : List ℕ) → IsTrue output
    → (IsTrue tells → old ≡ start) → (IsTrue tells → IsWorkOf request (tree_of old) w) → (IsTrue tells → Takes (flags_of w.force) (with_both w.stages w.tracks) w.lock new_lock r old new output before taken)
    → IsReport w.stages (fault_in r) before taken → PutsReport request tells (fault_in r) start new before taken
took_puts r request tells output w new_lock start old new before taken lines_told same is takes lines = record {
  quiet = λ told some. absurd (not_refused request start old w (same told) (is told) some);
  report = λ told. reported r request tells output w new_lock start old new before taken told lines_told (same told) (is told) lines (takes told);
  lines = record {
    stages = w.stages;
    theirs = λ told. stages_due-is request (tree_of old) w (is told) ∙ ap (λ (h : History). stages_due request (tree_of h)) (same told);
    report = lines;
  };
}
