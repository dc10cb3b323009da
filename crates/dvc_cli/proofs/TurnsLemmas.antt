-- What a command does once its workspace is read.
--     IsWorkOf         nothing is refused, and this is what there is to do
--     Turned           what `repro` says, where the effect of commands is told
--     unrecorded_..    the track files couldn't be recorded
--     IsBegun          they are recorded
--     turned_..        its stages have had their turns
use Rattle.std.proofs.Common.{◌≡◌, ℕ, Bool, List, [], Option, Some, None, Result, Ok, Err, OnOk, IfErr, IfSome, IsSome, IsTrue, refl, sym, ap, ◌∙◌, subst, inl, inr}
use Rattle.std.proofs.lemmas.Bool.{false≢true}
use Rattle.dvc_base.specs.Answer.{IsAnswer, fault_in}
use Rattle.dvc_base.specs.declared.fault.Fault.{Fault}
use Rattle.world_api.specs.Tree.{Tree}
use Rattle.world_api.specs.Effect.{Effect}
use Rattle.world_api.specs.History.{Moment, History, Book, Passes, Stays, itself}
use Rattle.world_api.specs.Outside.{tree_of, jobs_of, WithEffect}
use Rattle.world_api.specs.declared.job.Job.{Job}
use Rattle.world_api.proofs.HistoryLemmas.{passes_then, passes_weaker}
use Rattle.lock_files.specs.Book.{Lock}
use Rattle.stage_graph.specs.declared.track.TrackFile.{TrackFile}
use Rattle.repro_laws.specs.Due.{Due, standing_of, due, fault_of, report, jobs}
use Rattle.repro_laws.specs.Refusals.{first_fault}
use Rattle.repro_laws.specs.Turns.{state}
use Rattle.repro_laws.specs.Headline.{LeavesAnew}
use Rattle.repro_laws.specs.Moments.{is_own, InTurns}
use Rattle.repro_laws.specs.Sound.{lock_of, IsSound, IsMetSince, AreReliable, AreHalted, IsReport, IsAnswerAt, GainsAt}
use Rattle.repro_laws.specs.declared.stage.Stage.{Stage}
use Rattle.repro_laws.specs.declared.stage.Flags.{Flags}
use Rattle.repro_laws.proofs.AllLaws.{sounds}
use Rattle.repro_core.specs.Turning.{JobsGain, AreTaken}
use Rattle.repro_core.proofs.GainLemmas.{front_none}
use Rattle.track_record.specs.Sources.{tracks_fault}
use Rattle.track_record.specs.Records.{InRecords, AreRecorded}
use Rattle.stage_plan.specs.Plan.{AreUsable}
use Rattle.dvc_cli.specs.declared.words.Request.{Request}
use Rattle.dvc_cli.specs.declared.words.Request.TheVariants.{Repro}
use Rattle.dvc_cli.specs.Workspace.{chosen_of, workspace_fault}
use Rattle.dvc_cli.specs.Command.{refusal, Work, work_due, stages_due, tracks_due, flags_of, fault_due, turns_unless, turns_due, IsReliable, Reproduces, TakesTurns, IsHaltedIn, IsHalted, InWork, InCommand, Begins, DoesCommand, Refuses, ReportsTurns, PutsReport}
use Rattle.plan_turns.proofs.TakesLemmas.{nothing_told}
use Rattle.dvc_cli.proofs.AnswerLemmas.{refused_first, none_gained}
use Rattle.dvc_cli.proofs.CommandLemmas.{any_effect, each_effect, some_is_none}
use Rattle.dvc_cli.proofs.RecordLemmas.{records_remember, records_sound, met_begun}
use Rattle.dvc_cli.proofs.WorkLemmas.{IsWork, work_is}

-- ---- what there is to do

pub record IsWorkOf (request : Option Request) (t : Tree) (w : Work) : Type 0 where
  pub none : refusal request t ≡ None
  pub is_due : work_due request t ≡ Some w
  pub remembered : lock_of t ≡ Some w.lock

pub record Turned {A : Type 0} (flags : Flags) (effect : Effect) (stages : List Stage) (lock new_lock : Lock) (r : Result A Fault) (old new : History) : Type 0 where
  pub headline : OnOk r (AreReliable effect stages lock old.present new.present → LeavesAnew is_own effect stages (state (tree_of old) lock) (state (tree_of new) new_lock))
  pub taken : OnOk r (AreTaken flags effect stages lock new_lock old.present new.present)
  pub answer : AreReliable effect stages lock old.present new.present → IsAnswerAt (tree_of new) (fault_in r) (fault_of flags effect stages (standing_of (tree_of old) lock))
  pub ran : AreReliable effect stages lock old.present new.present → JobsGain (tree_of new) (fault_in r) (jobs_of old) (jobs (due flags effect stages (standing_of (tree_of old) lock))) (jobs_of new)
  pub untouched : due flags effect stages (standing_of (tree_of old) lock) ≡ [] → new ≡ old
  pub halted : IfErr r (λ fault. AreHalted flags effect stages lock fault old.present new.present)
  pub moments : Passes (InTurns flags effect stages lock old.present new.present) old new

-- ---- what is due

refused_none : (request : Option Request) (t : Tree) → refusal request t ≡ None → IsSome (refusal request t) → ⊥
refused_none request t e some = false≢true (subst (λ (f : Option Fault). IsSome f) e some)

pub stages_due-is : (request : Option Request) (t : Tree) (w : Work) → IsWorkOf request t w → w.stages ≡ stages_due request t
stages_due-is request t w is = rw is.is_due refl

tracks_due-is : (request : Option Request) (t : Tree) (w : Work) → IsWorkOf request t w → w.tracks ≡ tracks_due request t
tracks_due-is request t w is = rw is.is_due refl

fault_due-is : (request : Option Request) (effect : Effect) (t b : Tree) (w : Work) → IsWorkOf request t w
    → fault_due request effect t b ≡ first_fault (tracks_fault t w.tracks) (fault_of (flags_of w.force) effect w.stages (standing_of b w.lock))
fault_due-is request effect t b w is = rw (is.none, is.is_due) refl

turns_due-is : (request : Option Request) (effect : Effect) (t b : Tree) (w : Work) → IsWorkOf request t w
    → turns_due request effect t b ≡ turns_unless (tracks_fault t w.tracks) (due (flags_of w.force) effect w.stages (standing_of b w.lock))
turns_due-is request effect t b w is = rw is.is_due refl

-- ---- the track files couldn't be recorded

-- what their record does, where it is refused
pub record Unrecorded (tracks : List TrackFile) (fault : Fault) (old new : History) : Type 0 where
  pub answer : IsAnswerAt (tree_of new) (Some fault) (tracks_fault (tree_of old) tracks)
  pub moments : Passes (InRecords tracks old.present) old new
  pub none : tracks ≡ [] → new ≡ old

first_answer : (t : Tree) (fault : Fault) (due later : Option Fault) → IsAnswerAt t (Some fault) due → IsAnswerAt t (Some fault) (first_fault due later)
first_answer t fault due later (inl answer) = inl (refused_first fault due later answer)
first_answer t fault due later (inr barred) = inr barred

none_left : (fault : Fault) (due : Option Fault) (ds : List Due) → due ≡ Some fault → turns_unless due ds ≡ []
none_left fault due ds e = rw e refl

gained_at : {A : Type 0} (t : Tree) (fault : Fault) (due : Option Fault) (old whole : List A) → IsAnswerAt t (Some fault) due → (due ≡ Some fault → whole ≡ []) → GainsAt t (Some fault) old whole old
gained_at t fault due old whole (inl answer) none = inl (none_gained fault due old whole answer none)
gained_at t fault due old whole (inr barred) none = inr (barred, front_none old whole)

module _ (request : Option Request) (effect : Effect) (w : Work) (fault : Fault) (old new : History) (is : IsWorkOf request (tree_of old) w) (h : Unrecorded w.tracks fault old new) where
  during : InRecords w.tracks old.present new.present
  during = let moments = h.moments in moments.now

  whole_due : List Due
  whole_due = due (flags_of w.force) effect w.stages (standing_of (tree_of new) w.lock)

  no_turns : tracks_fault (tree_of old) w.tracks ≡ Some fault → turns_due request effect (tree_of old) (tree_of new) ≡ []
  unfolding whole_due
  no_turns e =
      turns_due-is request effect (tree_of old) (tree_of new) w is ∙ none_left fault (tracks_fault (tree_of old) w.tracks) whole_due e

  same_jobs : jobs_of new ≡ jobs_of old
  same_jobs = let others = during.others in let aside = others.aside in ap (λ f. f.ran) aside.fixed

  unrecorded_here : DoesCommand request effect (Some fault) old new
  unrecorded_here = record {
    headline = λ e. absurd (some_is_none fault e);
    taken = λ e. absurd (some_is_none fault e);
    begun = new.present;
    begins = inr (refl, refl);
    answer = λ reliable. subst (IsAnswerAt (tree_of new) (Some fault)) (sym (fault_due-is request effect (tree_of old) (tree_of new) w is))
        (first_answer (tree_of new) fault (tracks_fault (tree_of old) w.tracks) (fault_of (flags_of w.force) effect w.stages (standing_of (tree_of new) w.lock)) h.answer);
    ran = λ reliable. inl (subst (GainsAt (tree_of new) (Some fault) (jobs_of old) (jobs (turns_due request effect (tree_of old) (tree_of new)))) (sym same_jobs)
        (gained_at (tree_of new) fault (tracks_fault (tree_of old) w.tracks) (jobs_of old) (jobs (turns_due request effect (tree_of old) (tree_of new))) h.answer (λ e. ap jobs (no_turns e))));
    sound = λ reliable. passes_weaker (InRecords w.tracks old.present) (IsSound reliable.book effect) old new
        (λ n. let it = work_is request (tree_of old) w is.is_due in records_sound w.tracks reliable.book effect old.present n it.named reliable.sound) h.moments;
    untouched = λ none e. h.none (tracks_due-is request (tree_of old) w is ∙ none);
    halted = subst (λ (x : Option Work). IsHaltedIn effect x fault old.present new.present) (sym is.is_due) (inr (inl (record { due = h.answer; left = during })));
    moments = passes_weaker (InRecords w.tracks old.present) (InCommand request effect old.present new.present) old new
        (λ n step. subst (λ (x : Option Work). InWork effect x old.present new.present n) (sym is.is_due) (inl step)) h.moments;
    book = let others = during.others in let aside = others.aside in aside.book;
  }

  unrecorded_report : (taken : List ℕ) → ReportsTurns request effect (Some fault) old new taken taken
  unrecorded_report taken = record {
    begun = new.present;
    begins = inr (refl, refl);
    lines = gained_at (tree_of new) fault (tracks_fault (tree_of old) w.tracks) taken (report (turns_due request effect (tree_of old) (tree_of new))) h.answer (λ e. ap report (no_turns e));
  }

pub unrecorded_does : (request : Option Request) (w : Work) (fault : Fault) (start old new : History) → old ≡ start → IsWorkOf request (tree_of old) w → Unrecorded w.tracks fault old new
    → IfSome start.present.aside.fixed.effect (λ effect. DoesCommand request effect (Some fault) start new)
unrecorded_does request w fault start old new same is h =
    any_effect start.present.aside.fixed.effect (λ effect. DoesCommand request effect (Some fault) start new)
    (λ effect. subst (λ (x : History). DoesCommand request effect (Some fault) x new) same (unrecorded_here request effect w fault old new is h))

pub unrecorded_puts : (request : Option Request) (tells : Bool) (w : Work) (fault : Fault) (start old new : History) (taken : List ℕ)
    → (IsTrue tells → old ≡ start) → (IsTrue tells → IsWorkOf request (tree_of old) w) → (IsTrue tells → Unrecorded w.tracks fault old new) → PutsReport request tells (Some fault) start new taken taken
unrecorded_puts request tells w fault start old new taken same is h = record {
  quiet = λ told some. refl;
  report = λ told. any_effect start.present.aside.fixed.effect
      (λ effect. IsReliable request effect start.present new.present → ReportsTurns request effect (Some fault) start new taken taken)
      (λ effect reliable. subst (λ (x : History). ReportsTurns request effect (Some fault) x new taken taken) (same told) (unrecorded_report request effect w fault old new (is told) (h told) taken));
  lines = record { stages = stages_due request (tree_of start); theirs = λ told. refl; report = nothing_told (stages_due request (tree_of start)) fault taken };
}

-- ---- the turns begin

-- what the record of the track files has done
pub record IsBegun (tracks : List TrackFile) (old mid : History) : Type 0 where
  pub answer : tracks_fault (tree_of old) tracks ≡ None
  pub recorded : AreRecorded tracks old.present mid.present
  pub moments : Passes (InRecords tracks old.present) old mid
  pub none : tracks ≡ [] → mid ≡ old

unbarred : (t : Tree) (due : Option Fault) → IsAnswerAt t None due → due ≡ None
unbarred t due (inl none) = none
unbarred t due (inr barred) = absurd barred

pub begun_by : (tracks : List TrackFile) (old mid : History) → IsAnswerAt (tree_of mid) None (tracks_fault (tree_of old) tracks) → AreRecorded tracks old.present mid.present
    → Passes (InRecords tracks old.present) old mid → (tracks ≡ [] → mid ≡ old) → IsBegun tracks old mid
begun_by tracks old mid answer recorded moments none = record {
  answer = unbarred (tree_of mid) (tracks_fault (tree_of old) tracks) answer;
  recorded = recorded;
  moments = moments;
  none = none;
}

pub turns_sound : (book : Book) (effect : Effect) (w : Work) (m b end n : Moment) → IsWork m.tree w → InRecords w.tracks m b → IsSound book effect m → IsMetSince book w.stages m end
    → InTurns (flags_of w.force) effect w.stages w.lock b end n → IsSound book effect n
turns_sound book effect w m b end n is during s met turns =
    let others = during.others in
    let usable = is.usable in
    sounds (flags_of w.force) book effect w.stages w.lock b end n is.flags usable.planned usable.outside
    (records_remember w.tracks m b is.named during ∙ is.remembered)
    (records_sound w.tracks book effect m b is.named s during) (met_begun book w.stages m b end others.aside met) turns

-- ---- the stages have had their turns

module _ {A : Type 0} (r : Result A Fault) (request : Option Request) (effect : Effect) (w : Work) (new_lock : Lock) (old mid new : History) (is : IsWorkOf request (tree_of old) w) (begun : IsBegun w.tracks old mid) where
  abbrev flags : Flags
  flags = flags_of w.force

  it : IsWork (tree_of old) w
  it = work_is request (tree_of old) w is.is_due

  since : InRecords w.tracks old.present mid.present
  since = let moments = begun.moments in moments.now

  stays : Stays itself old.present.aside mid.present.aside
  stays = let others = since.others in others.aside

  safe_of : IsReliable request effect old.present new.present → AreReliable effect w.stages w.lock mid.present new.present
  safe_of reliable =
      let sound = reliable.sound in
      record {
        book = reliable.book;
        truthful = sound.truthful w.lock is.remembered;
        met = met_begun reliable.book w.stages old.present mid.present new.present stays (reliable.met w is.is_due);
      }

  begins : Begins request (fault_in r) old.present mid.present new.present
  begins = inl (subst (λ (fs : List TrackFile). AreRecorded fs old.present mid.present) (tracks_due-is request (tree_of old) w is) begun.recorded)

  fault_is : fault_due request effect (tree_of old) (tree_of mid) ≡ fault_of flags effect w.stages (standing_of (tree_of mid) w.lock)
  fault_is =
      fault_due-is request effect (tree_of old) (tree_of mid) w is
      ∙ ap (λ (x : Option Fault). first_fault x (fault_of flags effect w.stages (standing_of (tree_of mid) w.lock))) begun.answer

  turns_are : turns_due request effect (tree_of old) (tree_of mid) ≡ due flags effect w.stages (standing_of (tree_of mid) w.lock)
  turns_are =
      turns_due-is request effect (tree_of old) (tree_of mid) w is
      ∙ ap (λ (x : Option Fault). turns_unless x (due flags effect w.stages (standing_of (tree_of mid) w.lock))) begun.answer

  same_ran : jobs_of mid ≡ jobs_of old
  same_ran = ap (λ f. f.ran) stays.fixed

  in_record : (n : Moment) → InRecords w.tracks old.present n → InCommand request effect old.present new.present n
  in_record n step = subst (λ (x : Option Work). InWork effect x old.present new.present n) (sym is.is_due) (inl step)

  in_turn : (n : Moment) → InTurns flags effect w.stages w.lock mid.present new.present n → InCommand request effect old.present new.present n
  in_turn n step =
      subst (λ (x : Option Work). InWork effect x old.present new.present n) (sym is.is_due) (inr (record { begun = mid.present; recorded = begun.recorded; turns = step }))

  turned_here : AreUsable w.stages → OnOk r (lock_of (tree_of new) ≡ Some new_lock) → Turned flags effect w.stages w.lock new_lock r mid new → DoesCommand request effect (fault_in r) old new
  turned_here u remembers turned = record {
    headline = reproduces r u remembers turned.headline;
    taken = takes r remembers turned.taken;
    begun = mid.present;
    begins = begins;
    answer = λ reliable. subst (IsAnswerAt (tree_of new) (fault_in r)) (sym fault_is) (turned.answer (safe_of reliable));
    ran = λ reliable. subst (λ (js : List Job). JobsGain (tree_of new) (fault_in r) js (jobs (turns_due request effect (tree_of old) (tree_of mid))) (jobs_of new)) same_ran
        (subst (λ (ds : List Due). JobsGain (tree_of new) (fault_in r) (jobs_of mid) (jobs ds) (jobs_of new)) (sym turns_are) (turned.ran (safe_of reliable)));
    sound = λ reliable. passes_then (IsSound reliable.book effect) old mid new
        (passes_weaker (InRecords w.tracks old.present) (IsSound reliable.book effect) old mid (λ n. records_sound w.tracks reliable.book effect old.present n it.named reliable.sound) begun.moments)
        (passes_weaker (InTurns flags effect w.stages w.lock mid.present new.present) (IsSound reliable.book effect) mid new
        (λ n. turns_sound reliable.book effect w old.present mid.present new.present n it since reliable.sound (reliable.met w is.is_due)) turned.moments);
    untouched = λ none e. turned.untouched (sym turns_are ∙ e) ∙ begun.none (tracks_due-is request (tree_of old) w is ∙ none);
    halted = halts r turned.halted;
    moments = passes_then (InCommand request effect old.present new.present) old mid new
        (passes_weaker (InRecords w.tracks old.present) (InCommand request effect old.present new.present) old mid in_record begun.moments)
        (passes_weaker (InTurns flags effect w.stages w.lock mid.present new.present) (InCommand request effect old.present new.present) mid new in_turn turned.moments);
    book = λ digest bytes e. turned.moments.now.ran.aside.book digest bytes (stays.book digest bytes e);
  }
    where
      reproduces : (x : Result A Fault) → AreUsable w.stages → OnOk x (lock_of (tree_of new) ≡ Some new_lock)
          → OnOk x (AreReliable effect w.stages w.lock mid.present new.present → LeavesAnew is_own effect w.stages (state (tree_of mid) w.lock) (state (tree_of new) new_lock))
          → fault_in x ≡ None → IsReliable request effect old.present new.present → Reproduces request effect old.present new.present
      reproduces (Err fault) u remembers anew e reliable = absurd (some_is_none fault e)
      reproduces (Ok done) u remembers anew e reliable = record {
        work = w;
        is_due = is.is_due;
        begun = mid.present;
        recorded = begun.recorded;
        in_order = let planned = u.planned in planned.order;
        new_lock = new_lock;
        remembers = remembers;
        anew = anew (safe_of reliable);
      }

      takes : (x : Result A Fault) → OnOk x (lock_of (tree_of new) ≡ Some new_lock) → OnOk x (AreTaken flags effect w.stages w.lock new_lock mid.present new.present)
          → fault_in x ≡ None → TakesTurns request effect old.present new.present
      takes (Err fault) remembers taken e = absurd (some_is_none fault e)
      takes (Ok done) remembers taken e = record {
        work = w;
        is_due = is.is_due;
        begun = mid.present;
        recorded = begun.recorded;
        new_lock = new_lock;
        remembers = remembers;
        taken = taken;
      }

      halts : (x : Result A Fault) → IfErr x (λ fault. AreHalted flags effect w.stages w.lock fault mid.present new.present) → IfSome (fault_in x) (λ fault. IsHalted request effect fault old.present new.present)
      halts (Ok done) halted = tt
      halts (Err fault) halted =
          subst (λ (x : Option Work). IsHaltedIn effect x fault old.present new.present) (sym is.is_due) (inr (inr (record { begun = mid.present; recorded = begun.recorded; turns = halted })))

  reported : (before taken : List ℕ) → (AreReliable effect w.stages w.lock mid.present new.present → GainsAt (tree_of new) (fault_in r) before (report (due flags effect w.stages (standing_of (tree_of mid) w.lock))) taken)
      → IsReliable request effect old.present new.present → ReportsTurns request effect (fault_in r) old new before taken
  reported before taken gains reliable = record {
    begun = mid.present;
    begins = begins;
    lines = subst (λ (ds : List Due). GainsAt (tree_of new) (fault_in r) before (report ds) taken) (sym turns_are) (gains (safe_of reliable));
  }

-- the effect is that of the start
effect_same : (tracks : List TrackFile) (old mid : History) → InRecords tracks old.present mid.present → mid.present.aside.fixed.effect ≡ old.present.aside.fixed.effect
effect_same tracks old mid since =
    let others = since.others in
    let aside = others.aside in
    ap (λ f. f.effect) aside.fixed

pub turned_does : {A : Type 0} (r : Result A Fault) (request : Option Request) (w : Work) (new_lock : Lock) (start old mid new : History) → old ≡ start
    → AreUsable w.stages → IsWorkOf request (tree_of old) w → IsBegun w.tracks old mid → OnOk r (lock_of (tree_of new) ≡ Some new_lock)
    → IfSome mid.present.aside.fixed.effect (λ effect. Turned (flags_of w.force) effect w.stages w.lock new_lock r mid new)
    → IfSome start.present.aside.fixed.effect (λ effect. DoesCommand request effect (fault_in r) start new)
turned_does r request w new_lock start old mid new same u is begun remembers turned =
    let moments = begun.moments in
    subst (λ (h : History). IfSome h.present.aside.fixed.effect (λ effect. DoesCommand request effect (fault_in r) h new)) same
    (subst (λ (o : Option Effect). IfSome o (λ effect. DoesCommand request effect (fault_in r) old new)) (effect_same w.tracks old mid moments.now)
    (each_effect mid.present.aside.fixed.effect (λ effect. Turned (flags_of w.force) effect w.stages w.lock new_lock r mid new) (λ effect. DoesCommand request effect (fault_in r) old new)
    (λ effect. turned_here r request effect w new_lock old mid new is begun u remembers) turned))

pub not_refused : (request : Option Request) (start old : History) (w : Work) → old ≡ start → IsWorkOf request (tree_of old) w → IsSome (refusal request (tree_of start)) → ⊥
not_refused request start old w same is some =
    refused_none request (tree_of old) is.none (subst (λ (h : History). IsSome (refusal request (tree_of h))) (sym same) some)

pub turned_refuses : (request : Option Request) (got : Option Fault) (w : Work) (start old new : History) → old ≡ start
    → IsWorkOf request (tree_of old) w → Refuses request got start new
turned_refuses request got w start old new same is some = absurd (not_refused request start old w same is some)

pub turned_puts : {A : Type 0} (r : Result A Fault) (request : Option Request) (tells : Bool) (w : Work) (new_lock : Lock) (start old mid new : History) (before taken : List ℕ)
    → (IsTrue tells → old ≡ start) → (IsTrue tells → IsWorkOf request (tree_of old) w) → (IsTrue tells → IsBegun w.tracks old mid)
    → WithEffect tells mid (λ effect. AreReliable effect w.stages w.lock mid.present new.present → GainsAt (tree_of new) (fault_in r) before (report (due (flags_of w.force) effect w.stages (standing_of (tree_of mid) w.lock))) taken)
    → IsReport w.stages (fault_in r) before taken → PutsReport request tells (fault_in r) start new before taken
turned_puts r request tells w new_lock start old mid new before taken same is begun gains lines = record {
  quiet = λ told some. absurd (not_refused request start old w (same told) (is told) some);
  report = λ told.
      let moments = (begun told).moments in
      subst (λ (h : History). IfSome h.present.aside.fixed.effect (λ effect. IsReliable request effect h.present new.present → ReportsTurns request effect (fault_in r) h new before taken)) (same told)
      (subst (λ (o : Option Effect). IfSome o (λ effect. IsReliable request effect old.present new.present → ReportsTurns request effect (fault_in r) old new before taken)) (effect_same w.tracks old mid moments.now)
      (each_effect mid.present.aside.fixed.effect
      (λ effect. AreReliable effect w.stages w.lock mid.present new.present → GainsAt (tree_of new) (fault_in r) before (report (due (flags_of w.force) effect w.stages (standing_of (tree_of mid) w.lock))) taken)
      (λ effect. IsReliable request effect old.present new.present → ReportsTurns request effect (fault_in r) old new before taken)
      (λ effect. reported r request effect w new_lock old mid new (is told) (begun told) before taken) (gains told)));
  lines = record {
    stages = w.stages;
    theirs = λ told. stages_due-is request (tree_of old) w (is told) ∙ ap (λ (h : History). stages_due request (tree_of h)) (same told);
    report = lines;
  };
}

-- ---- what was read

-- what was read is what there is to do
pub work_at : (force : Bool) (targets : List (List ℕ)) (start old : History) (read stages : List Stage) (found tracks : List TrackFile) (lock : Lock) → old ≡ start → stages ≡ read → tracks ≡ found
    → IsAnswer None (workspace_fault targets (tree_of start)) → chosen_of targets (tree_of start) ≡ Some (record { stages = read; tracks = found }) → lock_of (tree_of start) ≡ Some lock
    → IsWorkOf (Some (Repro force targets)) (tree_of old) (record { force = force; stages = stages; tracks = tracks; lock = lock })
work_at force targets start old read stages found tracks lock same e f none c l =
    let none_there = ap (λ (h : History). workspace_fault targets (tree_of h)) same ∙ none in
    let chosen_there = ap (λ (h : History). chosen_of targets (tree_of h)) same ∙ (c ∙ (ap (λ (ss : List Stage). Some (record { stages = ss; tracks = found })) (sym e) ∙ ap (λ (fs : List TrackFile). Some (record { stages = stages; tracks = fs })) (sym f))) in
    let lock_there = ap (λ (h : History). lock_of (tree_of h)) same ∙ l in
    record {
      none = none_there;
      is_due = rw (none_there, chosen_there, lock_there) refl;
      remembered = lock_there;
    }
