-- The turn of a stage that is skipped, and what a skip knows of its outputs.
--     skip_named, skip_small     each output is there, and none passes a limit
--     TurnedBy, put_free         a turn of the choice that is answered, and lines that couldn't be put
--     skip_refused, skip_whole   its turn, while its outputs are put into the cache where they weren't
--     skip_remembered, skip_place     the lock after it
use Rattle.std.proofs.Common.{◌≡◌, false, List, [], ◌∷◌, ◌++◌, map, inl, refl, sym, ap, subst, ◌∙◌, append-nil, Option, Some, None, IsTrue, Result, Ok, IfOk}
use Rattle.std.specs.List.{AllByRecursion}
use Rattle.std.proofs.lemmas.Bool.{false≢true}
use Rattle.dvc_base.specs.declared.data.ParamFile.{ParamFile}
use Rattle.dvc_base.specs.declared.fault.Fault.{Fault}
use Rattle.dvc_base.specs.declared.fault.Fault.TheVariants.{NoMemory, OutFault}
use Rattle.dvc_base.specs.Fault.{MayBe, is_free}
use Rattle.dvc_base.specs.Answer.{fault_in}
use Rattle.world_api.specs.Tree.{Tree, Value, IsTree, value_at}
use Rattle.world_api.specs.Effect.{Effect}
use Rattle.world_api.specs.History.{Fixed, History, Passes}
use Rattle.world_api.specs.Outside.{tree_of, jobs_of, PassesFrom}
use Rattle.world_api.specs.Writes.{CanWrite}
use Rattle.world_api.specs.Layout.{lock_path}
use Rattle.world_api.specs.declared.job.Job.{Job}
use Rattle.world_api.proofs.HistoryLemmas.{passes_weaker}
use Rattle.lock_files.specs.declared.entry.Entry.{Entry}
use Rattle.lock_files.specs.Book.{Lock}
use Rattle.repro_laws.specs.Stage.{out_path, params_at, job_with, is_nothing, IsStage}
use Rattle.repro_laws.specs.Refusals.{first_fault, first_of, refused_out, deps_fault, present_fault, see_fault}
use Rattle.repro_laws.specs.Due.{standing_of, choice_at, due, turn_fault, jobs}
use Rattle.repro_laws.specs.Turns.{AreStored}
use Rattle.repro_laws.specs.Headline.{IsKept}
use Rattle.repro_laws.specs.Moments.{is_own, InTurns}
use Rattle.repro_laws.specs.Sound.{lock_of, IsAnswerAt}
use Rattle.repro_laws.specs.declared.stage.Out.{Out}
use Rattle.repro_laws.specs.declared.stage.Stage.{Stage}
use Rattle.repro_laws.specs.declared.stage.Flags.{Flags}
use Rattle.repro_laws.specs.declared.stage.Choice.{Choice}
use Rattle.repro_laws.specs.declared.stage.Choice.TheVariants.{Skip}
use Rattle.repro_laws.proofs.AlikeLemmas.{each_mapped}
use Rattle.repro_laws.proofs.LockEntries.{lock_of_same}
use Rattle.repro_laws.proofs.ReadLemmas.{seen_outs}
use Rattle.repro_laws.proofs.RefusalLemmas.{missing_at, each_missing}
use Rattle.repro_laws.proofs.SeenLemmas.{first_none}
use Rattle.repro_laws.proofs.SkipLaw.{skip_parts}
use Rattle.repro_core.specs.Steps.{put_kinds, InWork, InStored}
use Rattle.repro_core.specs.Turning.{HasTurned, Turned, JobsGain}
use Rattle.repro_core.proofs.GainLemmas.{gains_all}
use Rattle.repro_core.proofs.LeftLemmas.{item_stored}
use Rattle.repro_core.proofs.OneStageLemmas.{fault_alone, jobs_alone}
use Rattle.repro_core.proofs.RunLemmas.{IsStart}
use Rattle.repro_core.proofs.WorkLemmas.{work_of_stored, work_keeps_lock, work_place, turns_of_work}

-- ---- the outputs of a stage that is skipped

pub skip_named : (flags : Flags) (s : Stage) (ps : List ParamFile) (t : Tree) (lock : Lock) → IsStage s → params_at s t ≡ Ok ps → choice_at flags s ps (standing_of t lock) ≡ (Skip, None) → first_of (λ o. refused_out s.name o (value_at t o.path)) s.outs ≡ None
skip_named flags s ps t lock stage read chosen =
    let v : Out → Value = λ o. value_at t o.path in
    let vs : List Value = map v s.made in
    let parts = skip_parts flags s ps t lock stage read (ap (λ (x : Choice × Option Entry). x.0) chosen) in
    let has = parts.1 in
    let there : AllByRecursion (λ o. is_nothing (v o) ≡ false) s.made =
    each_mapped out_path (λ p. is_nothing (value_at t p) ≡ false) s.made (seen_outs has.entry s t has.present) in
    sym (missing_at v s vs stage.made stage.out_texts refl) ∙ each_missing v s vs stage.made stage.out_texts refl there

pub skip_small : (s : Stage) (t : Tree) → see_fault s t ≡ None → present_fault s t ≡ None
skip_small s t seen =
    let later = (first_none (deps_fault s t) (first_fault (fault_in (params_at s t)) (present_fault s t)) seen).1 in
    (first_none (fault_in (params_at s t)) (present_fault s t) later).1

-- ---- a turn of the choice that is answered

abbrev pub TurnedBy : Flags → Effect → Stage → Lock → Lock → Result Choice Fault → History → History → Type 0
TurnedBy flags effect s lock new r old now =
    (choice : Choice) × IfOk r (λ chosen. chosen ≡ choice) × Turned flags effect s choice lock new (fault_in r) old now

-- lines that couldn't be put
pub put_free : (f : Fault) → MayBe put_kinds (Some f) → IsTrue (is_free f)
put_free NoMemory kind = refl
put_free OutFault kind = refl
put_free _ kind = absurd (false≢true kind)

-- ---- its turn

none_some : {A : Type 0} (a : A) → Some a ≡ None → ⊥
none_some a e = cc

skip_work : (s : Stage) (old now : History) → PassesFrom InStored old now → InWork s [] old.present now.present
skip_work s old now put = work_of_stored s old.present now.present put.now

pub skip_remembered : (s : Stage) (lock : Lock) (old now : History) → IsKept is_own s → lock_of (tree_of old) ≡ Some lock → PassesFrom InStored old now → lock_of (tree_of now) ≡ Some lock
skip_remembered s lock old now kept read put =
    lock_of_same old.present now.present (work_keeps_lock s [] old.present now.present kept (skip_work s old now put)) ∙ read

pub skip_place : (s : Stage) (old now : History) → IsKept is_own s → CanWrite lock_path (tree_of old) → PassesFrom InStored old now → CanWrite lock_path (tree_of now)
skip_place s old now kept place put =
    work_place s [] old.present now.present kept (skip_work s old now put) place

module _ (flags : Flags) (effect : Effect) (s : Stage) (ps : List ParamFile) (lock : Lock) (old now : History) (start : IsStart flags s ps Skip lock old.present) (put : PassesFrom InStored old now) where
  skip_fault : turn_fault flags effect s (standing_of (tree_of old) lock) ≡ None
  skip_fault = fault_alone flags effect s (tree_of old) lock Skip None ps start.params start.chosen start.seen

  skip_moments : Passes (InTurns flags effect (s ∷ []) lock old.present now.present) old now
  skip_moments =
      passes_weaker (InStored old.present) (InTurns flags effect (s ∷ []) lock old.present now.present) old now
      (λ n h. turns_of_work flags effect s [] lock old.present now.present n start.kept tt (work_of_stored s old.present n h)) put

  skip_gain : (got : Option Fault) → JobsGain (tree_of now) got (jobs_of old) (jobs (due flags effect (s ∷ []) (standing_of (tree_of old) lock))) (jobs_of now)
  skip_gain got =
      let whole : List Job = jobs (due flags effect (s ∷ []) (standing_of (tree_of old) lock)) in
      let here = put.now in
      let others = here.others in
      let none : whole ≡ [] = jobs_alone flags effect s (tree_of old) lock Skip None ps start.params start.chosen start.seen in
      inl (inl (gains_all got (jobs_of old) whole (jobs_of now) (ap (λ (x : Fixed). x.ran) others.aside.fixed ∙ sym (append-nil (jobs_of old)) ∙ ap (λ (l : List Job). jobs_of old ++ l) (sym none))))

  skip_turned : IsTree (tree_of now) → AreStored (tree_of now) s.made → HasTurned flags effect s Skip lock lock old.present now.present
  skip_turned stands stored =
      let here = put.now in
      record {
        due = record { stage = s; choice = Skip; job = job_with s ps };
        its = refl;
        chosen = refl;
        turn = record {
          params = ps;
          from = None;
          read = start.params;
          seen = start.seen;
          chosen = start.chosen;
          job = refl;
          left = record { lock = refl; others = item_stored s old.present now.present here };
          stands = stands;
          stored = λ other. stored;
          kept = here.objects;
        };
        run = λ run. absurd (cc);
        remembered = skip_remembered s lock old now start.kept start.read put;
        place = skip_place s old now start.kept start.place put;
      }

  skip_turn : (got : Option Fault) → IsAnswerAt (tree_of now) got None → (got ≡ None → HasTurned flags effect s Skip lock lock old.present now.present) → Turned flags effect s Skip lock lock got old now
  skip_turn None answer turn =
      record {
        answer = subst (λ (o : Option Fault). IsAnswerAt (tree_of now) None o) (sym skip_fault) answer;
        turn = turn;
        halted = tt;
        ran = skip_gain None;
        moments = skip_moments;
      }
  skip_turn (Some f) answer turn =
      record {
        answer = subst (λ (o : Option Fault). IsAnswerAt (tree_of now) (Some f) o) (sym skip_fault) answer;
        turn = turn;
        halted = inl (skip_remembered s lock old now start.kept start.read put);
        ran = skip_gain (Some f);
        moments = skip_moments;
      }

  pub skip_refused : (f : Fault) → IsAnswerAt (tree_of now) (Some f) None → Turned flags effect s Skip lock lock (Some f) old now
  skip_refused f answer = skip_turn (Some f) answer (λ none. absurd (none_some f none))

  pub skip_whole : IsTree (tree_of now) → AreStored (tree_of now) s.made → Turned flags effect s Skip lock lock None old now
  skip_whole stands stored = skip_turn None (inl refl) (λ none. skip_turned stands stored)
