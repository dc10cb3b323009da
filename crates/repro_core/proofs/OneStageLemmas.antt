-- What is due of one stage alone, and a turn that has changed nothing.
--     chosen_alone                       the choice that is due of it
--     fault_alone, jobs_alone, report_alone     its refusal, its jobs and its lines, by the choice
--     turned_refused, turned_free        a turn that what is seen has ended, or want of memory and the like
--     report_refused, report_taken       the lines of such a turn, and those of a choice
use Rattle.std.proofs.Common.{◌≡◌, ℕ, List, [], ◌∷◌, sym, ap, subst, ◌∙◌, inl, append-nil, Option, Some, None, IfSome, IsTrue, Ok}
use Rattle.dvc_base.specs.declared.data.ParamFile.{ParamFile}
use Rattle.dvc_base.specs.declared.fault.Fault.{Fault}
use Rattle.dvc_base.specs.Fault.{is_free}
use Rattle.dvc_base.specs.Answer.{IsAnswer, Gains}
use Rattle.world_api.specs.Tree.{Tree}
use Rattle.world_api.specs.Effect.{Effect}
use Rattle.world_api.specs.History.{History}
use Rattle.world_api.specs.Outside.{tree_of, jobs_of}
use Rattle.world_api.proofs.HistoryLemmas.{passes_same}
use Rattle.lock_files.specs.declared.entry.Entry.{Entry}
use Rattle.lock_files.specs.Book.{Lock}
use Rattle.repro_laws.specs.Stage.{params_at, job_with}
use Rattle.repro_laws.specs.Refusals.{first_fault, see_fault}
use Rattle.repro_laws.specs.Due.{standing_of, choice_at, due, params_or_none, params_in, chosen_in, choice_fault, turn_fault, lines_of, report, jobs_of_choice, jobs}
use Rattle.repro_laws.specs.Sound.{lock_of, GainsAt}
use Rattle.repro_laws.specs.Moments.{InTurns}
use Rattle.repro_laws.specs.declared.stage.Stage.{Stage}
use Rattle.repro_laws.specs.declared.stage.Flags.{Flags}
use Rattle.repro_laws.specs.declared.stage.Choice.{Choice}
use Rattle.repro_laws.proofs.LoneLemmas.{lone_due, lone_refused}
use Rattle.repro_laws.proofs.MomentLemmas.{turns_itself}
use Rattle.repro_core.specs.Turning.{Halts, Turned, JobsGain}
use Rattle.repro_core.proofs.OptionLemmas.{if_some}
use Rattle.repro_core.proofs.GainLemmas.{answer_on, gains_none, gains_free, front_none}

-- ---- what is due

module _ (flags : Flags) (effect : Effect) (s : Stage) (t : Tree) (lock : Lock) (c : Choice) (from : Option Entry) (ps : List ParamFile) (read : params_at s t ≡ Ok ps) (chosen : choice_at flags s ps (standing_of t lock) ≡ (c, from)) (seen : see_fault s t ≡ None) where
  params_here : params_in s (standing_of t lock) ≡ ps
  params_here = ap params_or_none read

  pub chosen_alone : (chosen_in flags s (standing_of t lock)).0 ≡ c
  chosen_alone =
      ap (λ qs. (choice_at flags s qs (standing_of t lock)).0) params_here ∙ ap (λ (x : Choice × Option Entry). x.0) chosen

  pub fault_alone : turn_fault flags effect s (standing_of t lock) ≡ choice_fault effect s ps c t
  fault_alone =
      ap (λ o. first_fault o (choice_fault effect s (params_in s (standing_of t lock)) (chosen_in flags s (standing_of t lock)).0 t)) seen
      ∙ ap (λ qs. choice_fault effect s qs (chosen_in flags s (standing_of t lock)).0 t) params_here
      ∙ ap (λ x. choice_fault effect s ps x t) chosen_alone

  pub jobs_alone : jobs (due flags effect (s ∷ []) (standing_of t lock)) ≡ jobs_of_choice c (job_with s ps)
  jobs_alone =
      ap jobs (lone_due flags effect s (standing_of t lock) seen)
      ∙ append-nil (jobs_of_choice (chosen_in flags s (standing_of t lock)).0 (job_with s (params_in s (standing_of t lock))))
      ∙ ap (λ x. jobs_of_choice x (job_with s (params_in s (standing_of t lock)))) chosen_alone
      ∙ ap (λ qs. jobs_of_choice c (job_with s qs)) params_here

  pub report_alone : report (due flags effect (s ∷ []) (standing_of t lock)) ≡ lines_of s c
  report_alone =
      ap report (lone_due flags effect s (standing_of t lock) seen)
      ∙ append-nil (lines_of s (chosen_in flags s (standing_of t lock)).0)
      ∙ ap (lines_of s) chosen_alone

-- ---- a turn that has changed nothing

none_some : {A : Type 0} (a : A) → Some a ≡ None → ⊥
none_some a e = cc

module _ (flags : Flags) (effect : Effect) (s : Stage) (c : Choice) (lock : Lock) (f : Fault) (old now : History) (same : now ≡ old) (read : lock_of (tree_of old) ≡ Some lock) where
  refused_fault : see_fault s (tree_of old) ≡ Some f → turn_fault flags effect s (standing_of (tree_of old) lock) ≡ Some f
  refused_fault e =
      ap (λ o. first_fault o (choice_fault effect s (params_in s (standing_of (tree_of old) lock)) (chosen_in flags s (standing_of (tree_of old) lock)).0 (tree_of old))) e

  unmoved : IsAnswer (Some f) (turn_fault flags effect s (standing_of (tree_of old) lock)) → Gains (Some f) (jobs_of old) (jobs (due flags effect (s ∷ []) (standing_of (tree_of old) lock))) (jobs_of old) → Turned flags effect s c lock lock (Some f) old now
  unmoved answer gains =
      record {
        answer = inl answer;
        turn = λ e. absurd (none_some f e);
        halted = subst (λ (h : History). Halts flags effect s lock f old.present h.present) (sym same) (inl read);
        ran = subst (λ (h : History). JobsGain (tree_of h) (Some f) (jobs_of old) (jobs (due flags effect (s ∷ []) (standing_of (tree_of old) lock))) (jobs_of h)) (sym same) (inl (inl gains));
        moments = passes_same (InTurns flags effect (s ∷ []) lock old.present now.present) old now same (turns_itself flags effect (s ∷ []) lock old.present now.present);
      }

  pub turned_refused : IsAnswer (Some f) (see_fault s (tree_of old)) → Turned flags effect s c lock lock (Some f) old now
  turned_refused h =
      unmoved (answer_on f (see_fault s (tree_of old)) (turn_fault flags effect s (standing_of (tree_of old) lock)) refused_fault h)
      (gains_none f (see_fault s (tree_of old)) (jobs_of old) (jobs (due flags effect (s ∷ []) (standing_of (tree_of old) lock))) (λ e. ap jobs (lone_refused flags effect s (standing_of (tree_of old) lock) f e)) h)

  pub turned_free : IsTrue (is_free f) → Turned flags effect s c lock lock (Some f) old now
  turned_free free =
      unmoved (inl free)
      (gains_free f (jobs_of old) (jobs (due flags effect (s ∷ []) (standing_of (tree_of old) lock))) (jobs_of old) free (front_none (jobs_of old) (jobs (due flags effect (s ∷ []) (standing_of (tree_of old) lock)))))

-- ---- lines

pub report_refused : (flags : Flags) (s : Stage) (lock : Lock) (f : Fault) (old now : History) (taken : List ℕ) → IsAnswer (Some f) (see_fault s (tree_of old)) → IfSome old.present.aside.fixed.effect (λ effect. GainsAt (tree_of now) (Some f) taken (report (due flags effect (s ∷ []) (standing_of (tree_of old) lock))) taken)
report_refused flags s lock f old now taken h =
    if_some old.present.aside.fixed.effect (λ effect. GainsAt (tree_of now) (Some f) taken (report (due flags effect (s ∷ []) (standing_of (tree_of old) lock))) taken)
    (λ effect known. inl (gains_none f (see_fault s (tree_of old)) taken (report (due flags effect (s ∷ []) (standing_of (tree_of old) lock))) (λ e. ap report (lone_refused flags effect s (standing_of (tree_of old) lock) f e)) h))

pub report_taken : (flags : Flags) (s : Stage) (c : Choice) (from : Option Entry) (lock : Lock) (got : Option Fault) (old now : History) (before taken : List ℕ) (ps : List ParamFile) → params_at s (tree_of old) ≡ Ok ps → choice_at flags s ps (standing_of (tree_of old) lock) ≡ (c, from) → see_fault s (tree_of old) ≡ None → Gains got before (lines_of s c) taken → IfSome old.present.aside.fixed.effect (λ effect. GainsAt (tree_of now) got before (report (due flags effect (s ∷ []) (standing_of (tree_of old) lock))) taken)
report_taken flags s c from lock got old now before taken ps read chosen seen h =
    if_some old.present.aside.fixed.effect (λ effect. GainsAt (tree_of now) got before (report (due flags effect (s ∷ []) (standing_of (tree_of old) lock))) taken)
    (λ effect known. inl (subst (λ (l : List ℕ). Gains got before l taken) (sym (report_alone flags effect s (tree_of old) lock c from ps read chosen seen)) h))
