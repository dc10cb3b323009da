-- What a command does, on each way that it may end.
--     refused_.., no_..      nothing has happened
--     words_.., unread_..    the words, or the workspace, are refused or couldn't be read
use Rattle.std.proofs.Common.{◌≡◌, ℕ, Bool, false, List, [], Option, Some, None, Err, IfSome, IsSome, IsTrue, refl, sym, ap, subst, inl, inr}
use Rattle.std.specs.List.{list_all}
use Rattle.std.specs.Option.{option_map_or}
use Rattle.std.proofs.lemmas.Bool.{false≢true}
use Rattle.dvc_base.specs.Fault.{is_one_of, is_free, MayBe, IsHonest}
use Rattle.dvc_base.specs.Answer.{IsAnswer}
use Rattle.dvc_base.specs.declared.fault.Fault.{Fault}
use Rattle.dvc_base.specs.declared.fault.Fault.TheVariants.{BadWords, NoMemory}
use Rattle.dvc_base.specs.declared.fault.FaultKind.{FaultKind}
use Rattle.dvc_base.specs.declared.fault.FaultKind.TheVariants as k
use Rattle.dvc_base.proofs.FaultLemmas.{may_be-wider}
use Rattle.world_api.specs.Tree.{Tree}
use Rattle.world_api.specs.Effect.{Effect}
use Rattle.world_api.specs.History.{Moment, History}
use Rattle.world_api.specs.Outside.{tree_of, jobs_of}
use Rattle.world_api.proofs.HistoryLemmas.{passes_same}
use Rattle.lock_files.specs.Book.{Lock}
use Rattle.repro_laws.specs.Due.{standing_of, fault_of, report, jobs}
use Rattle.repro_laws.specs.Refusals.{first_fault}
use Rattle.repro_laws.specs.Sound.{lock_of, IsSound}
use Rattle.dvc_cli.specs.declared.words.Request.{Request}
use Rattle.dvc_cli.specs.declared.words.Request.TheVariants.{Repro}
use Rattle.dvc_cli.specs.Words.{IsAsked}
use Rattle.stage_plan.specs.declared.turns.Turns.{Turns}
use Rattle.dvc_cli.specs.Workspace.{chosen_of, workspace_fault, workspace_by, read_kinds}
use Rattle.dvc_cli.specs.Command.{refusal, Work, work_in, work_due, stages_due, flags_of, halt_kinds, tracks_refusal, turns_due, IsReliable, IsHaltedIn, IsHalted, InWork, InCommand, DoesCommand, command_kinds, Answers, ReportsTurns, PutsReport}
use Rattle.plan_turns.proofs.KeptLemmas.{records_itself}
use Rattle.plan_turns.proofs.TakesLemmas.{nothing_told}
use Rattle.dvc_cli.proofs.AnswerLemmas.{kind_apart, ends_reading, refused_first, none_gained}

pub any_effect : (o : Option Effect) (P : Effect → Type 0) → ((effect : Effect) → P effect) → IfSome o P
any_effect None P all = tt
any_effect (Some effect) P all = all effect

pub each_effect : (o : Option Effect) (P R : Effect → Type 0) → ((effect : Effect) → P effect → R effect) → IfSome o P → IfSome o R
each_effect None P R weaker p = tt
each_effect (Some effect) P R weaker p = weaker effect p

-- ---- nothing has happened

in_work-itself : (effect : Effect) (w : Option Work) (m : Moment) → InWork effect w m m m
in_work-itself effect None m = refl
in_work-itself effect (Some w) m = inl (records_itself w.tracks m)

no_work : (force : Bool) (fault : Fault) (a : Option Fault) (chosen : Option Turns) (lock : Option Lock) → a ≡ Some fault → work_in force (workspace_by a chosen lock) ≡ None
no_work force fault a chosen lock e = rw e refl

refused_work : (request : Option Request) (t : Tree) (fault : Fault) → refusal request t ≡ Some fault → work_due request t ≡ None
refused_work None t fault e = refl
refused_work (Some (Repro force targets)) t fault e = no_work force fault (workspace_fault targets t) (chosen_of targets t) (lock_of t) e

turns_none : (request : Option Request) (effect : Effect) (t begun : Tree) → work_due request t ≡ None → turns_due request effect t begun ≡ []
turns_none request effect t begun e = rw e refl

no_turns : (request : Option Request) (effect : Effect) (t begun : Tree) (fault : Fault) → refusal request t ≡ Some fault → turns_due request effect t begun ≡ []
no_turns request effect t begun fault e = turns_none request effect t begun (refused_work request t fault e)

no_jobs : (request : Option Request) (effect : Effect) (t begun : Tree) (fault : Fault) → refusal request t ≡ Some fault → jobs (turns_due request effect t begun) ≡ []
no_jobs request effect t begun fault e = ap jobs (no_turns request effect t begun fault e)

no_report : (request : Option Request) (effect : Effect) (t begun : Tree) (fault : Fault) → refusal request t ≡ Some fault → report (turns_due request effect t begun) ≡ []
no_report request effect t begun fault e = ap report (no_turns request effect t begun fault e)

pub some_is_none : (fault : Fault) → Some fault ≡ None → ⊥
some_is_none fault e = cc

-- what is due behind the refusals of the words and the workspace
abbrev later_fault : Option Request → Effect → Tree → Tree → Option Fault
later_fault request effect t begun =
    first_fault (tracks_refusal request t)
    (option_map_or (λ (w : Work). fault_of (flags_of w.force) effect w.stages (standing_of begun w.lock)) (work_due request t) None)

refused_here : (request : Option Request) (effect : Effect) (fault : Fault) (h : History) → IsAnswer (Some fault) (refusal request (tree_of h))
    → IsHalted request effect fault h.present h.present → DoesCommand request effect (Some fault) h h
refused_here request effect fault h a halted = record {
  headline = λ e. absurd (some_is_none fault e);
  taken = λ e. absurd (some_is_none fault e);
  begun = h.present;
  begins = inr (refl, refl);
  answer = λ reliable. inl (refused_first fault (refusal request (tree_of h)) (later_fault request effect (tree_of h) (tree_of h)) a);
  ran = λ reliable. inl (inl (none_gained fault (refusal request (tree_of h)) (jobs_of h) (jobs (turns_due request effect (tree_of h) (tree_of h))) a (no_jobs request effect (tree_of h) (tree_of h) fault)));
  sound = λ reliable. passes_same (IsSound reliable.book effect) h h refl reliable.sound;
  untouched = λ none e. refl;
  halted = halted;
  moments = passes_same (InCommand request effect h.present h.present) h h refl (in_work-itself effect (work_due request (tree_of h)) h.present);
  book = λ digest bytes e. e;
}

pub refused_does : (request : Option Request) (fault : Fault) (old new : History) → new ≡ old → IsAnswer (Some fault) (refusal request (tree_of old))
    → ((effect : Effect) → IsHalted request effect fault old.present old.present)
    → IfSome old.present.aside.fixed.effect (λ effect. DoesCommand request effect (Some fault) old new)
refused_does request fault old new same a halted =
    any_effect old.present.aside.fixed.effect (λ effect. DoesCommand request effect (Some fault) old new)
    (λ effect. subst (λ (h : History). DoesCommand request effect (Some fault) old h) (sym same) (refused_here request effect fault old a (halted effect)))

pub refused_puts : (request : Option Request) (tells : Bool) (fault : Fault) (old new : History) (taken : List ℕ)
    → (IsTrue tells → IsAnswer (Some fault) (refusal request (tree_of old))) → PutsReport request tells (Some fault) old new taken taken
refused_puts request tells fault old new taken a = record {
  quiet = λ told refused. refl;
  report = λ told. any_effect old.present.aside.fixed.effect
      (λ effect. IsReliable request effect old.present new.present → ReportsTurns request effect (Some fault) old new taken taken)
      (λ effect reliable. record {
        begun = new.present;
        begins = inr (refl, refl);
        lines = inl (none_gained fault (refusal request (tree_of old)) taken (report (turns_due request effect (tree_of old) (tree_of new))) (a told) (no_report request effect (tree_of old) (tree_of new) fault));
      });
  lines = record { stages = stages_due request (tree_of old); theirs = λ told. refl; report = nothing_told (stages_due request (tree_of old)) fault taken };
}

-- ---- the words can't be read: they are those of no command, or memory is short

pub words_refusal : (request : Option Request) (t : Tree) (fault : Fault) → IsAsked (Err fault) request → IsAnswer (Some fault) (refusal request t)
words_refusal request t fault (inl bad) = subst (λ (r : Option Request). IsAnswer (Some fault) (refusal r t)) (sym bad.1) (inr (ap (λ (f : Fault). Some f) (sym bad.0)))
words_refusal request t fault (inr memory) = inl (subst (λ (f : Fault). IsTrue (is_free f)) (sym memory.0) refl)

halted_early : (effect : Effect) (fault : Fault) (w : Option Work) (m : Moment) → MayBe halt_kinds (Some fault) → IsHaltedIn effect w fault m m
halted_early effect fault None m kind = refl
halted_early effect fault (Some w) m kind = inl (kind, refl)

pub words_halted : (request : Option Request) (fault : Fault) (m : Moment) → IsAsked (Err fault) request → (effect : Effect) → IsHalted request effect fault m m
words_halted request fault m (inl bad) effect = subst (λ (r : Option Request). IsHalted r effect fault m m) (sym bad.1) refl
words_halted request fault m (inr memory) effect =
    halted_early effect fault (work_due request m.tree) m (subst (λ (f : Fault). MayBe halt_kinds (Some f)) (sym memory.0) refl)

some_request : (request : Option Request) → IsSome request → request ≡ None → ⊥
some_request None h e = false≢true h
some_request (Some r) h e = some_is_none_request r e
  where
    some_is_none_request : (r : Request) → Some r ≡ None → ⊥
    some_is_none_request r e = cc

memory_is_bad : NoMemory ≡ BadWords → ⊥
memory_is_bad e = cc

pub words_answers : (request : Option Request) (tells : Bool) (fault : Fault) → IsAsked (Err fault) request → Answers request tells (Some fault)
words_answers request tells fault (inl bad) = record {
  kinds = subst (λ (f : Fault). MayBe command_kinds (Some f)) (sym bad.0) refl;
  honest = subst (λ (f : Fault). IsHonest tells (Some f)) (sym bad.0) tt;
  good_words = λ some e. some_request request some bad.1;
  bad_words = λ none. ap (λ (f : Fault). Some f) bad.0;
}
words_answers request tells fault (inr memory) = record {
  kinds = subst (λ (f : Fault). MayBe command_kinds (Some f)) (sym memory.0) refl;
  honest = subst (λ (f : Fault). IsHonest tells (Some f)) (sym memory.0) tt;
  good_words = λ some e. memory_is_bad (same_fault NoMemory BadWords (subst (λ (f : Fault). Some f ≡ Some BadWords) memory.0 e));
  bad_words = λ none. absurd (some_request request memory.1 none);
}
  where
    same_fault : (a b : Fault) → Some a ≡ Some b → a ≡ b
    same_fault a b e = cc

-- ---- the workspace couldn't be read

halted_in : (effect : Effect) (force : Bool) (fault : Fault) (a : Option Fault) (chosen : Option Turns) (lock : Option Lock) (m : Moment)
    → MayBe read_kinds (Some fault) → IsAnswer (Some fault) a → IsHaltedIn effect (work_in force (workspace_by a chosen lock)) fault m m
halted_in effect force fault (Some x) chosen lock m read answer = refl
halted_in effect force fault None None lock m read answer = refl
halted_in effect force fault None (Some chosen) None m read answer = refl
halted_in effect force fault None (Some chosen) (Some lock) m read answer = inl (ends_reading fault read answer, refl)

pub unread_halted : (force : Bool) (targets : List (List ℕ)) (fault : Fault) (m : Moment) → MayBe read_kinds (Some fault)
    → IsAnswer (Some fault) (workspace_fault targets m.tree) → (effect : Effect) → IsHalted (Some (Repro force targets)) effect fault m m
unread_halted force targets fault m read answer effect =
    halted_in effect force fault (workspace_fault targets m.tree) (chosen_of targets m.tree) (lock_of m.tree) m read answer

some_not_none : (r : Request) → Some r ≡ None → ⊥
some_not_none r e = cc

-- faults of some of the kinds of a command, but that for words
pub repro_answers : (r : Request) (kinds : List FaultKind)
    → IsTrue (list_all (is_one_of command_kinds) kinds) → is_one_of kinds k.BadWords ≡ false
    → (tells : Bool) (got : Option Fault) → MayBe kinds got → IsHonest tells got → Answers (Some r) tells got
repro_answers r kinds wider out tells got may honest = record {
  kinds = may_be-wider kinds command_kinds wider got may;
  honest = honest;
  good_words = λ some bad. kind_apart kinds BadWords out got may bad;
  bad_words = λ none. absurd (some_not_none r none);
}
