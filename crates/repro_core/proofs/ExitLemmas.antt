-- How turns end: all of them well, or the last one with a refusal.
--     IsHalt                         a turn was refused after others have ended
--     halt_left, halt_moments        what that leaves
--     halt_answer, halt_ran, halt_report      and what it has to do with what is due, where what was met is reliable
--     IsEnd, end_headline            all turns have ended
use Rattle.std.proofs.Common.{◌≡◌, ℕ, Bool, false, List, [], ◌∷◌, ◌++◌, map, inl, inr, refl, sym, ap, subst, ◌∙◌, append_assoc, append-nil, Option, Some, None, IsTrue}
use Rattle.std.specs.Prelude.{bytes_eq}
use Rattle.std.specs.List.{AllByRecursion, list_any}
use Rattle.std.proofs.lemmas.Bool.{or_cases, or_left, or_right}
use Rattle.dvc_base.specs.Path.{Path, under, overlap}
use Rattle.dvc_base.specs.declared.fault.Fault.{Fault}
use Rattle.dvc_base.specs.declared.fault.Fault.TheVariants.{OutFault}
use Rattle.dvc_base.proofs.PathLemmas.{under-trans}
use Rattle.world_api.specs.Tree.{Value, nothing, content, members, IsTree, value_at}
use Rattle.world_api.specs.Effect.{Effect}
use Rattle.world_api.specs.History.{Book, Moment, History, Passes}
use Rattle.world_api.specs.Outside.{tree_of, jobs_of}
use Rattle.world_api.specs.Layout.{dvc_path, lock_path}
use Rattle.world_api.proofs.HistoryLemmas.{passes_weaker}
use Rattle.lock_files.specs.Book.{Lock, entry_of}
use Rattle.repro_laws.specs.Stage.{dep_path, out_path, tracked_path, stage_outs, value_inside, dep_value, is_nothing}
use Rattle.repro_laws.specs.Book.{IsCovered}
use Rattle.repro_laws.specs.Lock.{HasEntry}
use Rattle.repro_laws.specs.Due.{Due, standing_of, report, jobs, due, turn_fault, fault_of}
use Rattle.repro_laws.specs.Turns.{State, state, stages_of}
use Rattle.repro_laws.specs.Headline.{IsOwn, IsApart, IsPlanned, Covers, IsMet, LeavesAnew, IsFront}
use Rattle.repro_laws.specs.Moments.{is_own, InTurns}
use Rattle.repro_laws.specs.Sound.{lock_of, IsMetSince, AreReliable, IsAnswerAt, GainsAt, AreHalted}
use Rattle.repro_laws.specs.declared.stage.Stage.{Stage}
use Rattle.repro_laws.specs.declared.stage.Flags.{Flags}
use Rattle.repro_laws.specs.declared.stage.Choice.{Choice}
use Rattle.repro_laws.proofs.ParamLemmas.{params_same}
use Rattle.repro_laws.proofs.AlikeLemmas.{each_on, each_front, each_map}
use Rattle.repro_laws.proofs.ListLemmas.{each_all}
use Rattle.repro_laws.proofs.StayLaw.{entry_moves}
use Rattle.repro_laws.proofs.TurnLaw.{turn_keeps_entry}
use Rattle.repro_laws.proofs.LoneLemmas.{lone_fault}
use Rattle.repro_laws.proofs.MomentLemmas.{turns_wider}
use Rattle.repro_laws.proofs.StayLemmas.{IsBefore, Beside, beside_of, value_stays, Stay, stay}
use Rattle.repro_laws.proofs.AllLaws.{headline, front}
use Rattle.repro_core.specs.Turning.{JobsGain, Halts, Turned}
use Rattle.repro_core.proofs.FirstLemmas.{HasMore, first_due, last_due, first_refused}
use Rattle.repro_core.proofs.GainLemmas.{answer_at_on, gains_at_then, jobs_gain_then}
use Rattle.repro_core.proofs.SoFarLemmas.{report_append, jobs_append, SoFar, Spot, IsSpot, moments_more}

-- ---- the tool's own paths

own_root : is_own [] ≡ false
unfolding dvc_path lock_path
own_root = refl

pub own_area : IsOwn is_own
own_area =
    record {
      below = λ q p own below. elim (or_cases (under dvc_path q) (under lock_path q) own) [
        | inl dvc ↦ or_left (under dvc_path p) (under lock_path p) (under-trans dvc_path q p dvc below)
        | inr lock ↦ or_right (under dvc_path p) (under lock_path p) (under-trans lock_path q p lock below)
      ];
      root = own_root;
    }

-- ---- what was met before the last turn

-- the lock at the end has the entries of other names than the last stage's
record HasOthers (s : Stage) (lock : Lock) (n : Moment) : Type 0 where
  found : Lock
  read : lock_of n.tree ≡ Some found
  same : (name : List ℕ) → bytes_eq s.name name ≡ false → entry_of found name ≡ entry_of lock name

others_left : (flags : Flags) (effect : Effect) (s : Stage) (lock : Lock) (fault : Fault) (k n : Moment) → Halts flags effect s lock fault k n → HasOthers s lock n
others_left flags effect s lock fault k n (inl read) =
    record { found = lock; read = read; same = λ name other. refl }
others_left flags effect s lock fault k n (inr late) =
    let left = late.1 in
    record {
      found = left.lock;
      read = left.read;
      same = λ name other. turn_keeps_entry is_own flags effect left.turn (state k.tree lock) (state n.tree left.lock) left.taken name (ap (λ (x : Stage). bytes_eq x.name name) left.its ∙ other);
    }

-- an entry from before the turn is the present one after it too
entry_then : (a s : Stage) (lock : Lock) (k n : Moment) → IsBefore a s → Stay a k.tree n.tree → (h : HasOthers s lock n) → HasEntry lock k.tree a → HasEntry h.found n.tree a
entry_then a s lock k n before stays h has =
    let t = k.tree in
    let u = n.tree in
    let deps : AllByRecursion (λ d. dep_value u d ≡ dep_value t d) a.deps =
    each_on (λ d. value_at u d.path ≡ value_at t d.path) (λ d. dep_value u d ≡ dep_value t d) a.deps (λ d e. ap (value_inside d.inside) e) stays.deps in
    let outs = each_map out_path (λ p. value_at u p ≡ value_at t p) a.made stays.outs in
    let moved = entry_moves lock a t u has deps outs (params_same a t u stays.params) in
    record { entry = moved.entry; there = h.same a.name before.name ∙ moved.there; present = moved.present }

-- nothing is covered, and any other value has stayed
covered_if : (book : Book) (v w : Value) → (is_nothing v ≡ false → w ≡ v) → IsCovered book w → IsCovered book v
covered_if book nothing w stays covered = tt
covered_if book (content bytes) w stays covered = subst (IsCovered book) (stays refl) covered
covered_if book (members m) w stays covered = subst (IsCovered book) (stays refl) covered

covered_back : {A : Type 0} (book : Book) (s : Stage) (k n : Moment) (path : A → Path) (xs : List A) → Beside s k n → AllByRecursion (λ x. IsApart is_own (path x) × (list_any (overlap (path x)) (stage_outs s) ≡ false)) xs → AllByRecursion (λ p. IsCovered book (value_at n.tree p)) (map path xs) → AllByRecursion (λ p. IsCovered book (value_at k.tree p)) (map path xs)
covered_back book s k n path [] beside apart covers = tt
covered_back book s k n path (x ∷ xs) beside apart covers = (
  covered_if book (value_at k.tree (path x)) (value_at n.tree (path x)) (λ there. value_stays s k n (path x) beside apart.0.0 apart.0.1 there) covers.0,
  covered_back book s k n path xs beside apart.1 covers.1,
)

covers_before : (book : Book) (a s : Stage) (k n : Moment) → IsBefore a s → Beside s k n → Covers book n.tree a → Covers book k.tree a
covers_before book a s k n before beside covers =
    let reads = each_front (λ p. IsCovered book (value_at n.tree p)) (map dep_path a.deps) (map tracked_path a.params) covers.reads in
    let deps = covered_back book s k n dep_path a.deps beside before.deps reads.0 in
    let params = covered_back book s k n tracked_path a.params beside before.params reads.1 in
    record {
      reads = each_all (λ p. IsCovered book (value_at k.tree p)) (map dep_path a.deps) (map tracked_path a.params) deps params;
      outs = covered_back book s k n out_path a.made beside before.outs covers.outs;
    }

met_before : (book : Book) (done : List Stage) (s : Stage) (rest : List Stage) (lock : Lock) (m k n : Moment) → AllByRecursion (λ a. IsBefore a s) done → Beside s k n → HasOthers s lock n → IsMetSince book (done ++ s ∷ rest) m n → IsMet book done (state k.tree lock)
met_before book [] s rest lock m k n before beside others met = tt
met_before book (a ∷ done) s rest lock m k n before beside others met = (
  λ has. let stays = stay a s lock k n before.0 beside has in covers_before book a s k n before.0 beside (met.0 (inr (record { lock = others.found; read = others.read; has = entry_then a s lock k n before.0 stays others has }))),
  met_before book done s rest lock m k n before.1 beside others met.1,
)

-- ---- a refusal

pub record IsHalt (x : Spot) (fault : Fault) (n : History) (taken : List ℕ) : Type 0 where
  pub at : IsSpot x
  pub choice : Choice
  pub new : Lock
  pub refused : Turned x.flags x.effect x.stage choice x.lock new (Some fault) x.reached n
  pub report : IsTrue x.tells → GainsAt (tree_of n) (Some fault) x.mid (report (due x.flags x.effect (x.stage ∷ []) (standing_of (tree_of x.reached) x.lock))) taken
  pub first : fault ≡ OutFault → n ≡ x.reached

module _ (x : Spot) (fault : Fault) (n : History) (taken : List ℕ) (h : IsHalt x fault n taken) where
  abbrev at_start : State
  at_start = state (tree_of x.begin) x.start

  abbrev at_turn : State
  at_turn = state (tree_of x.reached) x.lock

  abbrev is_here : Option Fault
  is_here = turn_fault x.flags x.effect x.stage (standing_of (tree_of x.reached) x.lock)

  abbrev due_here : List Due
  due_here = due x.flags x.effect (x.stage ∷ []) (standing_of (tree_of x.reached) x.lock)

  abbrev due_all : List Due
  due_all = due x.flags x.effect x.all (standing_of (tree_of x.begin) x.start)

  -- all stages, around the one that was refused
  cut_ended : x.all ≡ stages_of h.at.so_far.ended ++ x.stage ∷ x.rest
  cut_ended = let at = h.at in at.cut ∙ ap (λ (l : List Stage). l ++ x.stage ∷ x.rest) (sym at.so_far.its)

  pub halt_left : AreHalted x.flags x.effect x.all x.start fault x.begin.present n.present
  halt_left =
      let so = h.at.so_far in
      let refused = h.refused in
      record {
        ended = so.ended;
        next = x.stage;
        others = x.rest;
        cut = cut_ended;
        reached = at_turn;
        turns = so.turns;
        due = subst (λ (o : Option Fault). IsAnswerAt (tree_of n) (Some fault) o) (sym (lone_fault x.flags x.effect x.stage (standing_of (tree_of x.reached) x.lock))) refused.answer;
        output_first = λ e. ap tree_of (h.first e);
        left = refused.halted;
      }

  pub halt_moments : Passes (InTurns x.flags x.effect x.all x.start x.begin.present n.present) x.begin n
  halt_moments =
      let at = h.at in
      let front = x.done ++ x.stage ∷ [] in
      let m = x.begin.present in
      let wide = passes_weaker (InTurns x.flags x.effect front x.start m n.present) (InTurns x.flags x.effect (front ++ x.rest) x.start m n.present) x.begin n (λ k t. turns_wider x.flags x.effect front x.rest x.start m n.present k t) (moments_more x at n h.refused.moments) in
      subst (λ (l : List Stage). Passes (InTurns x.flags x.effect l x.start m n.present) x.begin n) (append_assoc x.done (x.stage ∷ []) x.rest ∙ sym at.cut) wide

  -- ---- what is due, where what was met is reliable

  module _ (safe : AreReliable x.effect x.all x.start x.begin.present n.present) where
    halt_front : IsFront is_own x.flags safe.book x.effect h.at.so_far.ended (x.stage ∷ x.rest) at_start at_turn
    halt_front =
        let at = h.at in
        let so = at.so_far in
        let refused = h.refused in
        let k = x.reached.present in
        let beside = beside_of x.flags x.effect x.stage x.lock k n.present n.present refused.moments.now in
        let others = others_left x.flags x.effect x.stage x.lock fault k n.present refused.halted in
        let since = subst (λ (l : List Stage). IsMetSince safe.book l x.begin.present n.present) at.cut safe.met in
        let met = met_before safe.book x.done x.stage x.rest x.lock x.begin.present k n.present at.earlier beside others since in
        front is_own x.flags safe.book x.effect so.ended (x.stage ∷ x.rest) at_start at_turn (record {
          area = own_area;
          planned = subst (IsPlanned is_own) cut_ended at.plan;
          stands = at.tree;
          truthful = safe.truthful;
          turns = so.turns;
          met = subst (λ (l : List Stage). IsMet safe.book l at_turn) (sym so.its) met;
          no_restore = at.no_restore;
        })

    all_due : due_all ≡ h.at.so_far.ended ++ due x.flags x.effect (x.stage ∷ x.rest) (standing_of (tree_of x.reached) x.lock)
    all_due =
        ap (λ (l : List Stage). due x.flags x.effect l (standing_of (tree_of x.begin) x.start)) cut_ended ∙ halt_front.due

    here_due : HasMore (due x.flags x.effect (x.stage ∷ x.rest) (standing_of (tree_of x.reached) x.lock)) due_here
    here_due = first_due x.flags x.effect x.stage x.rest (standing_of (tree_of x.reached) x.lock)

    front_due : due_all ≡ h.at.so_far.ended ++ (due_here ++ here_due.more)
    front_due = all_due ∙ ap (λ (l : List Due). h.at.so_far.ended ++ l) here_due.cut

    whole_due : is_here ≡ Some fault → due_all ≡ h.at.so_far.ended ++ due_here
    whole_due e =
        all_due ∙ ap (λ (l : List Due). h.at.so_far.ended ++ l) (last_due x.flags x.effect x.stage x.rest (standing_of (tree_of x.reached) x.lock) fault e)

    fault_due : is_here ≡ Some fault → fault_of x.flags x.effect x.all (standing_of (tree_of x.begin) x.start) ≡ Some fault
    fault_due e =
        ap (λ (l : List Stage). fault_of x.flags x.effect l (standing_of (tree_of x.begin) x.start)) cut_ended ∙ halt_front.fault ∙ first_refused x.flags x.effect x.stage x.rest (standing_of (tree_of x.reached) x.lock) fault e

    pub halt_answer : IsAnswerAt (tree_of n) (Some fault) (fault_of x.flags x.effect x.all (standing_of (tree_of x.begin) x.start))
    halt_answer =
        answer_at_on (tree_of n) fault is_here (fault_of x.flags x.effect x.all (standing_of (tree_of x.begin) x.start)) fault_due h.refused.answer

    module _ {A : Type 0} (of : List Due → List A) (law : (xs ys : List Due) → of (xs ++ ys) ≡ of xs ++ of ys) where
      front_of : of due_all ≡ of h.at.so_far.ended ++ (of due_here ++ of here_due.more)
      front_of =
          ap of front_due ∙ law h.at.so_far.ended (due_here ++ here_due.more) ∙ ap (λ l. of h.at.so_far.ended ++ l) (law due_here here_due.more)

      whole_of : is_here ≡ Some fault → of due_all ≡ of h.at.so_far.ended ++ of due_here
      whole_of e = ap of (whole_due e) ∙ law h.at.so_far.ended due_here

    pub halt_ran : JobsGain (tree_of n) (Some fault) (jobs_of x.begin) (jobs due_all) (jobs_of n)
    halt_ran =
        let so = h.at.so_far in
        jobs_gain_then (tree_of n) fault is_here (jobs_of x.begin) (jobs so.ended) (jobs_of x.reached) (jobs due_here) (jobs here_due.more) (jobs due_all) (jobs_of n) so.ran (front_of jobs jobs_append) (whole_of jobs jobs_append) h.refused.answer h.refused.ran

    pub halt_report : IsTrue x.tells → GainsAt (tree_of n) (Some fault) x.before (report due_all) taken
    halt_report told =
        let so = h.at.so_far in
        gains_at_then (tree_of n) fault is_here x.before (report so.ended) x.mid (report due_here) (report here_due.more) (report due_all) taken (so.lines told) (front_of report report_append) (whole_of report report_append) h.refused.answer (h.report told)

-- ---- all turns have ended

met_at_end : (book : Book) (stages : List Stage) (m n : Moment) (lock : Lock) → lock_of n.tree ≡ Some lock → IsMetSince book stages m n → IsMet book stages (state n.tree lock)
met_at_end book [] m n lock read met = tt
met_at_end book (s ∷ ss) m n lock read met =
    (λ has. met.0 (inr (record { lock = lock; read = read; has = has })), met_at_end book ss m n lock read met.1)

pub record IsEnd (flags : Flags) (effect : Effect) (stages : List Stage) (start lock : Lock) (a n : History) (tells : Bool) (before taken : List ℕ) : Type 0 where
  pub so_far : SoFar flags effect stages start lock a n tells before taken
  pub plan : IsPlanned is_own stages
  pub tree : IsTree a.present.tree
  pub read : lock_of (tree_of n) ≡ Some lock
  pub no_restore : flags.run_cache ≡ false

-- what holds of the turns, with the stages by name
pub record IsDueAll (flags : Flags) (effect : Effect) (stages : List Stage) (start lock : Lock) (ended : List Due) (a n : History) : Type 0 where
  pub anew : LeavesAnew is_own effect stages (state (tree_of a) start) (state (tree_of n) lock)
  pub due : ended ≡ due flags effect stages (standing_of (tree_of a) start)
  pub fault : fault_of flags effect stages (standing_of (tree_of a) start) ≡ None

pub end_headline : (flags : Flags) (effect : Effect) (stages : List Stage) (start lock : Lock) (a n : History) (tells : Bool) (before taken : List ℕ) → (h : IsEnd flags effect stages start lock a n tells before taken) → AreReliable effect stages start a.present n.present → IsDueAll flags effect stages start lock h.so_far.ended a n
end_headline flags effect stages start lock a n tells before taken h safe =
    let so = h.so_far in
    let old = state (tree_of a) start in
    let new = state (tree_of n) lock in
    let met = met_at_end safe.book stages a.present n.present lock h.read safe.met in
    let all = headline is_own flags safe.book effect so.ended old new (record {
      area = own_area;
      planned = subst (IsPlanned is_own) (sym (append-nil (stages_of so.ended) ∙ so.its)) h.plan;
      stands = h.tree;
      truthful = safe.truthful;
      turns = so.turns;
      met = subst (λ (l : List Stage). IsMet safe.book l new) (sym so.its) met;
      no_restore = h.no_restore;
    }) in
    record {
      anew = subst (λ (l : List Stage). LeavesAnew is_own effect l old new) so.its all.anew;
      due = all.due ∙ ap (λ (l : List Stage). due flags effect l (standing_of (tree_of a) start)) so.its;
      fault = ap (λ (l : List Stage). fault_of flags effect l (standing_of (tree_of a) start)) (sym so.its) ∙ all.fault;
    }
