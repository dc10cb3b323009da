-- What the turns so far have left, and one turn more.
--     SoFar                        the turns of the first stages have ended
--     so_far_none, so_far_more     before the first turn, and after one turn more
--     Spot, IsSpot                 a place among all stages, and what holds there
--     same_effect                  turns leave the effect of commands as it is
--     moments_more                 the moments up to the end of one more turn, however it ended
use Rattle.std.proofs.Common.{◌≡◌, ℕ, Bool, false, List, [], ◌∷◌, ◌++◌, inl, inr, refl, sym, ap, ◌∙◌, append_assoc, append-nil, Option, None, IsTrue}
use Rattle.std.specs.List.{AllByRecursion}
use Rattle.std.proofs.lemmas.Grind.{flat_map-append}
use Rattle.world_api.specs.Tree.{Tree, IsTree}
use Rattle.world_api.specs.Effect.{Effect}
use Rattle.world_api.specs.History.{Fixed, Moment, History, Passes}
use Rattle.world_api.specs.Outside.{tree_of, jobs_of}
use Rattle.world_api.specs.declared.job.Job.{Job}
use Rattle.world_api.proofs.HistoryLemmas.{passes_none, passes_then, passes_weaker}
use Rattle.lock_files.specs.Book.{Lock}
use Rattle.repro_laws.specs.Refusals.{see_fault}
use Rattle.repro_laws.specs.Due.{Due, standing_of, lines_of, report, jobs, due}
use Rattle.repro_laws.specs.Due.{jobs_of as jobs_of_due}
use Rattle.repro_laws.specs.Turns.{state, Turns, stages_of}
use Rattle.repro_laws.specs.Headline.{IsPlanned}
use Rattle.repro_laws.specs.Moments.{is_own, HaveRun, InTurns}
use Rattle.repro_laws.specs.declared.stage.Stage.{Stage}
use Rattle.repro_laws.specs.declared.stage.Flags.{Flags}
use Rattle.repro_laws.specs.declared.stage.Choice.{Choice}
use Rattle.repro_laws.proofs.MomentLemmas.{turns_itself}
use Rattle.repro_laws.proofs.StayLemmas.{IsBefore}
use Rattle.repro_laws.proofs.TurnMoments.{IsUpTo, stages_append, turns_append, up_to_none, turns_past, turns_then, up_to_more}
use Rattle.repro_core.specs.Turning.{JobsGain, Turned}
use Rattle.repro_core.proofs.FirstLemmas.{taken_due}

-- ---- lines and jobs of more turns

pub report_append : (xs ys : List Due) → report (xs ++ ys) ≡ report xs ++ report ys
report_append xs ys = flat_map-append (λ d. lines_of d.stage d.choice) xs ys

pub jobs_append : (xs ys : List Due) → jobs (xs ++ ys) ≡ jobs xs ++ jobs ys
jobs_append xs ys = flat_map-append jobs_of_due xs ys

pub push : {A : Type 0} (of : List Due → List A) → ((xs ys : List Due) → of (xs ++ ys) ≡ of xs ++ of ys) → (ds : List Due) (d : Due) (before mid after : List A) → mid ≡ before ++ of ds → after ≡ mid ++ of (d ∷ []) → after ≡ before ++ of (ds ++ d ∷ [])
push of law ds d before mid after so_far more =
    more ∙ ap (λ l. l ++ of (d ∷ [])) so_far ∙ append_assoc before (of ds) (of (d ∷ [])) ∙ ap (λ l. before ++ l) (sym (law ds (d ∷ [])))

pub one_report : (s : Stage) (choice : Choice) (d : Due) → d.stage ≡ s → d.choice ≡ choice → lines_of s choice ≡ report (d ∷ [])
one_report s choice d its chosen =
    ap (λ (x : Stage). lines_of x choice) (sym its) ∙ ap (lines_of d.stage) (sym chosen) ∙ sym (append-nil (lines_of d.stage d.choice))

gain_ended : (t : Tree) (old whole new : List Job) → JobsGain t None old whole new → new ≡ old ++ whole
gain_ended t old whole new (inl (inl e)) = e
gain_ended t old whole new (inl (inr barred)) = absurd barred.0
gain_ended t old whole new (inr lacking) = absurd lacking.0

-- ---- the turns so far

pub record SoFar (flags : Flags) (effect : Effect) (done : List Stage) (start lock : Lock) (a k : History) (tells : Bool) (before taken : List ℕ) : Type 0 where
  pub upto : IsUpTo flags effect done start lock a.present k.present
  pub ended : List Due
  pub its : stages_of ended ≡ done
  pub turns : Turns is_own flags effect ended (state (tree_of a) start) (state (tree_of k) lock)
  pub ran : jobs_of k ≡ jobs_of a ++ jobs ended
  pub lines : IsTrue tells → taken ≡ before ++ report ended
  pub moments : Passes (InTurns flags effect done start a.present k.present) a k

unfoldable pub so_far_none : (flags : Flags) (effect : Effect) (lock : Lock) (a : History) (tells : Bool) (before : List ℕ) → SoFar flags effect [] lock lock a a tells before before
so_far_none flags effect lock a tells before =
    record {
      upto = up_to_none flags effect lock a.present;
      ended = [];
      its = refl;
      turns = refl;
      ran = sym (append-nil (jobs_of a));
      lines = λ told. sym (append-nil before);
      moments = passes_none (InTurns flags effect [] lock a.present a.present) a (turns_itself flags effect [] lock a.present a.present);
    }

effect_in : Fixed → Option Effect
effect_in f = f.effect

pub same_effect : (stages : List Stage) (m n : Moment) → HaveRun stages m n → n.aside.fixed.effect ≡ m.aside.fixed.effect
unfolding effect_in
same_effect stages m n h = ap effect_in h.aside.fixed

-- ---- a place among the stages

-- `begin` is where the first turn began, `reached` where this one begins; `mid` are the lines that were taken before it
pub record Spot : Type 0 where
  pub flags : Flags
  pub effect : Effect
  pub all : List Stage
  pub done : List Stage
  pub stage : Stage
  pub rest : List Stage
  pub start : Lock
  pub lock : Lock
  pub begin : History
  pub reached : History
  pub tells : Bool
  pub before : List ℕ
  pub mid : List ℕ

pub record IsSpot (x : Spot) : Type 0 where
  pub cut : x.all ≡ x.done ++ x.stage ∷ x.rest
  pub so_far : SoFar x.flags x.effect x.done x.start x.lock x.begin x.reached x.tells x.before x.mid
  pub earlier : AllByRecursion (λ a. IsBefore a x.stage) x.done
  pub plan : IsPlanned is_own x.all
  pub tree : IsTree x.begin.present.tree
  pub no_restore : x.flags.run_cache ≡ false

-- ---- one turn more

-- a stage whose turn ended could be seen
pub seen_before : (flags : Flags) (effect : Effect) (s : Stage) (choice : Choice) (lock new : Lock) (k n : History) → Turned flags effect s choice lock new None k n → see_fault s (tree_of k) ≡ None
seen_before flags effect s choice lock new k n turned =
    let has = turned.turn refl in
    ap (λ (x : Stage). see_fault x (tree_of k)) (sym has.its) ∙ has.turn.seen

module _ (x : Spot) (at : IsSpot x) (n : History) where
  abbrev DuringTurn : Moment → Type 0
  DuringTurn m = InTurns x.flags x.effect (x.stage ∷ []) x.lock x.reached.present n.present m

  pub moments_more : Passes DuringTurn x.reached n → Passes (InTurns x.flags x.effect (x.done ++ x.stage ∷ []) x.start x.begin.present n.present) x.begin n
  moments_more more =
      let so = at.so_far in
      let now = more.now in
      let whole : Moment → Type 0 = InTurns x.flags x.effect (x.done ++ x.stage ∷ []) x.start x.begin.present n.present in
      let past : (m : Moment) → InTurns x.flags x.effect x.done x.start x.begin.present x.reached.present m → whole m =
      λ m h. turns_past x.flags x.effect x.done x.stage x.start x.lock x.begin.present x.reached.present n.present m at.earlier now h in
      let during : (m : Moment) → DuringTurn m → whole m =
      λ m h. turns_then x.flags x.effect x.done x.stage x.start x.lock x.begin.present x.reached.present n.present at.earlier so.upto now m h in
      passes_then whole x.begin x.reached n
      (passes_weaker (InTurns x.flags x.effect x.done x.start x.begin.present x.reached.present) whole x.begin x.reached past so.moments)
      (passes_weaker DuringTurn whole x.reached n during more)

  module _ (choice : Choice) (new : Lock) (taken : List ℕ) (turned : Turned x.flags x.effect x.stage choice x.lock new None x.reached n) where
    -- the job of a turn that ended is that of what was due
    pub ran_more : (d : Due) → due x.flags x.effect (x.stage ∷ []) (standing_of (tree_of x.reached) x.lock) ≡ d ∷ [] → jobs_of n ≡ jobs_of x.reached ++ jobs (d ∷ [])
    ran_more d e =
        gain_ended (tree_of n) (jobs_of x.reached) (jobs (due x.flags x.effect (x.stage ∷ []) (standing_of (tree_of x.reached) x.lock))) (jobs_of n) turned.ran ∙ ap (λ (ds : List Due). jobs_of x.reached ++ jobs ds) e

    unfoldable pub so_far_more : (IsTrue x.tells → taken ≡ x.mid ++ lines_of x.stage choice) → SoFar x.flags x.effect (x.done ++ x.stage ∷ []) x.start new x.begin n x.tells x.before taken
    so_far_more lines =
        let so = at.so_far in
        let has = turned.turn refl in
        let d = has.due in
        let ended = so.ended in
        let reached = state (tree_of x.reached) x.lock in
        let left = state (tree_of n) new in
        let one : Turns is_own x.flags x.effect (d ∷ []) reached left = (left, has.turn, refl) in
        let is_due = taken_due x.flags x.effect x.stage d (tree_of x.reached) x.lock left has.its has.turn in
        record {
          upto = up_to_more x.flags x.effect x.done x.stage x.start x.lock x.begin.present x.reached.present n.present at.earlier so.upto turned.moments.now d new has.its has.turn (λ e. has.run (sym has.chosen ∙ e));
          ended = ended ++ d ∷ [];
          its = stages_append ended (d ∷ []) ∙ ap (λ (l : List Stage). l ++ d.stage ∷ []) so.its ∙ ap (λ (s : Stage). x.done ++ s ∷ []) has.its;
          turns = turns_append is_own x.flags x.effect ended (d ∷ []) (state (tree_of x.begin) x.start) reached left so.turns one;
          ran = push jobs jobs_append ended d (jobs_of x.begin) (jobs_of x.reached) (jobs_of n) so.ran (ran_more d is_due);
          lines = λ told. push report report_append ended d x.before x.mid taken (so.lines told) (lines told ∙ ap (λ (l : List ℕ). x.mid ++ l) (one_report x.stage choice d has.its has.chosen));
          moments = moments_more turned.moments;
        }
