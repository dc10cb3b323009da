-- The turn at a place among all stages, and how the turns of all of them end.
--     cut_at, front_at, each_at        all stages around one of them, up to it, and what holds of it
--     alone_at                         it is in order by itself
--     spot, spot_at                    the place where its turn begins
--     halt_at, end_at                  its turn was refused, and all turns have ended
--     known_at                         the effect there is that of the beginning
--     idle_more, idle_halt             where nothing is due no turn ends, and nothing is touched
use Rattle.std.proofs.Common.{◌≡◌, ℕ, ◌+◌, ◌<◌, Bool, true, false, List, [], ◌∷◌, ◌++◌, length, take, drop, get_or, sym, ap, subst, ◌∙◌, Some, None, IsSome, IfSome, IsTrue, is_some}
use Rattle.std.specs.Prelude.{⊤}
use Rattle.std.specs.List.{AllByRecursion}
use Rattle.std.proofs.lemmas.Bool.{false≢true}
use Rattle.std.proofs.lemmas.List.{take_more, drop_more, take-append-drop}
use Rattle.dvc_base.specs.declared.fault.Fault.{Fault}
use Rattle.dvc_base.specs.declared.fault.Fault.TheVariants.{OutFault}
use Rattle.world_api.specs.Tree.{IsTree}
use Rattle.world_api.specs.Effect.{Effect}
use Rattle.world_api.specs.History.{History}
use Rattle.world_api.specs.Outside.{tree_of}
use Rattle.lock_files.specs.Book.{Lock}
use Rattle.repro_laws.specs.Refusals.{see_fault}
use Rattle.repro_laws.specs.Due.{standing_of, report, due}
use Rattle.repro_laws.specs.Headline.{is_ordered, IsPlanned}
use Rattle.repro_laws.specs.Moments.{is_own}
use Rattle.repro_laws.specs.Sound.{lock_of, GainsAt}
use Rattle.repro_laws.specs.declared.stage.Stage.{Stage}
use Rattle.repro_laws.specs.declared.stage.Flags.{Flags}
use Rattle.repro_laws.specs.declared.stage.Choice.{Choice}
use Rattle.repro_laws.proofs.FrontLemmas.{order_front, order_later}
use Rattle.repro_laws.proofs.TurnMoments.{before_planned}
use Rattle.repro_core.specs.Turning.{Turned, ReportsDue}
use Rattle.repro_core.proofs.FirstLemmas.{begins_seen}
use Rattle.repro_core.proofs.OptionLemmas.{if_some_at}
use Rattle.repro_core.proofs.SoFarLemmas.{SoFar, same_effect, Spot, IsSpot}
use Rattle.repro_core.proofs.ExitLemmas.{IsHalt, IsEnd}

-- ---- places

module _ (all : List Stage) (i : ℕ) (s : Stage) (within : i < length all) (here : s ≡ get_or all i s) where
  pub cut_at : all ≡ take i all ++ s ∷ drop (i + 1) all
  cut_at =
      sym (take-append-drop i all) ∙ ap (λ (l : List Stage). take i all ++ l) (drop_more all i s within ∙ ap (λ (x : Stage). x ∷ drop (i + 1) all) (sym here))

  pub front_at : take (i + 1) all ≡ take i all ++ s ∷ []
  front_at = take_more all i s within ∙ ap (λ (x : Stage). take i all ++ x ∷ []) (sym here)

each_middle : (P : Stage → Type 0) (xs : List Stage) (y : Stage) (ys : List Stage) → AllByRecursion P (xs ++ y ∷ ys) → P y
each_middle P [] y ys h = h.0
each_middle P (x ∷ xs) y ys h = each_middle P xs y ys h.1

order_middle : (xs : List Stage) (s : Stage) (ys : List Stage) → is_ordered (xs ++ s ∷ ys) ≡ true → is_ordered (s ∷ []) ≡ true
order_middle [] s ys h = order_front (s ∷ []) ys h
order_middle (x ∷ xs) s ys h = order_middle xs s ys (order_later x (xs ++ s ∷ ys) h)

pub each_at : (P : Stage → Type 0) (all : List Stage) (i : ℕ) (s : Stage) → i < length all → s ≡ get_or all i s → AllByRecursion P all → P s
each_at P all i s within here h =
    each_middle P (take i all) s (drop (i + 1) all) (subst (λ (l : List Stage). AllByRecursion P l) (cut_at all i s within here) h)

pub alone_at : (all : List Stage) (i : ℕ) (s : Stage) → i < length all → s ≡ get_or all i s → is_ordered all ≡ true → is_ordered (s ∷ []) ≡ true
alone_at all i s within here h =
    order_middle (take i all) s (drop (i + 1) all) (ap is_ordered (sym (cut_at all i s within here)) ∙ h)

-- ---- where a turn begins

abbrev pub spot : Flags → List Stage → ℕ → Stage → Lock → Lock → History → History → Bool → List ℕ → List ℕ → Effect → Spot
spot flags all i s start lock a k tells before mid effect = record {
  flags = flags;
  effect = effect;
  all = all;
  done = take i all;
  stage = s;
  rest = drop (i + 1) all;
  start = start;
  lock = lock;
  begin = a;
  reached = k;
  tells = tells;
  before = before;
  mid = mid;
}

module _ (flags : Flags) (all : List Stage) (i : ℕ) (s : Stage) (start lock : Lock) (a k : History) (tells : Bool) (before mid : List ℕ) (effect : Effect) where
  unfoldable pub spot_at : i < length all → s ≡ get_or all i s → IsPlanned is_own all → IsTree a.present.tree → flags.run_cache ≡ false → SoFar flags effect (take i all) start lock a k tells before mid → IsSpot (spot flags all i s start lock a k tells before mid effect)
  spot_at within here plan tree none so =
      let cut = cut_at all i s within here in
      record {
        cut = cut;
        so_far = so;
        earlier = before_planned (take i all) s (drop (i + 1) all) (subst (IsPlanned is_own) cut plan);
        plan = plan;
        tree = tree;
        no_restore = none;
      }

  pub known_at : SoFar flags effect (take i all) start lock a k tells before mid → a.present.aside.fixed.effect ≡ Some effect → k.present.aside.fixed.effect ≡ Some effect
  known_at so known = same_effect (take i all) a.present k.present so.upto.at.ran ∙ known

-- the turn there was refused
pub halt_at : (x : Spot) (fault : Fault) (new : Lock) (n : History) (taken : List ℕ) → IsSpot x → x.reached.present.aside.fixed.effect ≡ Some x.effect → IfSome x.reached.present.aside.fixed.effect (λ f. (choice : Choice) × ⊤ × Turned x.flags f x.stage choice x.lock new (Some fault) x.reached n) → (IsTrue x.tells → ReportsDue x.flags x.stage x.lock (Some fault) x.reached n x.mid taken) → (Some fault ≡ Some OutFault → n ≡ x.reached) → IsHalt x fault n taken
halt_at x fault new n taken at known turned lines first =
    let told = x.reached.present.aside.fixed.effect in
    let here = if_some_at told (λ f. (choice : Choice) × ⊤ × Turned x.flags f x.stage choice x.lock new (Some fault) x.reached n) x.effect known turned in
    record {
      at = at;
      choice = here.0;
      new = new;
      refused = here.2;
      report = λ t. if_some_at told (λ f. GainsAt (tree_of n) (Some fault) x.mid (report (due x.flags f (x.stage ∷ []) (standing_of (tree_of x.reached) x.lock))) taken) x.effect known (lines t);
      first = λ e. first (ap (λ (f : Fault). Some f) e);
    }

-- ---- all turns have ended

pub end_at : (flags : Flags) (effect : Effect) (all done : List Stage) (start lock : Lock) (a n : History) (tells : Bool) (before taken : List ℕ) → done ≡ all → IsPlanned is_own all → IsTree a.present.tree → lock_of (tree_of n) ≡ Some lock → flags.run_cache ≡ false → SoFar flags effect done start lock a n tells before taken → IsEnd flags effect all start lock a n tells before taken
end_at flags effect all done start lock a n tells before taken whole plan tree read none so =
    record {
      so_far = subst (λ (l : List Stage). SoFar flags effect l start lock a n tells before taken) whole so;
      plan = plan;
      tree = tree;
      read = read;
      no_restore = none;
    }

-- ---- where nothing is due

-- the first stage can't be seen
idle_seen : (flags : Flags) (effect : Effect) (all done : List Stage) (s : Stage) (rest : List Stage) (start : Lock) (a k : History) → all ≡ done ++ s ∷ rest → done ≡ [] → k ≡ a → due flags effect all (standing_of (tree_of a) start) ≡ [] → IsSome (see_fault s (tree_of k))
idle_seen flags effect all done s rest start a k cut none same nothing =
    let first : all ≡ s ∷ rest = cut ∙ ap (λ (l : List Stage). l ++ s ∷ rest) none in
    let here = ap (λ (l : List Stage). due flags effect l (standing_of (tree_of a) start)) (sym first) ∙ nothing in
    subst (λ (h : History). IsSome (see_fault s (tree_of h))) (sym same) (begins_seen flags effect s rest (standing_of (tree_of a) start) here)

pub idle_more : (flags : Flags) (effect : Effect) (all done : List Stage) (s : Stage) (rest : List Stage) (start : Lock) (a k : History) → all ≡ done ++ s ∷ rest → done ≡ [] → k ≡ a → due flags effect all (standing_of (tree_of a) start) ≡ [] → see_fault s (tree_of k) ≡ None → ⊥
idle_more flags effect all done s rest start a k cut none same nothing seen =
    false≢true (sym (ap is_some seen) ∙ idle_seen flags effect all done s rest start a k cut none same nothing)

pub idle_halt : (flags : Flags) (effect : Effect) (all done : List Stage) (s : Stage) (rest : List Stage) (start : Lock) (a k n : History) → all ≡ done ++ s ∷ rest → done ≡ [] → k ≡ a → due flags effect all (standing_of (tree_of a) start) ≡ [] → (IsSome (see_fault s (tree_of k)) → n ≡ k) → n ≡ a
idle_halt flags effect all done s rest start a k n cut none same nothing stays =
    stays (idle_seen flags effect all done s rest start a k cut none same nothing) ∙ same
