-- What the changes of a run leave, and what they pass on the way.
use Rattle.std.proofs.Common.{◌≡◌, ◌≢◌, ℕ, ◌+◌, ◌<◌, ℤ, pos, Bool, true, false, cond, not, ◌||◌, List, [], ◌∷◌, ◌++◌, length, take, drop, get_or, map, refl, sym, ap, ◌∙◌, subst, inl, inr, arith, append_assoc, Option, Some, Ok, Err, Result, OnErr, IfOk, IsErr, MatchResult, IfSome}
use Rattle.std.specs.Prelude.{⊤, bytes_eq, None}
use Rattle.std.specs.FinMap.{get}
use Rattle.std.specs.List.{AllByRecursion}
use Rattle.std.specs.Ordering.{int_eq}
use Rattle.std.specs.Cmp.{signed_Decides}
use Rattle.std.proofs.lemmas.Bool.{false≢true, and_parts, or_cases, or_left, or_right, or_parts, not-true, not_from_true, not_from_false, false_from_ne_true}
use Rattle.std.proofs.lemmas.List.{take_more, take-append-drop, drop_more, append-nil, length-append, map-append}
use Rattle.dvc_base.specs.Path.{Path, under, overlap}
use Rattle.dvc_base.proofs.PathLemmas.{under-refl, under-trans, under-append, under-overlap}
use Rattle.world_api.specs.Tree.{Tree, folder, Value as Told, value_at, item_at}
use Rattle.world_api.specs.Effect.{Effect, fails, gives, path_from, out_paths, invocation_of, is_in_any, given_values}
use Rattle.world_api.specs.History.{Moment, History, Passes, KeepsPaths, Stays, itself, ran_too}
use Rattle.world_api.specs.Calls.{parent, is_apart, are_apart, is_runnable, HasFolders, Meets, nowhere, HasLooseOuts, IsRun, InRun}
use Rattle.world_api.specs.declared.job.Job.{Job}
use Rattle.world_api.specs.declared.job.Exit.{Exit}
use Rattle.world_api.proofs.HistoryLemmas.{stays_itself, stays_then, keeps_paths_itself, passes_none, passes_same}
use Rattle.world_api.proofs.TreeLemmas.{item_kept, get_gone, under_parent, cons_not_root}
use Rattle.sim_world.specs.Answer.{told, plain_value, plain_values, found, found_all, given_by, answered, outcome_of, effect_of, unmade}
use Rattle.sim_world.specs.Applied.{tree_changed, tree_after}
use Rattle.sim_world.specs.Book.{with_met}
use Rattle.sim_world.specs.Call.{Makes, IsSame}
use Rattle.sim_world.specs.Change.{dep_values, changed, grown, replay, history_of, opened, started, with_job, IsFront}
use Rattle.sim_world.specs.Edits.{without, left_tree, place, has_place}
use Rattle.sim_world.specs.Run.{left_outs, out_changes, run_changes, Answers, RunsBy}
use Rattle.sim_world.specs.Good.{IsGood, AreGood}
use Rattle.sim_world.specs.Step.{Step}
use Rattle.sim_world.specs.declared.value.Value.{Value}
use Rattle.sim_world.specs.declared.value.PathValue.{PathValue}
use Rattle.sim_world.specs.declared.rule.Given.{Given}
use Rattle.sim_world.specs.declared.rule.Made.{Made}
use Rattle.sim_world.specs.declared.change.Change.{Change}
use Rattle.sim_world.specs.declared.change.Change.TheVariants.{Edited, Cleared, Started, Left, Ran, FolderMade, Written, Settled, Published, Met}
use Rattle.sim_world.proofs.BookLemmas.{stays_met}
use Rattle.sim_world.proofs.FolderLemmas.{has_place-from, place_other}
use Rattle.sim_world.proofs.PlaceTree.{item_get, bare_without, place-value}
use Rattle.sim_world.proofs.ChangeLemmas.{Along, passes_along, replay-push, replay_tree}

-- ---- steps of loops

plain_given-push : (t : Tree) (dir : Path) (ds : List (List ℕ)) (d : List ℕ) → plain_values (given_values t dir (ds ++ d ∷ [])) ≡ plain_values (given_values t dir ds) ++ record { path = d; value = plain_value (value_at t (path_from dir d)) } ∷ []
plain_given-push t dir [] d = refl
plain_given-push t dir (e ∷ ds) d =
    ap (λ (x : List PathValue). record { path = e; value = plain_value (value_at t (path_from dir e)) } ∷ x) (plain_given-push t dir ds d)

pub values_step : (t : Tree) (dir : Path) (texts : List (List ℕ)) (i : ℕ) (text : List ℕ) (values new : List PathValue) → i < length texts → text ≡ get_or texts i text → values ≡ plain_values (given_values t dir (take i texts)) → new ≡ values ++ record { path = text; value = plain_value (value_at t (path_from dir text)) } ∷ [] → new ≡ plain_values (given_values t dir (take (i + 1) texts))
values_step t dir texts i text values new l is was made =
    let cut : take (i + 1) texts ≡ take i texts ++ text ∷ [] =
    take_more texts i text l ∙ ap (λ (x : List ℕ). take i texts ++ x ∷ []) (sym is) in
    made
    ∙ ap (λ (x : List PathValue). x ++ record { path = text; value = plain_value (value_at t (path_from dir text)) } ∷ []) was
    ∙ sym (plain_given-push t dir (take i texts) text)
    ∙ ap (λ (x : List (List ℕ)). plain_values (given_values t dir x)) (sym cut)

-- ---- the changes of a run, made one after another

pub left_step : (change : List ℕ → Change) (outs : List (List ℕ)) (i : ℕ) (out : List ℕ) (old was new : History) → i < length outs → out ≡ get_or outs i out → was ≡ replay old (map change (take i outs)) → new ≡ grown (changed (change out)) was → new ≡ replay old (map change (take (i + 1) outs))
left_step change outs i out old was new l is made grew =
    let cut : map change (take (i + 1) outs) ≡ map change (take i outs) ++ change out ∷ [] =
    ap (map change) (take_more outs i out l ∙ ap (λ (x : List ℕ). take i outs ++ x ∷ []) (sym is)) ∙ map-append change (take i outs) (out ∷ []) in
    grew ∙ ap (grown (changed (change out))) made ∙ sym (replay-push old (map change (take i outs)) (change out)) ∙ ap (replay old) (sym cut)

pub left_front : (change : List ℕ → Change) (outs : List (List ℕ)) (i : ℕ) (out : List ℕ) (old was new : History) → i < length outs → out ≡ get_or outs i out → was ≡ replay old (map change (take i outs)) → new ≡ was → IsFront (map change outs) old new
left_front change outs i out old was new l is made same =
    let parts : outs ≡ take i outs ++ out ∷ drop (i + 1) outs =
    sym (take-append-drop i outs) ∙ ap (λ (x : List (List ℕ)). take i outs ++ x) (drop_more outs i out l ∙ ap (λ (x : List ℕ). x ∷ drop (i + 1) outs) (sym is)) in
    record {
      front = map change (take i outs);
      refused = change out;
      rest = map change (drop (i + 1) outs);
      parts = ap (map change) parts ∙ map-append change (take i outs) (out ∷ drop (i + 1) outs);
      made = same ∙ made;
    }

-- one of those after the first was refused, and none of the last ones was tried
pub front_amid : (c : Change) (cs ds : List Change) (old was new : History) → was ≡ grown (changed c) old → IsFront cs was new → IsFront (c ∷ (cs ++ ds)) old new
front_amid c cs ds old was new first f = record {
  front = c ∷ f.front;
  refused = f.refused;
  rest = f.rest ++ ds;
  parts = ap (λ (x : List Change). c ∷ (x ++ ds)) f.parts ∙ ap (λ (x : List Change). c ∷ x) (append_assoc f.front (f.refused ∷ f.rest) ds);
  made = f.made ∙ ap (λ (h : History). replay h f.front) first;
}

-- all but the last were made, and the last was made or refused
pub made_last : {T E : Type 0} (r : Result T E) (c d : Change) (cs : List Change) (old was then new : History) → was ≡ grown (changed c) old → then ≡ replay was cs → Makes r (grown (changed d)) IsSame then new → Makes r (λ h. replay h (c ∷ (cs ++ d ∷ []))) (IsFront (c ∷ (cs ++ d ∷ []))) old new
made_last (Ok x) c d cs old was then new first amid last =
    last ∙ ap (grown (changed d)) (amid ∙ ap (λ (h : History). replay h cs) first) ∙ sym (replay-push (grown (changed c) old) cs d)
made_last (Err x) c d cs old was then new first amid last = record {
  front = c ∷ cs;
  refused = d;
  rest = [];
  parts = refl;
  made = last ∙ amid ∙ ap (λ (h : History). replay h cs) first;
}

-- ---- quiet changes: those that reach the outputs alone, which are loose

record Quiet (job : Job) (m n : Moment) : Type 0 where
  paths : KeepsPaths (is_in_any (out_paths job)) m n
  outs : HasLooseOuts job n
  aside : Stays itself m.aside n.aside

quiet_in : (job : Job) (m n : Moment) → Quiet job m n → InRun job m n
quiet_in job m n q = record { others = q.paths; outs = inr q.outs; aside = inl q.aside }

run_still : (job : Job) (m : Moment) → InRun job m m
run_still job m = record {
  others = keeps_paths_itself (is_in_any (out_paths job)) m;
  outs = inl (keeps_paths_itself nowhere m);
  aside = inl (stays_itself m.aside);
}

quiet_started : (job : Job) (m : Moment) → Quiet job m (started job m)
quiet_started job m = record {
  paths = record { items = λ p e. refl; loose = λ p e. ap (λ (b : Bool). b || m.loose p) e };
  outs = λ p u. ap (λ (b : Bool). b || m.loose p) u;
  aside = stays_met (dep_values job m.tree) m.aside;
}

quiet_ran : (job : Job) (m n : Moment) → Quiet job m n → InRun job m (with_job job n)
quiet_ran job m n q = record {
  others = record { items = q.paths.items; loose = q.paths.loose };
  outs = inr q.outs;
  aside = inr (record { fixed = ap (ran_too job) q.aside.fixed; book = q.aside.book });
}

abbrev IsQuiet : Job → Moment → Change → Type 0
IsQuiet job m c = (n : Moment) → Quiet job m n → Quiet job m (changed c n)

-- an output's own paths are among those of the outputs
abbrev IsOut : Job → Path → Type 0
IsOut job at = (p : Path) → under at p ≡ true → is_in_any (out_paths job) p ≡ true

outside : (job : Job) (at p : Path) → IsOut job at → is_in_any (out_paths job) p ≡ false → under at p ≡ false
outside job at p out e = false_from_ne_true (under at p) (λ u. false≢true (sym e ∙ out p u))

pub left_other : (at : Path) (value : Value) (t : Tree) (p : Path) → under at p ≡ false → item_at (left_tree at value t) p ≡ item_at t p
left_other at value t p apart =
    elim (has_place t at) as (λ b. item_at (cond b (place at value (without at t)) t) p ≡ item_at t p) [
      | true ↦ place_other at value (without at t) p apart ∙ item_kept t (λ q. not (under at q)) p (not_from_false (under at p) apart)
      | false ↦ refl
    ]

quiet_left : (job : Job) (m : Moment) (at : Path) (value : Value) → IsOut job at → IsQuiet job m (Left at value)
quiet_left job m at value out n q = record {
  paths = record {
    items = λ p e. left_other at value n.tree p (outside job at p out e) ∙ q.paths.items p e;
    loose = λ p e. ap (λ (b : Bool). b || n.loose p) (outside job at p out e) ∙ q.paths.loose p e;
  };
  outs = λ p u. or_right (under at p) (n.loose p) (q.outs p u);
  aside = stays_then itself m.aside n.aside (with_met (told value ∷ []) n.aside) q.aside (stays_met (told value ∷ []) n.aside);
}

all_quiet : (job : Job) (m : Moment) (change : Path → List ℕ → Change) → ((at : Path) (out : List ℕ) → IsOut job at → IsQuiet job m (change at out)) → (outs : List (List ℕ)) → ((p : Path) → is_in_any (map (path_from job.dir) outs) p ≡ true → is_in_any (out_paths job) p ≡ true) → AllByRecursion (IsQuiet job m) (map (λ out. change (path_from job.dir out) out) outs)
all_quiet job m change quiet [] sub = tt
all_quiet job m change quiet (o ∷ outs) sub = (
  quiet (path_from job.dir o) o (λ p u. sub p (or_left (under (path_from job.dir o) p) (is_in_any (map (path_from job.dir) outs) p) u)),
  all_quiet job m change quiet outs (λ p u. sub p (or_right (under (path_from job.dir o) p) (is_in_any (map (path_from job.dir) outs) p) u)),
)

all_front : (P : Change → Type 0) (xs ys : List Change) → AllByRecursion P (xs ++ ys) → AllByRecursion P xs
all_front P [] ys a = tt
all_front P (x ∷ xs) ys a = (a.0, all_front P xs ys a.1)

quiet_outs : (job : Job) (m : Moment) (code : ℤ) (made : Made) → AllByRecursion (IsQuiet job m) (out_changes job code made)
quiet_outs job m code made =
    elim (int_eq code (pos 0)) as (λ b. AllByRecursion (IsQuiet job m) (cond b (left_outs job made) [])) [
      | true ↦ all_quiet job m (λ at out. Left at (found made.outs out)) (λ at out is. quiet_left job m at (found made.outs out) is) job.outs (λ p u. u)
      | false ↦ tt
    ]

-- ---- along the changes

along_quiet : (job : Job) (m n : Moment) (cs ds : List Change) → AllByRecursion (IsQuiet job m) cs → Quiet job m n → ((k : Moment) → Quiet job m k → Along (InRun job m) k ds) → Along (InRun job m) n (cs ++ ds)
along_quiet job m n [] ds all q rest = rest n q
along_quiet job m n (c ∷ cs) ds all q rest = (quiet_in job m n q, along_quiet job m (changed c n) cs ds all.1 (all.0 n q) rest)

quiet_replay : (job : Job) (m : Moment) (h : History) (cs : List Change) → AllByRecursion (IsQuiet job m) cs → Quiet job m h.present → Quiet job m (replay h cs).present
quiet_replay job m h [] all q = q
quiet_replay job m h (c ∷ cs) all q = quiet_replay job m (grown (changed c) h) cs all.1 (all.0 h.present q)

run_passes : (job : Job) (code : ℤ) (made : Made) (h : History) → Passes (InRun job h.present) h (replay h (run_changes job code made))
run_passes job code made h =
    let m : Moment = h.present in
    passes_along (InRun job m) h (run_changes job code made) (
      run_still job m,
      along_quiet job m (started job m) (out_changes job code made) (Ran job ∷ []) (quiet_outs job m code made) (quiet_started job m)
          (λ k q. (quiet_in job m k q, quiet_ran job m k q)),
    )

-- what stands before the last of a list's items begins with any front that leaves an item out
front_before : (front xs : List Change) (c r : Change) (rest : List Change) → xs ++ r ∷ [] ≡ front ++ c ∷ rest → (more : List Change) × (xs ≡ front ++ more)
front_before [] xs c r rest e = (xs, refl)
front_before (f ∷ front) [] c r rest e = absurd (omega (arith, ap length e, length-append front (c ∷ rest)))
front_before (f ∷ front) (x ∷ xs) c r rest e =
    let tail : xs ++ r ∷ [] ≡ front ++ c ∷ rest = ap (λ (l : List Change). drop 1 l) e in
    let so = front_before front xs c r rest tail in
    (so.0, cc)

-- a front that was made: nothing, or the start and some of the outputs
abbrev IsMadeFront : Job → Moment → List Change → Type 0
IsMadeFront job m [] = ⊤
IsMadeFront job m (c ∷ cs) = (c ≡ Started job) × AllByRecursion (IsQuiet job m) cs

made_front : (job : Job) (code : ℤ) (made : Made) (m : Moment) (front : List Change) (refused : Change) (rest : List Change) → run_changes job code made ≡ front ++ refused ∷ rest → IsMadeFront job m front
made_front job code made m [] refused rest e = tt
made_front job code made m (f ∷ front) refused rest e =
    let so = front_before front (out_changes job code made) refused (Ran job) rest (ap (λ (l : List Change). drop 1 l) e) in
    let first : f ≡ Started job = cc in
    (first, all_front (IsQuiet job m) front so.0 (subst (AllByRecursion (IsQuiet job m)) so.1 (quiet_outs job m code made)))

front_passes : (job : Job) (h : History) (front : List Change) → IsMadeFront job h.present front → Passes (InRun job h.present) h (replay h front)
front_passes job h [] is = passes_none (InRun job h.present) h (run_still job h.present)
front_passes job h (c ∷ front) is =
    let m : Moment = h.present in
    let along : Along (InRun job m) m (Started job ∷ (front ++ [])) =
    (run_still job m, along_quiet job m (started job m) front [] is.1 (quiet_started job m) (λ k q. quiet_in job m k q)) in
    subst (λ (d : Change). Passes (InRun job m) h (replay h (d ∷ front))) (sym is.0)
    (subst (λ (l : List Change). Passes (InRun job m) h (replay h (Started job ∷ l))) (append-nil front) (passes_along (InRun job m) h (Started job ∷ (front ++ [])) along))

front_stays : (job : Job) (h : History) (front : List Change) → IsMadeFront job h.present front → Stays itself h.present.aside (replay h front).present.aside
front_stays job h [] is = stays_itself h.present.aside
front_stays job h (c ∷ front) is =
    let q = quiet_replay job h.present (grown (started job) h) front is.1 (quiet_started job h.present) in
    subst (λ (d : Change). Stays itself h.present.aside (replay h (d ∷ front)).present.aside) (sym is.0) q.aside

-- ---- the values at the outputs

apart_parts : (p q : Path) (qs : List Path) → is_apart p (q ∷ qs) ≡ true → (under p q ≡ false) × (under q p ≡ false) × (is_apart p qs ≡ true)
apart_parts p q qs e =
    let so = and_parts (not (overlap p q)) (is_apart p qs) e in
    let no = or_parts (under p q) (under q p) (not-true (overlap p q) so.0) in
    (no.0, no.1, so.1)

apart_root : (p : Path) (qs : List Path) → is_apart p qs ≡ true → p ≢ []
apart_root [] [] e = absurd (false≢true e)
apart_root (c ∷ p) [] e = cons_not_root c p
apart_root p (q ∷ qs) e = apart_root p qs (apart_parts p q qs e).2

abbrev StandsAbove : Tree → Path → Type 0
StandsAbove t out = item_at t (parent out) ≡ Some folder

abbrev lefts : Path → Made → List (List ℕ) → List Change
lefts dir made outs = map (λ out. Left (path_from dir out) (found made.outs out)) outs

above_kept : (p : Path) (v : Value) (t : Tree) (qs : List Path) → is_apart p qs ≡ true → AllByRecursion (StandsAbove t) qs → AllByRecursion (StandsAbove (left_tree p v t)) qs
above_kept p v t [] e all = tt
above_kept p v t (q ∷ qs) e all =
    let so = apart_parts p q qs e in (
      left_other p v t (parent q) (false_from_ne_true (under p (parent q)) (λ u. false≢true (sym so.0 ∙ under-trans p (parent q) q u (under_parent q)))) ∙ all.0,
      above_kept p v t qs so.2 all.1,
    )

-- what stands at or below a path stays as it is where others are left
SameBelow : Path → Tree → Tree → Type 0
SameBelow p k t = (x : Path) → get k (p ++ x) ≡ get t (p ++ x)

left_apart : (at p : Path) (v : Value) (t : Tree) → at ≢ [] → p ≢ [] → under at p ≡ false → under p at ≡ false → SameBelow p (left_tree at v t) t
unfolding SameBelow
left_apart at p v t na np out above x =
    let ne : (p ++ x) ≢ [] = λ s. np (front_none p x s) in
    let far : under at (p ++ x) ≡ false =
    false_from_ne_true (under at (p ++ x)) (λ u. elim (or_cases (under at p) (under p at) (under-overlap at p (p ++ x) u (under-append p x))) [
      | inl a ↦ false≢true (sym out ∙ a)
      | inr a ↦ false≢true (sym above ∙ a)
    ]) in
    sym (item_get (left_tree at v t) (p ++ x) ne) ∙ left_other at v t (p ++ x) far ∙ item_get t (p ++ x) ne
  where
    front_none : (p x : Path) → p ++ x ≡ [] → p ≡ []
    front_none [] x s = refl
    front_none (c ∷ p) x s = absurd (cc)

lefts_apart : (dir : Path) (made : Made) (outs : List (List ℕ)) (t : Tree) (p : Path) → p ≢ [] → is_apart p (map (path_from dir) outs) ≡ true → are_apart (map (path_from dir) outs) ≡ true → SameBelow p (tree_after t (lefts dir made outs)) t
unfolding SameBelow
lefts_apart dir made [] t p np e all x = refl
lefts_apart dir made (o ∷ outs) t p np e all x =
    let at : Path = path_from dir o in
    let so = apart_parts p at (map (path_from dir) outs) e in
    let parts = and_parts (is_apart at (map (path_from dir) outs)) (are_apart (map (path_from dir) outs)) all in
    lefts_apart dir made outs (left_tree at (found made.outs o) t) p np so.2 parts.1 x
    ∙ left_apart at p (found made.outs o) t (apart_root at (map (path_from dir) outs) parts.0) np so.1 so.0 x

found_good : (es : List PathValue) (o : List ℕ) → AreGood es → IsGood (found es o)
found_good [] o all = tt
found_good (e ∷ es) o all =
    elim (bytes_eq e.path o) as (λ b. IsGood (cond b e.value (found es o))) [ true ↦ all.0 | false ↦ found_good es o all.1 ]

left_value : (p : Path) (v : Value) (t k : Tree) → IsGood v → p ≢ [] → item_at t (parent p) ≡ Some folder → SameBelow p k (left_tree p v t) → value_at k p ≡ told v
unfolding SameBelow
left_value p v t k good ne above same =
    let gone : get (without p t) p ≡ None = get_gone t (λ q. not (under p q)) p (not_from_true (under p p) (under-refl p)) in
    place-value p v (without p t) k good ne gone (bare_without p t)
    (λ x. same x ∙ ap (λ (b : Bool). get (cond b (place p v (without p t)) t) (p ++ x)) (has_place-from t p ne above))

values_left : (dir : Path) (made : Made) (outs : List (List ℕ)) (t : Tree) → AreGood made.outs → are_apart (map (path_from dir) outs) ≡ true → AllByRecursion (StandsAbove t) (map (path_from dir) outs) → map (value_at (tree_after t (lefts dir made outs))) (map (path_from dir) outs) ≡ map told (found_all outs made)
values_left dir made [] t good e all = refl
values_left dir made (o ∷ outs) t good e all =
    let p : Path = path_from dir o in
    let v : Value = found made.outs o in
    let paths : List Path = map (path_from dir) outs in
    let parts = and_parts (is_apart p paths) (are_apart paths) e in
    let ne : p ≢ [] = apart_root p paths parts.0 in
    let here : value_at (tree_after (left_tree p v t) (lefts dir made outs)) p ≡ told v =
    left_value p v t _ (found_good made.outs o good) ne all.0 (lefts_apart dir made outs (left_tree p v t) p ne parts.0 parts.1) in
    let later = values_left dir made outs (left_tree p v t) good parts.1 (above_kept p v t paths parts.0 all.1) in
    λ j. here j ∷ later j

-- ---- the outcome

changed_effect : (c : Change) (m : Moment) → (changed c m).aside.fixed.effect ≡ m.aside.fixed.effect
changed_effect (Edited at value) m = refl
changed_effect (Cleared at) m = refl
changed_effect (Started job) m = refl
changed_effect (Left at value) m = refl
changed_effect (Ran job) m = refl
changed_effect (FolderMade at) m = refl
changed_effect (Written lane value) m = refl
changed_effect (Settled lane) m = refl
changed_effect (Published lane at value) m = refl
changed_effect (Met at) m = refl

replay_effect : (h : History) (cs : List Change) → (replay h cs).present.aside.fixed.effect ≡ h.present.aside.fixed.effect
replay_effect h [] = refl
replay_effect h (c ∷ cs) = replay_effect (grown (changed c) h) cs ∙ changed_effect c h.present

pub present_effect : (effect : Effect) (t : Tree) (cs : List Change) → (history_of effect t cs).present.aside.fixed.effect ≡ Some effect
present_effect effect t cs = replay_effect (record { present = opened effect t; past = []; under = [] }) cs

tree_after-append : (t : Tree) (cs ds : List Change) → tree_after t (cs ++ ds) ≡ tree_after (tree_after t cs) ds
tree_after-append t [] ds = refl
tree_after-append t (c ∷ cs) ds = tree_after-append (tree_changed c t) cs ds

run_tree : (job : Job) (code : ℤ) (made : Made) (t : Tree) → tree_after t (run_changes job code made) ≡ tree_after t (out_changes job code made)
run_tree job code made t = tree_after-append t (out_changes job code made) (Ran job ∷ [])

int_zero : (code : ℤ) → int_eq code (pos 0) ≡ false → code ≢ pos 0
int_zero code e s = false≢true (sym e ∙ (signed_Decides code (pos 0)).1 s)

meets : (outs : List (List ℕ)) (code : ℤ) (made : Made) (values : Bool → List Told) → values true ≡ map told (found_all outs made) → Meets (outcome_of outs (record { code = code; made = made })) code (values (int_eq code (pos 0)))
meets outs code made values is =
    elim (int_eq code (pos 0)) as (λ b. int_eq code (pos 0) ≡ b → Meets (cond b (gives (map told (found_all outs made))) (fails code)) code (values b)) [
      | true ↦ λ e. ((signed_Decides code (pos 0)).0 e, is)
      | false ↦ λ e. (int_zero code e, refl)
    ] refl

run_meets : (effect : Given → Made → Step) (job : Job) (code : ℤ) (made : Made) (t : Tree) → AreGood made.outs → is_runnable job ≡ true → HasFolders job t → answered effect (given_by (invocation_of job t)) job.commands (record { outs = unmade job.outs }) ≡ record { code = code; made = made } → Meets (effect_of effect (invocation_of job t)) code (map (value_at (tree_after t (run_changes job code made))) (out_paths job))
run_meets effect job code made t good runs folders did =
    let apart : are_apart (out_paths job) ≡ true = (and_parts _ (are_apart (out_paths job)) runs).1 in
    let values : Bool → List Told = λ b. map (value_at (tree_after t (cond b (left_outs job made) []))) (out_paths job) in
    let so : Meets (outcome_of job.outs (record { code = code; made = made })) code (values (int_eq code (pos 0))) =
    meets job.outs code made values (values_left job.dir made job.outs t good apart folders.above) in
    subst (λ (v : List Told). Meets (effect_of effect (invocation_of job t)) code v)
    (ap (λ (k : Tree). map (value_at k) (out_paths job)) (sym (run_tree job code made t)))
    (subst (λ (step : Step). Meets (outcome_of job.outs step) code (values (int_eq code (pos 0)))) (sym did) so)

abbrev HasRun : Job → Moment → Moment → Type 0
HasRun job m n = Stays (ran_too job) m.aside n.aside × HasLooseOuts job n

run_ran : (job : Job) (code : ℤ) (made : Made) (h : History) → HasRun job h.present (replay h (run_changes job code made)).present
run_ran job code made h =
    let begun : History = grown (started job) h in
    let q = quiet_replay job h.present begun (out_changes job code made) (quiet_outs job h.present code made) (quiet_started job h.present) in
    subst (λ (k : History). HasRun job h.present k.present) (sym (replay-push begun (out_changes job code made) (Ran job)))
    (record { fixed = ap (ran_too job) q.aside.fixed; book = q.aside.book }, q.outs)

run_done : (effect : Given → Made → Step) (job : Job) (code : ℤ) (made : Made) (h : History) → is_runnable job ≡ true → HasFolders job h.present.tree → h.present.aside.fixed.effect ≡ Some (effect_of effect) → Answers effect job h code made → IsRun job code h.present (replay h (run_changes job code made)).present
run_done effect job code made h runs folders told_effect did = record {
  ran = (run_ran job code made h).0;
  loose = (run_ran job code made h).1;
  outcome =
      subst (λ (o : Option Effect). IfSome o (λ e. Meets (e (invocation_of job h.present.tree)) code (map (value_at (replay h (run_changes job code made)).present.tree) (out_paths job)))) (sym told_effect)
      (subst (λ (k : Tree). Meets (effect_of effect (invocation_of job h.present.tree)) code (map (value_at k) (out_paths job))) (sym (replay_tree h (run_changes job code made)))
      (run_meets effect job code made h.present.tree did.1 runs folders did.0));
}

-- ---- what a run makes, as the trait says it

pub runs_ran : {E : Type 0} (effect : Given → Made → Step) (job : Job) (r : Result Exit E) (h h' : History) → is_runnable job ≡ true → HasFolders job h.present.tree → h.present.aside.fixed.effect ≡ Some (effect_of effect) → RunsBy effect job r h h' → IfOk r (λ exit. IsRun job exit.code h.present h'.present)
runs_ran effect job (Ok exit) h h' runs folders known made =
    subst (λ (k : History). IsRun job exit.code h.present k.present) (sym made.2) (run_done effect job exit.code made.0 h runs folders known made.1)
runs_ran effect job (Err why) h h' runs folders known made = tt

pub runs_passes : {E : Type 0} (effect : Given → Made → Step) (job : Job) (r : Result Exit E) (h h' : History) → RunsBy effect job r h h' → Passes (InRun job h.present) h h'
runs_passes effect job (Ok exit) h h' made =
    subst (λ (k : History). Passes (InRun job h.present) h k) (sym made.2) (run_passes job exit.code made.0 h)
runs_passes effect job (Err why) h h' (inl same) = passes_same (InRun job h.present) h h' same (run_still job h.present)
runs_passes effect job (Err why) h h' (inr part) =
    let f = part.3 in
    subst (λ (k : History). Passes (InRun job h.present) h k) (sym f.made) (front_passes job h f.front (made_front job part.0 part.1 h.present f.front f.refused f.rest f.parts))

pub runs_not : {E : Type 0} (effect : Given → Made → Step) (job : Job) (r : Result Exit E) (h h' : History) → RunsBy effect job r h h' → OnErr r (Stays itself h.present.aside h'.present.aside)
runs_not effect job (Ok exit) h h' made = tt
runs_not effect job (Err why) h h' (inl same) = subst (λ (k : History). Stays itself h.present.aside k.present.aside) (sym same) (stays_itself h.present.aside)
runs_not effect job (Err why) h h' (inr part) =
    let f = part.3 in
    subst (λ (k : History). Stays itself h.present.aside k.present.aside) (sym f.made) (front_stays job h f.front (made_front job part.0 part.1 h.present f.front f.refused f.rest f.parts))

pub runs_none : {E : Type 0} (effect : Given → Made → Step) (job : Job) (r : Result Exit E) (old new : History) → IsErr r → new ≡ old → RunsBy effect job r old new
runs_none effect job (Ok exit) old new e same = absurd (false≢true e)
runs_none effect job (Err why) old new e same = inl same

pub runs_front : {E : Type 0} (effect : Given → Made → Step) (job : Job) (r : Result Exit E) (old new : History) (code : ℤ) (made : Made) → IsErr r → Answers effect job old code made → IsFront (run_changes job code made) old new → RunsBy effect job r old new
runs_front effect job (Ok exit) old new code made e answers front = absurd (false≢true e)
runs_front effect job (Err why) old new code made e answers front = inr (code, made, answers, front)

pub runs_counted : {E F : Type 0} (effect : Given → Made → Step) (job : Job) (r : Result Exit E) (q : Result Exit F) (old new : History) → MatchResult r (λ value. q ≡ Ok value) (λ _. IsErr q) → RunsBy effect job r old new → RunsBy effect job q old new
runs_counted effect job (Ok x) q old new same made = subst (λ a. RunsBy effect job a old new) (sym same) made
runs_counted effect job (Err e) (Ok x) old new same made = absurd (false≢true same)
runs_counted effect job (Err e) (Err f) old new same made = made

-- what the code answered, where nothing was made before, is what is told
pub answered_so : (effect : Given → Made → Step) (job : Job) (t k : Tree) (made0 : Made) (step : Step) → answered effect (given_by (invocation_of job k)) job.commands made0 ≡ step → k ≡ t → made0.outs ≡ unmade job.outs → answered effect (given_by (invocation_of job t)) job.commands (record { outs = unmade job.outs }) ≡ step
answered_so effect job t k made0 step did e m =
    sym (λ j. answered effect (given_by (invocation_of job (e j))) job.commands (record { outs = m j })) ∙ did
