-- The moments of turns, and one turn more.
--     IsUpTo                      turns have ended at a moment
--     turns_past, turns_then      moments before one more turn, and during it, are those of the turns up to its end
--     up_to_none, up_to_more      before the first turn, and after one turn more
--     before_planned              the stages before another in a plan
use Rattle.std.proofs.Common.{◌≡◌, ◌⊎◌, ℕ, Bool, true, false, not, List, [], ◌∷◌, ◌++◌, map, inl, inr, refl, sym, ap, subst, ◌∙◌, append_assoc, Option, Some, None}
use Rattle.std.specs.Prelude.{bytes_eq}
use Rattle.std.specs.List.{AllByRecursion, list_any, flat_map}
use Rattle.std.proofs.lemmas.Bool.{or_parts, and_parts}
use Rattle.std.proofs.lemmas.List.Folds.{list_any-append}
use Rattle.dvc_base.specs.Path.{Path, overlap}
use Rattle.dvc_base.specs.declared.data.ParamFile.{ParamFile}
use Rattle.world_api.specs.Effect.{Effect}
use Rattle.world_api.specs.History.{Moment}
use Rattle.world_api.specs.Writes.{IsSameUnder}
use Rattle.world_api.specs.Layout.{dvc_path, lock_path}
use Rattle.world_api.specs.Calls.{is_apart, are_apart}
use Rattle.world_api.proofs.HistoryLemmas.{keeps_paths_in, keeps_paths_then}
use Rattle.world_api.proofs.WriteLemmas.{same_under_then, made_then_made}
use Rattle.object_cache.specs.Objects.{object_path}
use Rattle.yaml_print.specs.Print.{print_text}
use Rattle.lock_files.specs.declared.entry.Entry.{Entry}
use Rattle.lock_files.specs.Book.{Lock, entry_of}
use Rattle.lock_files.specs.Nodes.{lock_node}
use Rattle.repro_laws.specs.Stage.{out_path, read_paths, stage_outs, IsStage}
use Rattle.repro_laws.specs.Lock.{is_among}
use Rattle.repro_laws.specs.Due.{Due}
use Rattle.repro_laws.specs.Turns.{State, state, Leaves, Turn, Turns, stages_of, AreStored}
use Rattle.repro_laws.specs.Headline.{IsApart, IsKept, is_ordered, have_names, IsPlanned}
use Rattle.repro_laws.specs.Moments.{is_own, IsNewLock, HaveRun, IsRunOf, RunsStand, IsRecorded, InTurns}
use Rattle.repro_laws.specs.declared.stage.Stage.{Stage}
use Rattle.repro_laws.specs.declared.stage.Flags.{Flags}
use Rattle.repro_laws.specs.declared.stage.Choice.{Choice}
use Rattle.repro_laws.specs.declared.stage.Choice.TheVariants.{Skip, Restore, Run}
use Rattle.repro_laws.proofs.AlikeLemmas.{each_on, each_two, each_front, each_mapped}
use Rattle.repro_laws.proofs.ParamLemmas.{reads_each}
use Rattle.repro_laws.proofs.SeenLemmas.{any_false, any_from}
use Rattle.repro_laws.proofs.WaitLemmas.{not_false}
use Rattle.repro_laws.proofs.LockEntries.{entry_kept}
use Rattle.repro_laws.proofs.MomentLemmas.{have_run_then, run_sooner, new_file_stays, kept_place_then, turns_area, whole_area, whole_parts, turns_itself, turns_with}
use Rattle.repro_laws.proofs.StayLemmas.{IsBefore, Beside, beside_of, run_stays, stored_stays}

-- ---- lists

each_joined : {A : Type 0} (P : A → Type 0) (xs ys : List A) → AllByRecursion P xs → AllByRecursion P ys → AllByRecursion P (xs ++ ys)
each_joined P [] ys a b = b
each_joined P (x ∷ xs) ys a b = (a.0, each_joined P xs ys a.1 b)

pub stages_append : (xs ys : List Due) → stages_of (xs ++ ys) ≡ stages_of xs ++ stages_of ys
stages_append [] ys = refl
stages_append (x ∷ xs) ys = ap (λ (l : List Stage). x.stage ∷ l) (stages_append xs ys)

pub turns_append : (own : Path → Bool) (flags : Flags) (effect : Effect) (ds es : List Due) (m k n : State) → Turns own flags effect ds m k → Turns own flags effect es k n → Turns own flags effect (ds ++ es) m n
turns_append own flags effect [] es m k n a b = subst (λ (x : State). Turns own flags effect es x n) a b
turns_append own flags effect (d ∷ ds) es m k n a b = (a.0, a.1, turns_append own flags effect ds es a.0 k n a.2 b)

-- the entries under other names stay
left_other : (own : Path → Bool) (effect : Effect) (s : Stage) (ps : List ParamFile) (c : Choice) (from : Option Entry) (m n : State) (name : List ℕ) → bytes_eq s.name name ≡ false → Leaves own effect s ps c from m n → entry_of n.lock name ≡ entry_of m.lock name
left_other own effect s ps Skip from m n name other left = ap (λ (l : Lock). entry_of l name) left.lock
left_other own effect s ps Restore None m n name other left = absurd left
left_other own effect s ps Restore (Some e) m n name other left =
    ap (λ (l : Lock). entry_of l name) left.lock ∙ entry_kept m.lock s.name left.entry name other
left_other own effect s ps Run from m n name other left =
    ap (λ (l : Lock). entry_of l name) left.lock ∙ entry_kept m.lock s.name left.entry name other

pub turns_other : (own : Path → Bool) (flags : Flags) (effect : Effect) (ds : List Due) (m n : State) (name : List ℕ) → AllByRecursion (λ d. bytes_eq d.stage.name name ≡ false) ds → Turns own flags effect ds m n → entry_of n.lock name ≡ entry_of m.lock name
turns_other own flags effect [] m n name others turns = ap (λ (x : State). entry_of x.lock name) turns
turns_other own flags effect (d ∷ ds) m n name others turns =
    let turn = turns.1 in
    turns_other own flags effect ds turns.0 n name others.1 turns.2 ∙ left_other own effect d.stage turn.params d.choice turn.from m turns.0 name others.0 turn.left

each_ended : (P : Stage → Type 0) (ds : List Due) (others stages : List Stage) → stages ≡ stages_of ds ++ others → AllByRecursion P stages → AllByRecursion (λ d. P d.stage) ds
each_ended P ds others stages cut all =
    each_mapped (λ d. d.stage) P ds (each_front P (stages_of ds) others (subst (λ (l : List Stage). AllByRecursion P l) cut all)).0

-- ---- runs, up to a later end

runs_stay : (effect : Effect) (s : Stage) (lock later : Lock) (m k n : Moment) (ds : List Due) → AllByRecursion (λ d. IsBefore d.stage s) ds → Beside s k n → HaveRun (s ∷ []) k n → ((name : List ℕ) → bytes_eq s.name name ≡ false → entry_of later name ≡ entry_of lock name) → RunsStand effect lock m k ds → RunsStand effect later m n ds
runs_stay effect s lock later m k n ds before beside ran kept runs =
    each_two (λ d. IsBefore d.stage s) (λ d. d.choice ≡ Run → IsRunOf effect lock m k d) (λ d. d.choice ≡ Run → IsRunOf effect later m n d) ds
    (λ d b r c. run_stays effect s lock later m k n d b beside ran (kept d.stage.name b.name) (r c)) before runs

held_stay : (effect : Effect) (s : Stage) (lock : Lock) (m k n : Moment) (ds : List Due) → AllByRecursion (λ d. IsBefore d.stage s) ds → Beside s k n → RunsStand effect lock m k ds → AllByRecursion (λ d. d.choice ≡ Run → AreStored k.tree d.stage.made) ds → AllByRecursion (λ d. d.choice ≡ Run → AreStored n.tree d.stage.made) ds
held_stay effect s lock m k n ds before beside runs held =
    let both : AllByRecursion (λ d. IsBefore d.stage s × (d.choice ≡ Run → IsRunOf effect lock m k d)) ds =
    each_two (λ d. IsBefore d.stage s) (λ d. d.choice ≡ Run → IsRunOf effect lock m k d) (λ d. IsBefore d.stage s × (d.choice ≡ Run → IsRunOf effect lock m k d)) ds (λ d b r. (b, r)) before runs in
    each_two (λ d. IsBefore d.stage s × (d.choice ≡ Run → IsRunOf effect lock m k d)) (λ d. d.choice ≡ Run → AreStored k.tree d.stage.made) (λ d. d.choice ≡ Run → AreStored n.tree d.stage.made) ds
    (λ d b h c. let r = b.1 c in stored_stays d.stage s lock k n b.0 beside r.entry (h c)) both held

runs_sooner : (effect : Effect) (stages : List Stage) (lock : Lock) (m k n : Moment) (ds : List Due) → HaveRun stages m k → RunsStand effect lock k n ds → RunsStand effect lock m n ds
runs_sooner effect stages lock m k n ds so runs =
    each_on (λ d. d.choice ≡ Run → IsRunOf effect lock k n d) (λ d. d.choice ≡ Run → IsRunOf effect lock m n d) ds
    (λ d r c. let run = r c in record { ran = run_sooner stages d.job m k n so run.ran; made = run.made; entry = run.entry }) runs

-- ---- one turn more

pub record IsUpTo (flags : Flags) (effect : Effect) (done : List Stage) (start lock : Lock) (m k : Moment) : Type 0 where
  pub at : InTurns flags effect done start m k k
  pub ended : List Due
  pub its : stages_of ended ≡ done
  pub turns : Turns is_own flags effect ended (state m.tree start) (state k.tree lock)
  pub runs : RunsStand effect lock m k ended
  pub held : AllByRecursion (λ d. d.choice ≡ Run → AreStored k.tree d.stage.made) ended

pub up_to_none : (flags : Flags) (effect : Effect) (lock : Lock) (m : Moment) → IsUpTo flags effect [] lock lock m m
up_to_none flags effect lock m =
    record { at = turns_itself flags effect [] lock m m; ended = []; its = refl; turns = refl; runs = tt; held = tt }

-- a moment before the turn, up to the turn's end
pub turns_past : (flags : Flags) (effect : Effect) (done : List Stage) (s : Stage) (start lock : Lock) (m k n x : Moment) → AllByRecursion (λ a. IsBefore a s) done → InTurns flags effect (s ∷ []) lock k n n → InTurns flags effect done start m k x → InTurns flags effect (done ++ s ∷ []) start m n x
turns_past flags effect done s start lock m k n x before last h =
    let beside = beside_of flags effect s lock k n n last in
    turns_with flags effect done (s ∷ []) start m k n x
    (λ r. record {
      ended = r.ended;
      others = r.others ++ s ∷ [];
      cut = ap (λ (l : List Stage). l ++ s ∷ []) r.cut ∙ append_assoc (stages_of r.ended) r.others (s ∷ []);
      reached = r.reached;
      turns = r.turns;
      runs = runs_stay effect s r.reached.lock r.reached.lock m k n r.ended (each_ended (λ a. IsBefore a s) r.ended r.others done r.cut before) beside last.ran (λ name other. refl) r.runs;
      held = r.held;
      stands = r.stands;
    }) h

new_lock_stays : (lock : Lock) (k n : Moment) → IsSameUnder lock_path k n → IsNewLock lock k → IsNewLock lock n
new_lock_stays lock k n same new =
    record { file = new_file_stays lock_path (print_text (lock_node lock)) k n same new.file; read_back = new.read_back }

module _ (flags : Flags) (effect : Effect) (done : List Stage) (s : Stage) (start lock : Lock) (m k n : Moment) (before : AllByRecursion (λ a. IsBefore a s) done) (upto : IsUpTo flags effect done start lock m k) (last : InTurns flags effect (s ∷ []) lock k n n) where
  abbrev beside_end : Beside s k n
  beside_end = beside_of flags effect s lock k n n last

  all_before : AllByRecursion (λ d. IsBefore d.stage s) upto.ended
  all_before = each_mapped (λ d. d.stage) (λ a. IsBefore a s) upto.ended (subst (λ (l : List Stage). AllByRecursion (λ a. IsBefore a s) l) (sym upto.its) before)

  -- the lock that stood before the turn
  lock_before : (x : Moment) → InTurns flags effect (s ∷ []) lock k n x → IsSameUnder lock_path k x → (IsSameUnder lock_path m k ⊎ IsRecorded flags effect done start m k k) → (IsSameUnder lock_path m x ⊎ IsRecorded flags effect (done ++ s ∷ []) start m n x)
  lock_before x h same (inl first) = inl (same_under_then lock_path m k x first same)
  lock_before x h same (inr r) =
      let early = each_ended (λ a. IsBefore a s) r.ended r.others done r.cut before in
      inr (record {
        ended = r.ended;
        others = r.others ++ s ∷ [];
        cut = ap (λ (l : List Stage). l ++ s ∷ []) r.cut ∙ append_assoc (stages_of r.ended) r.others (s ∷ []);
        reached = r.reached;
        turns = r.turns;
        runs = runs_stay effect s r.reached.lock r.reached.lock m k n r.ended early beside_end last.ran (λ name other. refl) r.runs;
        held = held_stay effect s r.reached.lock m k x r.ended early (beside_of flags effect s lock k n x h) r.runs r.held;
        stands = new_lock_stays r.reached.lock k x same r.stands;
      })

  names_apart : (r : List Due) (others : List Stage) (name : List ℕ) → s ∷ [] ≡ stages_of r ++ others → bytes_eq s.name name ≡ false → AllByRecursion (λ d. bytes_eq d.stage.name name ≡ false) r
  names_apart r others name cut other = each_ended (λ x. bytes_eq x.name name ≡ false) r others (s ∷ []) cut (other, tt)

  lock_then : (x : Moment) → InTurns flags effect (s ∷ []) lock k n x → (IsSameUnder lock_path k x ⊎ IsRecorded flags effect (s ∷ []) lock k n x) → (IsSameUnder lock_path m x ⊎ IsRecorded flags effect (done ++ s ∷ []) start m n x)
  lock_then x h (inl same) = let at = upto.at in lock_before x h same at.remembered
  lock_then x h (inr r) =
      let at = upto.at in
      let kept : (name : List ℕ) → bytes_eq s.name name ≡ false → entry_of r.reached.lock name ≡ entry_of lock name =
      λ name other. turns_other is_own flags effect r.ended (state k.tree lock) r.reached name (names_apart r.ended r.others name r.cut other) r.turns in
      inr (record {
        ended = upto.ended ++ r.ended;
        others = r.others;
        cut = ap (λ (l : List Stage). done ++ l) r.cut ∙ sym (append_assoc done (stages_of r.ended) r.others) ∙ ap (λ (l : List Stage). (l ++ stages_of r.ended) ++ r.others) (sym upto.its) ∙ ap (λ (l : List Stage). l ++ r.others) (sym (stages_append upto.ended r.ended));
        reached = r.reached;
        turns = turns_append is_own flags effect upto.ended r.ended (state m.tree start) (state k.tree lock) r.reached upto.turns r.turns;
        runs = each_joined (λ d. d.choice ≡ Run → IsRunOf effect r.reached.lock m n d) upto.ended r.ended (runs_stay effect s lock r.reached.lock m k n upto.ended all_before beside_end last.ran kept upto.runs) (runs_sooner effect done r.reached.lock m k n r.ended at.ran r.runs);
        held = each_joined (λ d. d.choice ≡ Run → AreStored x.tree d.stage.made) upto.ended r.ended (held_stay effect s lock m k x upto.ended all_before (beside_of flags effect s lock k n x h) upto.runs upto.held) r.held;
        stands = r.stands;
      })

  -- a moment during the turn
  pub turns_then : (x : Moment) → InTurns flags effect (s ∷ []) lock k n x → InTurns flags effect (done ++ s ∷ []) start m n x
  turns_then x h =
      let at = upto.at in
      let area = whole_area (done ++ s ∷ []) in
      record {
        paths = keeps_paths_then area m k x (keeps_paths_in (whole_area done) area m k (λ p out. (whole_parts done (s ∷ []) p out).0) at.paths) (keeps_paths_in (whole_area (s ∷ [])) area k x (λ p out. (whole_parts done (s ∷ []) p out).1) h.paths);
        ways = λ p out. let parts = turns_area done (s ∷ []) p out in made_then_made p m k x (at.ways p parts.0) (h.ways p parts.1);
        dvc = made_then_made dvc_path m k x at.dvc h.dvc;
        folders = λ p in'. made_then_made p m k x (at.folders p in') (h.folders p in');
        places = λ name. kept_place_then (object_path name) m k x (at.places name) (h.places name);
        objects = λ name bytes e. h.objects name bytes (at.objects name bytes e);
        ran = have_run_then done (s ∷ []) m k x at.ran h.ran;
        remembered = lock_then x h h.remembered;
      }

  -- the turn has ended. A run has made what stands, and its job is among those that ran
  pub up_to_more : (d : Due) (new : Lock) → d.stage ≡ s → Turn is_own flags effect d (state k.tree lock) (state n.tree new) → (d.choice ≡ Run → IsRunOf effect new k n d) → IsUpTo flags effect (done ++ s ∷ []) start new m n
  up_to_more d new its turn run =
      let at = upto.at in
      let one : Turns is_own flags effect (d ∷ []) (state k.tree lock) (state n.tree new) = (state n.tree new, turn, refl) in
      let kept : (name : List ℕ) → bytes_eq s.name name ≡ false → entry_of new name ≡ entry_of lock name =
      λ name other. turns_other is_own flags effect (d ∷ []) (state k.tree lock) (state n.tree new) name (ap (λ (x : Stage). bytes_eq x.name name) its ∙ other, tt) one in
      record {
        at = turns_then n last;
        ended = upto.ended ++ d ∷ [];
        its = stages_append upto.ended (d ∷ []) ∙ ap (λ (l : List Stage). l ++ d.stage ∷ []) upto.its ∙ ap (λ (x : Stage). done ++ x ∷ []) its;
        turns = turns_append is_own flags effect upto.ended (d ∷ []) (state m.tree start) (state k.tree lock) (state n.tree new) upto.turns one;
        runs = each_joined (λ d. d.choice ≡ Run → IsRunOf effect new m n d) upto.ended (d ∷ []) (runs_stay effect s lock new m k n upto.ended all_before beside_end last.ran kept upto.runs) (runs_sooner effect done new m k n (d ∷ []) at.ran (run, tt));
        held = each_joined (λ d. d.choice ≡ Run → AreStored n.tree d.stage.made) upto.ended (d ∷ []) (held_stay effect s lock m k n upto.ended all_before beside_end upto.runs upto.held) (λ c. turn.stored (λ e. run_not (sym c ∙ e)), tt);
      }
    where
      run_not : Run ≡ Restore → ⊥
      run_not e = absurd (cc)

-- ---- stages of a plan

middle_any : (f : Path → Bool) (xs : List Stage) (s : Stage) (ys : List Stage) → list_any f (flat_map stage_outs (xs ++ s ∷ ys)) ≡ false → list_any f (stage_outs s) ≡ false
middle_any f [] s ys h = (or_parts (list_any f (stage_outs s)) (list_any f (flat_map stage_outs ys)) (sym (list_any-append f (stage_outs s) (flat_map stage_outs ys)) ∙ h)).0
middle_any f (x ∷ xs) s ys h =
    middle_any f xs s ys (or_parts (list_any f (stage_outs x)) (list_any f (flat_map stage_outs (xs ++ s ∷ ys))) (sym (list_any-append f (stage_outs x) (flat_map stage_outs (xs ++ s ∷ ys))) ∙ h)).1

middle_name : (xs : List Stage) (s : Stage) (ys : List Stage) (name : List ℕ) → is_among (map (λ x. x.name) (xs ++ s ∷ ys)) name ≡ false → bytes_eq s.name name ≡ false
middle_name [] s ys name h = (or_parts (bytes_eq s.name name) (is_among (map (λ x. x.name) ys) name) h).0
middle_name (x ∷ xs) s ys name h =
    middle_name xs s ys name (or_parts (bytes_eq x.name name) (is_among (map (λ x. x.name) (xs ++ s ∷ ys)) name) h).1

apart_each : (p : Path) (ps : List Path) → is_apart p ps ≡ true → AllByRecursion (λ q. overlap p q ≡ false) ps
apart_each p [] h = tt
apart_each p (q ∷ ps) h =
    let parts = and_parts (not (overlap p q)) (is_apart p ps) h in
    (not_false (overlap p q) parts.0, apart_each p ps parts.1)

cross_front : (xs ys : List Path) → are_apart (xs ++ ys) ≡ true → AllByRecursion (λ x. list_any (overlap x) ys ≡ false) xs
cross_front [] ys h = tt
cross_front (x ∷ xs) ys h =
    let parts = and_parts (is_apart x (xs ++ ys)) (are_apart (xs ++ ys)) h in
    (any_from (overlap x) ys (each_front (λ q. overlap x q ≡ false) xs ys (apart_each x (xs ++ ys) parts.0)).1, cross_front xs ys parts.1)

apart_rest : (xs ys : List Path) → are_apart (xs ++ ys) ≡ true → are_apart ys ≡ true
apart_rest [] ys h = h
apart_rest (x ∷ xs) ys h = apart_rest xs ys (and_parts (is_apart x (xs ++ ys)) (are_apart (xs ++ ys)) h).1

before_one : (x : Stage) (xs : List Stage) (s : Stage) (ys : List Stage) → IsStage x → IsKept is_own x → is_ordered (x ∷ (xs ++ s ∷ ys)) ≡ true → are_apart (stage_outs x ++ flat_map stage_outs (xs ++ s ∷ ys)) ≡ true → is_among (map (λ y. y.name) (xs ++ s ∷ ys)) x.name ≡ false → IsBefore x s
before_one x xs s ys is kept order apart name =
    let rest = flat_map stage_outs (xs ++ s ∷ ys) in
    let free = not_false _ (and_parts (not (list_any (λ p. list_any (overlap p) (stage_outs x ++ rest)) (read_paths x))) (is_ordered (xs ++ s ∷ ys)) order).0 in
    let reads = reads_each (λ p. IsApart is_own p × (list_any (overlap p) (stage_outs s) ≡ false)) x
    (each_two (IsApart is_own) (λ p. list_any (overlap p) (stage_outs x ++ rest) ≡ false) (λ p. IsApart is_own p × (list_any (overlap p) (stage_outs s) ≡ false)) (read_paths x)
    (λ p k h. (k, middle_any (overlap p) xs s ys (or_parts (list_any (overlap p) (stage_outs x)) (list_any (overlap p) rest) (sym (list_any-append (overlap p) (stage_outs x) rest) ∙ h)).1)) kept.reads (any_false (λ p. list_any (overlap p) (stage_outs x ++ rest)) (read_paths x) free)) in
    let outs_kept = each_mapped out_path (IsApart is_own) x.made kept.outs in
    let outs = each_mapped out_path (λ p. list_any (overlap p) rest ≡ false) x.made (cross_front (stage_outs x) rest apart) in
    record {
      stage = is;
      deps = reads.0;
      params = reads.1;
      outs =
          each_two (λ o. IsApart is_own o.path) (λ o. list_any (overlap o.path) rest ≡ false) (λ o. IsApart is_own o.path × (list_any (overlap o.path) (stage_outs s) ≡ false)) x.made
          (λ o k h. (k, middle_any (overlap o.path) xs s ys h)) outs_kept outs;
      name = middle_name xs s ys x.name name;
    }

before_on : (xs : List Stage) (s : Stage) (ys : List Stage) → AllByRecursion IsStage (xs ++ s ∷ ys) → AllByRecursion (IsKept is_own) (xs ++ s ∷ ys) → is_ordered (xs ++ s ∷ ys) ≡ true → are_apart (flat_map stage_outs (xs ++ s ∷ ys)) ≡ true → have_names (xs ++ s ∷ ys) ≡ true → AllByRecursion (λ a. IsBefore a s) xs
before_on [] s ys is kept order apart names = tt
before_on (x ∷ xs) s ys is kept order apart names =
    let rest = xs ++ s ∷ ys in
    let called = and_parts (not (is_among (map (λ y. y.name) rest) x.name)) (have_names rest) names in
    let ordered = and_parts _ (is_ordered rest) order in (
      before_one x xs s ys is.0 kept.0 order apart (not_false (is_among (map (λ y. y.name) rest) x.name) called.0),
      before_on xs s ys is.1 kept.1 ordered.1 (apart_rest (stage_outs x) (flat_map stage_outs rest) apart) called.1,
    )

pub before_planned : (xs : List Stage) (s : Stage) (ys : List Stage) → IsPlanned is_own (xs ++ s ∷ ys) → AllByRecursion (λ a. IsBefore a s) xs
before_planned xs s ys plan = before_on xs s ys plan.each plan.kept plan.order plan.apart plan.names
