-- A turn that was taken, beside the turn that is due.
--     PutLaw         what is asked of putting values: it leaves them, and nothing else but folders on the stage's ways
--     IsTurning      what is asked of the stage whose turn comes
--     turn_due       the choice that is due is the one that was made, and what it leaves shows the same as what was left
use Rattle.std.proofs.Common.{◌≡◌, ◌≢◌, ℕ, nat_lt, arith, Bool, true, false, cond, not, ◌||◌, ◌⊎◌, List, [], ◌∷◌, ◌++◌, length, drop, map, inl, inr, refl, sym, ap, subst, ◌∙◌, append_assoc, append-nil, Option, Some, None, is_some, IsSome, option_map, Ok}
use Rattle.std.specs.List.{AllByRecursion, list_any}
use Rattle.std.specs.FinMap.{get, retain_keys}
use Rattle.std.proofs.lemmas.Bool.{or_left, or_right, false≢true, cases_Bool, ltb-false, or_from, or_parts, or_cases, and_from, false_from_ne_true, and_parts}
use Rattle.std.proofs.lemmas.List.Folds.{list_any-append}
use Rattle.dvc_base.specs.Path.{Path, under, overlap, is_within}
use Rattle.dvc_base.specs.declared.data.ParamFile.{ParamFile}
use Rattle.dvc_base.proofs.PathLemmas.{under-refl, under-trans, under-split, under-append, under-length, under-overlap, under-same_length}
use Rattle.world_api.specs.Tree.{Tree, Item, folder, Value, nothing, content, members, IsTree, item_at, value_of, value_at}
use Rattle.world_api.specs.Effect.{Effect, gives, invocation_of, is_in_any}
use Rattle.world_api.specs.Calls.{parent, are_apart}
use Rattle.world_api.proofs.TreeLemmas.{path_cases, get_kept, item_gone, under_parent}
use Rattle.file_hash.specs.Naming.{named_of}
use Rattle.lock_files.specs.declared.entry.Entry.{Entry}
use Rattle.lock_files.specs.declared.entry.PathEntry.{PathEntry}
use Rattle.lock_files.specs.Book.{set}
use Rattle.repro_laws.specs.Stage.{out_path, stage_outs, value_inside, dep_value, is_nothing, params_at, job_with}
use Rattle.repro_laws.specs.Anew.{without, with_folders, is_file, after_outcome, run_with, anew_step}
use Rattle.repro_laws.specs.Entries.{path_named, in_front, all_named, entry_from, seen_dep, seen_out, entry_at}
use Rattle.repro_laws.specs.Refusals.{see_fault, run_fault}
use Rattle.repro_laws.specs.Due.{Standing, standing_of, with_entry, after_skip, after_run, run_next, standing_next, params_or_none, params_in, chosen_in, next_in, choice_fault}
use Rattle.repro_laws.specs.Turns.{State, is_way, IsLeftAt, OthersStay, Skips, Runs}
use Rattle.repro_laws.specs.Headline.{IsOwn}
use Rattle.repro_laws.specs.declared.stage.Out.{Out}
use Rattle.repro_laws.specs.declared.stage.Stage.{Stage}
use Rattle.repro_laws.specs.declared.stage.Flags.{Flags}
use Rattle.repro_laws.specs.declared.stage.Choice.{Choice}
use Rattle.repro_laws.specs.declared.stage.Choice.TheVariants.{Skip, Run}
use Rattle.repro_laws.proofs.FileLemmas.{only_file, file_at, Roads}
use Rattle.repro_laws.proofs.AlikeLemmas.{is_inside, AreRoads, Alike, each_on, each_two, each_map, value_kept}
use Rattle.repro_laws.proofs.GrowLemmas.{folder_or, only_folder_or, below_inside, IsFree, not_own_above, is_file_alike}
use Rattle.repro_laws.proofs.ParamLemmas.{params_by_files}
use Rattle.repro_laws.proofs.SeenLemmas.{IsSeenIn, AreThere, deps_there, any_same, any_false, any_from, params_alike, entry_alike, invocation_same, invocation_alike, run_fault_alike, missing_alike}
use Rattle.repro_laws.proofs.DueLemmas.{IsLater, Related}

-- ---- values that are put

-- values of a tree stand at the outputs, and folders on the ways; all else is as it was
pub record IsPut (s : Stage) (t u : Tree) : Type 0 where
  pub tree : Tree
  pub step : after_outcome (with_folders t [] s.dir) (stage_outs s) (gives (map (value_at u) (stage_outs s))) ≡ Some tree
  pub root : file_at tree [] ≡ file_at t []
  pub others : (q : Path) → is_in_any (stage_outs s) q ≡ false → item_at tree q ≡ cond (is_way s q) (folder_or (item_at t q)) (item_at t q)
  pub files : (q : Path) → is_in_any (stage_outs s) q ≡ true → file_at tree q ≡ file_at u q
  pub kinds : AllByRecursion (λ p. item_at tree p ≡ item_at u p) (stage_outs s)
  pub roads : AreRoads (stage_outs s) tree
  pub kept : Roads tree

-- what stands in a tree at the outputs can be put where nothing stands, and no file is in the way
abbrev pub PutLaw : Type 0
PutLaw =
    (s : Stage) (t u : Tree) → IsTree u → Roads t → file_at t [] ≡ None → are_apart (stage_outs s) ≡ true
    → AllByRecursion (λ p. is_nothing (value_at u p) ≡ false) (stage_outs s)
    → ((q : Path) → is_in_any (stage_outs s) q ≡ true → item_at t q ≡ None)
    → ((q : Path) → is_way s q ≡ true → is_file (item_at t q) ≡ false)
    → IsPut s t u

-- ---- trees

item_push : (t : Tree) (q : Path) (c : List ℕ) → item_at t (q ++ c ∷ []) ≡ get t (q ++ c ∷ [])
item_push t [] c = refl
item_push t (d ∷ q) c = refl

some_above : (t : Tree) → IsTree t → (q : Path) (c : List ℕ) (rest : Path) → IsSome (item_at t (q ++ c ∷ rest)) → item_at t q ≡ Some folder
some_above t tree q c [] some = tree.parents q c (subst (λ (o : Option Item). IsSome o) (item_push t q c) some)
some_above t tree q c (d ∷ rest) some =
    let next : item_at t (q ++ c ∷ []) ≡ Some folder =
    some_above t tree (q ++ c ∷ []) d rest (subst (λ (x : Path). IsSome (item_at t x)) (sym (append_assoc q (c ∷ []) (d ∷ rest))) some) in
    tree.parents q c (ap is_some (sym (item_push t q c) ∙ next))

-- above what stands there are folders
pub stand_above : (t : Tree) → IsTree t → (q p : Path) → under q p ≡ true → q ≢ p → IsSome (item_at t p) → item_at t q ≡ Some folder
stand_above t tree q p u ne some = by (drop (length q) p) (under-split q p u)
  where
    by : (rest : Path) → p ≡ q ++ rest → item_at t q ≡ Some folder
    by [] cut = absurd (ne (sym (append-nil q) ∙ sym cut))
    by (c ∷ rest) cut = some_above t tree q c rest (subst (λ (x : Path). IsSome (item_at t x)) cut some)

file_some : (o : Option Item) → (only_file o ≡ None → ⊥) → IsSome o
file_some None h = absurd (h refl)
file_some (Some item) h = refl

none_or : (o : Option (List ℕ)) → ((o ≡ None → ⊥) → ⊥) → o ≡ None
none_or None h = refl
none_or (Some bytes) h = absurd (h (λ e. absurd (cc)))

folder_none : (o : Option Item) → o ≡ Some folder → o ≡ None → ⊥
folder_none o e f = absurd (clash (sym e ∙ f))
  where
    clash : Some folder ≡ None → ⊥
    clash e = absurd (cc)

pub tree_roads : (t : Tree) → IsTree t → (p : Path) → item_at t p ≡ None → (r : Path) → file_at t (p ++ r) ≡ None
tree_roads t tree [] e r = absurd (folder_none (Some folder) refl e)
tree_roads t tree (a ∷ p) e [] = ap (file_at t) (append-nil (a ∷ p)) ∙ ap only_file e
tree_roads t tree (a ∷ p) e (c ∷ r) =
    none_or (file_at t ((a ∷ p) ++ c ∷ r)) (λ some. folder_none (item_at t (a ∷ p)) (some_above t tree (a ∷ p) c r (file_some (get t ((a ∷ p) ++ c ∷ r)) some)) e)

pub roads_of : (done : List Path) (t : Tree) → IsTree t → AreRoads done t
roads_of done t tree p inside e r = tree_roads t tree p e r

-- ---- what is taken away

pub get_without : (ps : List Path) (t : Tree) (q : Path) → is_in_any ps q ≡ false → get (without t ps) q ≡ get t q
get_without [] t q h = refl
get_without (p ∷ ps) t q h =
    let parts = or_parts (under p q) (is_in_any ps q) h in
    get_without ps (retain_keys t (λ x. not (under p x))) q parts.1 ∙ get_kept t (λ x. not (under p x)) q (ap not parts.0)

pub item_without : (ps : List Path) (t : Tree) (q : Path) → is_in_any ps q ≡ false → item_at (without t ps) q ≡ item_at t q
item_without ps t [] h = refl
item_without ps t (c ∷ q) h = get_without ps t (c ∷ q) h

not_above_root : (p : Path) → p ≢ [] → under p [] ≡ true → ⊥
not_above_root [] ne u = ne refl
not_above_root (c ∷ p) ne u = false≢true u

pub item_taken : (ps : List Path) (t : Tree) (q : Path) → AllByRecursion (λ p. p ≢ []) ps → is_in_any ps q ≡ true → item_at (without t ps) q ≡ None
item_taken [] t q roots h = absurd (false≢true h)
item_taken (p ∷ ps) t q roots h =
    let next = retain_keys t (λ x. not (under p x)) in
    elim (cases_Bool (is_in_any ps q)) [
      | inl inside ↦ item_taken ps next q roots.1 inside
      | inr out ↦
          let u : under p q ≡ true = one (or_cases (under p q) (is_in_any ps q) h) out in
          item_without ps next q out ∙ item_gone t (λ x. not (under p x)) q (λ s. not_above_root p roots.0 (ap (under p) (sym s) ∙ u)) (ap not u)
    ]
  where
    one : {a b : Bool} → (a ≡ true) ⊎ (b ≡ true) → b ≡ false → a ≡ true
    one (inl x) f = x
    one (inr x) f = absurd (false≢true (sym f ∙ x))

-- what overlaps none of the paths lies in none of them, and nor does what lies below
pub outside_below : (ps : List Path) (p r : Path) → list_any (overlap p) ps ≡ false → is_in_any ps (p ++ r) ≡ false
outside_below [] p r h = refl
outside_below (o ∷ os) p r h =
    let parts = or_parts (overlap p o) (list_any (overlap p) os) h in
    or_from (under o (p ++ r)) (is_in_any os (p ++ r)) (false_from_ne_true (under o (p ++ r)) (λ u. false≢true (sym parts.0 ∙ under-overlap p o (p ++ r) (under-append p r) u))) (outside_below os p r parts.1)

file_without : (ps : List Path) (t : Tree) (p : Path) → list_any (overlap p) ps ≡ false → file_at (without t ps) p ≡ file_at t p
file_without ps t p h =
    ap only_file (get_without ps t p (subst (λ (x : Path). is_in_any ps x ≡ false) (append-nil p) (outside_below ps p [] h)))

pub value_without : (ps : List Path) (t : Tree) (p : Path) → list_any (overlap p) ps ≡ false → value_at (without t ps) p ≡ value_at t p
value_without ps t p h =
    value_kept t (without t ps) p (item_without ps t p (subst (λ (x : Path). is_in_any ps x ≡ false) (append-nil p) (outside_below ps p [] h))) (λ r. ap only_file (get_without ps t (p ++ r) (outside_below ps p r h)))

-- ---- names say that something is there

some_front : (o : Option PathEntry) (more : Option (List PathEntry)) → IsSome (in_front o more) → IsSome o × IsSome more
some_front None more h = absurd (false≢true h)
some_front (Some e) None h = absurd (false≢true h)
some_front (Some e) (Some es) h = (refl, refl)

named_there : (text : List ℕ) (v : Value) → IsSome (path_named text (named_of v)) → is_nothing v ≡ false
named_there text nothing h = absurd (false≢true h)
named_there text (content bytes) h = refl
named_there text (members m) h = refl

outs_there : (t : Tree) (os : List Out) → IsSome (all_named (map (seen_out t) os)) → AllByRecursion (λ o. is_nothing (value_at t o.path) ≡ false) os
outs_there t [] h = tt
outs_there t (o ∷ os) h =
    let parts = some_front (path_named o.text (named_of (value_at t o.path))) (all_named (map (seen_out t) os)) h in
    (named_there o.text (value_at t o.path) parts.0, outs_there t os parts.1)

entry_outs : (commands : List (List ℕ)) (ps : List ParamFile) (deps outs : Option (List PathEntry)) (e : Entry) → entry_from commands ps deps outs ≡ Some e → IsSome outs
entry_outs commands ps None outs e h = absurd (cc)
entry_outs commands ps (Some deps) None e h = absurd (cc)
entry_outs commands ps (Some deps) (Some outs) e h = refl

pub made_there : (s : Stage) (ps : List ParamFile) (t : Tree) (e : Entry) → entry_at s ps t ≡ Some e → AllByRecursion (λ p. is_nothing (value_at t p) ≡ false) (stage_outs s)
made_there s ps t e h =
    each_map out_path (λ p. is_nothing (value_at t p) ≡ false) s.made (outs_there t s.made (entry_outs s.commands ps (all_named (map (seen_dep t) s.deps)) (all_named (map (seen_out t) s.made)) e h))

value_some : (t : Tree) (p : Path) (o : Option Item) → is_nothing (value_of t p o) ≡ false → IsSome o
value_some t p None h = absurd (false≢true (sym h))
value_some t p (Some item) h = refl

-- ---- paths

at_here : (p q : Path) → under p q ≡ true → is_within q p ≡ false → p ≡ q
at_here p q u w =
    let short : nat_lt (length p) (length q) ≡ false =
    false_from_ne_true (nat_lt (length p) (length q)) (λ e. false≢true (sym w ∙ and_from (under p q) (nat_lt (length p) (length q)) u e)) in
    under-same_length p q u (omega (arith, under-length p q u, ltb-false (length p) (length q) short))

-- q lies in the paths, and not inside one: it is one of them
pub at_one : (P : Path → Type 0) (ps : List Path) (q : Path) → AllByRecursion P ps → is_in_any ps q ≡ true → is_inside ps q ≡ false → P q
at_one P [] q all h out = absurd (false≢true h)
at_one P (p ∷ ps) q all h out =
    let parts = or_parts (is_within q p) (is_inside ps q) out in
    elim (or_cases (under p q) (is_in_any ps q) h) [
      | inl u ↦ subst P (at_here p q u parts.0) all.0
      | inr rest ↦ at_one P ps q all.1 rest parts.1
    ]

-- a test that passes somewhere
pub any_one : {A : Type 0} (P : A → Type 0) (f : A → Bool) (xs : List A) → AllByRecursion P xs → list_any f xs ≡ true → (x : A) × (P x × (f x ≡ true))
any_one P f [] all h = absurd (false≢true h)
any_one P f (x ∷ xs) all h =
    elim (or_cases (f x) (list_any f xs) h) [
      | inl u ↦ (x, (all.0, u))
      | inr rest ↦ any_one P f xs all.1 rest
    ]

above_stood : (n : Tree) → IsTree n → (q p : Path) → under q p ≡ true → under p q ≡ false → is_nothing (value_at n p) ≡ false → item_at n q ≡ Some folder
above_stood n tree q p u out there =
    stand_above n tree q p u (λ e. false≢true (sym out ∙ ap (under p) e ∙ under-refl p)) (value_some n p (item_at n p) there)

-- ---- a stage whose turn comes

pub record IsTurning (own : Path → Bool) (done : List Path) (s : Stage) : Type 0 where
  pub later : IsLater own done s
  pub after : IsSeenIn own (done ++ stage_outs s) s
  pub apart : are_apart (stage_outs s) ≡ true
  pub reads : AllByRecursion (λ d. list_any (overlap d.path) (stage_outs s) ≡ false) s.deps
  pub params : AllByRecursion (λ w. list_any (overlap w.path) (stage_outs s) ≡ false) s.params

root_in : (ps : List Path) → AllByRecursion (λ p. p ≢ []) ps → is_in_any ps [] ≡ true → ⊥
root_in [] roots h = false≢true h
root_in (p ∷ ps) roots h =
    elim (or_cases (under p []) (is_in_any ps []) h) [ inl u ↦ not_above_root p roots.0 u | inr rest ↦ root_in ps roots.1 rest ]

below_in : (ps : List Path) (p q : Path) → is_in_any ps p ≡ true → under p q ≡ true → is_in_any ps q ≡ true
below_in [] p q h u = absurd (false≢true h)
below_in (o ∷ os) p q h u =
    elim (or_cases (under o p) (is_in_any os p) h) [
      | inl here ↦ or_left (under o q) (is_in_any os q) (under-trans o p q here u)
      | inr rest ↦ or_right (under o q) (is_in_any os q) (below_in os p q rest u)
    ]

either : (a b : Bool) → (a || b) ≡ false → (a ≡ false) × (b ≡ false)
either a b h = or_parts a b h

both_inside : (done outs : List Path) (q : Path) → is_inside (done ++ outs) q ≡ false → (is_inside done q ≡ false) × (is_inside outs q ≡ false)
both_inside done outs q h = or_parts (is_inside done q) (is_inside outs q) (sym (list_any-append (is_within q) done outs) ∙ h)

inside_cases : (done outs : List Path) (q : Path) → is_inside (done ++ outs) q ≡ true → (is_inside done q ≡ true) ⊎ (is_inside outs q ≡ true)
inside_cases done outs q h = or_cases (is_inside done q) (is_inside outs q) (sym (list_any-append (is_within q) done outs) ∙ h)

inside_any : (ps : List Path) (q : Path) → is_inside ps q ≡ true → is_in_any ps q ≡ true
inside_any ps q h = subst (λ (x : Path). is_in_any ps x ≡ true) (append-nil q) (below_inside ps q [] h)

module _ (own : Path → Bool) (area : IsOwn own) (done : List Path) (s : Stage) (turning : IsTurning own done s) where
  roots : AllByRecursion (λ p. p ≢ []) (stage_outs s)
  roots = each_on (IsFree own done) (λ p. p ≢ []) (stage_outs s) (λ p f. f.root) turning.later.free

  -- what lies in the stage's outputs lies in none that is done, and is not the tool's own
  outs_far : (q : Path) → is_in_any (stage_outs s) q ≡ true → (is_in_any done q ≡ false) × (own q ≡ false)
  outs_far q h =
      let found = any_one (IsFree own done) (λ p. under p q) (stage_outs s) turning.later.free h in
      let free = found.1.0 in
      (subst (λ (x : Path). is_in_any done x ≡ false) (sym (under-split found.0 q found.1.1)) (free.far (drop (length found.0) q)), free.apart q found.1.1)

  done_out : (q : Path) → is_in_any done q ≡ true → is_in_any (stage_outs s) q ≡ false
  done_out q h = false_from_ne_true (is_in_any (stage_outs s) q) (λ e. false≢true (sym (outs_far q e).0 ∙ h))

  way_own : (q : Path) → is_way s q ≡ true → own q ≡ false
  way_own q w =
      elim (or_cases (under q s.dir) (list_any (λ out. under q (parent out)) (stage_outs s)) w) [
        | inl u ↦ not_own_above own done area q s.dir u turning.later.seen.kept.dir
        | inr o ↦
            let found = any_one (IsFree own done) (λ out. under q (parent out)) (stage_outs s) turning.later.free o in
            let free = found.1.0 in
            not_own_above own done area q found.0 (under-trans q (parent found.0) found.0 found.1.1 (under_parent found.0)) (free.apart found.0 (under-refl found.0))
      ]

  -- folders stand on the ways of a run that ended
  ways_stand : (n : Tree) → IsTree n → AllByRecursion (λ p. is_nothing (value_at n p) ≡ false) (stage_outs s) → (is_in_any (stage_outs s) s.dir ≡ false → item_at n s.dir ≡ Some folder) → (q : Path) → is_way s q ≡ true → is_in_any (stage_outs s) q ≡ false → item_at n q ≡ Some folder
  ways_stand n tree there dir q w out =
      let P : Path → Type 0 = λ p. (is_nothing (value_at n p) ≡ false) × (under p q ≡ false) in
      let all : AllByRecursion P (stage_outs s) =
      each_two (λ p. is_nothing (value_at n p) ≡ false) (λ p. under p q ≡ false) P (stage_outs s) (λ p a b. (a, b)) there (any_false (λ p. under p q) (stage_outs s) out) in
      elim (or_cases (under q s.dir) (list_any (λ o. under q (parent o)) (stage_outs s)) w) [
        | inl u ↦ elim (cases_Bool (is_in_any (stage_outs s) s.dir)) [
          | inl inside ↦
              let found = any_one P (λ p. under p s.dir) (stage_outs s) all inside in
              let up = or_cases (under q found.0) (under found.0 q) (under-overlap q found.0 s.dir u found.1.1) in
              above_stood n tree q found.0 (elim up [ inl e ↦ e | inr e ↦ absurd (false≢true (sym found.1.0.1 ∙ e)) ]) found.1.0.1 found.1.0.0
          | inr apart ↦
              elim (path_cases q s.dir) [
                | inl same ↦ ap (item_at n) same ∙ dir apart
                | inr ne ↦ stand_above n tree q s.dir u ne (ap is_some (dir apart))
              ]
        ]
        | inr o ↦
            let found = any_one P (λ p. under q (parent p)) (stage_outs s) all o in
            above_stood n tree q found.0 (under-trans q (parent found.0) found.0 found.1.1 (under_parent found.0)) found.1.0.1 found.1.0.0
      ]

  -- ---- a skip

  file_same_at : (m n : Tree) → IsTree m → IsTree n → (q : Path) → item_at n q ≡ item_at m q → file_at n q ≡ file_at m q
  file_same_at m n tm tn [] e = ap only_file (tn.rootless ∙ sym tm.rootless)
  file_same_at m n tm tn (c ∷ q) e = ap only_file e

  -- where the trees are the same outside what is done, the stage's outputs may be done as well
  alike_more : (m f : Tree) → IsTree m → Alike own done m f → AreRoads (done ++ stage_outs s) f
  alike_more m f tree a q inside e r =
      elim (inside_cases done (stage_outs s) q inside) [
        | inl d ↦ a.roads_too q d e r
        | inr o ↦
            let here = outs_far q (inside_any (stage_outs s) q o) in
            let below = outs_far (q ++ r) (below_inside (stage_outs s) q r o) in
            let out : is_inside done q ≡ false =
            false_from_ne_true (is_inside done q) (λ i. false≢true (sym here.0 ∙ inside_any done q i)) in
            a.files (q ++ r) below.1 ∙ tree_roads m tree q (sym (a.kinds q here.1 out) ∙ e) r
      ]

  skip_alike : (m n f : Tree) → IsTree m → IsTree n → Alike own done m f → ((p : Path) → own p ≡ false → item_at n p ≡ item_at m p) → Alike own (done ++ stage_outs s) n f
  skip_alike m n f tm tn a same =
      record {
        files = λ q k. a.files q k ∙ sym (file_same_at m n tm tn q (same q k));
        kinds = λ q k out. a.kinds q k (both_inside done (stage_outs s) q out).0 ∙ sym (same q k);
        roads = roads_of (done ++ stage_outs s) n tn;
        roads_too = alike_more m f tm a;
      }

  -- ---- a run

  left_file : (m n : Tree) → IsTree m → IsTree n → (q : Path) → IsLeftAt (is_way s) m n q → file_at n q ≡ file_at m q
  left_file m n tm tn q (inl e) = file_same_at m n tm tn q e
  left_file m n tm tn [] (inr e) = ap only_file (tn.rootless ∙ sym tm.rootless)
  left_file m n tm tn (c ∷ q) (inr e) = ap only_file e.1.1 ∙ sym (ap only_file e.1.0)

  cond_file : (b : Bool) (o : Option Item) → only_file (cond b (folder_or o) o) ≡ only_file o
  cond_file true o = only_folder_or o
  cond_file false o = refl

  left_kind : (m n : Tree) (q : Path) (b : Bool) (o : Option Item) → is_way s q ≡ b → item_at m q ≡ o → (b ≡ true → item_at n q ≡ Some folder) → IsLeftAt (is_way s) m n q → cond b (folder_or o) o ≡ item_at n q
  left_kind m n q true None w e stands left = sym (stands refl)
  left_kind m n q true (Some item) w e stands (inl same) = sym (same ∙ e)
  left_kind m n q true (Some item) w e stands (inr new) = absurd (clash (sym e ∙ new.1.0))
    where
      clash : {x : Item} → Some x ≡ None → ⊥
      clash e = absurd (cc)
  left_kind m n q false o w e stands (inl same) = sym (same ∙ e)
  left_kind m n q false o w e stands (inr new) = absurd (false≢true (sym w ∙ new.0))

  cond_none : (b : Bool) (o : Option Item) → cond b (folder_or o) o ≡ None → o ≡ None
  cond_none true None e = refl
  cond_none true (Some item) e = e
  cond_none false o e = e

  module _ (m n f : Tree) (tm : IsTree m) (tn : IsTree n) (a : Alike own done m f) (others : OthersStay own s m n) (there : AllByRecursion (λ p. is_nothing (value_at n p) ≡ false) (stage_outs s)) (dir : is_in_any (stage_outs s) s.dir ≡ false → item_at n s.dir ≡ Some folder) where
    abbrev base : Tree
    base = without f (stage_outs s)

    -- no file is in the way
    way_free : (q : Path) → is_way s q ≡ true → is_file (item_at base q) ≡ false
    way_free q w =
        elim (cases_Bool (is_in_any (stage_outs s) q)) [
          | inl inside ↦ ap is_file (item_taken (stage_outs s) f q roots inside)
          | inr out ↦
              let own_q = way_own q w in
              ap is_file (item_without (stage_outs s) f q out) ∙ is_file_alike own done m f q a own_q ∙ not_file q (others q out own_q) (ways_stand n tn there dir q w out)
        ]
      where
        not_file : (q : Path) → IsLeftAt (is_way s) m n q → item_at n q ≡ Some folder → is_file (item_at m q) ≡ false
        not_file q (inl same) e = ap is_file (sym same ∙ e)
        not_file q (inr new) e = ap is_file new.1.0

    put_files : (p : IsPut s base n) (q : Path) → own q ≡ false → file_at p.tree q ≡ file_at n q
    put_files p q k =
        elim (cases_Bool (is_in_any (stage_outs s) q)) [
          | inl inside ↦ p.files q inside
          | inr out ↦ outside_file q k out
        ]
      where
        outside_file : (q : Path) → own q ≡ false → is_in_any (stage_outs s) q ≡ false → file_at p.tree q ≡ file_at n q
        outside_file [] k out =
            p.root ∙ ap only_file (get_without (stage_outs s) f [] out) ∙ a.files [] k ∙ ap only_file (tm.rootless ∙ sym tn.rootless)
        outside_file (c ∷ q) k out =
            ap only_file (p.others (c ∷ q) out) ∙ cond_file (is_way s (c ∷ q)) (item_at base (c ∷ q)) ∙ ap only_file (get_without (stage_outs s) f (c ∷ q) out) ∙ a.files (c ∷ q) k ∙ sym (left_file m n tm tn (c ∷ q) (others (c ∷ q) out k))

    put_kinds : (p : IsPut s base n) (q : Path) → own q ≡ false → is_inside (done ++ stage_outs s) q ≡ false → item_at p.tree q ≡ item_at n q
    put_kinds p q k far =
        let parts = both_inside done (stage_outs s) q far in
        elim (cases_Bool (is_in_any (stage_outs s) q)) [
          | inl inside ↦ at_one (λ x. item_at p.tree x ≡ item_at n x) (stage_outs s) q p.kinds inside parts.1
          | inr out ↦
              p.others q out ∙ ap (λ o. cond (is_way s q) (folder_or o) o) (item_without (stage_outs s) f q out ∙ a.kinds q k parts.0) ∙ left_kind m n q (is_way s q) (item_at m q) refl refl (λ w. ways_stand n tn there dir q w out) (others q out k)
        ]

    put_roads : (p : IsPut s base n) → AreRoads (done ++ stage_outs s) p.tree
    put_roads p q inside e r =
        elim (inside_cases done (stage_outs s) q inside) [
          | inl d ↦
              let out = done_out q (inside_any done q d) in
              let below = done_out (q ++ r) (below_inside done q r d) in
              let gone : item_at f q ≡ None =
              sym (item_without (stage_outs s) f q out) ∙ cond_none (is_way s q) (item_at base q) (sym (p.others q out) ∙ e) in
              below_file q r e below (a.roads_too q d gone r)
          | inr o ↦ p.roads q o e r
        ]
      where
        below_file : (q r : Path) → item_at p.tree q ≡ None → is_in_any (stage_outs s) (q ++ r) ≡ false → file_at f (q ++ r) ≡ None → file_at p.tree (q ++ r) ≡ None
        below_file [] r e out none = absurd (folder_none (Some folder) refl e)
        below_file (c ∷ q) r e out none =
            ap only_file (p.others (c ∷ (q ++ r)) out) ∙ cond_file (is_way s (c ∷ (q ++ r))) (item_at base (c ∷ (q ++ r))) ∙ ap only_file (get_without (stage_outs s) f (c ∷ (q ++ r)) out) ∙ none

    pub put_alike : (p : IsPut s base n) → Alike own (done ++ stage_outs s) n p.tree
    put_alike p =
        record {
          files = put_files p;
          kinds = put_kinds p;
          roads = roads_of (done ++ stage_outs s) n tn;
          roads_too = put_roads p;
        }

    base_roads : Roads f → Roads base
    base_roads kept p q some w =
        elim (cases_Bool (is_in_any (stage_outs s) q)) [
          | inl inside ↦ absurd (false≢true (sym (ap is_some (taken_file q inside)) ∙ some))
          | inr out ↦
              let above : is_in_any (stage_outs s) p ≡ false =
              false_from_ne_true (is_in_any (stage_outs s) p) (λ e. false≢true (sym out ∙ below_in (stage_outs s) p q e (and_parts (under p q) (nat_lt (length p) (length q)) w).0)) in
              item_without (stage_outs s) f p above ∙ kept p q (ap (λ o. is_some (only_file o)) (sym (get_without (stage_outs s) f q out)) ∙ some) w
        ]
      where
        taken_file : (q : Path) → is_in_any (stage_outs s) q ≡ true → file_at base q ≡ None
        taken_file [] inside = absurd (root_in (stage_outs s) roots inside)
        taken_file (c ∷ q) inside = ap only_file (item_taken (stage_outs s) f (c ∷ q) roots inside)

    base_root : file_at base [] ≡ None
    base_root =
        let out : is_in_any (stage_outs s) [] ≡ false = false_from_ne_true (is_in_any (stage_outs s) []) (λ e. root_in (stage_outs s) roots e) in
        ap only_file (get_without (stage_outs s) f [] out) ∙ a.files [] area.root ∙ ap only_file tm.rootless

    pub put_at : PutLaw → Roads f → IsPut s base n
    put_at law kept = law s base n tn (base_roads kept) base_root turning.apart there (λ q inside. item_taken (stage_outs s) f q roots inside) way_free

  -- ---- what is due of a turn

  pub record IsNext (flags : Flags) (effect : Effect) (n : State) (st : Standing) : Type 0 where
    pub next : Standing
    pub step : next_in flags effect s st ≡ Some next
    pub fault : choice_fault effect s (params_in s st) (chosen_in flags s st).0 st.tree ≡ None
    pub related : Related own (done ++ stage_outs s) (standing_of n.tree n.lock) next
    pub roads : Roads next.tree

  reads_kept : (f : Tree) → AllByRecursion (λ d. value_at (without f (stage_outs s)) d.path ≡ value_at f d.path) s.deps
  reads_kept f =
      each_on (λ d. list_any (overlap d.path) (stage_outs s) ≡ false) (λ d. value_at (without f (stage_outs s)) d.path ≡ value_at f d.path) s.deps (λ d h. value_without (stage_outs s) f d.path h) turning.reads

  params_kept : (f : Tree) → params_at s (without f (stage_outs s)) ≡ params_at s f
  params_kept f =
      params_by_files s f (without f (stage_outs s)) (each_on (λ w. list_any (overlap w.path) (stage_outs s) ≡ false) (λ w. file_at (without f (stage_outs s)) w.path ≡ file_at f w.path) s.params (λ w h. file_without (stage_outs s) f w.path h) turning.params)

  -- a step of running anew, on the tree without the outputs
  pub anew_taken : (effect : Effect) (ps : List ParamFile) (m n f : Tree) → Alike own done m f → AreThere m s → params_at s m ≡ Ok ps → effect (invocation_of (job_with s ps) m) ≡ gives (map (value_at n) (stage_outs s)) → (p : IsPut s (without f (stage_outs s)) n) → anew_step effect s (without f (stage_outs s)) ≡ Some p.tree
  anew_taken effect ps m n f a there read values p =
      let from = without f (stage_outs s) in
      let is = turning.later.seen.stage in
      let missing : list_any (λ d. is_nothing (dep_value from d)) s.deps ≡ false =
      any_same (λ d. is_nothing (dep_value f d)) (λ d. is_nothing (dep_value from d)) s.deps (each_on (λ d. value_at from d.path ≡ value_at f d.path) (λ d. is_nothing (dep_value from d) ≡ is_nothing (dep_value f d)) s.deps (λ d h. ap (λ v. is_nothing (value_inside d.inside v)) h) (reads_kept f)) ∙ missing_alike own done s m f turning.later.seen a ∙ any_from (λ d. is_nothing (dep_value m d)) s.deps there in
      let gave : effect (invocation_of (job_with s ps) from) ≡ gives (map (value_at n) (stage_outs s)) =
      ap effect (invocation_same s ps f from is (reads_kept f) ∙ invocation_alike own done s m f turning.later.seen a ps there) ∙ values in
      ap (λ b. cond b None (run_with effect s from (params_at s from))) missing
      ∙ ap (run_with effect s from) (params_kept f ∙ params_alike own done s m f turning.later.seen a ∙ read)
      ∙ ap (after_outcome (with_folders from [] s.dir) (stage_outs s)) gave
      ∙ p.step

  pub run_due : (law : PutLaw) (flags : Flags) (effect : Effect) (ps : List ParamFile) (m n : State) (st : Standing) → IsTree m.tree → IsTree n.tree → params_at s m.tree ≡ Ok ps → see_fault s m.tree ≡ None → Related own done (standing_of m.tree m.lock) st → Roads st.tree → chosen_in flags s st ≡ (Run, None) → Runs own effect s ps m n → IsNext flags effect n st
  run_due law flags effect ps m n st tm tn read see related kept chosen run =
      let is = turning.later.seen.stage in
      let a = related.trees in
      let there = deps_there s m.tree is see in
      let made = made_there s ps n.tree run.entry run.present in
      let put = put_at m.tree n.tree st.tree tm tn a run.others made run.dir law kept in
      let alike = put_alike m.tree n.tree st.tree tm tn a run.others made run.dir put in
      let from = without st.tree (stage_outs s) in
      let quiet : run_fault effect s ps st.tree ≡ None =
      run_fault_alike own done s m.tree st.tree turning.later.seen a area effect ps there ∙ run.fault in
      let step : run_next effect s ps st ≡ Some (after_run s ps st put.tree) =
      ap (λ o. cond (is_some o) None (option_map (after_run s ps st) (anew_step effect s from))) quiet ∙ ap (option_map (after_run s ps st)) (anew_taken effect ps m.tree n.tree st.tree a there read run.values put) in
      let own_ps : params_in s st ≡ ps = ap params_or_none (params_alike own done s m.tree st.tree turning.later.seen a ∙ read) in
      record {
        next = after_run s ps st put.tree;
        step = ap (λ c. standing_next effect s (params_in s st) c st) chosen ∙ ap (λ x. run_next effect s x st) own_ps ∙ step;
        fault = ap (λ (c : Choice × Option Entry). choice_fault effect s (params_in s st) c.0 st.tree) chosen ∙ ap (λ x. run_fault effect s x st.tree) own_ps ∙ quiet;
        related = record {
          trees = alike;
          locks = ap (with_entry st.lock s.name) (entry_alike own (done ++ stage_outs s) s n.tree put.tree turning.after alike ps ∙ run.present) ∙ ap (λ l. set l s.name run.entry) related.locks ∙ sym run.lock;
        };
        roads = put.kept;
      }

  pub skip_due : (flags : Flags) (effect : Effect) (m n : State) (st : Standing) → IsTree m.tree → IsTree n.tree → Related own done (standing_of m.tree m.lock) st → Roads st.tree → chosen_in flags s st ≡ (Skip, None) → Skips own s m n → IsNext flags effect n st
  skip_due flags effect m n st tm tn related kept chosen skip =
      record {
        next = after_skip s st;
        step = ap (λ c. standing_next effect s (params_in s st) c st) chosen;
        fault = ap (λ (c : Choice × Option Entry). choice_fault effect s (params_in s st) c.0 st.tree) chosen;
        related = record {
          trees = skip_alike m.tree n.tree st.tree tm tn related.trees skip.others;
          locks = related.locks ∙ sym skip.lock;
        };
        roads = kept;
      }
