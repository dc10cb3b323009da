-- The stages of a plan are usable, whatever stands in the tree.
--     outs_each, reads_each     what holds of each path of a written stage holds of those of the stage that has a turn
--     far_apart                 a path apart from what is the tool's own has none of it below
--     is_stage, kept, outside   what is asked of one stage
--     names_from                no two names are one
--     any_planned, marked       the outputs of the plan are those of its stages as they are written, and so dependencies are marked
--     ordered                   what a stage reads overlaps no output of its own or of a later one
--     usable                    all that is asked of the stages of a plan
use Rattle.std.proofs.Common.{◌≡◌, ℕ, Bool, true, false, not, ◌&&◌, ◌||◌, ◌==◌, cond, List, [], ◌∷◌, length, map, refl, sym, ap, ◌∙◌, arith, bytes_eq, Option, Some, None, slice_get}
use Rattle.std.specs.List.{AllByRecursion, list_any, flat_map, cons_option}
use Rattle.std.proofs.lemmas.Bool.{and_from, and_parts, or_parts, or_from, both_ways, false_from_ne_true, not_from_false, not-true, ne_eqb, false≢true, or_left, or_right, eq-eqb}
use Rattle.std.proofs.lemmas.List.Folds.{list_any-append}
use Rattle.std.proofs.lemmas.Slice.Eq.{bytes_eq-Decides}
use Rattle.dvc_base.specs.Path.{Path, under, overlap, is_within}
use Rattle.dvc_base.proofs.PathLemmas.{under-refl, under-overlap}
use Rattle.world_api.specs.Calls.{is_apart, are_apart}
use Rattle.world_api.specs.Effect.{path_from}
use Rattle.world_api.specs.Layout.{dvc_path, lock_path, yaml_path}
use Rattle.lock_files.specs.Order.{in_order}
use Rattle.stage_order.specs.Closure.{StandsBehind}
use Rattle.stage_order.specs.Order.{is_in}
use Rattle.lock_files.specs.Form as form
use Rattle.stage_schema.specs.declared.stage.Out.{Out as WrittenOut}
use Rattle.stage_schema.specs.declared.stage.ParamWant.{ParamWant}
use Rattle.stage_schema.specs.declared.stage.Stage.{Stage as Written}
use Rattle.stage_graph.specs.Cycle.{all_above}
use Rattle.stage_graph.specs.Paths.{needs, makes, is_above, stage_outs}
use Rattle.repro_laws.specs.Stage.{dep_path, out_path, tracked_path, dep_text, out_text, tracked_text, read_paths, stage_outs as made_paths, Names, IsStage}
use Rattle.repro_laws.specs.Lock.{is_among}
use Rattle.repro_laws.specs.Headline.{is_ordered, have_names, IsApart, IsKept, AreMarked}
use Rattle.repro_laws.specs.Moments.{is_own}
use Rattle.repro_laws.specs.Sound.{IsOutside}
use Rattle.repro_laws.specs.declared.stage.Dep.{Dep}
use Rattle.repro_laws.specs.declared.stage.Tracked.{Tracked}
use Rattle.repro_laws.specs.declared.stage.Stage.{Stage}
use Rattle.repro_laws.proofs.ListLemmas.{each_from, each_both, each_first, each_second, each_all, each_mapped, each_map, each_false, none_true, each_in_order}
use Rattle.repro_laws.proofs.RefusalLemmas.{any_in_order}
use Rattle.stage_plan.specs.Plan.{dep_of, out_of, tracked_of, looks_of, outs_of, stage_of, has_turn, with_turns, all_outs, turns_of, stages_at, planned_at, AreUsable}
use Rattle.stage_plan.proofs.DistinctLemmas.{are_distinct, text_swap, formed, rising}
use Rattle.stage_plan.proofs.PairLemmas.{AllPairs, Between, AreOnce, pairs_from, pairs_mapped, pairs_map, pairs_in_order, pairs_flat, pairs_of_flat, each_flat, between_turned, at_place, each_picked, pairs_picked, each_kept, pairs_kept}
use Rattle.stage_plan.proofs.SchemaLemmas.{HasKeysOnce}
use Rattle.stage_plan.proofs.ClearLemmas.{IsFar, IsClear, AreFree, AreClear}
use Rattle.stage_plan.proofs.TurnLemmas.{once_placed, none_above}

-- ---- the paths of a stage, in order

pub outs_each : (outs : List Path) (P : Path → Type 0) (s : Written) → AllByRecursion P (stage_outs s) → AllByRecursion P (made_paths (stage_of outs s))
outs_each outs P s h =
    each_map out_path P (in_order out_text (outs_of s))
    (each_in_order out_text (λ o. P o.path) (outs_of s)
    (each_map (out_of s.dir) (λ o. P o.path) s.outs (each_mapped (λ (out : WrittenOut). path_from s.dir out.path) P s.outs h)))

pub reads_each : (outs : List Path) (P : Path → Type 0) (s : Written) → AllByRecursion P (needs s) → AllByRecursion P (read_paths (stage_of outs s))
reads_each outs P s h =
    let file : ParamWant → Path = λ want. path_from s.dir want.file in
    let deps = map (path_from s.dir) s.deps in
    let files = map file s.params in
    let params = map (tracked_of s.dir) s.params in
    each_all P (map dep_path (stage_of outs s).deps) (map tracked_path params)
    (each_map dep_path P (in_order dep_text (looks_of outs s))
    (each_in_order dep_text (λ d. P d.path) (looks_of outs s)
    (each_map (dep_of outs s.dir) (λ d. P d.path) s.deps (each_mapped (path_from s.dir) P s.deps (each_first P deps files h)))))
    (each_map tracked_path P params
    (each_map (tracked_of s.dir) (λ w. P w.path) s.params (each_mapped file P s.params (each_second P deps files h))))

-- ---- paths that are apart

free_turned : (p q : Path) → AreFree p q → AreFree q p
free_turned p q h = let parts = or_parts (under p q) (under q p) h in or_from (under q p) (under p q) parts.1 parts.0

-- it isn't the root
abbrev HasPart : Path → Type 0
HasPart p = (length p == 0) ≡ false

is_apart_from : (p : Path) (ps : List Path) → HasPart p → AllByRecursion (AreFree p) ps → is_apart p ps ≡ true
is_apart_from p [] some h = not_from_false (length p == 0) some
is_apart_from p (q ∷ ps) some h = and_from (not (overlap p q)) (is_apart p ps) (not_from_false (overlap p q) h.0) (is_apart_from p ps some h.1)

apart_from : (ps : List Path) → AllByRecursion HasPart ps → AllPairs AreFree ps → are_apart ps ≡ true
apart_from [] some h = refl
apart_from (p ∷ ps) some h = and_from (is_apart p ps) (are_apart ps) (is_apart_from p ps some.0 h.0) (apart_from ps some.1 h.1)

-- what lies apart from the tool's own isn't the root
far_has : (p : Path) → IsFar p → HasPart p
unfolding dvc_path
far_has [] h = absurd (false≢true (sym h.dvc))
far_has (c ∷ p) h = ne_eqb (length (c ∷ p)) 0 (λ e. absurd (omega (arith, e)))

-- ---- a stage

once_made : (dir : Path) (outs : List WrittenOut) → AllPairs AreFree (map (λ out. path_from dir out.path) outs) → are_distinct (map (λ out. out.path) outs) ≡ true
once_made dir [] h = refl
once_made dir (out ∷ outs) h =
    and_from (not (is_among (map (λ (o : WrittenOut). o.path) outs) out.path)) (are_distinct (map (λ (o : WrittenOut). o.path) outs))
    (not_from_false (is_among (map (λ (o : WrittenOut). o.path) outs) out.path) (other outs h.0)) (once_made dir outs h.1)
  where
    other : (os : List WrittenOut) → AllByRecursion (AreFree (path_from dir out.path)) (map (λ (o : WrittenOut). path_from dir o.path) os) → is_among (map (λ (o : WrittenOut). o.path) os) out.path ≡ false
    other [] k = refl
    other (o ∷ os) k =
        or_from (bytes_eq o.path out.path) (is_among (map (λ (x : WrittenOut). x.path) os) out.path)
        (false_from_ne_true (bytes_eq o.path out.path) (λ e.
        let same : o.path ≡ out.path = (bytes_eq-Decides o.path out.path).0 e in
        both_ways (overlap (path_from dir out.path) (path_from dir o.path)) k.0
        (ap (λ (t : List ℕ). overlap (path_from dir out.path) (path_from dir t)) same
        ∙ ap (λ (b : Bool). b || b) (under-refl (path_from dir out.path)))))
        (other os k.1)

texts_of_outs : (dir : Path) (outs : List WrittenOut) → map out_text (map (out_of dir) outs) ≡ map (λ out. out.path) outs
texts_of_outs dir [] = refl
texts_of_outs dir (out ∷ outs) = ap (λ (ts : List (List ℕ)). out.path ∷ ts) (texts_of_outs dir outs)

texts_of_deps : (outs : List Path) (dir : Path) (texts : List (List ℕ)) → map dep_text (map (dep_of outs dir) texts) ≡ texts
texts_of_deps outs dir [] = refl
texts_of_deps outs dir (text ∷ texts) = ap (λ (ts : List (List ℕ)). text ∷ ts) (texts_of_deps outs dir texts)

texts_of_wants : (dir : Path) (wants : List ParamWant) → map tracked_text (map (tracked_of dir) wants) ≡ map (λ want. want.file) wants
texts_of_wants dir [] = refl
texts_of_wants dir (want ∷ wants) = ap (λ (ts : List (List ℕ)). want.file ∷ ts) (texts_of_wants dir wants)

made_pairs : (outs : List Path) (s : Written) → AllPairs AreFree (stage_outs s) → AllPairs AreFree (made_paths (stage_of outs s))
made_pairs outs s h =
    pairs_map out_path AreFree (in_order out_text (outs_of s))
    (pairs_in_order out_text (λ a b. AreFree a.path b.path) (λ a b. free_turned a.path b.path) (outs_of s)
    (pairs_map (out_of s.dir) (λ a b. AreFree a.path b.path) s.outs (pairs_mapped (λ (out : WrittenOut). path_from s.dir out.path) AreFree s.outs h)))

is_stage : (outs : List Path) (s : Written) → IsClear s → AllPairs AreFree (stage_outs s) → IsStage (stage_of outs s)
is_stage outs s it apart = record {
  commands = it.written.commands;
  deps = refl;
  made = refl;
  dep_texts = rising dep_text (looks_of outs s) (ap are_distinct (texts_of_deps outs s.dir s.deps) ∙ it.written.deps);
  out_texts = rising out_text (outs_of s) (ap are_distinct (texts_of_outs s.dir s.outs) ∙ once_made s.dir s.outs apart);
  dep_names = each_in_order dep_text (λ d. Names s.dir d.text d.path) (looks_of outs s) (each_map (dep_of outs s.dir) (λ d. Names s.dir d.text d.path) s.deps it.deps);
  out_names = each_in_order out_text (λ o. Names s.dir o.text o.path) (outs_of s) (each_map (out_of s.dir) (λ o. Names s.dir o.text o.path) s.outs it.outs);
  apart = apart_from (made_paths (stage_of outs s)) (outs_each outs HasPart s (each_from IsFar HasPart (stage_outs s) far_has it.makes)) (made_pairs outs s apart);
  param_texts = ap (form.are_distinct []) (texts_of_wants s.dir s.params) ∙ formed (map (λ (want : ParamWant). want.file) s.params) it.written.param_files;
  param_keys = each_map (tracked_of s.dir) (λ (w : Tracked). form.are_distinct [] w.keys ≡ true) s.params
      (each_from HasKeysOnce (λ (want : ParamWant). form.are_distinct [] want.keys ≡ true) s.params (λ want once. formed want.keys once) it.written.param_keys);
}

-- ---- what the tool keeps

pub far_apart : (p : Path) → IsFar p → IsApart is_own p
far_apart p far q u =
    or_from (under dvc_path q) (under lock_path q)
    (false_from_ne_true (under dvc_path q) (λ e. both_ways (overlap dvc_path p) far.dvc (under-overlap dvc_path p q e u)))
    (false_from_ne_true (under lock_path q) (λ e. both_ways (overlap lock_path p) far.lock (under-overlap lock_path p q e u)))

kept : (outs : List Path) (s : Written) → IsClear s → IsKept is_own (stage_of outs s)
kept outs s it = record {
  dir = or_from (under dvc_path s.dir) (under lock_path s.dir) it.dir_dvc it.dir_lock;
  reads = reads_each outs (IsApart is_own) s (each_from IsFar (IsApart is_own) (needs s) far_apart it.reads);
  outs = outs_each outs (IsApart is_own) s (each_from IsFar (IsApart is_own) (stage_outs s) far_apart it.makes);
}

not_in_yaml : (p : Path) → overlap yaml_path p ≡ false → under p yaml_path ≡ false
not_in_yaml p h = (or_parts (under yaml_path p) (under p yaml_path) h).1

not_in_dvc : (q p : Path) → under dvc_path q ≡ true → IsFar p → under p q ≡ false
not_in_dvc q p u far = false_from_ne_true (under p q) (λ e. both_ways (overlap dvc_path p) far.dvc (under-overlap dvc_path p q u e))

outside : (outs : List Path) (s : Written) → IsClear s → IsOutside (stage_of outs s)
outside outs s it = record {
  yaml = none_true (λ out. under out yaml_path) (made_paths (stage_of outs s))
      (outs_each outs (λ p. under p yaml_path ≡ false) s (each_from (λ p. overlap yaml_path p ≡ false) (λ p. under p yaml_path ≡ false) (stage_outs s) not_in_yaml it.yaml));
  dvc = λ q u. none_true (λ out. under out q) (made_paths (stage_of outs s))
      (outs_each outs (λ p. under p q ≡ false) s (each_from IsFar (λ p. under p q ≡ false) (stage_outs s) (λ p far. not_in_dvc q p u far) it.makes));
}

-- ---- names

abbrev AreOther : Written → Written → Type 0
AreOther a b = bytes_eq b.name a.name ≡ false

other_turned : (a b : Written) → AreOther a b → AreOther b a
other_turned a b h = text_swap a.name b.name ∙ h

other_names : (ss : List Written) → are_distinct (map (λ s. s.name) ss) ≡ true → AllPairs AreOther ss
other_names [] h = tt
other_names (s ∷ ss) h =
    let parts = and_parts (not (is_among (map (λ (x : Written). x.name) ss) s.name)) (are_distinct (map (λ (x : Written). x.name) ss)) h in (
      each_mapped (λ (x : Written). x.name) (λ name. bytes_eq name s.name ≡ false) ss
          (each_false (λ name. bytes_eq name s.name) (map (λ (x : Written). x.name) ss) (not-true (is_among (map (λ (x : Written). x.name) ss) s.name) parts.0)),
      other_names ss parts.1,
    )

names_from : (outs : List Path) (ss : List Written) → AllPairs AreOther ss → have_names (map (stage_of outs) ss) ≡ true
names_from outs [] h = refl
names_from outs (s ∷ ss) h =
    let names : List (List ℕ) = map (λ (x : Stage). x.name) (map (stage_of outs) ss) in
    let none : is_among names s.name ≡ false =
    none_true (λ name. bytes_eq name s.name) names
    (each_map (λ (x : Stage). x.name) (λ name. bytes_eq name s.name ≡ false) (map (stage_of outs) ss)
    (each_map (stage_of outs) (λ x. bytes_eq x.name s.name ≡ false) ss h.0)) in
    and_from (not (is_among names s.name)) (have_names (map (stage_of outs) ss)) (not_from_false (is_among names s.name) none) (names_from outs ss h.1)

-- ---- outputs of several stages

between_made : (outs : List Path) (a b : Written) → Between AreFree (stage_outs a) (stage_outs b) → Between AreFree (made_paths (stage_of outs a)) (made_paths (stage_of outs b))
between_made outs a b h =
    outs_each outs (λ p. AllByRecursion (AreFree p) (made_paths (stage_of outs b))) a
    (each_from (λ p. AllByRecursion (AreFree p) (stage_outs b)) (λ p. AllByRecursion (AreFree p) (made_paths (stage_of outs b))) (stage_outs a)
    (λ p k. outs_each outs (AreFree p) b k) h)

-- ---- inside an output

any_map : {A B : Type 0} (g : A → B) (t : B → Bool) (xs : List A) → list_any t (map g xs) ≡ list_any (λ x. t (g x)) xs
any_map g t [] = refl
any_map g t (x ∷ xs) = ap (λ (b : Bool). t (g x) || b) (any_map g t xs)

any_flat : {A B : Type 0} (g : A → List B) (t : B → Bool) (xs : List A) → list_any t (flat_map g xs) ≡ list_any (λ x. list_any t (g x)) xs
any_flat g t [] = refl
any_flat g t (x ∷ xs) = list_any-append t (g x) (flat_map g xs) ∙ ap (λ (b : Bool). list_any t (g x) || b) (any_flat g t xs)

any_same : {A : Type 0} (t u : A → Bool) → ((x : A) → t x ≡ u x) → (xs : List A) → list_any t xs ≡ list_any u xs
any_same t u same [] = refl
any_same t u same (x ∷ xs) = ap (λ (b : Bool). b || list_any t xs) (same x) ∙ ap (λ (b : Bool). u x || b) (any_same t u same xs)

any_made : (outs : List Path) (t : Path → Bool) (s : Written) → list_any t (made_paths (stage_of outs s)) ≡ list_any t (stage_outs s)
any_made outs t s =
    any_map out_path t (in_order out_text (outs_of s))
    ∙ any_in_order out_text (λ o. t o.path) (outs_of s)
    ∙ any_map (out_of s.dir) (λ o. t o.path) s.outs
    ∙ sym (any_map (λ (out : WrittenOut). path_from s.dir out.path) t s.outs)

any_planned : (outs : List Path) (t : Path → Bool) (turns : List Written) → list_any t (flat_map made_paths (map (stage_of outs) turns)) ≡ list_any t (all_outs turns)
any_planned outs t turns =
    any_flat made_paths t (map (stage_of outs) turns)
    ∙ any_map (stage_of outs) (λ s. list_any t (made_paths s)) turns
    ∙ any_same (λ s. list_any t (made_paths (stage_of outs s))) (λ s. list_any t (stage_outs s)) (any_made outs t) turns
    ∙ sym (any_flat stage_outs t turns)

marked_by : (outs : List Path) (dir : Path) (texts : List (List ℕ)) → AllByRecursion (λ (d : Dep). d.inside ≡ list_any (is_within d.path) outs) (map (dep_of outs dir) texts)
marked_by outs dir [] = tt
marked_by outs dir (text ∷ texts) = (refl, marked_by outs dir texts)

marked : (turns : List Written) (s : Written) → AreMarked (turns_of turns) (stage_of (all_outs turns) s)
marked turns s =
    let outs = all_outs turns in
    each_from (λ (d : Dep). d.inside ≡ list_any (is_within d.path) outs) (λ (d : Dep). d.inside ≡ list_any (is_within d.path) (flat_map made_paths (turns_of turns))) (stage_of outs s).deps
    (λ d h. h ∙ sym (any_planned outs (is_within d.path) turns))
    (each_in_order dep_text (λ (d : Dep). d.inside ≡ list_any (is_within d.path) outs) (looks_of outs s) (marked_by outs s.dir s.deps))

-- ---- the order

-- what a stage that has a turn reads overlaps no output of another that isn't above it
reads_apart : (outs : List Path) (a b : Written) → has_turn b ≡ true → is_above a b ≡ false → AllByRecursion (λ p. AllByRecursion (AreFree p) (made_paths (stage_of outs a))) (read_paths (stage_of outs b))
reads_apart outs a b turn h =
    let none : list_any (makes a) (needs b) ≡ false = sym (ap (λ (x : Bool). x && list_any (makes a) (needs b)) turn) ∙ h in
    reads_each outs (λ p. AllByRecursion (AreFree p) (made_paths (stage_of outs a))) b
    (each_from (λ need. makes a need ≡ false) (λ need. AllByRecursion (AreFree need) (made_paths (stage_of outs a))) (needs b)
    (λ need k. outs_each outs (AreFree need) a
    (each_from (λ out. overlap out need ≡ false) (AreFree need) (stage_outs a) (λ out free. free_turned out need free) (each_false (λ out. overlap out need) (stage_outs a) k)))
    (each_false (makes a) (needs b) none))

reads_none : (outs : List Path) (b : Written) (as' : List Written) → has_turn b ≡ true → AllByRecursion (λ a. is_above a b ≡ false) as' →
    list_any (λ p. list_any (overlap p) (flat_map made_paths (map (stage_of outs) as'))) (read_paths (stage_of outs b)) ≡ false
reads_none outs b as' turn h =
    let reads = read_paths (stage_of outs b) in
    none_true (λ p. list_any (overlap p) (flat_map made_paths (map (stage_of outs) as'))) reads
    (go as' reads (each_from (λ a. is_above a b ≡ false) (λ a. AllByRecursion (λ p. AllByRecursion (AreFree p) (made_paths (stage_of outs a))) reads) as' (λ a k. reads_apart outs a b turn k) h))
  where
    nothing : (ps : List Path) → AllByRecursion (λ p. list_any (overlap p) [] ≡ false) ps
    nothing [] = tt
    nothing (p ∷ ps) = (refl, nothing ps)

    go : (xs : List Written) (ps : List Path) → AllByRecursion (λ a. AllByRecursion (λ p. AllByRecursion (AreFree p) (made_paths (stage_of outs a))) ps) xs →
        AllByRecursion (λ p. list_any (overlap p) (flat_map made_paths (map (stage_of outs) xs)) ≡ false) ps
    go [] ps k = nothing ps
    go (x ∷ xs) ps k =
        each_both (λ p. AllByRecursion (AreFree p) (made_paths (stage_of outs x))) (λ p. list_any (overlap p) (flat_map made_paths (map (stage_of outs) xs)) ≡ false)
        (λ p. list_any (overlap p) (flat_map made_paths (map (stage_of outs) (x ∷ xs))) ≡ false) ps
        (λ p here later. list_any-append (overlap p) (made_paths (stage_of outs x)) (flat_map made_paths (map (stage_of outs) xs))
        ∙ or_from (list_any (overlap p) (made_paths (stage_of outs x))) (list_any (overlap p) (flat_map made_paths (map (stage_of outs) xs)))
        (none_true (overlap p) (made_paths (stage_of outs x)) here) later)
        k.0 (go xs ps k.1)

ordered_cons : (outs : List Path) (o : Option Written) (rest : List Written) → ((s : Written) → o ≡ Some s → AllByRecursion (λ a. is_above a s ≡ false) (s ∷ rest)) →
    is_ordered (map (stage_of outs) (with_turns rest)) ≡ true → is_ordered (map (stage_of outs) (with_turns (cons_option o rest))) ≡ true
ordered_cons outs None rest f h = h
ordered_cons outs (Some s) rest f h = by (has_turn s) refl
  where
    by : (b : Bool) → has_turn s ≡ b → is_ordered (map (stage_of outs) (cond b (s ∷ with_turns rest) (with_turns rest))) ≡ true
    by true turn =
        let later = with_turns rest in
        let apart = f s refl in
        let meets = list_any (λ p. list_any (overlap p) (flat_map made_paths (map (stage_of outs) (s ∷ later)))) (read_paths (stage_of outs s)) in
        and_from (not meets) (is_ordered (map (stage_of outs) later))
        (not_from_false meets (reads_none outs s (s ∷ later) turn (apart.0, each_kept has_turn (λ a. is_above a s ≡ false) rest apart.1))) h
    by false frozen = h

ordered : (outs : List Path) (ss : List Written) (ns : List ℕ) → StandsBehind (all_above ss) ns → is_ordered (map (stage_of outs) (with_turns (stages_at ss ns))) ≡ true
ordered outs ss [] h = refl
ordered outs ss (n ∷ ns) h =
    ordered_cons outs (slice_get ss n) (stages_at ss ns)
    (λ s e. (
      none_above ss n n s s e e (λ k. both_ways (is_in (n ∷ ns) n) (h.0 n k) (itself n ns)),
      each_picked (λ a. is_above a s ≡ false) ss ns (λ m a inside d. none_above ss m n a s d e (λ k. both_ways (is_in (n ∷ ns) m) (h.0 m k) (behind n m ns inside))),
    ))
    (ordered outs ss ns h.2)
  where
    itself : (n : ℕ) (ns : List ℕ) → is_in (n ∷ ns) n ≡ true
    itself n ns = or_left (n == n) (is_in ns n) (eq-eqb n n refl)

    behind : (n m : ℕ) (ns : List ℕ) → is_in ns m ≡ true → is_in (n ∷ ns) m ≡ true
    behind n m ns inside = or_right (n == m) (is_in ns m) inside

-- ---- the whole

pub usable : (ss : List Written) (ns : List ℕ) → AreClear ss → are_distinct (map (λ s. s.name) ss) ≡ true → StandsBehind (all_above ss) ns → AreUsable (planned_at ss ns)
usable ss ns it distinct behind =
    let once : AreOnce ns = once_placed (all_above ss) ns behind in
    let placed = stages_at ss ns in
    let turns = with_turns placed in
    let outs = all_outs turns in
    let stages = map (stage_of outs) turns in
    let pairs = pairs_of_flat stage_outs AreFree ss it.apart in
    let each : AllByRecursion IsClear turns = each_kept has_turn IsClear placed (each_picked IsClear ss ns (λ n s inside e. at_place IsClear ss n s it.each e)) in
    let own : AllByRecursion (λ s. AllPairs AreFree (stage_outs s)) turns =
    each_kept has_turn (λ s. AllPairs AreFree (stage_outs s)) placed
    (each_picked (λ s. AllPairs AreFree (stage_outs s)) ss ns (λ n s inside e. at_place (λ x. AllPairs AreFree (stage_outs x)) ss n s pairs.0 e)) in
    let cross : AllPairs (λ a b. Between AreFree (stage_outs a) (stage_outs b)) turns =
    pairs_kept has_turn (λ a b. Between AreFree (stage_outs a) (stage_outs b)) placed
    (pairs_picked (λ a b. Between AreFree (stage_outs a) (stage_outs b)) (λ a b. between_turned AreFree free_turned (stage_outs a) (stage_outs b)) ss pairs.1 ns once) in
    let made : AllPairs AreFree (flat_map made_paths stages) =
    pairs_flat made_paths AreFree stages
    (each_map (stage_of outs) (λ x. AllPairs AreFree (made_paths x)) turns (each_from (λ s. AllPairs AreFree (stage_outs s)) (λ s. AllPairs AreFree (made_paths (stage_of outs s))) turns (made_pairs outs) own))
    (pairs_map (stage_of outs) (λ x y. Between AreFree (made_paths x) (made_paths y)) turns
    (pairs_from (λ a b. Between AreFree (stage_outs a) (stage_outs b)) (λ a b. Between AreFree (made_paths (stage_of outs a)) (made_paths (stage_of outs b))) turns (between_made outs) cross)) in
    let some : AllByRecursion HasPart (flat_map made_paths stages) =
    each_flat made_paths HasPart stages
    (each_map (stage_of outs) (λ x. AllByRecursion HasPart (made_paths x)) turns
    (each_from IsClear (λ s. AllByRecursion HasPart (made_paths (stage_of outs s))) turns
    (λ s k. outs_each outs HasPart s (each_from IsFar HasPart (stage_outs s) far_has k.makes)) each)) in
    record {
      planned = record {
        each = each_map (stage_of outs) IsStage turns (each_both IsClear (λ s. AllPairs AreFree (stage_outs s)) (λ s. IsStage (stage_of outs s)) turns (is_stage outs) each own);
        names = names_from outs turns (pairs_kept has_turn AreOther placed (pairs_picked AreOther other_turned ss (other_names ss distinct) ns once));
        order = ordered outs ss ns behind;
        apart = apart_from (flat_map made_paths stages) some made;
        kept = each_map (stage_of outs) (IsKept is_own) turns (each_from IsClear (λ s. IsKept is_own (stage_of outs s)) turns (kept outs) each);
        marked = each_map (stage_of outs) (AreMarked (turns_of turns)) turns (each_from IsClear (λ s. AreMarked (turns_of turns) (stage_of outs s)) turns (λ s k. marked turns s) each);
      };
      outside = each_map (stage_of outs) IsOutside turns (each_from IsClear (λ s. IsOutside (stage_of outs s)) turns (outside outs) each);
    }
