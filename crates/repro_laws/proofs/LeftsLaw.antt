-- What turns have left, whatever they chose, is what running every stage anew gives.
--     start_law      the trees before the first turn are related
--     fold_law       after the turns of all stages they are still
--     lefts_law      outputs, lock and other paths are as after running every stage anew
use Rattle.std.proofs.Common.{◌≡◌, ℕ, Bool, true, false, not, List, [], ◌∷◌, ◌++◌, map, refl, sym, ap, subst, ◌∙◌, inl, append_assoc, append-nil, inr, Some, None, IsSome, option_and_then}
use Rattle.std.specs.List.{AllByRecursion, list_any, flat_map}
use Rattle.std.specs.FinMap.{get, retain_keys}
use Rattle.std.proofs.lemmas.Bool.{false≢true, and_parts, or_parts, or_cases, not-true, not_from_true, not_from_false}
use Rattle.dvc_base.specs.Path.{Path, under, overlap}
use Rattle.dvc_base.proofs.PathLemmas.{under-refl, under-append}
use Rattle.world_api.specs.Tree.{Tree, IsTree, item_at, value_at}
use Rattle.world_api.specs.Effect.{Effect, is_in_any}
use Rattle.world_api.specs.Calls.{are_apart}
use Rattle.world_api.proofs.TreeLemmas.{get_kept, get_gone, item_kept, tree-without}
use Rattle.lock_files.specs.Book.{Lock}
use Rattle.repro_laws.specs.Stage.{read_paths, stage_outs, value_inside, dep_value, is_nothing, params_at, IsStage}
use Rattle.repro_laws.specs.Anew.{without, anew_steps}
use Rattle.repro_laws.specs.Lock.{HasEntry}
use Rattle.repro_laws.specs.Turns.{State, Lefts}
use Rattle.repro_laws.specs.Headline.{IsOwn, IsApart, IsKept, IsPlanned, is_ordered, LeavesAnew}
use Rattle.repro_laws.specs.declared.stage.Stage.{Stage}
use Rattle.repro_laws.proofs.ListLemmas.{each_from, each_both, each_first, each_second, each_all}
use Rattle.repro_laws.proofs.FileLemmas.{only_file, file_at, value_kept, roads_tree}
use Rattle.repro_laws.proofs.ParamLemmas.{params_by_files}
use Rattle.repro_laws.proofs.ReadLemmas.{seen_deps}
use Rattle.repro_laws.proofs.DepLaw.{Related, IsMarked, IsRead, read_value}
use Rattle.repro_laws.proofs.StepLaw.{IsNext, reads_deps, reads_params, HasStep, step_law}
use Rattle.repro_laws.proofs.StayLaw.{lefts_stand, lefts_stay, lefts_others, names_among, entry_moves, entries_stand}

-- ---- what is taken away

outside_kept : (ps : List Path) (t : Tree) (q : Path) → is_in_any ps q ≡ false → item_at (without t ps) q ≡ item_at t q
outside_kept [] t q out = refl
outside_kept (p ∷ ps) t q out =
    let parts = or_parts (under p q) (is_in_any ps q) out in
    outside_kept ps (retain_keys t (λ x. not (under p x))) q parts.1 ∙ item_kept t (λ x. not (under p x)) q (not_from_false (under p q) parts.0)

file_kept : (ps : List Path) (t : Tree) (q : Path) → is_in_any ps q ≡ false → file_at (without t ps) q ≡ file_at t q
file_kept [] t q out = refl
file_kept (p ∷ ps) t q out =
    let parts = or_parts (under p q) (is_in_any ps q) out in
    file_kept ps (retain_keys t (λ x. not (under p x))) q parts.1 ∙ ap only_file (get_kept t (λ x. not (under p x)) q (not_from_false (under p q) parts.0))

none_kept : (t : Tree) (test : Path → Bool) (q : Path) → get t q ≡ None → get (retain_keys t test) q ≡ None
none_kept t test q none =
    elim (test q) as (λ b. test q ≡ b → get (retain_keys t test) q ≡ None) [
      | true ↦ λ e. get_kept t test q e ∙ none
      | false ↦ λ e. get_gone t test q e
    ] refl

none_without : (ps : List Path) (t : Tree) (q : Path) → get t q ≡ None → get (without t ps) q ≡ None
none_without [] t q none = none
none_without (p ∷ ps) t q none =
    none_without ps (retain_keys t (λ x. not (under p x))) q (none_kept t (λ x. not (under p x)) q none)

gone_without : (ps : List Path) (t : Tree) (q : Path) → is_in_any ps q ≡ true → get (without t ps) q ≡ None
gone_without [] t q inside = absurd (false≢true inside)
gone_without (p ∷ ps) t q inside =
    let next = retain_keys t (λ x. not (under p x)) in
    elim (or_cases (under p q) (is_in_any ps q) inside) [
      | inl here ↦ none_without ps next q (get_gone t (λ x. not (under p x)) q (not_from_true (under p q) here))
      | inr later ↦ gone_without ps next q later
    ]

tree_without : (ps : List Path) (t : Tree) → IsTree t → IsTree (without t ps)
tree_without [] t tree = tree
tree_without (p ∷ ps) t tree = tree_without ps (retain_keys t (λ x. not (under p x))) (tree-without t p tree)

-- before the first turn
start_law : (own : Path → Bool) (all : List Path) (t : Tree) → IsTree t → Related own all [] all t (without t all)
start_law own all t tree =
    record {
      files = λ q out kept. file_kept all t q out;
      kinds = λ q out kept. inl (outside_kept all t q out);
      clear = λ q inside. ap only_file (gone_without all t q inside);
      made = tt;
      roads = roads_tree (without t all) (tree_without all t tree);
    }

-- ---- the turns of the stages that are left

record IsRest (own : Path → Bool) (all done : List Path) (stages : List Stage) : Type 0 where
  area : IsOwn own
  split : all ≡ done ++ flat_map stage_outs stages
  apart : are_apart all ≡ true
  each : AllByRecursion IsStage stages
  kept : AllByRecursion (IsKept own) stages
  marked : AllByRecursion (λ s. AllByRecursion (IsMarked all) s.deps) stages
  order : is_ordered stages ≡ true
  free : AllByRecursion (λ p. own p ≡ false) done

order_parts : (s : Stage) (ss : List Stage) → is_ordered (s ∷ ss) ≡ true → (list_any (λ p. list_any (overlap p) (flat_map stage_outs (s ∷ ss))) (read_paths s) ≡ false) × (is_ordered ss ≡ true)
order_parts s ss order =
    let parts = and_parts (not (list_any (λ p. list_any (overlap p) (flat_map stage_outs (s ∷ ss))) (read_paths s))) (is_ordered ss) order in
    (not-true (list_any (λ p. list_any (overlap p) (flat_map stage_outs (s ∷ ss))) (read_paths s)) parts.0, parts.1)

next_of : (own : Path → Bool) (all done : List Path) (s : Stage) (ss : List Stage) → IsRest own all done (s ∷ ss) → IsNext own all done (flat_map stage_outs ss) s
next_of own all done s ss rest =
    record {
      area = rest.area;
      split = rest.split;
      apart = rest.apart;
      stage = rest.each.0;
      kept = rest.kept.0;
      marked = rest.marked.0;
      reads = (order_parts s ss rest.order).0;
      free = rest.free;
    }

own_outs : (own : Path → Bool) (s : Stage) → IsKept own s → AllByRecursion (λ p. own p ≡ false) (stage_outs s)
own_outs own s kept = each_from (IsApart own) (λ p. own p ≡ false) (stage_outs s) (λ p a. a p (under-refl p)) kept.outs

rest_of : (own : Path → Bool) (all done : List Path) (s : Stage) (ss : List Stage) → IsRest own all done (s ∷ ss) → IsRest own all (done ++ stage_outs s) ss
rest_of own all done s ss rest =
    record {
      area = rest.area;
      split = rest.split ∙ sym (append_assoc done (stage_outs s) (flat_map stage_outs ss));
      apart = rest.apart;
      each = rest.each.1;
      kept = rest.kept.1;
      marked = rest.marked.1;
      order = (order_parts s ss rest.order).1;
      free = each_all (λ p. own p ≡ false) done (stage_outs s) rest.free (own_outs own s rest.kept.0);
    }

record HasFold (own : Path → Bool) (effect : Effect) (all : List Path) (stages : List Stage) (n fold : Tree) : Type 0 where
  tree : Tree
  steps : anew_steps effect stages fold ≡ Some tree
  related : Related own all all [] n tree

fold_law : (own : Path → Bool) (effect : Effect) (all : List Path) (stages : List Stage) (done : List Path) (m n : State) (fold : Tree) → IsRest own all done stages → IsTree m.tree → Lefts own effect stages m n → Related own all done (flat_map stage_outs stages) m.tree fold → HasFold own effect all stages n.tree fold
fold_law own effect all [] done m n fold rest tree lefts related =
    let whole : all ≡ done = rest.split ∙ append-nil done in
    let last : Related own all done [] n.tree fold =
    subst (λ (x : State). Related own all done [] x.tree fold) (sym lefts) related in
    record {
      tree = fold;
      steps = refl;
      related = subst (λ (ps : List Path). Related own all ps [] n.tree fold) (sym whole) last;
    }
fold_law own effect all (s ∷ ss) done m n fold rest tree lefts related =
    let k = lefts.0 in
    let left = lefts.1 in
    let later = flat_map stage_outs ss in
    let step : HasStep own effect all (done ++ stage_outs s) later s k.tree fold =
    step_law own effect all done later s m k fold (next_of own all done s ss rest) left tree related in
    let last = fold_law own effect all ss (done ++ stage_outs s) k n step.tree (rest_of own all done s ss rest) left.stands lefts.2 step.related in
    record {
      tree = last.tree;
      steps = ap (option_and_then (anew_steps effect ss)) step.step ∙ last.steps;
      related = last.related;
    }

-- ---- what is the same once all stages have had their turns

module _ (own : Path → Bool) (all : List Path) (now fold : Tree) (tree : IsTree now) (related : Related own all all [] now fold) where
  file_same : (p : Path) → IsApart own p → (q : Path) → under p q ≡ true → file_at fold q ≡ file_at now q
  file_same p kept q u = related.files q refl (kept q u)

  outs_same : AllByRecursion (IsApart own) all → AllByRecursion (λ out. value_at fold out ≡ value_at now out) all
  outs_same kept =
      each_both (λ out. (item_at fold out ≡ item_at now out) × IsSome (item_at now out)) (IsApart own) (λ out. value_at fold out ≡ value_at now out) all (λ out made k. value_kept now fold out made.0 (λ r. file_same out k (out ++ r) (under-append out r))) related.made kept

  none_pending : (ps : List Path) → list_any (λ p. list_any (overlap p) []) ps ≡ false
  none_pending [] = refl
  none_pending (p ∷ ps) = none_pending ps

  entry_anew : (lock : Lock) (s : Stage) → IsKept own s → AllByRecursion (IsMarked all) s.deps → AllByRecursion (λ out. value_at fold out ≡ value_at now out) (stage_outs s) → HasEntry lock now s → HasEntry lock fold s
  entry_anew lock s kept marked outs has =
      let reads = reads_deps own all [] s kept marked (none_pending (read_paths s)) in
      let deps : AllByRecursion (λ d. dep_value fold d ≡ dep_value now d) s.deps =
      each_both (IsRead own all []) (λ d. is_nothing (dep_value now d) ≡ false) (λ d. dep_value fold d ≡ dep_value now d) s.deps (λ d r h. ap (value_inside d.inside) (read_value own all all [] now fold tree related (sym (append-nil all)) d r h)) reads (seen_deps has.entry s now has.present) in
      let params : params_at s fold ≡ params_at s now =
      params_by_files s now fold (each_from (λ w. (list_any (overlap w.path) [] ≡ false) × IsApart own w.path) (λ w. file_at fold w.path ≡ file_at now w.path) s.params (λ w x. file_same w.path x.1 w.path (under-refl w.path)) (reads_params own [] s kept (none_pending (read_paths s)))) in
      entry_moves lock s now fold has deps outs params

  entries_anew : (lock : Lock) (ss : List Stage) → AllByRecursion (IsKept own) ss → AllByRecursion (λ s. AllByRecursion (IsMarked all) s.deps) ss → AllByRecursion (λ out. value_at fold out ≡ value_at now out) (flat_map stage_outs ss) → AllByRecursion (HasEntry lock now) ss → AllByRecursion (HasEntry lock fold) ss
  entries_anew lock [] kept marked outs has = tt
  entries_anew lock (s ∷ ss) kept marked outs has = (
    entry_anew lock s kept.0 marked.0 (each_first (λ out. value_at fold out ≡ value_at now out) (stage_outs s) (flat_map stage_outs ss) outs) has.0,
    entries_anew lock ss kept.1 marked.1 (each_second (λ out. value_at fold out ≡ value_at now out) (stage_outs s) (flat_map stage_outs ss) outs) has.1,
  )

kept_outs : (own : Path → Bool) (ss : List Stage) → AllByRecursion (IsKept own) ss → AllByRecursion (IsApart own) (flat_map stage_outs ss)
kept_outs own [] kept = tt
kept_outs own (s ∷ ss) kept =
    let here = kept.0 in
    each_all (IsApart own) (stage_outs s) (flat_map stage_outs ss) here.outs (kept_outs own ss kept.1)

pub lefts_law : (own : Path → Bool) (effect : Effect) (stages : List Stage) (old new : State) → IsOwn own → IsPlanned own stages → IsTree old.tree → Lefts own effect stages old new → LeavesAnew own effect stages old new
lefts_law own effect stages old new area planned tree lefts =
    let all = flat_map stage_outs stages in
    let names : List (List ℕ) = map (λ (s : Stage). s.name) stages in
    let rest : IsRest own all [] stages = record {
      area = area;
      split = refl;
      apart = planned.apart;
      each = planned.each;
      kept = planned.kept;
      marked = planned.marked;
      order = planned.order;
      free = tt;
    } in
    let last : HasFold own effect all stages new.tree (without old.tree all) =
    fold_law own effect all stages [] old new (without old.tree all) rest tree lefts (start_law own all old.tree tree) in
    let stands : IsTree new.tree = lefts_stand own effect stages old new tree lefts in
    let outs = outs_same own all new.tree last.tree stands last.related (kept_outs own stages planned.kept) in
    let entries = entries_stand own effect stages old new planned.kept planned.order planned.names planned.apart lefts in
    record {
      tree = last.tree;
      anew = last.steps;
      outputs = each_from (λ out. value_at last.tree out ≡ value_at new.tree out) (λ out. value_at new.tree out ≡ value_at last.tree out) all (λ out e. sym e) outs;
      entries = entries_anew own all new.tree last.tree stands last.related new.lock stages planned.kept planned.marked outs entries;
      other_entries = lefts_others own effect names stages old new (names_among stages) lefts;
      others = lefts_stay own effect stages old new lefts;
    }
