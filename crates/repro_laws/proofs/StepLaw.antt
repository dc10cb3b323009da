-- A stage's turn in a tree, beside one step of running the stages anew.
--     IsNext own all done rest s     a stage that has its turn, among all of them
--     step_law      after both of them take the stage's turn they are still related
use Rattle.std.proofs.Common.{◌≡◌, ◌≢◌, Bool, true, false, cond, List, [], ◌∷◌, ◌++◌, map, sym, ap, subst, ◌∙◌, ◌⊎◌, inl, inr, Some, None, is_some, IsSome}
use Rattle.std.specs.List.{AllByRecursion, list_any}
use Rattle.std.proofs.lemmas.Bool.{false≢true, or_cases, both_ways, false_from_ne_true, cases_Bool}
use Rattle.dvc_base.specs.Path.{Path, under, overlap, is_within}
use Rattle.dvc_base.specs.declared.data.ParamFile.{ParamFile}
use Rattle.dvc_base.proofs.PathLemmas.{under-refl}
use Rattle.world_api.specs.Tree.{Tree, folder, Value, IsTree, item_at, value_at}
use Rattle.world_api.specs.Effect.{Effect, gives, invocation_of, is_in_any}
use Rattle.world_api.specs.Calls.{are_apart, parent}
use Rattle.world_api.proofs.TreeLemmas.{path_cases}
use Rattle.repro_laws.specs.Stage.{dep_path, tracked_path, read_paths, stage_outs, value_inside, dep_value, is_nothing, params_at, job_with, IsStage}
use Rattle.repro_laws.specs.Anew.{with_folders, is_blocked, put_values, after_outcome, run_with, anew_step}
use Rattle.repro_laws.specs.Turns.{State, is_way, IsLeftAt, Left}
use Rattle.repro_laws.specs.Headline.{IsOwn, IsApart, IsKept}
use Rattle.repro_laws.specs.declared.stage.Dep.{Dep}
use Rattle.repro_laws.specs.declared.stage.Stage.{Stage}
use Rattle.repro_laws.proofs.ListLemmas.{each_from, each_both, each_first, each_second, each_all, each_mapped, each_map, each_false, none_true, any_parts, any_neither, any_second, any_first}
use Rattle.repro_laws.proofs.RoadLemmas.{within, within_parent, is_blocked_road, IsAbove, above_outputs, above_outside, roots_apart, apart_later, apart_lists, apart_overlap, in_itself, stands_above}
use Rattle.repro_laws.proofs.FileLemmas.{file_at, some_value, no_folder_file}
use Rattle.repro_laws.proofs.FolderLemmas.{Grows, grows_then, grows_some, folders_grow, folders_files, folders_roads, folders_made, clear_item}
use Rattle.repro_laws.proofs.PutLemmas.{IsFree, ArePutFrom, values_put}
use Rattle.repro_laws.proofs.ParamLemmas.{params_by_files}
use Rattle.repro_laws.proofs.ReadLemmas.{outside_outs, stands_inside, seen_outs, stood_deps, left_files, left_some, stay_value, same_given}
use Rattle.repro_laws.proofs.DepLaw.{Related, IsMarked, IsRead, grown_item, read_value}

pub record IsNext (own : Path → Bool) (all done rest : List Path) (s : Stage) : Type 0 where
  pub area : IsOwn own
  pub split : all ≡ done ++ (stage_outs s ++ rest)
  pub apart : are_apart all ≡ true
  pub stage : IsStage s
  pub kept : IsKept own s
  pub marked : AllByRecursion (IsMarked all) s.deps
  pub reads : list_any (λ p. list_any (overlap p) (stage_outs s ++ rest)) (read_paths s) ≡ false
  pub free : AllByRecursion (λ p. own p ≡ false) done

-- ---- what the stage reads

abbrev IsOutside : (Path → Bool) → List Path → Path → Type 0
IsOutside own outs p = (list_any (overlap p) outs ≡ false) × IsApart own p

outside_reads : (own : Path → Bool) (outs : List Path) (s : Stage) → IsKept own s → list_any (λ p. list_any (overlap p) outs) (read_paths s) ≡ false → AllByRecursion (IsOutside own outs) (read_paths s)
outside_reads own outs s kept h =
    each_both (λ p. list_any (overlap p) outs ≡ false) (IsApart own) (IsOutside own outs) (read_paths s) (λ p a b. (a, b)) (each_false (λ p. list_any (overlap p) outs) (read_paths s) h) kept.reads

pub outside_deps : (own : Path → Bool) (outs : List Path) (s : Stage) → IsKept own s → list_any (λ p. list_any (overlap p) outs) (read_paths s) ≡ false → AllByRecursion (λ d. (list_any (overlap d.path) outs ≡ false) × IsApart own d.path) s.deps
outside_deps own outs s kept h =
    each_mapped dep_path (IsOutside own outs) s.deps (each_first (IsOutside own outs) (map dep_path s.deps) (map tracked_path s.params) (outside_reads own outs s kept h))

pub reads_deps : (own : Path → Bool) (all outs : List Path) (s : Stage) → IsKept own s → AllByRecursion (IsMarked all) s.deps → list_any (λ p. list_any (overlap p) outs) (read_paths s) ≡ false → AllByRecursion (IsRead own all outs) s.deps
reads_deps own all outs s kept marked h =
    each_both (IsMarked all) (λ d. IsOutside own outs d.path) (IsRead own all outs) s.deps (λ d a b. record { marked = a; apart = b.0; kept = b.1 }) marked (outside_deps own outs s kept h)

pub reads_params : (own : Path → Bool) (outs : List Path) (s : Stage) → IsKept own s → list_any (λ p. list_any (overlap p) outs) (read_paths s) ≡ false → AllByRecursion (λ w. (list_any (overlap w.path) outs ≡ false) × IsApart own w.path) s.params
reads_params own outs s kept h =
    each_mapped tracked_path (IsOutside own outs) s.params (each_second (IsOutside own outs) (map dep_path s.deps) (map tracked_path s.params) (outside_reads own outs s kept h))

-- ---- the outcome

outcome_put : (t : Tree) (outs : List Path) (values : List Value) → list_any is_nothing values ≡ false → list_any (is_blocked (put_values t outs values) []) outs ≡ false → after_outcome t outs (gives values) ≡ Some (put_values t outs values)
outcome_put t outs values a b = rw (a, b)

way_out : (ps : List Path) (u : Tree) (q : Path) → AllByRecursion (λ p. (x : Path) → is_within p x ≡ true → item_at u x ≡ Some folder) ps → AllByRecursion (λ p. p ≢ []) ps → list_any (λ out. under q (parent out)) ps ≡ true → item_at u q ≡ Some folder
way_out [] u q made roots h = absurd (false≢true h)
way_out (p ∷ ps) u q made roots h =
    elim (or_cases (under q (parent p)) (list_any (λ out. under q (parent out)) ps) h) [
      | inl here ↦ made.0 q (within_parent q p roots.0 here)
      | inr later ↦ way_out ps u q made.1 roots.1 later
    ]

-- an output of the stage, in its turn
record IsOutNow (own : Path → Bool) (all later : List Path) (n : Tree) (out : Path) : Type 0 where
  inside : (q : Path) → under out q ≡ true → is_in_any later q ≡ true
  above : IsAbove all out
  kept : own out ≡ false
  stands : is_nothing (value_at n out) ≡ false

pub record HasStep (own : Path → Bool) (effect : Effect) (all done rest : List Path) (s : Stage) (n : Tree) (fold : Tree) : Type 0 where
  pub tree : Tree
  pub step : anew_step effect s fold ≡ Some tree
  pub related : Related own all done rest n tree

module _ (own : Path → Bool) (effect : Effect) (all done rest : List Path) (s : Stage) (m n : State) (fold : Tree) (next : IsNext own all done rest s) (left : Left own effect s m n) (tree : IsTree m.tree) (related : Related own all done (stage_outs s ++ rest) m.tree fold) where
  outside_all : (q : Path) → is_in_any all q ≡ false → is_in_any (stage_outs s ++ rest) q ≡ false
  outside_all q out =
      (any_parts (λ p. under p q) done (stage_outs s ++ rest) (ap (λ (ps : List Path). is_in_any ps q) (sym next.split) ∙ out)).1

  outside_own : (q : Path) → is_in_any all q ≡ false → is_in_any (stage_outs s) q ≡ false
  outside_own q out = (any_parts (λ p. under p q) (stage_outs s) rest (outside_all q out)).0

  files_left : (q : Path) → is_in_any (stage_outs s) q ≡ false → own q ≡ false → file_at n.tree q ≡ file_at m.tree q
  files_left q out kept = left_files (is_way s) m.tree n.tree q tree left.stands (left.others q out kept)

  -- where the turn has left a folder no file stands
  no_file_at : (q : Path) → is_in_any all q ≡ false → own q ≡ false → item_at n.tree q ≡ Some folder → file_at fold q ≡ None
  no_file_at q out kept there =
      related.files q (outside_all q out) kept ∙ sym (files_left q (outside_own q out) kept) ∙ no_folder_file n.tree left.stands q there

  own_above : (out q : Path) → own out ≡ false → under q out ≡ true → own q ≡ false
  own_above out q kept u = false_from_ne_true (own q) (λ e. both_ways (own out) kept (next.area.below q out e u))

  abbrev first : Tree
  first = with_folders fold [] s.dir

  abbrev values : List Value
  values = map (value_at n.tree) (stage_outs s)

  abbrev last : Tree
  last = put_values first (stage_outs s) values

  -- ---- the outputs are put

  stand_outs : AllByRecursion (λ p. is_nothing (value_at n.tree p) ≡ false) (stage_outs s)
  stand_outs = seen_outs left.entry.entry s n.tree left.entry.present

  above_outs : AllByRecursion (IsAbove all) (stage_outs s)
  above_outs =
      each_first (IsAbove all) (stage_outs s) rest (each_second (IsAbove all) done (stage_outs s ++ rest) (subst (AllByRecursion (IsAbove all)) next.split (above_outputs all next.apart)))

  kept_outs : AllByRecursion (λ out. own out ≡ false) (stage_outs s)
  kept_outs = each_from (IsApart own) (λ out. own out ≡ false) (stage_outs s) (λ p a. a p (under-refl p)) next.kept.outs

  inside_outs : AllByRecursion (λ p. (q : Path) → under p q ≡ true → is_in_any (stage_outs s) q ≡ true) (stage_outs s)
  inside_outs = in_itself (stage_outs s)

  outs_now : AllByRecursion (IsOutNow own all (stage_outs s ++ rest) n.tree) (stage_outs s)
  outs_now =
      let places = each_both (λ p. (q : Path) → under p q ≡ true → is_in_any (stage_outs s) q ≡ true) (IsAbove all) (λ p. ((q : Path) → under p q ≡ true → is_in_any (stage_outs s) q ≡ true) × IsAbove all p) (stage_outs s) (λ p a b. (a, b)) inside_outs above_outs in
      let stand = each_both (λ p. own p ≡ false) (λ p. is_nothing (value_at n.tree p) ≡ false) (λ p. (own p ≡ false) × (is_nothing (value_at n.tree p) ≡ false)) (stage_outs s) (λ p a b. (a, b)) kept_outs stand_outs in
      each_both (λ p. ((q : Path) → under p q ≡ true → is_in_any (stage_outs s) q ≡ true) × IsAbove all p) (λ p. (own p ≡ false) × (is_nothing (value_at n.tree p) ≡ false)) (IsOutNow own all (stage_outs s ++ rest) n.tree) (stage_outs s)
      (λ p a b. record { inside = λ q u. any_first (λ out. under out q) (stage_outs s) rest (a.0 q u); above = a.1; kept = b.0; stands = b.1 }) places stand

  free_above : (out q : Path) → IsOutNow own all (stage_outs s ++ rest) n.tree out → under out q ≡ false → under q out ≡ true → file_at fold q ≡ None
  free_above out q now side up =
      let w : is_within out q ≡ true = within out q up (λ e. both_ways (under out q) side (subst (λ (x : Path). under out x ≡ true) (sym e) (under-refl out))) in
      no_file_at q (now.above q w) (own_above out q now.kept up) (stands_above n.tree left.stands out q (some_value n.tree out now.stands) w)

  free_out : (out : Path) → IsOutNow own all (stage_outs s ++ rest) n.tree out → IsFree first out
  free_out out now q over =
      folders_files s.dir [] fold q ∙ elim (cases_Bool (under out q)) [
        | inl down ↦ related.clear q (now.inside q down)
        | inr side ↦
            elim (or_cases (under q out) (under out q) over) [
              | inl up ↦ free_above out q now side up
              | inr down ↦ absurd (both_ways (under out q) side down)
            ]
      ]

  put : ArePutFrom first (stage_outs s) n.tree last
  put =
      values_put (stage_outs s) first n.tree next.stage.apart left.stands (each_from (IsOutNow own all (stage_outs s ++ rest) n.tree) (IsFree first) (stage_outs s) free_out outs_now) (folders_roads s.dir [] fold related.roads) stand_outs

  -- ---- the step

  stood : AllByRecursion (λ d. is_nothing (dep_value m.tree d) ≡ false) s.deps
  stood = stood_deps s m.tree next.stage left.seen

  reads : AllByRecursion (IsRead own all (stage_outs s ++ rest)) s.deps
  reads = reads_deps own all (stage_outs s ++ rest) s next.kept next.marked next.reads

  fold_values : AllByRecursion (λ d. value_at fold d.path ≡ value_at m.tree d.path) s.deps
  fold_values =
      each_both (IsRead own all (stage_outs s ++ rest)) (λ d. is_nothing (dep_value m.tree d) ≡ false) (λ d. value_at fold d.path ≡ value_at m.tree d.path) s.deps (λ d r h. read_value own all done (stage_outs s ++ rest) m.tree fold tree related next.split d r h) reads stood

  left_value : (d : Dep) → IsRead own all (stage_outs s ++ rest) d → is_nothing (dep_value m.tree d) ≡ false → value_at n.tree d.path ≡ value_at m.tree d.path
  left_value d r h =
      stay_value own (is_way s) (stage_outs s) m.tree n.tree d.path tree left.stands left.others (any_parts (overlap d.path) (stage_outs s) rest r.apart).0 r.kept (some_value m.tree d.path (stands_inside d.inside (value_at m.tree d.path) h))

  left_values : AllByRecursion (λ d. value_at n.tree d.path ≡ value_at m.tree d.path) s.deps
  left_values =
      each_both (IsRead own all (stage_outs s ++ rest)) (λ d. is_nothing (dep_value m.tree d) ≡ false) (λ d. value_at n.tree d.path ≡ value_at m.tree d.path) s.deps left_value reads stood

  same_values : AllByRecursion (λ d. value_at fold d.path ≡ value_at n.tree d.path) s.deps
  same_values =
      each_both (λ d. value_at fold d.path ≡ value_at m.tree d.path) (λ d. value_at n.tree d.path ≡ value_at m.tree d.path) (λ d. value_at fold d.path ≡ value_at n.tree d.path) s.deps (λ d a b. a ∙ sym b) fold_values left_values

  param_file : (p : Path) → list_any (overlap p) (stage_outs s ++ rest) ≡ false → IsApart own p → file_at fold p ≡ file_at n.tree p
  param_file p out apart =
      let later = outside_outs p p (stage_outs s ++ rest) out (under-refl p) in
      let kept = apart p (under-refl p) in
      related.files p later kept ∙ sym (files_left p (any_parts (λ out. under out p) (stage_outs s) rest later).0 kept)

  same_read : params_at s fold ≡ params_at s n.tree
  same_read =
      params_by_files s n.tree fold (each_from (λ w. (list_any (overlap w.path) (stage_outs s ++ rest) ≡ false) × IsApart own w.path) (λ w. file_at fold w.path ≡ file_at n.tree w.path) s.params (λ w a. param_file w.path a.0 a.1) (reads_params own (stage_outs s ++ rest) s next.kept next.reads))

  abbrev ps : List ParamFile
  ps = left.made.params

  gave : effect (invocation_of (job_with s ps) fold) ≡ gives values
  gave = ap effect (same_given s ps n.tree fold next.stage same_values) ∙ left.made.made

  none_gone : list_any (λ d. is_nothing (dep_value fold d)) s.deps ≡ false
  none_gone =
      none_true (λ d. is_nothing (dep_value fold d)) s.deps (each_both (λ d. value_at fold d.path ≡ value_at m.tree d.path) (λ d. is_nothing (dep_value m.tree d) ≡ false) (λ d. is_nothing (dep_value fold d) ≡ false) s.deps (λ d e h. ap (λ (v : Value). is_nothing (value_inside d.inside v)) e ∙ h) fold_values stood)

  none_missing : list_any is_nothing values ≡ false
  none_missing = none_true is_nothing values (each_map (value_at n.tree) (λ v. is_nothing v ≡ false) (stage_outs s) stand_outs)

  none_blocked : list_any (is_blocked last []) (stage_outs s) ≡ false
  none_blocked =
      none_true (is_blocked last []) (stage_outs s) (each_from (λ p. (q : Path) → is_within p q ≡ true → item_at last q ≡ Some folder) (λ p. is_blocked last [] p ≡ false) (stage_outs s) (λ p road. is_blocked_road last [] p road) put.made)

  stepped : anew_step effect s fold ≡ Some last
  stepped =
      ap (λ (b : Bool). cond b None (run_with effect s fold (params_at s fold))) none_gone
      ∙ ap (run_with effect s fold) (same_read ∙ left.made.read)
      ∙ ap (after_outcome first (stage_outs s)) gave
      ∙ outcome_put first (stage_outs s) values none_missing none_blocked

  -- ---- the trees are related still

  grown : (q : Path) → is_in_any (stage_outs s) q ≡ false → Grows fold last q
  grown q out = grows_then fold first last q (folders_grow s.dir [] fold q) (put.grows q out)

  folder_above : (q x : Path) → item_at n.tree q ≡ Some folder → under x q ≡ true → (x ≡ q) ⊎ (x ≢ q) → item_at n.tree x ≡ Some folder
  folder_above q x there u (inl same) = ap (item_at n.tree) same ∙ there
  folder_above q x there u (inr other) = stands_above n.tree left.stands q x (ap is_some there) (within q x u other)

  dir_made : (q : Path) → is_in_any all q ≡ false → own q ≡ false → under q s.dir ≡ true → item_at n.tree q ≡ Some folder → item_at first q ≡ Some folder
  dir_made q out kept u there =
      folders_made fold s.dir q u (λ x v. clear_item fold x (no_file_at x (above_outside all x q v out) (own_above q x kept v) (folder_above q x there v (path_cases x q))))

  way_made : (q : Path) → is_in_any all q ≡ false → own q ≡ false → is_way s q ≡ true → item_at n.tree q ≡ Some folder → item_at last q ≡ Some folder
  way_made q out kept way there =
      elim (or_cases (under q s.dir) (list_any (λ p. under q (parent p)) (stage_outs s)) way) [
        | inl u ↦ grows_some first last q folder (put.grows q (outside_own q out)) (dir_made q out kept u there)
        | inr h ↦ way_out (stage_outs s) last q put.made (roots_apart (stage_outs s) next.stage.apart) h
      ]

  kind_by : (q : Path) → is_in_any all q ≡ false → own q ≡ false → IsLeftAt (is_way s) m.tree n.tree q → Grows m.tree last q → Grows n.tree last q
  kind_by q out kept (inl same) (inl e) = inl (e ∙ sym same)
  kind_by q out kept (inl same) (inr made) = inr (same ∙ made.0, made.1)
  kind_by q out kept (inr made) grows = inl (way_made q out kept made.0 made.1.1 ∙ sym made.1.1)

  kinds : (q : Path) → is_in_any all q ≡ false → own q ≡ false → Grows n.tree last q
  kinds q out kept =
      let here = outside_own q out in
      kind_by q out kept (left.others q here kept) (grows_then m.tree fold last q (related.kinds q out kept) (grown q here))

  files : (q : Path) → is_in_any rest q ≡ false → own q ≡ false → file_at last q ≡ file_at n.tree q
  files q out kept =
      elim (cases_Bool (is_in_any (stage_outs s) q)) [
        | inl inside ↦ put.inside q inside
        | inr here ↦
            put.others q here
            ∙ folders_files s.dir [] fold q
            ∙ related.files q (any_neither (λ p. under p q) (stage_outs s) rest here out) kept
            ∙ sym (files_left q here kept)
      ]

  apart_next : are_apart (stage_outs s ++ rest) ≡ true
  apart_next = apart_later done (stage_outs s ++ rest) (ap are_apart (sym next.split) ∙ next.apart)

  clear : (q : Path) → is_in_any rest q ≡ true → file_at last q ≡ None
  clear q inside =
      put.others q (apart_lists (stage_outs s) rest apart_next q inside)
      ∙ folders_files s.dir [] fold q
      ∙ related.clear q (any_second (λ p. under p q) (stage_outs s) rest inside)

  done_apart : AllByRecursion (λ out. list_any (overlap out) (stage_outs s ++ rest) ≡ false) done
  done_apart = apart_overlap done (stage_outs s ++ rest) (ap are_apart (sym next.split) ∙ next.apart)

  kept_out : (out : Path) → (list_any (overlap out) (stage_outs s ++ rest) ≡ false) × (own out ≡ false) → (item_at fold out ≡ item_at m.tree out) × IsSome (item_at m.tree out) → (item_at last out ≡ item_at n.tree out) × IsSome (item_at n.tree out)
  kept_out out place made =
      let here : is_in_any (stage_outs s) out ≡ false =
      (any_parts (λ p. under p out) (stage_outs s) rest (outside_outs out out (stage_outs s ++ rest) place.0 (under-refl out))).0 in
      let stays : item_at n.tree out ≡ item_at m.tree out = left_some (is_way s) m.tree n.tree out (left.others out here place.1) made.1 in
      let same : item_at last out ≡ item_at fold out = grown_item fold last out (grown out here) (ap is_some made.0 ∙ made.1) in
      (same ∙ made.0 ∙ sym stays, ap is_some stays ∙ made.1)

  old_outs : AllByRecursion (λ out. (item_at last out ≡ item_at n.tree out) × IsSome (item_at n.tree out)) done
  old_outs =
      let places = each_both (λ out. list_any (overlap out) (stage_outs s ++ rest) ≡ false) (λ out. own out ≡ false) (λ out. (list_any (overlap out) (stage_outs s ++ rest) ≡ false) × (own out ≡ false)) done (λ p a b. (a, b)) done_apart next.free in
      each_both (λ out. (list_any (overlap out) (stage_outs s ++ rest) ≡ false) × (own out ≡ false)) (λ out. (item_at fold out ≡ item_at m.tree out) × IsSome (item_at m.tree out)) (λ out. (item_at last out ≡ item_at n.tree out) × IsSome (item_at n.tree out)) done kept_out places related.made

  new_outs : AllByRecursion (λ out. (item_at last out ≡ item_at n.tree out) × IsSome (item_at n.tree out)) (stage_outs s)
  new_outs =
      each_both (λ out. item_at last out ≡ item_at n.tree out) (λ out. is_nothing (value_at n.tree out) ≡ false) (λ out. (item_at last out ≡ item_at n.tree out) × IsSome (item_at n.tree out)) (stage_outs s) (λ p e h. (e, some_value n.tree p h)) put.there stand_outs

  pub step_law : HasStep own effect all (done ++ stage_outs s) rest s n.tree fold
  step_law = record {
    tree = last;
    step = stepped;
    related = record {
      files = files;
      kinds = kinds;
      clear = clear;
      made = each_all (λ out. (item_at last out ≡ item_at n.tree out) × IsSome (item_at n.tree out)) done (stage_outs s) old_outs new_outs;
      roads = put.roads;
    };
  }
