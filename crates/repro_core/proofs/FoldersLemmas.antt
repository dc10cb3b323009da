-- What a run clears, and the folders that it makes.
--     clear_.., folders_..       one output more is cleared, and one folder more is made
--     ..._work                   they are moments before the lock is written
--     roads_have, roads_..       no file stands on a road, and none comes there
--     scratch_own                a lane is the tool's own
--     given_kept, readied        what the job is given, and its folders
use Rattle.std.proofs.Common.{◌≡◌, ◌≢◌, ℕ, ◌+◌, ◌<◌, Bool, true, false, cond, not, List, [], ◌∷◌, ◌++◌, length, map, take, get_or, inl, inr, refl, sym, ap, subst, ◌∙◌, append_assoc, append-nil, bytes_eq, Option, Some, None, Result, Ok, Err, OnOk}
use Rattle.std.specs.Prelude.{option_map}
use Rattle.std.specs.List.{AllByRecursion, list_any, flat_map}
use Rattle.std.proofs.lemmas.Bool.{false≢true, false_from_ne_true, or_left, or_right, or_cases, or_parts, and_parts, cases_Bool}
use Rattle.std.proofs.lemmas.List.{take_more, map-append}
use Rattle.std.proofs.lemmas.List.Folds.{list_any-append}
use Rattle.std.proofs.lemmas.Slice.Eq.{bytes_eq-Decides}
use Rattle.dvc_base.specs.Path.{Path, under, overlap}
use Rattle.dvc_base.specs.declared.fault.Fault.TheVariants.{NotFolder}
use Rattle.dvc_base.specs.declared.memory.Failed.{Failed}
use Rattle.dvc_base.proofs.PathLemmas.{under-trans}
use Rattle.world_api.specs.Tree.{Tree, Item, folder, file, item_at, value_at}
use Rattle.world_api.specs.Effect.{invocation_of, is_in_any}
use Rattle.world_api.specs.History.{Moment, History, Keeps}
use Rattle.world_api.specs.Outside.{PassesFrom}
use Rattle.world_api.specs.Calls.{parent, are_apart, HasFolders, IsCleared, InClear}
use Rattle.world_api.specs.Layout.{dvc_path, tmp_path, lock_path}
use Rattle.world_api.specs.Writes.{is_at, in_scratch, InScratch, IsMade, IsNoFileAt, HasRoad, IsFolderAt, InMakeFolder}
use Rattle.world_api.specs.declared.job.Job.{Job}
use Rattle.world_api.proofs.HistoryLemmas.{keeps_then, keeps_in, passes_weaker}
use Rattle.world_api.proofs.WriteLemmas.{made_then_made, made_folder}
use Rattle.world_api.proofs.ValueLemmas.{is_in_any-push}
use Rattle.world_api.proofs.LaneLemmas.{tmp_in_dvc}
use Rattle.repro_laws.specs.Anew.{is_file}
use Rattle.repro_laws.specs.Stage.{dep_path, tracked_path, out_path, out_text, read_paths, stage_outs, dep_value, is_nothing, IsStage}
use Rattle.repro_laws.specs.Refusals.{file_on, road_fault, see_fault, way_fault}
use Rattle.repro_laws.specs.Turns.{is_way}
use Rattle.repro_laws.specs.Headline.{IsApart, is_ordered, IsKept}
use Rattle.repro_laws.specs.Moments.{is_own, IsJobOf}
use Rattle.repro_laws.specs.declared.stage.Dep.{Dep}
use Rattle.repro_laws.specs.declared.stage.Out.{Out}
use Rattle.repro_laws.specs.declared.stage.Stage.{Stage}
use Rattle.repro_laws.proofs.AlikeLemmas.{each_ordered, each_front}
use Rattle.repro_laws.proofs.ListLemmas.{each_from, each_both, each_all, each_mapped, each_map}
use Rattle.repro_laws.proofs.SeenLemmas.{any_false, each_none}
use Rattle.repro_laws.proofs.WaitLemmas.{not_false}
use Rattle.repro_laws.proofs.StayLemmas.{not_in_turns, Beside, value_stays}
use Rattle.repro_laws.proofs.ReadLemmas.{stands_inside, stood_deps, same_given}
use Rattle.repro_core.specs.Steps.{above_out, IsClear, InWork}
use Rattle.repro_core.specs.Ways.{is_on_any, HaveRoads, AreFolders, InFolders, IsReadied}
use Rattle.repro_core.proofs.RoadsLemmas.{all_at, any_at, roots_apart, any_map, way_roads, on_way}
use Rattle.repro_core.proofs.WorkLemmas.{own_no_way, turns_area, work_of_scratch, work_of_clear, work_of_made, folder_made, job_outs, passes_work}

-- ---- clears

pub clear_root : (os : List Out) (i : ℕ) (o : Out) → i < length os → o ≡ get_or os i o → are_apart (map out_path os) ≡ true → o.path ≢ []
clear_root os i o l e h =
    all_at (λ (x : Out). x.path ≢ []) os i o l e (each_mapped out_path (λ p. p ≢ []) os (roots_apart (map out_path os) h))

pub clear_keeps : (os : List Out) (i : ℕ) (o : Out) (m n : Moment) → i < length os → o ≡ get_or os i o → InClear o.path m n → Keeps (is_in_any (map out_path os)) m n
clear_keeps os i o m n l e during =
    keeps_in (under o.path) (is_in_any (map out_path os)) m n (λ p out. false_from_ne_true (under o.path p) (λ u. false≢true (sym out ∙ any_map out_path (λ x. under x p) os ∙ any_at (λ (x : Out). under x.path p) os i o l e u))) during.others

pub clear_keeps_then : (os : List Out) (i : ℕ) (o : Out) (m k n : Moment) → i < length os → o ≡ get_or os i o → Keeps (is_in_any (map out_path os)) m k → InClear o.path k n → Keeps (is_in_any (map out_path os)) m n
clear_keeps_then os i o m k n l e before during =
    keeps_then (is_in_any (map out_path os)) m k n before (clear_keeps os i o k n l e during)

clear_gone : (done : List Path) (out : Path) (m n : Moment) → IsClear m.tree done → IsCleared out n → InClear out m n → IsClear n.tree (done ++ out ∷ [])
clear_gone done out m n before cleared during p h =
    elim (cases_Bool (under out p)) [
      | inl e ↦ cleared.gone p e
      | inr e ↦
          elim (is_in_any-push done out p h) [
            | inl was ↦ during.others.paths.items p e ∙ before p was
            | inr e2 ↦ cleared.gone p e2
          ]
    ]

pub clear_gone_at : (os : List Out) (i : ℕ) (o : Out) (m n : Moment) → i < length os → o ≡ get_or os i o → IsClear m.tree (map out_path (take i os)) → IsCleared o.path n → InClear o.path m n → IsClear n.tree (map out_path (take (i + 1) os))
clear_gone_at os i o m n l e before cleared during =
    let more : take (i + 1) os ≡ take i os ++ o ∷ [] =
    take_more os i o l ∙ ap (λ (x : Out). take i os ++ x ∷ []) (sym e) in
    let mapped : map out_path (take (i + 1) os) ≡ map out_path (take i os) ++ o.path ∷ [] =
    ap (map out_path) more ∙ map-append out_path (take i os) (o ∷ []) in
    subst (IsClear n.tree) (sym mapped) (clear_gone (map out_path (take i os)) o.path m n before cleared during)

-- ---- folders

pub folders_then_make : (roads : List Path) (i : ℕ) (road : Path) (m k n : Moment) → i < length roads → road ≡ get_or roads i road → InFolders roads m k → InMakeFolder road k n → InFolders roads m n
folders_then_make roads i road m k n l e before h =
    record {
      made = λ q. made_then_made q m k n (before.made q) (folder_made road k n h q);
      others = keeps_then (is_on_any roads) m k n before.others (keeps_in (λ q. under q road) (is_on_any roads) k n (λ q out. false_from_ne_true (under q road) (λ u. false≢true (sym out ∙ any_at (under q) roads i road l e u))) h.others);
    }

made_no_file : (q : Path) (m n : Moment) → IsMade q m n → IsNoFileAt m.tree q → IsNoFileAt n.tree q
made_no_file q m n (inl same) none = λ bytes e. none bytes (sym same.item ∙ e)
made_no_file q m n (inr made) none = λ bytes e. clash bytes (sym made.1.stands ∙ e)
  where
    clash : (bytes : List ℕ) → Some folder ≡ Some (file bytes) → ⊥
    clash bytes e = absurd (cc)

pub folders_road : (roads : List Path) (i : ℕ) (road : Path) (m n : Moment) → i < length roads → road ≡ get_or roads i road → HaveRoads roads m.tree → InFolders roads m n → HasRoad road n.tree
folders_road roads i road m n l e have h q u =
    made_no_file q m n (h.made q) (all_at (λ r. HasRoad r m.tree) roads i road l e have q u)

pub folders_stand : (roads : List Path) (i : ℕ) (road : Path) (m n : Moment) → i < length roads → road ≡ get_or roads i road → AreFolders m.tree (take i roads) → InMakeFolder road m n → IsFolderAt n.tree road → AreFolders n.tree (take (i + 1) roads)
folders_stand roads i road m n l e before h stands =
    let more : take (i + 1) roads ≡ take i roads ++ road ∷ [] =
    take_more roads i road l ∙ ap (λ (x : Path). take i roads ++ x ∷ []) (sym e) in
    subst (AreFolders n.tree) (sym more) (each_all (IsFolderAt n.tree) (take i roads) (road ∷ []) (each_from (IsFolderAt m.tree) (IsFolderAt n.tree) (take i roads) (λ q f. made_folder q m n (folder_made road m n h q) f) before) (stands, tt))

-- ---- no file stands on a road

no_file_if : (o : Option Item) → is_file o ≡ false → (bytes : List ℕ) → o ≢ Some (file bytes)
no_file_if None h bytes e = absurd (cc)
no_file_if (Some folder) h bytes e = absurd (cc)
no_file_if (Some (file all)) h bytes e = absurd (false≢true (sym h))

none_if : (b : Bool) (here : Path) (more : Option Path) → cond b (Some here) more ≡ None → (b ≡ false) × (more ≡ None)
none_if true here more e = absurd (cc)
none_if false here more e = (refl, e)

none_on : (t : Tree) (above p q : Path) → file_on t above p ≡ None → under q p ≡ true → IsNoFileAt t (above ++ q)
none_on t above [] [] e u =
    subst (IsNoFileAt t) (sym (append-nil above)) (no_file_if (item_at t above) (none_if (is_file (item_at t above)) above None e).0)
none_on t above [] (d ∷ q) e u = absurd (false≢true u)
none_on t above (c ∷ p) [] e u =
    subst (IsNoFileAt t) (sym (append-nil above)) (no_file_if (item_at t above) (none_if (is_file (item_at t above)) above (file_on t (above ++ c ∷ []) p) e).0)
none_on t above (c ∷ p) (d ∷ q) e u =
    let parts = and_parts (bytes_eq d c) (under q p) u in
    let same : d ≡ c = (bytes_eq-Decides d c).0 parts.0 in
    let more = (none_if (is_file (item_at t above)) above (file_on t (above ++ c ∷ []) p) e).1 in
    subst (IsNoFileAt t) (append_assoc above (c ∷ []) q ∙ ap (λ (x : List ℕ). above ++ x ∷ q) (sym same)) (none_on t (above ++ c ∷ []) p q more parts.1)

none_found : (o : Option Path) → option_map NotFolder o ≡ None → o ≡ None
none_found None e = refl
none_found (Some p) e = absurd (cc)

road_none : (t : Tree) (p : Path) → road_fault t p ≡ None → HasRoad p t
road_none t p e q u = none_on t [] p q (none_found (file_on t [] p) e) u

pub roads_have : (s : Stage) (t : Tree) → way_fault s t ≡ None → HaveRoads (s.dir ∷ map above_out s.outs) t
roads_have s t none =
    let roads : List Path = s.dir ∷ map above_out s.outs in
    each_from (λ p. road_fault t p ≡ None) (λ p. HasRoad p t) roads (λ p e. road_none t p e) (each_none (road_fault t) roads (way_roads s t ∙ none))

on_each : (roads : List Path) → AllByRecursion (λ road. (q : Path) → under q road ≡ true → is_on_any roads q ≡ true) roads
on_each [] = tt
on_each (r ∷ rs) = (
  λ q u. or_left (under q r) (is_on_any rs q) u,
  each_from (λ road. (q : Path) → under q road ≡ true → is_on_any rs q ≡ true) (λ road. (q : Path) → under q road ≡ true → is_on_any (r ∷ rs) q ≡ true) rs (λ road f q u. or_right (under q r) (is_on_any rs q) (f q u)) (on_each rs),
)

roads_kept : (roads : List Path) (t u : Tree) → ((q : Path) → is_on_any roads q ≡ true → IsNoFileAt t q → IsNoFileAt u q) → HaveRoads roads t → HaveRoads roads u
roads_kept roads t u f have =
    each_both (λ road. (q : Path) → under q road ≡ true → is_on_any roads q ≡ true) (λ road. HasRoad road t) (λ road. HasRoad road u) roads (λ road on has q w. f q (on q w) (has q w)) (on_each roads) have

pub scratch_own : (p : Path) → in_scratch p ≡ true → is_own p ≡ true
scratch_own p h =
    or_left (under dvc_path p) (under lock_path p) (elim (or_cases (is_at dvc_path p) (under tmp_path p) h) [
      | inl at ↦ (and_parts (under dvc_path p) (under p dvc_path) at).0
      | inr tmp ↦ under-trans dvc_path tmp_path p tmp_in_dvc tmp
    ])

way_no_scratch : (s : Stage) (q : Path) → IsKept is_own s → is_way s q ≡ true → in_scratch q ≡ false
way_no_scratch s q kept way =
    false_from_ne_true (in_scratch q) (λ e. false≢true (sym (own_no_way s q kept (scratch_own q e)) ∙ way))

pub roads_scratch : (s : Stage) (m n : Moment) → IsStage s → IsKept is_own s → InScratch m n → HaveRoads (s.dir ∷ map above_out s.outs) m.tree → HaveRoads (s.dir ∷ map above_out s.outs) n.tree
roads_scratch s m n stage kept h have =
    roads_kept (s.dir ∷ map above_out s.outs) m.tree n.tree (λ q on none bytes e. none bytes (sym (h.others.paths.items q (way_no_scratch s q kept (sym (on_way s q stage) ∙ on))) ∙ e)) have

pub roads_clear : (roads outs : List Path) (m n : Moment) → Keeps (is_in_any outs) m n → IsClear n.tree outs → HaveRoads roads m.tree → HaveRoads roads n.tree
roads_clear roads outs m n h clear have =
    roads_kept roads m.tree n.tree (λ q on none bytes e. elim (cases_Bool (is_in_any outs q)) [
      | inl in' ↦ missing bytes (sym (clear q in') ∙ e)
      | inr out ↦ none bytes (sym (h.paths.items q out) ∙ e)
    ]) have
  where
    missing : (bytes : List ℕ) → None ≡ Some (file bytes) → ⊥
    missing bytes e = absurd (cc)

-- ---- moments of the turn

pub scratch_work : (s : Stage) (a b : History) → PassesFrom InScratch a b → PassesFrom (InWork s []) a b
scratch_work s a b x = passes_weaker (InScratch a.present) (InWork s [] a.present) a b (λ m h. work_of_scratch s a.present m h) x

pub clear_work : (s : Stage) (a b : History) → IsKept is_own s → PassesFrom (Keeps (is_in_any (stage_outs s))) a b → PassesFrom (InWork s []) a b
clear_work s a b kept x =
    passes_weaker (Keeps (is_in_any (stage_outs s)) a.present) (InWork s [] a.present) a b (λ m h. work_of_clear s a.present m kept h) x

pub folders_work : (s : Stage) (roads : List Path) (a b : History) → IsStage s → IsKept is_own s → roads ≡ s.dir ∷ map above_out s.outs → PassesFrom (InFolders roads) a b → PassesFrom (InWork s []) a b
folders_work s roads a b stage kept e x =
    passes_weaker (InFolders roads a.present) (InWork s [] a.present) a b (λ m h. work_of_made s (is_on_any roads) a.present m kept (λ q on. sym (on_way s q stage) ∙ ap (λ (rs : List Path). is_on_any rs q) (sym e) ∙ on) h.made h.others) x

-- ---- what the job is given

beside_work : (s : Stage) (m n : Moment) → InWork s [] m n → Beside s m n
beside_work s m n h =
    record {
      made = λ p ne own out. h.ways p (turns_area s p (not_in_turns s p ne own out));
      objects = h.objects;
    }

own_deps : (s : Stage) → is_ordered (s ∷ []) ≡ true → AllByRecursion (λ d. list_any (overlap d.path) (stage_outs s) ≡ false) s.deps
own_deps s order =
    let outs : List Path = flat_map stage_outs (s ∷ []) in
    let free = not_false _ (and_parts (not (list_any (λ p. list_any (overlap p) outs) (read_paths s))) true order).0 in
    let reads = each_mapped dep_path (λ p. list_any (overlap p) outs ≡ false) s.deps (each_front (λ p. list_any (overlap p) outs ≡ false) (map dep_path s.deps) (map tracked_path s.params) (any_false (λ p. list_any (overlap p) outs) (read_paths s) free)).0 in
    each_from (λ (d : Dep). list_any (overlap d.path) outs ≡ false) (λ (d : Dep). list_any (overlap d.path) (stage_outs s) ≡ false) s.deps (λ d h. (or_parts (list_any (overlap d.path) (stage_outs s)) false (sym (list_any-append (overlap d.path) (stage_outs s) []) ∙ h)).0) reads

pub given_kept : (s : Stage) (job : Job) (m n : Moment) → IsStage s → IsKept is_own s → is_ordered (s ∷ []) ≡ true → IsJobOf s job → see_fault s m.tree ≡ None → InWork s [] m n → invocation_of job n.tree ≡ invocation_of job m.tree
given_kept s job m n stage kept order its none h =
    let beside = beside_work s m n h in
    let apart = each_mapped dep_path (IsApart is_own) s.deps (each_front (IsApart is_own) (map dep_path s.deps) (map tracked_path s.params) kept.reads).0 in
    let free = each_both (λ (d : Dep). IsApart is_own d.path) (λ (d : Dep). list_any (overlap d.path) (stage_outs s) ≡ false) (λ (d : Dep). IsApart is_own d.path × (list_any (overlap d.path) (stage_outs s) ≡ false)) s.deps (λ d a b. (a, b)) apart (own_deps s order) in
    let same = same_given s its.0 m.tree n.tree stage (each_both (λ (d : Dep). IsApart is_own d.path × (list_any (overlap d.path) (stage_outs s) ≡ false)) (λ (d : Dep). is_nothing (dep_value m.tree d) ≡ false) (λ (d : Dep). value_at n.tree d.path ≡ value_at m.tree d.path) s.deps (λ d b t. value_stays s m n d.path beside b.0 b.1 (stands_inside d.inside (value_at m.tree d.path) t)) free (stood_deps s m.tree stage none)) in
    subst (λ (j : Job). invocation_of j n.tree ≡ invocation_of j m.tree) (sym its.1) same

-- ---- the job's folders

has_folders : (s : Stage) (job : Job) (t : Tree) → IsStage s → IsJobOf s job → AreFolders t (s.dir ∷ map above_out s.outs) → HasFolders job t
has_folders s job t stage its folders =
    let written = each_mapped above_out (IsFolderAt t) s.outs folders.1 in
    let ordered : AllByRecursion (λ o. item_at t (parent o.path) ≡ Some folder) s.made =
    subst (AllByRecursion (λ (o : Out). item_at t (parent o.path) ≡ Some folder)) (sym stage.made) (each_ordered out_text (λ o. item_at t (parent o.path) ≡ Some folder) s.outs written) in
    record {
      dir = ap (λ (j : Job). item_at t j.dir) its.1 ∙ folders.0;
      above = subst (AllByRecursion (λ (out : Path). item_at t (parent out) ≡ Some folder)) (sym (job_outs s job stage its)) (each_map out_path (λ out. item_at t (parent out) ≡ Some folder) s.made ordered);
    }

pub readied : (s : Stage) (job : Job) (roads : List Path) (m n : Moment) → IsStage s → IsKept is_own s → is_ordered (s ∷ []) ≡ true → IsJobOf s job → see_fault s m.tree ≡ None → roads ≡ s.dir ∷ map above_out s.outs → InWork s [] m n → AreFolders n.tree roads → IsReadied job m n
readied s job roads m n stage kept order its none e h folders =
    record {
      folders = has_folders s job n.tree stage its (subst (AreFolders n.tree) e folders);
      given = given_kept s job m n stage kept order its none h;
    }

-- ---- over histories

pub cleared_work : (s : Stage) (os : List Out) (a b c : History) → IsKept is_own s → os ≡ s.made → PassesFrom InScratch a b → PassesFrom (Keeps (is_in_any (map out_path os))) b c → PassesFrom (InWork s []) a c
cleared_work s os a b c kept e x y =
    passes_work s a b c (scratch_work s a b x) (clear_work s b c kept (subst (λ (l : List Out). PassesFrom (Keeps (is_in_any (map out_path l))) b c) e y))

pub made_work : (s : Stage) (os : List Out) (roads : List Path) (a b c d : History) → IsStage s → IsKept is_own s → os ≡ s.made → roads ≡ s.dir ∷ map above_out s.outs → PassesFrom InScratch a b → PassesFrom (Keeps (is_in_any (map out_path os))) b c → PassesFrom (InFolders roads) c d → PassesFrom (InWork s []) a d
made_work s os roads a b c d stage kept e f x y z =
    passes_work s a c d (cleared_work s os a b c kept e x y) (folders_work s roads c d stage kept f z)

pub roads_cleared : (s : Stage) (os : List Out) (roads : List Path) (a b c : History) → IsStage s → IsKept is_own s → way_fault s a.present.tree ≡ None → roads ≡ s.dir ∷ map above_out s.outs → PassesFrom InScratch a b → PassesFrom (Keeps (is_in_any (map out_path os))) b c → IsClear c.present.tree (map out_path os) → HaveRoads roads c.present.tree
roads_cleared s os roads a b c stage kept none f x y clear =
    subst (λ (rs : List Path). HaveRoads rs c.present.tree) (sym f)
    (roads_clear (s.dir ∷ map above_out s.outs) (map out_path os) b.present c.present y.now clear (roads_scratch s a.present b.present stage kept x.now (roads_have s a.present.tree none)))

pub ready_at : (s : Stage) (job : Job) (os : List Out) (roads : List Path) (a b c d : History) (got : Result (Unit {0}) Failed) → IsStage s → IsKept is_own s → is_ordered (s ∷ []) ≡ true → IsJobOf s job → see_fault s a.present.tree ≡ None → os ≡ s.made → roads ≡ s.dir ∷ map above_out s.outs → PassesFrom InScratch a b → PassesFrom (Keeps (is_in_any (map out_path os))) b c → PassesFrom (InFolders roads) c d → OnOk got (AreFolders d.present.tree roads) → OnOk got (IsReadied job a.present d.present)
ready_at s job os roads a b c d (Err why) stage kept order its none e f x y z made = tt
ready_at s job os roads a b c d (Ok done) stage kept order its none e f x y z made =
    let work = made_work s os roads a b c d stage kept e f x y z in
    readied s job roads a.present d.present stage kept order its none f work.now made
