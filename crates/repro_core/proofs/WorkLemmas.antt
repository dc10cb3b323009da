-- The moments of a turn before its lock is written, one after another.
--     work_itself, work_then          no step, and one stretch of steps after another
--     work_of_..                      each step: a lane, a clear, a folder, an object, and the run of the job (`works_of_run`)
--     work_keeps_lock, work_place     the lock stays, and can be written
--     turns_of_work, turns_of_works   they are moments of the stage's turn
--     works_.., still_then_works      the same, where the job has run, or not
--     passes_work, passes_works, passes_still     over histories: one call more
--     work_of_made, folder_made       folders that are made on ways
--     own_of_dvc, own_outside, own_no_way     the tool's own paths: neither in an output nor on a way
use Rattle.std.proofs.Common.{◌≡◌, ◌⊎◌, ℕ, Bool, true, false, ◌||◌, List, [], ◌∷◌, ◌++◌, map, inl, inr, refl, sym, ap, subst, ◌∙◌, append_assoc, append-nil, Some}
use Rattle.std.specs.Prelude.{bytes_eq, codes}
use Rattle.std.specs.List.{AllByRecursion, list_any, flat_map}
use Rattle.std.proofs.lemmas.Bool.{false≢true, or_parts, or_from, or_left, or_right, or_cases, and_parts, and_from, false_from_ne_true}
use Rattle.std.proofs.lemmas.Slice.Eq.{bytes_eq-Decides}
use Rattle.std.proofs.lemmas.List.Folds.{list_any-append}
use Rattle.dvc_base.specs.Path.{Path, under, overlap}
use Rattle.dvc_base.specs.Name.{ObjectName, place_of}
use Rattle.dvc_base.proofs.PathLemmas.{under-refl, under-trans, under-append, under-overlap}
use Rattle.world_api.specs.Tree.{folder, file}
use Rattle.world_api.specs.Effect.{Effect, path_or_root, path_from, out_paths, is_in_any}
use Rattle.world_api.specs.History.{Fixed, Aside, Moment, History, Stays, itself, KeepsPaths, Keeps}
use Rattle.world_api.specs.Outside.{PassesFrom}
use Rattle.world_api.specs.Calls.{parent, InRun}
use Rattle.world_api.specs.Layout.{dvc_path, tmp_path, lock_path}
use Rattle.world_api.specs.Writes.{is_at, IsMade, IsSameAt, IsSameUnder, in_scratch, InScratch, InMakeFolder, CanWrite}
use Rattle.world_api.specs.declared.job.Job.{Job}
use Rattle.world_api.proofs.HistoryLemmas.{stays_itself, keeps_paths_itself, keeps_paths_then, keeps_paths_in, passes_weaker, passes_on}
use Rattle.world_api.proofs.WriteLemmas.{same_at, same_under, same_at_itself, same_under_itself, made_then_made}
use Rattle.world_api.proofs.LaneLemmas.{not_at, tmp_in_dvc}
use Rattle.world_api.proofs.TreeLemmas.{under_parent, path_cases}
use Rattle.object_cache.specs.Objects.{cache_path, object_path, object_at, whole_in}
use Rattle.object_cache.specs.Store.{shelf_path, is_cache_folder}
use Rattle.lock_files.specs.Book.{Lock}
use Rattle.repro_laws.specs.Stage.{out_path, out_text, stage_outs, Names, IsStage}
use Rattle.repro_laws.specs.Turns.{is_way}
use Rattle.repro_laws.specs.Headline.{IsApart, IsKept, is_any_way}
use Rattle.repro_laws.specs.Moments.{is_own, IsJobOf, AreJobsOf, in_places, in_turns, InTurns}
use Rattle.repro_laws.specs.declared.stage.Out.{Out}
use Rattle.repro_laws.specs.declared.stage.Stage.{Stage}
use Rattle.repro_laws.specs.declared.stage.Flags.{Flags}
use Rattle.repro_laws.proofs.MomentLemmas.{kept_place_then}
use Rattle.repro_core.specs.Steps.{in_work, InWork, InWorks, in_stored, InStored}

-- ---- the tool's own paths

apart_by : (a b p : Path) → overlap a b ≡ false → under a p ≡ true → under b p ≡ false
apart_by a b p apart u =
    false_from_ne_true (under b p) (λ e. false≢true (sym apart ∙ under-overlap a b p u e))

pub own_of_dvc : (p : Path) → under dvc_path p ≡ true → is_own p ≡ true
own_of_dvc p u = or_left (under dvc_path p) (under lock_path p) u

own_of_lock : (p : Path) → under lock_path p ≡ true → is_own p ≡ true
own_of_lock p u = or_right (under dvc_path p) (under lock_path p) u

own_below : (p q : Path) → under p q ≡ true → is_own p ≡ true → is_own q ≡ true
own_below p q u own =
    elim (or_cases (under dvc_path p) (under lock_path p) own) [
      | inl dvc ↦ own_of_dvc q (under-trans dvc_path p q dvc u)
      | inr lock ↦ own_of_lock q (under-trans lock_path p q lock u)
    ]

-- what is apart from the tool's own isn't it
not_own : (p : Path) → IsApart is_own p → is_own p ≡ false
not_own p apart = apart p (under-refl p)

each_outside : (outs : List Path) (p : Path) → AllByRecursion (IsApart is_own) outs → is_own p ≡ true → is_in_any outs p ≡ false
each_outside [] p kept own = refl
each_outside (out ∷ outs) p kept own =
    or_from (under out p) (is_in_any outs p) (false_from_ne_true (under out p) (λ u. false≢true (sym (kept.0 p u) ∙ own))) (each_outside outs p kept.1 own)

pub own_outside : (s : Stage) (p : Path) → IsKept is_own s → is_own p ≡ true → is_in_any (stage_outs s) p ≡ false
own_outside s p kept own = each_outside (stage_outs s) p kept.outs own

own_dvc : is_own dvc_path ≡ true
own_dvc = own_of_dvc dvc_path (under-refl dvc_path)

-- neither is the root
root_outside : (outs : List Path) → AllByRecursion (IsApart is_own) outs → is_in_any outs [] ≡ false
root_outside [] kept = refl
root_outside ([] ∷ outs) kept = absurd (false≢true (sym (kept.0 dvc_path refl) ∙ own_dvc))
root_outside ((c ∷ out) ∷ outs) kept = root_outside outs kept.1

each_no_way : (outs : List Path) (p : Path) → AllByRecursion (IsApart is_own) outs → is_own p ≡ true → list_any (λ out. under p (parent out)) outs ≡ false
each_no_way [] p kept own = refl
each_no_way (out ∷ outs) p kept own =
    or_from (under p (parent out)) (list_any (λ o. under p (parent o)) outs)
    (false_from_ne_true (under p (parent out)) (λ u. false≢true (sym (not_own out kept.0) ∙ own_below p out (under-trans p (parent out) out u (under_parent out)) own)))
    (each_no_way outs p kept.1 own)

pub own_no_way : (s : Stage) (p : Path) → IsKept is_own s → is_own p ≡ true → is_way s p ≡ false
own_no_way s p kept own =
    or_from (under p s.dir) (list_any (λ out. under p (parent out)) (stage_outs s))
    (false_from_ne_true (under p s.dir) (λ u. false≢true (sym kept.dir ∙ own_below p s.dir u own)))
    (each_no_way (stage_outs s) p kept.outs own)

-- ---- the cache and the lanes

cache_in_dvc : under dvc_path cache_path ≡ true
unfolding dvc_path
cache_in_dvc = refl

shelf_in_dvc : under dvc_path shelf_path ≡ true
unfolding dvc_path
shelf_in_dvc = refl

cache_no_tmp : overlap cache_path tmp_path ≡ false
unfolding tmp_path
cache_no_tmp = refl

cache_not_above : under cache_path dvc_path ≡ false
unfolding dvc_path
cache_not_above = refl

shelf_no_tmp : overlap shelf_path tmp_path ≡ false
unfolding tmp_path
shelf_no_tmp = refl

tmp_not_above : under tmp_path shelf_path ≡ false
unfolding tmp_path
tmp_not_above = refl

cache_no_scratch : (p : Path) → under cache_path p ≡ true → in_scratch p ≡ false
cache_no_scratch p u =
    or_from (is_at dvc_path p) (under tmp_path p)
    (false_from_ne_true (is_at dvc_path p) (λ e. false≢true (sym cache_not_above ∙ under-trans cache_path p dvc_path u (and_parts (under dvc_path p) (under p dvc_path) e).1)))
    (apart_by cache_path tmp_path p cache_no_tmp u)

below_object : (name : ObjectName) (p : Path) → under (object_path name) p ≡ true → under cache_path p ≡ true
below_object name p u = under-trans cache_path (object_path name) p (under-append cache_path (place_of name)) u

object_own : (name : ObjectName) (p : Path) → under (object_path name) p ≡ true → is_own p ≡ true
object_own name p u = own_of_dvc p (under-trans dvc_path cache_path p cache_in_dvc (below_object name p u))

-- a folder of the cache is below no lane
folder_no_tmp : (p : Path) → is_cache_folder p ≡ true → under tmp_path p ≡ false
folder_no_tmp p e =
    elim (or_cases (under p shelf_path) _ e) [
      | inl above ↦
          false_from_ne_true (under tmp_path p) (λ u. false≢true (sym tmp_not_above ∙ under-trans tmp_path p shelf_path u above))
      | inr below ↦ apart_by shelf_path tmp_path p shelf_no_tmp (and_parts (under shelf_path p) _ below).0
    ]

-- what leads to the shelf is the root, or the tool's own
above_shelf : (p : Path) → under p shelf_path ≡ true → (p ≡ []) ⊎ (is_own p ≡ true)
unfolding dvc_path
above_shelf [] u = inl refl
above_shelf (c ∷ p) u =
    let here = (and_parts (bytes_eq c (codes ".dvc")) (under p (codes "cache" ∷ codes "files" ∷ codes "md5" ∷ [])) u).0 in
    let same : c ≡ codes ".dvc" = (bytes_eq-Decides c (codes ".dvc")).0 here in
    inr (own_of_dvc (c ∷ p) (and_from (bytes_eq (codes ".dvc") c) true ((bytes_eq-Decides (codes ".dvc") c).1 (sym same)) refl))

folder_outside : (s : Stage) (p : Path) → IsKept is_own s → is_cache_folder p ≡ true → is_in_any (stage_outs s) p ≡ false
folder_outside s p kept e =
    elim (or_cases (under p shelf_path) _ e) [
      | inl above ↦
          elim (above_shelf p above) [
            | inl root ↦
                subst (λ (x : Path). is_in_any (stage_outs s) x ≡ false) (sym root) (root_outside (stage_outs s) kept.outs)
            | inr own ↦ own_outside s p kept own
          ]
      | inr below ↦
          own_outside s p kept (own_of_dvc p (under-trans dvc_path shelf_path p shelf_in_dvc (and_parts (under shelf_path p) _ below).0))
    ]

-- ---- the area

abbrev whole_work : Stage → Path → Bool
whole_work s p = in_work s p || is_way s p

abbrev rest_of_work : Path → Bool
rest_of_work p = in_scratch p || (is_cache_folder p || in_places p)

outside_scratch : (s : Stage) (p : Path) → in_work s p ≡ false → in_scratch p ≡ false
outside_scratch s p out = (or_parts (in_scratch p) (is_cache_folder p || in_places p) (or_parts (is_in_any (stage_outs s) p) (rest_of_work p) out).1).0

whole_scratch : (s : Stage) (p : Path) → whole_work s p ≡ false → in_scratch p ≡ false
whole_scratch s p out = outside_scratch s p (or_parts (in_work s p) (is_way s p) out).0

outside_outs : (s : Stage) (p : Path) → in_work s p ≡ false → is_in_any (stage_outs s) p ≡ false
outside_outs s p out = (or_parts (is_in_any (stage_outs s) p) (rest_of_work p) out).0

whole_outs : (s : Stage) (p : Path) → whole_work s p ≡ false → is_in_any (stage_outs s) p ≡ false
whole_outs s p out = outside_outs s p (or_parts (in_work s p) (is_way s p) out).0

outside_stored : (s : Stage) (p : Path) → in_work s p ≡ false → in_stored p ≡ false
outside_stored s p out = (or_parts (is_in_any (stage_outs s) p) (rest_of_work p) out).1

-- the lock
lock_no_dvc : overlap lock_path dvc_path ≡ false
unfolding lock_path dvc_path
lock_no_dvc = refl

lock_not_above : under lock_path shelf_path ≡ false
unfolding lock_path
lock_not_above = refl

below_lock : (p : Path) → under lock_path p ≡ true → under dvc_path p ≡ false
below_lock p u = apart_by lock_path dvc_path p lock_no_dvc u

lock_no_part : (q p : Path) → under dvc_path q ≡ true → under lock_path p ≡ true → under q p ≡ false
lock_no_part q p in' u = false_from_ne_true (under q p) (λ e. false≢true (sym (below_lock p u) ∙ under-trans dvc_path q p in' e))

lock_outside : (s : Stage) (p : Path) → IsKept is_own s → under lock_path p ≡ true → whole_work s p ≡ false
lock_outside s p kept u =
    let shelf = lock_no_part shelf_path p shelf_in_dvc u in
    let scratch : in_scratch p ≡ false =
    or_from (is_at dvc_path p) (under tmp_path p) (false_from_ne_true (is_at dvc_path p) (λ e. false≢true (sym (below_lock p u) ∙ (and_parts (under dvc_path p) (under p dvc_path) e).0))) (lock_no_part tmp_path p tmp_in_dvc u) in
    let folders : is_cache_folder p ≡ false =
    or_from (under p shelf_path) _ (false_from_ne_true (under p shelf_path) (λ e. false≢true (sym lock_not_above ∙ under-trans lock_path p shelf_path u e))) (false_from_ne_true _ (λ e. false≢true (sym shelf ∙ (and_parts (under shelf_path p) _ e).0))) in
    let places : in_places p ≡ false =
    false_from_ne_true (in_places p) (λ e. false≢true (sym shelf ∙ (and_parts (under shelf_path p) _ e).0)) in
    or_from (in_work s p) (is_way s p)
    (or_from (is_in_any (stage_outs s) p) (rest_of_work p) (own_outside s p kept (own_of_lock p u)) (or_from (in_scratch p) (is_cache_folder p || in_places p) scratch (or_from (is_cache_folder p) (in_places p) folders places)))
    (own_no_way s p kept (own_of_lock p u))

-- ---- jobs beside the tree

with_jobs : Fixed → List Job → Fixed
with_jobs f js = record f { ran = f.ran ++ js }

with_ran : Fixed → List Job → Fixed
with_ran f l = record f { ran = l }

abbrev AddsJobs : List Job → Aside → Aside → Type 0
AddsJobs jobs a b = Stays (λ f. record f { ran = f.ran ++ jobs }) a b

adds_none : (a b : Aside) → Stays itself a b → AddsJobs [] a b
unfolding with_ran
adds_none a b h =
    record { fixed = h.fixed ∙ ap (with_ran a.fixed) (sym (append-nil a.fixed.ran)); book = h.book }

adds_then : (is js : List Job) (a b c : Aside) → AddsJobs is a b → AddsJobs js b c → AddsJobs (is ++ js) a c
unfolding with_jobs with_ran
adds_then is js a b c x y =
    record {
      fixed = y.fixed ∙ ap (λ f. with_jobs f js) x.fixed ∙ ap (with_ran a.fixed) (append_assoc a.fixed.ran is js);
      book = λ d bytes e. y.book d bytes (x.book d bytes e);
    }

-- ---- one stretch after another

pub work_itself : (s : Stage) (m : Moment) → InWork s [] m m
work_itself s m =
    record {
      paths = keeps_paths_itself (whole_work s) m;
      ways = λ p out. inl (same_at_itself p m);
      dvc = inl (same_at_itself dvc_path m);
      folders = λ p in'. inl (same_at_itself p m);
      places = λ name. inl (same_under_itself (object_path name) m);
      objects = λ name bytes e. e;
      aside = adds_none m.aside m.aside (stays_itself m.aside);
    }

pub work_then : (s : Stage) (js ks : List Job) (m k n : Moment) → InWork s js m k → InWork s ks k n → InWork s (js ++ ks) m n
work_then s js ks m k n a b =
    record {
      paths = keeps_paths_then (whole_work s) m k n a.paths b.paths;
      ways = λ p out. made_then_made p m k n (a.ways p out) (b.ways p out);
      dvc = made_then_made dvc_path m k n a.dvc b.dvc;
      folders = λ p in'. made_then_made p m k n (a.folders p in') (b.folders p in');
      places = λ name. kept_place_then (object_path name) m k n (a.places name) (b.places name);
      objects = λ name bytes e. b.objects name bytes (a.objects name bytes e);
      aside = adds_then js ks m.aside k.aside n.aside a.aside b.aside;
    }

-- ---- each step

object_same : (m n : Moment) (name : ObjectName) (bytes : List ℕ) → IsSameUnder (object_path name) m n → object_at m.tree name ≡ Some bytes → object_at n.tree name ≡ Some bytes
object_same m n name bytes same e =
    ap (whole_in name) (same.items (object_path name) (under-refl (object_path name))) ∙ e

paths_same_at : (p : Path) (area : Path → Bool) (m n : Moment) → KeepsPaths area m n → area p ≡ false → IsSameAt p m n
paths_same_at p area m n keeps out = record { item = keeps.items p out; loose = keeps.loose p out }

paths_same_under : (q : Path) (area : Path → Bool) (m n : Moment) → KeepsPaths area m n → ((p : Path) → under q p ≡ true → area p ≡ false) → IsSameUnder q m n
paths_same_under q area m n keeps out =
    record { items = λ p u. keeps.items p (out p u); loose = λ p u. keeps.loose p (out p u) }

pub work_of_scratch : (s : Stage) (m n : Moment) → InScratch m n → InWork s [] m n
work_of_scratch s m n h =
    let others = h.others in
    let place : (name : ObjectName) → IsSameUnder (object_path name) m n =
    λ name. same_under (object_path name) in_scratch m n others (λ p u. cache_no_scratch p (below_object name p u)) in
    record {
      paths = keeps_paths_in in_scratch (whole_work s) m n (whole_scratch s) others.paths;
      ways = λ p out. inl (same_at p in_scratch m n others (outside_scratch s p out));
      dvc = h.dvc;
      folders = λ p in'. scratch_made p m n h (folder_no_tmp p in');
      places = λ name. inl (place name);
      objects = λ name bytes e. object_same m n name bytes (place name) e;
      aside = adds_none m.aside n.aside others.aside;
    }
  where
    scratch_made : (p : Path) (m n : Moment) → InScratch m n → under tmp_path p ≡ false → IsMade p m n
    scratch_made p m n h out =
        elim (path_cases dvc_path p) [
          | inl same ↦ subst (λ (x : Path). IsMade x m n) same h.dvc
          | inr ne ↦ inl (same_at p in_scratch m n h.others (or_from (is_at dvc_path p) (under tmp_path p) (not_at dvc_path p ne) out))
        ]

-- only what lies in the outputs has changed
work_of_outs : (s : Stage) (jobs : List Job) (m n : Moment) → IsKept is_own s → KeepsPaths (is_in_any (stage_outs s)) m n → AddsJobs jobs m.aside n.aside → InWork s jobs m n
work_of_outs s jobs m n kept h aside =
    let area : Path → Bool = is_in_any (stage_outs s) in
    let place : (name : ObjectName) → IsSameUnder (object_path name) m n =
    λ name. paths_same_under (object_path name) area m n h (λ p u. own_outside s p kept (object_own name p u)) in
    record {
      paths = keeps_paths_in area (whole_work s) m n (whole_outs s) h;
      ways = λ p out. inl (paths_same_at p area m n h (outside_outs s p out));
      dvc = inl (paths_same_at dvc_path area m n h (own_outside s dvc_path kept own_dvc));
      folders = λ p in'. inl (paths_same_at p area m n h (folder_outside s p kept in'));
      places = λ name. inl (place name);
      objects = λ name bytes e. object_same m n name bytes (place name) e;
      aside = aside;
    }

pub work_of_clear : (s : Stage) (m n : Moment) → IsKept is_own s → Keeps (is_in_any (stage_outs s)) m n → InWork s [] m n
work_of_clear s m n kept h = work_of_outs s [] m n kept h.paths (adds_none m.aside n.aside h.aside)

either : (b : Bool) → (b ≡ true) ⊎ (b ≡ false)
either true = inl refl
either false = inr refl

pub folder_made : (at : Path) (m n : Moment) → InMakeFolder at m n → (q : Path) → IsMade q m n
folder_made at m n h q =
    elim (either (under q at)) [ inl e ↦ h.road q e | inr e ↦ inl (same_at q (λ p. under p at) m n h.others e) ]

-- folders are made, all of them on ways
pub work_of_made : (s : Stage) (area : Path → Bool) (m n : Moment) → IsKept is_own s → ((q : Path) → area q ≡ true → is_way s q ≡ true) → ((q : Path) → IsMade q m n) → Keeps area m n → InWork s [] m n
work_of_made s area m n kept way made others =
    let out_area : (p : Path) → is_way s p ≡ false → area p ≡ false =
    λ p no. false_from_ne_true (area p) (λ e. false≢true (sym no ∙ way p e)) in
    let place : (name : ObjectName) → IsSameUnder (object_path name) m n =
    λ name. same_under (object_path name) area m n others (λ p u. out_area p (own_no_way s p kept (object_own name p u))) in
    record {
      paths = keeps_paths_in area (whole_work s) m n (λ p out. out_area p (or_parts (in_work s p) (is_way s p) out).1) others.paths;
      ways = λ p out. made p;
      dvc = made dvc_path;
      folders = λ p in'. made p;
      places = λ name. inl (place name);
      objects = λ name bytes e. object_same m n name bytes (place name) e;
      aside = adds_none m.aside n.aside others.aside;
    }

pub work_of_folder : (s : Stage) (at : Path) (m n : Moment) → IsKept is_own s → ((q : Path) → under q at ≡ true → is_way s q ≡ true) → InMakeFolder at m n → InWork s [] m n
work_of_folder s at m n kept way h = work_of_made s (λ q. under q at) m n kept way (folder_made at m n h) h.others

dvc_on_shelf : is_cache_folder dvc_path ≡ true
unfolding dvc_path
dvc_on_shelf = refl

pub work_of_stored : (s : Stage) (m n : Moment) → InStored m n → InWork s [] m n
work_of_stored s m n h =
    let others = h.others in
    record {
      paths = keeps_paths_in in_stored (whole_work s) m n (λ p out. outside_stored s p (or_parts (in_work s p) (is_way s p) out).0) others.paths;
      ways = λ p out. inl (same_at p in_stored m n others (outside_stored s p out));
      dvc = h.folders dvc_path dvc_on_shelf;
      folders = h.folders;
      places = h.places;
      objects = h.objects;
      aside = adds_none m.aside n.aside others.aside;
    }

-- ---- the run of the job

outs_mapped : (dir : Path) (os : List Out) → AllByRecursion (λ o. Names dir o.text o.path) os → map (path_from dir) (map out_text os) ≡ map out_path os
outs_mapped dir [] names = refl
outs_mapped dir (o ∷ os) names =
    ap (λ (p : Path). p ∷ map (path_from dir) (map out_text os)) (ap path_or_root names.0) ∙ ap (λ (ps : List Path). o.path ∷ ps) (outs_mapped dir os names.1)

pub job_outs : (s : Stage) (job : Job) → IsStage s → IsJobOf s job → out_paths job ≡ stage_outs s
job_outs s job stage its = ap out_paths its.1 ∙ outs_mapped s.dir s.made stage.out_names

one_job : (s : Stage) (job : Job) → IsJobOf s job → AreJobsOf (job ∷ []) (s ∷ [])
one_job s job its = inl (its, tt)

pub works_of_run : (s : Stage) (job : Job) (m n : Moment) → IsStage s → IsKept is_own s → IsJobOf s job → InRun job m n → InWorks s m n
works_of_run s job m n stage kept its h =
    let paths = subst (λ (outs : List Path). KeepsPaths (is_in_any outs) m n) (job_outs s job stage its) h.others in
    elim h.aside [
      | inl same ↦ record { jobs = []; its = tt; work = work_of_outs s [] m n kept paths (adds_none m.aside n.aside same) }
      | inr more ↦
          record { jobs = job ∷ []; its = one_job s job its; work = work_of_outs s (job ∷ []) m n kept paths more }
    ]

-- ---- where the job has run, or not

pub works_of_work : (s : Stage) (m n : Moment) → InWork s [] m n → InWorks s m n
works_of_work s m n h = record { jobs = []; its = tt; work = h }

pub works_itself : (s : Stage) (m : Moment) → InWorks s m m
works_itself s m = works_of_work s m m (work_itself s m)

pub works_then_still : (s : Stage) (m k n : Moment) → InWorks s m k → InWork s [] k n → InWorks s m n
works_then_still s m k n a b =
    record {
      jobs = a.jobs;
      its = a.its;
      work = subst (λ (jobs : List Job). InWork s jobs m n) (append-nil a.jobs) (work_then s a.jobs [] m k n a.work b);
    }

pub still_then_works : (s : Stage) (m k n : Moment) → InWork s [] m k → InWorks s k n → InWorks s m n
still_then_works s m k n a b = record { jobs = b.jobs; its = b.its; work = work_then s [] b.jobs m k n a b.work }

-- ---- the lock

pub work_keeps_lock : (s : Stage) (jobs : List Job) (m n : Moment) → IsKept is_own s → InWork s jobs m n → IsSameUnder lock_path m n
work_keeps_lock s jobs m n kept h = paths_same_under lock_path (whole_work s) m n h.paths (λ p u. lock_outside s p kept u)

pub work_place : (s : Stage) (jobs : List Job) (m n : Moment) → IsKept is_own s → InWork s jobs m n → CanWrite lock_path m.tree → CanWrite lock_path n.tree
unfolding lock_path
work_place s jobs m n kept h can =
    let same = work_keeps_lock s jobs m n kept h in
    let room = can.room in
    record {
      room = record {
        above = refl;
        no_folder = λ e. room.no_folder (sym (same.items lock_path (under-refl lock_path)) ∙ e);
      };
      no_file = λ bytes e. elim h.dvc [
        | inl made ↦ can.no_file bytes (sym made.item ∙ e)
        | inr made ↦ absurd (clash bytes (sym made.1.stands ∙ e))
      ];
    }
  where
    clash : (bytes : List ℕ) → Some folder ≡ Some (file bytes) → ⊥
    clash bytes e = absurd (cc)

-- ---- moments of the turn

turns_outs : (s : Stage) (p : Path) → is_in_any (flat_map stage_outs (s ∷ [])) p ≡ false → is_in_any (stage_outs s) p ≡ false
turns_outs s p out =
    (or_parts (is_in_any (stage_outs s) p) false (sym (list_any-append (λ out. under out p) (stage_outs s) []) ∙ out)).0

pub turns_area : (s : Stage) (p : Path) → in_turns (s ∷ []) p ≡ false → in_work s p ≡ false
turns_area s p out =
    let outs : Bool = is_in_any (flat_map stage_outs (s ∷ [])) p in
    let first = or_parts outs (in_scratch p || (is_cache_folder p || (in_places p || under lock_path p))) out in
    let second = or_parts (in_scratch p) (is_cache_folder p || (in_places p || under lock_path p)) first.1 in
    let third = or_parts (is_cache_folder p) (in_places p || under lock_path p) second.1 in
    let fourth = or_parts (in_places p) (under lock_path p) third.1 in
    or_from (is_in_any (stage_outs s) p) (rest_of_work p) (turns_outs s p first.0)
    (or_from (in_scratch p) (is_cache_folder p || in_places p) second.0 (or_from (is_cache_folder p) (in_places p) third.0 fourth.0))

turns_whole : (s : Stage) (p : Path) → (in_turns (s ∷ []) p || is_any_way (s ∷ []) p) ≡ false → whole_work s p ≡ false
turns_whole s p out =
    let parts = or_parts (in_turns (s ∷ []) p) (is_any_way (s ∷ []) p) out in
    or_from (in_work s p) (is_way s p) (turns_area s p parts.0) (or_parts (is_way s p) false parts.1).0

pub turns_of_work : (flags : Flags) (effect : Effect) (s : Stage) (jobs : List Job) (lock : Lock) (m end n : Moment) → IsKept is_own s → AreJobsOf jobs (s ∷ []) → InWork s jobs m n → InTurns flags effect (s ∷ []) lock m end n
turns_of_work flags effect s jobs lock m end n kept its h =
    record {
      paths = keeps_paths_in (whole_work s) (λ p. in_turns (s ∷ []) p || is_any_way (s ∷ []) p) m n (turns_whole s) h.paths;
      ways = λ p out. h.ways p (turns_area s p out);
      dvc = h.dvc;
      folders = h.folders;
      places = h.places;
      objects = h.objects;
      ran = record { jobs = jobs; some = its; aside = h.aside };
      remembered = inl (work_keeps_lock s jobs m n kept h);
    }

pub turns_of_works : (flags : Flags) (effect : Effect) (s : Stage) (lock : Lock) (m end n : Moment) → IsKept is_own s → InWorks s m n → InTurns flags effect (s ∷ []) lock m end n
turns_of_works flags effect s lock m end n kept h = turns_of_work flags effect s h.jobs lock m end n kept h.its h.work

-- ---- over histories

pub passes_work : (s : Stage) (a b c : History) → PassesFrom (InWork s []) a b → PassesFrom (InWork s []) b c → PassesFrom (InWork s []) a c
passes_work s a b c x y =
    passes_on (InWork s [] a.present) (InWork s [] b.present) a b c x (λ m h. work_then s [] [] a.present b.present m x.now h) y

pub passes_works : (s : Stage) (a b c : History) → PassesFrom (InWorks s) a b → PassesFrom (InWork s []) b c → PassesFrom (InWorks s) a c
passes_works s a b c x y =
    passes_on (InWorks s a.present) (InWork s [] b.present) a b c x (λ m h. works_then_still s a.present b.present m x.now h) y

pub passes_still : (s : Stage) (a b c : History) → PassesFrom (InWork s []) a b → PassesFrom (InWorks s) b c → PassesFrom (InWorks s) a c
passes_still s a b c x y =
    passes_on (InWorks s a.present) (InWorks s b.present) a b c (passes_weaker (InWork s [] a.present) (InWorks s a.present) a b (works_of_work s a.present) x) (λ m h. still_then_works s a.present b.present m x.now h) y
