-- What stays while a later stage has its turn.
--     IsBefore a s       a stage, and one that comes later
--     Beside s k n       nothing was touched but the later stage's outputs, folders, and the tool's own
--     run_stays          what a run made stands after the later turn as well
--     stored_stays       and its cached outputs are in the cache
use Rattle.std.proofs.Common.{◌≡◌, ◌≢◌, ℕ, Bool, true, false, ◌||◌, List, [], ◌∷◌, ◌++◌, map, inl, inr, refl, sym, ap, subst, ◌∙◌, append-nil, Option, Some, None, is_some, IsSome}
use Rattle.std.specs.Prelude.{bytes_eq, codes}
use Rattle.std.specs.List.{AllByRecursion, list_any, flat_map}
use Rattle.std.proofs.lemmas.Bool.{false≢true, or_parts, or_from, and_parts, and_from, false_from_ne_true}
use Rattle.std.proofs.lemmas.List.Folds.{list_any-append}
use Rattle.std.proofs.lemmas.Slice.Eq.{bytes_eq-Decides}
use Rattle.dvc_base.specs.Path.{Path, under, overlap}
use Rattle.dvc_base.specs.Name.{ObjectName}
use Rattle.dvc_base.specs.declared.data.ParamFile.{ParamFile}
use Rattle.dvc_base.proofs.PathLemmas.{under-refl, under-trans}
use Rattle.world_api.specs.Tree.{Tree, Item, Value, nothing, content, members, item_at, value_of, value_at}
use Rattle.world_api.specs.Effect.{Effect, gives, is_in_any}
use Rattle.world_api.specs.History.{Moment}
use Rattle.world_api.specs.Writes.{is_at, in_scratch, IsMade}
use Rattle.world_api.specs.Layout.{dvc_path, tmp_path, lock_path}
use Rattle.world_api.proofs.LaneLemmas.{tmp_in_dvc}
use Rattle.file_hash.specs.Naming.{named_of}
use Rattle.lock_files.specs.declared.entry.PathEntry.{PathEntry}
use Rattle.lock_files.specs.Book.{Lock, entry_of}
use Rattle.object_cache.specs.Objects.{object_at, are_whole, object_names, is_stored}
use Rattle.object_cache.specs.Store.{shelf_path, is_cache_folder}
use Rattle.change_check.specs.Same.{canonical_files, seen_path, told_of}
use Rattle.change_check.specs.declared.seen.SeenPath.{SeenPath}
use Rattle.change_check.specs.declared.seen.Seen.{Seen}
use Rattle.repro_laws.specs.Stage.{out_path, stage_outs, value_inside, dep_value, is_nothing, IsStage}
use Rattle.repro_laws.specs.Entries.{seen_dep, seen_out, seen_at}
use Rattle.repro_laws.specs.Lock.{HasEntry}
use Rattle.repro_laws.specs.Due.{Due}
use Rattle.repro_laws.specs.Turns.{AreStored}
use Rattle.repro_laws.specs.Headline.{IsApart}
use Rattle.repro_laws.specs.Moments.{is_own, HaveRun, IsRunOf, in_places, in_turns, InTurns}
use Rattle.repro_laws.specs.declared.stage.Dep.{Dep}
use Rattle.repro_laws.specs.declared.stage.Out.{Out}
use Rattle.repro_laws.specs.declared.stage.Stage.{Stage}
use Rattle.repro_laws.specs.declared.stage.Flags.{Flags}
use Rattle.repro_laws.proofs.FileLemmas.{only_file, file_at}
use Rattle.repro_laws.proofs.AlikeLemmas.{each_on, each_two, map_same, value_kept, apart_below}
use Rattle.repro_laws.proofs.ParamLemmas.{params_same, params_stand}
use Rattle.repro_laws.proofs.SeenLemmas.{invocation_same}
use Rattle.repro_laws.proofs.TurnDue.{outside_below}
use Rattle.repro_laws.proofs.MomentLemmas.{run_later}

-- ---- paths that turns leave

own_dvc : (p : Path) → is_own p ≡ false → (under dvc_path p ≡ false) × (under lock_path p ≡ false)
own_dvc p h = or_parts (under dvc_path p) (under lock_path p) h

below_dvc : (q p : Path) → under dvc_path q ≡ true → under dvc_path p ≡ false → under q p ≡ false
below_dvc q p u h = false_from_ne_true (under q p) (λ e. false≢true (sym h ∙ under-trans dvc_path q p u e))

shelf_in_dvc : under dvc_path shelf_path ≡ true
unfolding dvc_path
shelf_in_dvc = refl

-- what leads to the shelf is the root, or the tool's own
above_shelf : (p : Path) → p ≢ [] → under p shelf_path ≡ true → under dvc_path p ≡ true
unfolding dvc_path
above_shelf [] ne u = absurd (ne refl)
above_shelf (c ∷ p) ne u =
    let here = (and_parts (bytes_eq c (codes ".dvc")) (under p (codes "cache" ∷ codes "files" ∷ codes "md5" ∷ [])) u).0 in
    let same : c ≡ codes ".dvc" = (bytes_eq-Decides c (codes ".dvc")).0 here in
    and_from (bytes_eq (codes ".dvc") c) true ((bytes_eq-Decides (codes ".dvc") c).1 (sym same)) refl

pub not_in_turns : (s : Stage) (p : Path) → p ≢ [] → is_own p ≡ false → is_in_any (stage_outs s) p ≡ false → in_turns (s ∷ []) p ≡ false
not_in_turns s p ne own out =
    let parts = own_dvc p own in
    let outs : is_in_any (flat_map stage_outs (s ∷ [])) p ≡ false =
    list_any-append (λ o. under o p) (stage_outs s) [] ∙ or_from (is_in_any (stage_outs s) p) false out refl in
    let tmp = below_dvc tmp_path p tmp_in_dvc parts.0 in
    let shelf = below_dvc shelf_path p shelf_in_dvc parts.0 in
    let scratch : in_scratch p ≡ false =
    or_from (is_at dvc_path p) (under tmp_path p) (false_from_ne_true (is_at dvc_path p) (λ e. false≢true (sym parts.0 ∙ (and_parts (under dvc_path p) (under p dvc_path) e).0))) tmp in
    let above : under p shelf_path ≡ false =
    false_from_ne_true (under p shelf_path) (λ e. false≢true (sym parts.0 ∙ above_shelf p ne e)) in
    let places : in_places p ≡ false =
    false_from_ne_true (in_places p) (λ e. false≢true (sym shelf ∙ (and_parts (under shelf_path p) _ e).0)) in
    let folders : is_cache_folder p ≡ false =
    or_from (under p shelf_path) _ above (false_from_ne_true _ (λ e. false≢true (sym shelf ∙ (and_parts (under shelf_path p) _ e).0))) in
    or_from (is_in_any (flat_map stage_outs (s ∷ [])) p) (in_scratch p || (is_cache_folder p || (in_places p || under lock_path p))) outs
    (or_from (in_scratch p) (is_cache_folder p || (in_places p || under lock_path p)) scratch
    (or_from (is_cache_folder p) (in_places p || under lock_path p) folders (or_from (in_places p) (under lock_path p) places parts.1)))

-- ---- a stage, and a later one

pub record IsBefore (a s : Stage) : Type 0 where
  pub stage : IsStage a
  pub deps : AllByRecursion (λ d. IsApart is_own d.path × (list_any (overlap d.path) (stage_outs s) ≡ false)) a.deps
  pub params : AllByRecursion (λ w. IsApart is_own w.path × (list_any (overlap w.path) (stage_outs s) ≡ false)) a.params
  pub outs : AllByRecursion (λ o. IsApart is_own o.path × (list_any (overlap o.path) (stage_outs s) ≡ false)) a.made
  pub name : bytes_eq s.name a.name ≡ false

-- what the turn of a stage leaves alone
pub record Beside (s : Stage) (k n : Moment) : Type 0 where
  pub made : (p : Path) → p ≢ [] → is_own p ≡ false → is_in_any (stage_outs s) p ≡ false → IsMade p k n
  pub objects : (name : ObjectName) (bytes : List ℕ) → object_at k.tree name ≡ Some bytes → object_at n.tree name ≡ Some bytes

pub beside_of : (flags : Flags) (effect : Effect) (s : Stage) (lock : Lock) (k end n : Moment) → InTurns flags effect (s ∷ []) lock k end n → Beside s k n
beside_of flags effect s lock k end n h =
    record { made = λ p ne own out. h.ways p (not_in_turns s p ne own out); objects = h.objects }

own_root : is_own dvc_path ≡ true
unfolding dvc_path lock_path
own_root = refl

apart_not_root : (p : Path) → IsApart is_own p → p ≢ []
apart_not_root [] apart e = false≢true (sym (apart dvc_path refl) ∙ own_root)
apart_not_root (c ∷ p) apart e = absurd (cc)

root_below : (p r : Path) → p ≢ [] → (p ++ r) ≢ []
root_below [] r ne = absurd (ne refl)
root_below (c ∷ p) r ne = λ e. absurd (cc)

made_file : (p : Path) (k n : Moment) → p ≢ [] → IsMade p k n → file_at n.tree p ≡ file_at k.tree p
made_file [] k n ne made = absurd (ne refl)
made_file (c ∷ p) k n ne (inl same) = ap only_file same.item
made_file (c ∷ p) k n ne (inr new) = ap only_file new.1.stands ∙ sym (ap only_file new.0)

made_item : (p : Path) (k n : Moment) (o : Option Item) → item_at k.tree p ≡ o → IsSome o → IsMade p k n → item_at n.tree p ≡ item_at k.tree p
made_item p k n o e some (inl same) = same.item
made_item p k n None e some (inr new) = absurd (false≢true some)
made_item p k n (Some item) e some (inr new) = absurd (gone (sym e ∙ new.0))
  where
    gone : Some item ≡ None → ⊥
    gone e = absurd (cc)

value_some : (t : Tree) (p : Path) (o : Option Item) → is_nothing (value_of t p o) ≡ false → IsSome o
value_some t p None h = absurd (false≢true (sym h))
value_some t p (Some item) h = refl

pub value_stays : (s : Stage) (k n : Moment) (p : Path) → Beside s k n → IsApart is_own p → list_any (overlap p) (stage_outs s) ≡ false → is_nothing (value_at k.tree p) ≡ false → value_at n.tree p ≡ value_at k.tree p
value_stays s k n p beside apart out there =
    let ne = apart_not_root p apart in
    let here = beside.made p ne (apart p (under-refl p)) (subst (λ (x : Path). is_in_any (stage_outs s) x ≡ false) (append-nil p) (outside_below (stage_outs s) p [] out)) in
    value_kept k.tree n.tree p (made_item p k n (item_at k.tree p) refl (value_some k.tree p (item_at k.tree p) there) here)
    (λ r. made_file (p ++ r) k n (root_below p r ne) (beside.made (p ++ r) (root_below p r ne) (apart_below is_own p r apart) (outside_below (stage_outs s) p r out)))

-- ---- what an entry tells of is there

heads : (a b : SeenPath) (as' bs : List SeenPath) → a ∷ as' ≡ b ∷ bs → a ≡ b
heads a b as' bs e = cc

tails : (a b : SeenPath) (as' bs : List SeenPath) → a ∷ as' ≡ b ∷ bs → as' ≡ bs
tails a b as' bs e = cc

named_there : (v : Value) (p : PathEntry) → Some (told_of p) ≡ named_of v → is_nothing v ≡ false
named_there nothing p e = absurd (cc)
named_there (content bytes) p e = refl
named_there (members m) p e = refl

told_there : {A : Type 0} (text : A → List ℕ) (value : A → Value) (es : List PathEntry) (xs : List A) → map seen_path es ≡ map (λ x. record { path = text x; named = named_of (value x) }) xs → AllByRecursion (λ x. is_nothing (value x) ≡ false) xs
told_there text value es [] e = tt
told_there text value [] (x ∷ xs) e = absurd (cc)
told_there text value (p ∷ ps) (x ∷ xs) e =
    let seen : SeenPath = record { path = text x; named = named_of (value x) } in
    let rest : List SeenPath = map (λ y. record { path = text y; named = named_of (value y) }) xs in
    (named_there (value x) p (ap (λ (y : SeenPath). y.named) (heads (seen_path p) seen (map seen_path ps) rest e)), told_there text value ps xs (tails (seen_path p) seen (map seen_path ps) rest e))

inside_there : (inside : Bool) (v : Value) → is_nothing (value_inside inside v) ≡ false → is_nothing v ≡ false
inside_there true nothing h = h
inside_there false nothing h = h
inside_there inside (content bytes) h = refl
inside_there inside (members m) h = refl

seen_with : Stage → List ParamFile → List SeenPath → List SeenPath → Seen
seen_with s ps deps outs = record { commands = s.commands; deps = deps; params = canonical_files ps; outs = outs }

path_with : List ℕ → Value → SeenPath
path_with text v = record { path = text; named = named_of v }

seen_same : (a : Stage) (ps : List ParamFile) (t u : Tree) → AllByRecursion (λ d. value_at u d.path ≡ value_at t d.path) a.deps → AllByRecursion (λ o. value_at u o.path ≡ value_at t o.path) a.made → seen_at a ps u ≡ seen_at a ps t
unfolding seen_with path_with
seen_same a ps t u deps outs =
    let ds : map (seen_dep u) a.deps ≡ map (seen_dep t) a.deps =
    map_same (seen_dep t) (seen_dep u) a.deps (each_on (λ d. value_at u d.path ≡ value_at t d.path) (λ d. seen_dep u d ≡ seen_dep t d) a.deps (λ d h. ap (λ v. path_with d.text (value_inside d.inside v)) h) deps) in
    let os : map (seen_out u) a.made ≡ map (seen_out t) a.made =
    map_same (seen_out t) (seen_out u) a.made (each_on (λ o. value_at u o.path ≡ value_at t o.path) (λ o. seen_out u o ≡ seen_out t o) a.made (λ o h. ap (path_with o.text) h) outs) in
    ap (λ xs. seen_with a ps xs (map (seen_out u) a.made)) ds ∙ ap (seen_with a ps (map (seen_dep t) a.deps)) os

outs_mapped : (t u : Tree) (os : List Out) → AllByRecursion (λ o. value_at u o.path ≡ value_at t o.path) os → map (value_at u) (map out_path os) ≡ map (value_at t) (map out_path os)
outs_mapped t u [] all = refl
outs_mapped t u (o ∷ os) all =
    ap (λ v. v ∷ map (value_at u) (map out_path os)) all.0 ∙ ap (λ vs. value_at t o.path ∷ vs) (outs_mapped t u os all.1)

-- ---- what a run made stays

pub record Stay (a : Stage) (t u : Tree) : Type 0 where
  pub deps : AllByRecursion (λ d. value_at u d.path ≡ value_at t d.path) a.deps
  pub params : AllByRecursion (λ w. value_at u w.path ≡ value_at t w.path) a.params
  pub outs : AllByRecursion (λ o. value_at u o.path ≡ value_at t o.path) a.made

pub stay : (a s : Stage) (lock : Lock) (k n : Moment) → IsBefore a s → Beside s k n → HasEntry lock k.tree a → Stay a k.tree n.tree
stay a s lock k n before beside has =
    let e = has.entry in
    let same = has.present.same in
    let deps : AllByRecursion (λ d. is_nothing (dep_value k.tree d) ≡ false) a.deps =
    told_there (λ (d : Dep). d.text) (dep_value k.tree) e.deps a.deps (ap (λ (x : Seen). x.deps) same) in
    let outs : AllByRecursion (λ o. is_nothing (value_at k.tree o.path) ≡ false) a.made =
    told_there (λ (o : Out). o.text) (λ (o : Out). value_at k.tree o.path) e.outs a.made (ap (λ (x : Seen). x.outs) same) in
    record {
      deps =
          each_two (λ d. IsApart is_own d.path × (list_any (overlap d.path) (stage_outs s) ≡ false)) (λ d. is_nothing (dep_value k.tree d) ≡ false) (λ d. value_at n.tree d.path ≡ value_at k.tree d.path) a.deps
          (λ d b t. value_stays s k n d.path beside b.0 b.1 (inside_there d.inside (value_at k.tree d.path) t)) before.deps deps;
      params =
          each_two (λ w. IsApart is_own w.path × (list_any (overlap w.path) (stage_outs s) ≡ false)) (λ w. is_nothing (value_at k.tree w.path) ≡ false) (λ w. value_at n.tree w.path ≡ value_at k.tree w.path) a.params
          (λ w b t. value_stays s k n w.path beside b.0 b.1 t) before.params (params_stand a k.tree has.present.params has.present.read);
      outs =
          each_two (λ o. IsApart is_own o.path × (list_any (overlap o.path) (stage_outs s) ≡ false)) (λ o. is_nothing (value_at k.tree o.path) ≡ false) (λ o. value_at n.tree o.path ≡ value_at k.tree o.path) a.made
          (λ o b t. value_stays s k n o.path beside b.0 b.1 t) before.outs outs;
    }

pub run_stays : (effect : Effect) (s : Stage) (lock later : Lock) (m k n : Moment) (d : Due) → IsBefore d.stage s → Beside s k n → HaveRun (s ∷ []) k n → entry_of later d.stage.name ≡ entry_of lock d.stage.name → IsRunOf effect lock m k d → IsRunOf effect later m n d
run_stays effect s lock later m k n d before beside ran kept r =
    let a = d.stage in
    let is = before.stage in
    let has = r.entry in
    let stays = stay a s lock k n before beside has in
    let made = r.made in
    let present = has.present in
    let read = params_same a k.tree n.tree stays.params in
    record {
      ran = run_later (s ∷ []) d.job m k n ran r.ran;
      made = record {
        params = made.params;
        read = read ∙ made.read;
        made = ap effect (invocation_same a made.params k.tree n.tree is stays.deps) ∙ made.made ∙ ap gives (sym (outs_mapped k.tree n.tree a.made stays.outs));
      };
      entry = record {
        entry = has.entry;
        there = kept ∙ has.there;
        present = record {
          params = present.params;
          read = read ∙ present.read;
          same = present.same ∙ sym (seen_same a present.params k.tree n.tree stays.deps stays.outs);
        };
      };
    }

-- ---- objects stay

some_by : {A : Type 0} (o x : Option A) → ((y : A) → o ≡ Some y → x ≡ Some y) → is_some o ≡ true → is_some x ≡ true
some_by None x f h = absurd (false≢true h)
some_by (Some y) x f h = ap is_some (f y refl)

whole_stays : (k n : Moment) (names : List ObjectName) → ((name : ObjectName) (bytes : List ℕ) → object_at k.tree name ≡ Some bytes → object_at n.tree name ≡ Some bytes) → are_whole k.tree names ≡ true → are_whole n.tree names ≡ true
whole_stays k n [] objects h = refl
whole_stays k n (name ∷ names) objects h =
    let parts = and_parts (is_some (object_at k.tree name)) (are_whole k.tree names) h in
    and_from (is_some (object_at n.tree name)) (are_whole n.tree names) (some_by (object_at k.tree name) (object_at n.tree name) (objects name) parts.0) (whole_stays k n names objects parts.1)

pub stored_stays : (a s : Stage) (lock : Lock) (k n : Moment) → IsBefore a s → Beside s k n → HasEntry lock k.tree a → AreStored k.tree a.made → AreStored n.tree a.made
stored_stays a s lock k n before beside has stored =
    let stays = stay a s lock k n before beside has in
    each_two (λ o. value_at n.tree o.path ≡ value_at k.tree o.path) (λ o. o.cached ≡ true → is_stored k.tree (value_at k.tree o.path) ≡ true) (λ o. o.cached ≡ true → is_stored n.tree (value_at n.tree o.path) ≡ true) a.made
    (λ o v h c. ap (is_stored n.tree) v ∙ whole_stays k n (object_names (value_at k.tree o.path)) beside.objects (h c)) stays.outs stored
