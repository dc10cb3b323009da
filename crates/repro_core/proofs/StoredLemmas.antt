-- Moments in which values are put into the cache.
--     stored_itself, stored_then      the first of them, and one stretch of them after another
--     short_names                     the names of a value's objects have 32 digits
--     stored_of_store, stored_of_value      while objects of some names, or of a value, are stored
--     passes_value, passes_untouched, passes_stored     each moment of a call, and of one call after another
--     stay_stored, stored_value       a value stays that stands apart from what the tool keeps
--     stored_made, stored_outs        so do those at a stage's outputs
--     stored_whole, stored_is         what was whole stays so
use Rattle.std.proofs.Common.{◌≡◌, ◌≢◌, ℕ, ◌+◌, Bool, true, false, cond, nat_le, ◌||◌, List, [], ◌∷◌, ◌++◌, map, length, drop, get_or, inl, inr, refl, sym, ap, subst, ◌∙◌, arith, Option, Some, None, is_some, ◌==◌}
use Rattle.std.specs.List.{AllByRecursion}
use Rattle.std.specs.FinMap.{entries}
use Rattle.std.proofs.lemmas.Bool.{false≢true, or_parts, or_from, or_cases, and_parts, and_from, false_from_ne_true, cases_Bool}
use Rattle.std.proofs.lemmas.List.{length-take-le}
use Rattle.dvc_base.specs.Path.{Path, under}
use Rattle.dvc_base.specs.Name.{ObjectName}
use Rattle.dvc_base.proofs.PathLemmas.{under-append, under-refl, under-split, under-trans, under-antisym}
use Rattle.dvc_base.proofs.NameLemmas.{are_digits-length}
use Rattle.file_hash.specs.Listing.{put_in, in_order, is_before, listing_of, listing_text, name_of_bytes, member_with}
use Rattle.file_hash.specs.Naming.{name_of_listing}
use Rattle.file_hash.specs.declared.listing.Member.{Member}
use Rattle.file_hash.proofs.HashLemmas.{name_of_bytes-digits}
use Rattle.world_api.specs.Tree.{Tree, Value, nothing, content, members, item_at, value_at}
use Rattle.world_api.specs.History.{Moment, History, Passes}
use Rattle.world_api.specs.Writes.{is_at, IsSameUnder, in_scratch}
use Rattle.world_api.specs.Layout.{dvc_path, lock_path}
use Rattle.world_api.proofs.HistoryLemmas.{keeps_itself, keeps_then, passes_same, passes_weaker, passes_on}
use Rattle.world_api.proofs.WriteLemmas.{same_at_itself, same_under_itself, made_then_made}
use Rattle.object_cache.specs.Objects.{object_path, object_at, are_whole, member_name, object_names, is_stored}
use Rattle.object_cache.specs.Store.{shelf_path, is_cache_folder, in_objects, in_store, is_place_of_any, IsStoredPlace, InStore}
use Rattle.repro_laws.specs.Stage.{out_path, out_text, IsStage}
use Rattle.repro_laws.specs.Headline.{IsApart, IsKept}
use Rattle.repro_laws.specs.Moments.{is_own, has_place, in_places}
use Rattle.repro_laws.specs.declared.stage.Out.{Out}
use Rattle.repro_laws.specs.declared.stage.Stage.{Stage}
use Rattle.repro_laws.proofs.AlikeLemmas.{value_kept, apart_below, each_on, each_mapped, each_written}
use Rattle.repro_laws.proofs.FileLemmas.{only_file, file_at}
use Rattle.repro_laws.proofs.MomentLemmas.{kept_place_then}
use Rattle.repro_laws.proofs.PlaceLemmas.{kept_place_of}
use Rattle.repro_laws.proofs.StayLemmas.{not_in_turns}
use Rattle.repro_core.specs.Steps.{in_stored, InStored}

-- ---- one after another

pub stored_itself : (m : Moment) → InStored m m
stored_itself m =
    record {
      folders = λ p in'. inl (same_at_itself p m);
      places = λ name. inl (same_under_itself (object_path name) m);
      objects = λ name bytes e. e;
      others = keeps_itself in_stored m;
    }

pub stored_then : (m k n : Moment) → InStored m k → InStored k n → InStored m n
stored_then m k n a b =
    record {
      folders = λ p in'. made_then_made p m k n (a.folders p in') (b.folders p in');
      places = λ name. kept_place_then (object_path name) m k n (a.places name) (b.places name);
      objects = λ name bytes e. b.objects name bytes (a.objects name bytes e);
      others = keeps_then in_stored m k n a.others b.others;
    }

-- ---- the names of objects

abbrev pub Short : ObjectName → Type 0
Short name = length name.digits ≡ 32

abbrev HasShort : Member → Type 0
HasShort m = Short m.name

short_bytes : (bytes : List ℕ) → Short (name_of_bytes bytes)
short_bytes bytes = are_digits-length (name_of_bytes bytes).digits (name_of_bytes-digits bytes)

short_listing : (text : List ℕ) → Short (name_of_listing text)
short_listing text = short_bytes text

put_each : {A : Type 0} (less : A → A → Bool) (P : A → Type 0) (a : A) (bs : List A) → P a → AllByRecursion P bs → AllByRecursion P (put_in less a bs)
put_each less P a [] here rest = (here, tt)
put_each less P a (b ∷ bs) here rest =
    elim (less b a) as (λ c. AllByRecursion P (cond c (b ∷ put_in less a bs) (a ∷ b ∷ bs))) [
      | true ↦ (rest.0, put_each less P a bs here rest.1)
      | false ↦ (here, rest)
    ]

order_each : {A : Type 0} (less : A → A → Bool) (P : A → Type 0) (xs : List A) → AllByRecursion P xs → AllByRecursion P (in_order less xs)
order_each less P [] h = tt
order_each less P (a ∷ rest) h = put_each less P a (in_order less rest) h.0 (order_each less P rest h.1)

short_members : (es : List (Path × List ℕ)) → AllByRecursion HasShort (map member_with es)
short_members [] = tt
short_members (e ∷ es) = (short_bytes e.1, short_members es)

short_listed : (ms : List Member) (name : ObjectName) → AllByRecursion HasShort ms → Short name → AllByRecursion Short (map member_name ms ++ name ∷ [])
short_listed [] name h last = (last, tt)
short_listed (m ∷ ms) name h last = (h.0, short_listed ms name h.1 last)

pub short_names : (v : Value) → AllByRecursion Short (object_names v)
short_names nothing = tt
short_names (content bytes) = (short_bytes bytes, tt)
short_names (members m) =
    short_listed (listing_of m) (name_of_listing (listing_text (listing_of m))) (order_each is_before HasShort (map member_with (entries m)) (short_members (entries m))) (short_listing (listing_text (listing_of m)))

-- ---- while objects are stored

second : Path → List ℕ
second p = get_or (drop 4 p) 0 []

-- the place of such a name lies in a folder of two digits
folder_of : (name : ObjectName) (c d : List ℕ) → Short name → is_at (object_path name) (shelf_path ++ c ∷ d ∷ []) ≡ true → length c ≡ 2
unfolding second
folder_of name c d short one =
    let q : Path = shelf_path ++ c ∷ d ∷ [] in
    let parts = and_parts (under (object_path name) q) (under q (object_path name)) one in
    let same : q ≡ object_path name = under-antisym q (object_path name) parts.1 parts.0 in
    ap length (ap second same) ∙ length-take-le 2 name.digits (omega (arith, short))

placed : (names : List ObjectName) (c d : List ℕ) → AllByRecursion Short names → is_place_of_any names (shelf_path ++ c ∷ d ∷ []) ≡ true → length c ≡ 2
placed [] c d short h = absurd (false≢true h)
placed (name ∷ names) c d short h =
    elim (or_cases (is_at (object_path name) (shelf_path ++ c ∷ d ∷ [])) (is_place_of_any names (shelf_path ++ c ∷ d ∷ [])) h) [
      | inl one ↦ folder_of name c d short.0 one
      | inr more ↦ placed names c d short.1 more
    ]

same_place : (names : List ObjectName) (c d : List ℕ) (m n : Moment) → AllByRecursion Short names → (length c == 2) ≡ false → IsStoredPlace names (shelf_path ++ c ∷ d ∷ []) m n → IsSameUnder (shelf_path ++ c ∷ d ∷ []) m n
same_place names c d m n short other (inl same) = same
same_place names c d m n short other (inr put) =
    let two = placed names c d short put.0 in
    absurd (false≢true (sym other ∙ ap (λ (i : ℕ). i == 2) two))

-- what lies on the shelf in no folder of two digits stays
same_on : (names : List ObjectName) (m n : Moment) (r : Path) → AllByRecursion Short names → InStore names m n → nat_le (length shelf_path + 2) (length (shelf_path ++ r)) ≡ true → has_place r ≡ false → IsSameUnder (shelf_path ++ r) m n
same_on names m n [] short stored long other = absurd (false≢true long)
same_on names m n (c ∷ []) short stored long other = absurd (false≢true long)
same_on names m n (c ∷ d ∷ rest) short stored long other =
    let same = same_place names c d m n short other (stored.places c d) in
    let below : (p : Path) → under (shelf_path ++ c ∷ d ∷ rest) p ≡ true → under (shelf_path ++ c ∷ d ∷ []) p ≡ true =
    λ p u. under-trans (shelf_path ++ c ∷ d ∷ []) (shelf_path ++ c ∷ d ∷ rest) p (under-append (shelf_path ++ c ∷ d ∷ []) rest) u in
    record { items = λ p u. same.items p (below p u); loose = λ p u. same.loose p (below p u) }

same_stored : (names : List ObjectName) (m n : Moment) (p : Path) → AllByRecursion Short names → InStore names m n → in_stored p ≡ false → (item_at n.tree p ≡ item_at m.tree p) × (n.loose p ≡ m.loose p)
same_stored names m n p short stored out =
    let parts = or_parts (in_scratch p) (is_cache_folder p || in_places p) out in
    let rest = or_parts (is_cache_folder p) (in_places p) parts.1 in
    elim (cases_Bool (in_objects p)) [
      | inl inside ↦
          let on = and_parts (under shelf_path p) _ inside in
          let cut : p ≡ shelf_path ++ drop (length shelf_path) p = under-split shelf_path p on.0 in
          let other : has_place (drop (length shelf_path) p) ≡ false =
          false_from_ne_true (has_place (drop (length shelf_path) p)) (λ e. false≢true (sym rest.1 ∙ and_from (under shelf_path p) (has_place (drop (length shelf_path) p)) on.0 e)) in
          let same = same_on names m n (drop (length shelf_path) p) short stored (ap (λ (q : Path). nat_le (length shelf_path + 2) (length q)) (sym cut) ∙ on.1) other in
          let here : under (shelf_path ++ drop (length shelf_path) p) p ≡ true = ap (λ (q : Path). under q p) (sym cut) ∙ under-refl p in
          (same.items p here, same.loose p here)
      | inr outside ↦
          let area : in_store p ≡ false =
          or_from (in_scratch p || is_cache_folder p) (in_objects p) (or_from (in_scratch p) (is_cache_folder p) parts.0 rest.0) outside in
          let kept = stored.others.paths in
          (kept.items p area, kept.loose p area)
    ]

pub stored_of_store : (names : List ObjectName) (m n : Moment) → AllByRecursion Short names → InStore names m n → InStored m n
stored_of_store names m n short stored =
    let others = stored.others in
    record {
      folders = stored.folders;
      places = λ name. kept_place_of names m n name stored;
      objects = stored.whole;
      others = record {
        paths = record {
          items = λ p out. (same_stored names m n p short stored out).0;
          loose = λ p out. (same_stored names m n p short stored out).1;
        };
        aside = others.aside;
      };
    }

pub stored_of_value : (v : Value) (m n : Moment) → InStore (object_names v) m n → InStored m n
stored_of_value v m n stored = stored_of_store (object_names v) m n (short_names v) stored

-- each moment of a call
pub passes_value : (v : Value) (a b : History) → Passes (InStore (object_names v) a.present) a b → Passes (InStored a.present) a b
passes_value v a b h =
    passes_weaker (InStore (object_names v) a.present) (InStored a.present) a b (λ n w. stored_of_value v a.present n w) h

pub passes_untouched : (a b : History) → b ≡ a → Passes (InStored a.present) a b
passes_untouched a b same = passes_same (InStored a.present) a b same (stored_itself a.present)

pub passes_stored : (a b c : History) → Passes (InStored a.present) a b → Passes (InStored b.present) b c → Passes (InStored a.present) a c
passes_stored a b c first more =
    passes_on (InStored a.present) (InStored b.present) a b c first (λ n w. stored_then a.present b.present n first.now w) more

-- ---- values stay

own_root : is_own dvc_path ≡ true
unfolding dvc_path lock_path
own_root = refl

no_root : (p : Path) → IsApart is_own p → p ≢ []
no_root [] apart e = false≢true (sym (apart dvc_path refl) ∙ own_root)
no_root (c ∷ p) apart e = absurd (cc)

root_below : (p r : Path) → p ≢ [] → (p ++ r) ≢ []
root_below [] r ne = absurd (ne refl)
root_below (c ∷ p) r ne = λ e. absurd (cc)

-- a stage that names no path
abbrev bare : Stage
bare = record { name = []; commands = []; dir = []; looks = []; deps = []; params = []; outs = []; made = []; always = false }

not_stored : (p : Path) → p ≢ [] → is_own p ≡ false → in_stored p ≡ false
not_stored p ne own =
    let rest = or_parts false (in_scratch p || (is_cache_folder p || (in_places p || under lock_path p))) (not_in_turns bare p ne own refl) in
    let scratch = or_parts (in_scratch p) (is_cache_folder p || (in_places p || under lock_path p)) rest.1 in
    let folders = or_parts (is_cache_folder p) (in_places p || under lock_path p) scratch.1 in
    let places = or_parts (in_places p) (under lock_path p) folders.1 in
    or_from (in_scratch p) (is_cache_folder p || in_places p) scratch.0 (or_from (is_cache_folder p) (in_places p) folders.0 places.0)

file_by : (t u : Tree) (p : Path) → p ≢ [] → item_at u p ≡ item_at t p → file_at u p ≡ file_at t p
file_by t u [] ne e = absurd (ne refl)
file_by t u (c ∷ p) ne e = ap only_file e

pub stay_stored : (m n : Moment) (p : Path) → IsApart is_own p → InStored m n → value_at n.tree p ≡ value_at m.tree p
stay_stored m n p apart stored =
    let ne = no_root p apart in
    let others = stored.others in
    let kept = others.paths in
    let at : (q : Path) → q ≢ [] → is_own q ≡ false → item_at n.tree q ≡ item_at m.tree q =
    λ q some own. kept.items q (not_stored q some own) in
    value_kept m.tree n.tree p (at p ne (apart p (under-refl p))) (λ r. file_by m.tree n.tree (p ++ r) (root_below p r ne) (at (p ++ r) (root_below p r ne) (apart_below is_own p r apart)))

pub stored_value : (s : Stage) (m n : Moment) (p : Path) → IsApart is_own p → InStored m n → value_at n.tree p ≡ value_at m.tree p
stored_value s m n p apart stored = stay_stored m n p apart stored

abbrev pub Keep : Tree → Tree → Out → Type 0
Keep t u o = value_at u o.path ≡ value_at t o.path

pub stored_made : (s : Stage) (m n : Moment) → IsKept is_own s → InStored m n → AllByRecursion (Keep m.tree n.tree) s.made
stored_made s m n kept stored =
    each_on (λ o. IsApart is_own o.path) (Keep m.tree n.tree) s.made (λ o apart. stored_value s m n o.path apart stored) (each_mapped out_path (IsApart is_own) s.made kept.outs)

pub stored_outs : (s : Stage) (m n : Moment) → IsStage s → IsKept is_own s → InStored m n → AllByRecursion (Keep m.tree n.tree) s.outs
stored_outs s m n stage kept stored =
    each_written out_text (Keep m.tree n.tree) s.outs (subst (AllByRecursion (Keep m.tree n.tree)) stage.made (stored_made s m n kept stored))

-- ---- objects stay

some_by : {A : Type 0} (o x : Option A) → ((y : A) → o ≡ Some y → x ≡ Some y) → is_some o ≡ true → is_some x ≡ true
some_by None x f h = absurd (false≢true h)
some_by (Some y) x f h = ap is_some (f y refl)

pub stored_whole : (m n : Moment) (names : List ObjectName) → InStored m n → are_whole m.tree names ≡ true → are_whole n.tree names ≡ true
stored_whole m n [] stored h = refl
stored_whole m n (name ∷ names) stored h =
    let parts = and_parts (is_some (object_at m.tree name)) (are_whole m.tree names) h in
    and_from (is_some (object_at n.tree name)) (are_whole n.tree names) (some_by (object_at m.tree name) (object_at n.tree name) (stored.objects name) parts.0) (stored_whole m n names stored parts.1)

pub stored_is : (m n : Moment) (v : Value) → InStored m n → is_stored m.tree v ≡ true → is_stored n.tree v ≡ true
stored_is m n v stored h = stored_whole m n (object_names v) stored h
