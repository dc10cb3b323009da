-- Laws of what stores and gives objects may touch.
--     store_itself, store_then      no stretch of moments, and one after another
--     store_of_scratch              calls that publish nothing
--     store_of_give                 an object that wasn't whole is put at its place
--     store_more, among_..          objects of more names
--     store_apart_dvc               what lies apart from `.dvc` stays
--     store_keeps_item              so does what lies at or below a path that may be stored
--     store_kept_place, store_same_place     the place of an object
--     passes_stored_..              the same over histories
use Rattle.std.proofs.Common.{◌≡◌, ◌≢◌, ◌⊎◌, ℕ, ◌+◌, ◌≤◌, Bool, true, false, ◌||◌, ◌&&◌, cond, List, [], ◌∷◌, ◌++◌, length, take, drop, refl, sym, ap, subst, ◌∙◌, inl, inr, arith, Option, Some, None, bytes_eq, codes, ◌==◌, length-drop, eqb-true}
use Rattle.std.specs.Prelude.{nat_le}
use Rattle.std.proofs.lemmas.Bool.{false≢true, false_from_ne_true, both_ways, or_parts, or_from, or_left, or_right, or_cases, and_parts, and_from}
use borrow.Author.Tests.{le-leb}
use Rattle.std.proofs.lemmas.List.{take_at, take-append-drop}
use Rattle.std.proofs.lemmas.Slice.Eq.{bytes_eq-Decides}
use Rattle.dvc_base.specs.Path.{Path, under, overlap}
use Rattle.dvc_base.specs.Name.{ObjectName, ending_of}
use Rattle.dvc_base.proofs.PathLemmas.{under-refl, under-trans, under-append, under-length, under-same_length, under-antisym, under-overlap}
use Rattle.dvc_base.proofs.NameLemmas.{are_digits-length}
use Rattle.md5.specs.Md5.{md5}
use Rattle.hex.specs.Hex.{encode_lower}
use Rattle.world_api.specs.Tree.{Item, folder, file, item_at}
use Rattle.world_api.specs.History.{Moment, History, Passes}
use Rattle.world_api.specs.Layout.{dvc_path, tmp_path}
use Rattle.world_api.specs.Writes.{is_at, IsSameAt, IsSameUnder, IsNewFile, IsMade, IsFolderAt, in_scratch, InScratch, IsNoScratch}
use Rattle.world_api.proofs.HistoryLemmas.{keeps_itself, keeps_then, keeps_in, passes_same, passes_weaker, passes_on}
use Rattle.world_api.proofs.TreeLemmas.{path_cases, cons_not_root}
use Rattle.world_api.proofs.LaneLemmas.{at_itself, not_at, tmp_in_dvc, apart_scratch}
use Rattle.world_api.proofs.WriteLemmas.{same_at, same_under, same_at_itself, same_under_itself, same_under_then, made_then_made}
use Rattle.file_hash.proofs.HashLemmas.{name_of_bytes-digits}
use Rattle.object_cache.specs.Objects.{object_path, has_name, whole_in, object_at}
use Rattle.object_cache.specs.Giving.{IsGivingWay, in_give, InGive}
use Rattle.object_cache.specs.Store.{shelf_path, files_path, IsOutside, is_cache_folder, in_objects, in_store, IsNewObject, IsKeptPlace, is_place_of_any, IsStoredPlace, InStore}
use Rattle.object_cache.proofs.GiveLemmas.{placed_then, new_file_kept, new_file_no_folder, under_last}

-- ---- one stretch of moments after another

pub store_itself : (names : List ObjectName) (m : Moment) → InStore names m m
store_itself names m = record {
  folders = λ p e. inl (same_at_itself p m);
  places = λ a b. inl (same_under_itself (shelf_path ++ a ∷ b ∷ []) m);
  whole = λ name bytes e. e;
  others = keeps_itself in_store m;
}

object_kept : (p : Path) (k n : Moment) → IsNewObject p k → IsSameUnder p k n → IsNewObject p n
object_kept p k n h s = record { name = h.name; bytes = h.bytes; place = h.place; named = h.named; file = new_file_kept p h.bytes k n h.file s }

object_no_folder : (p : Path) (k : Moment) → IsNewObject p k → IsFolderAt k.tree p → ⊥
object_no_folder p k h f = new_file_no_folder p h.bytes k h.file f

pub kept_place_then : (p : Path) (m k n : Moment) → IsKeptPlace p m k → IsKeptPlace p k n → IsKeptPlace p m n
kept_place_then p m k n x y = placed_then (IsNewObject p) p m k n (object_kept p k n) (object_no_folder p k) x y

stored_place_then : (names : List ObjectName) (p : Path) (m k n : Moment) → IsStoredPlace names p m k → IsStoredPlace names p k n → IsStoredPlace names p m n
stored_place_then names p m k n (inl a) (inl b) = inl (same_under_then p m k n a b)
stored_place_then names p m k n (inl a) (inr b) = inr (b.0, kept_place_then p m k n (inl a) b.1)
stored_place_then names p m k n (inr a) (inl b) = inr (a.0, kept_place_then p m k n a.1 (inl b))
stored_place_then names p m k n (inr a) (inr b) = inr (a.0, kept_place_then p m k n a.1 b.1)

pub store_then : {names : List ObjectName} (m k n : Moment) → InStore names m k → InStore names k n → InStore names m n
store_then {names} m k n x y = record {
  folders = λ p e. made_then_made p m k n (x.folders p e) (y.folders p e);
  places = λ a b. stored_place_then names (shelf_path ++ a ∷ b ∷ []) m k n (x.places a b) (y.places a b);
  whole = λ name bytes e. y.whole name bytes (x.whole name bytes e);
  others = keeps_then in_store m k n x.others y.others;
}

-- ---- objects of more names

stored_place_more : (few more : List ObjectName) (p : Path) (m n : Moment) → (is_place_of_any few p ≡ true → is_place_of_any more p ≡ true) → IsStoredPlace few p m n → IsStoredPlace more p m n
stored_place_more few more p m n wide (inl a) = inl a
stored_place_more few more p m n wide (inr a) = inr (wide a.0, a.1)

abbrev pub AreAmong : List ObjectName → List ObjectName → Type 0
AreAmong few more = (p : Path) → is_place_of_any few p ≡ true → is_place_of_any more p ≡ true

pub store_more : (few more : List ObjectName) (m n : Moment) → AreAmong few more → InStore few m n → InStore more m n
store_more few more m n wide h = record {
  folders = h.folders;
  places = λ a b. stored_place_more few more (shelf_path ++ a ∷ b ∷ []) m n (wide (shelf_path ++ a ∷ b ∷ [])) (h.places a b);
  whole = h.whole;
  others = h.others;
}

pub among_rest : (x : ObjectName) (xs : List ObjectName) → AreAmong xs (x ∷ xs)
among_rest x xs p e = or_right (is_at (object_path x) p) (is_place_of_any xs p) e

pub among_first : (x : ObjectName) (xs : List ObjectName) → AreAmong (x ∷ []) (x ∷ xs)
among_first x xs p e =
    elim (or_cases (is_at (object_path x) p) false e) [
      | inl here ↦ or_left (is_at (object_path x) p) (is_place_of_any xs p) here
      | inr none ↦ absurd (false≢true none)
    ]

pub among_front : (xs ys : List ObjectName) → AreAmong xs (xs ++ ys)
among_front [] ys p e = absurd (false≢true e)
among_front (x ∷ xs) ys p e =
    elim (or_cases (is_at (object_path x) p) (is_place_of_any xs p) e) [
      | inl here ↦ or_left (is_at (object_path x) p) (is_place_of_any (xs ++ ys) p) here
      | inr more ↦ or_right (is_at (object_path x) p) (is_place_of_any (xs ++ ys) p) (among_front xs ys p more)
    ]

pub among_back : (xs ys : List ObjectName) → AreAmong ys (xs ++ ys)
among_back [] ys p e = e
among_back (x ∷ xs) ys p e = or_right (is_at (object_path x) p) (is_place_of_any (xs ++ ys) p) (among_back xs ys p e)

-- ---- places, folders of the cache, and the lanes

abbrev place_at : List ℕ → List ℕ → Path
place_at a b = shelf_path ++ a ∷ b ∷ []

place_no_scratch : (a b : List ℕ) → IsNoScratch (place_at a b)
unfolding dvc_path tmp_path
place_no_scratch a b = record { no_dvc = λ e. absurd (cc); no_tmp = refl }

place_not_root : (a b : List ℕ) → place_at a b ≢ []
place_not_root a b e = absurd (cc)

no_scratch_below : (a b : List ℕ) (p : Path) → under (place_at a b) p ≡ true → in_scratch p ≡ false
no_scratch_below a b p u = apart_scratch (place_at a b) p (place_not_root a b) (place_no_scratch a b) u

same_length_apart : (x y : Path) → length x ≡ length y → x ≢ y → under x y ≡ false
same_length_apart x y l ne = false_from_ne_true (under x y) (λ e. ne (under-same_length x y e l))

-- what lies at or below a place is apart from each other place
other_place : (a b c d : List ℕ) (p : Path) → place_at a b ≢ place_at c d → under (place_at a b) p ≡ true → in_give (place_at c d) p ≡ false
other_place a b c d p ne u =
    let x = place_at a b in
    let y = place_at c d in
    let ab : under x y ≡ false = same_length_apart x y refl ne in
    let ba : under y x ≡ false = same_length_apart y x refl (λ e. ne (sym e)) in
    let below : under y p ≡ false = false_from_ne_true (under y p) (λ e. elim (or_cases (under x y) (under y x) (under-overlap x y p u e)) [
      | inl s ↦ both_ways (under x y) ab s
      | inr s ↦ both_ways (under y x) ba s
    ]) in
    let above : under p y ≡ false = false_from_ne_true (under p y) (λ e. both_ways (under x y) ab (under-trans x p y u e)) in
    or_from (in_scratch p) (under y p || under p y) (no_scratch_below a b p u) (or_from (under y p) (under p y) below above)

tmp_no_shelf : overlap shelf_path tmp_path ≡ false
unfolding tmp_path
tmp_no_shelf = refl

tmp_above_shelf : under tmp_path shelf_path ≡ false
unfolding tmp_path
tmp_above_shelf = refl

shelf_no_tmp : (p : Path) → under shelf_path p ≡ true → under tmp_path p ≡ false
shelf_no_tmp p u = false_from_ne_true (under tmp_path p) (λ e. both_ways (overlap shelf_path tmp_path) tmp_no_shelf (under-overlap shelf_path tmp_path p u e))

above_shelf_no_tmp : (p : Path) → under p shelf_path ≡ true → under tmp_path p ≡ false
above_shelf_no_tmp p u = false_from_ne_true (under tmp_path p) (λ e. both_ways (under tmp_path shelf_path) tmp_above_shelf (under-trans tmp_path p shelf_path e u))

dvc_length : length dvc_path ≡ 1
unfolding dvc_path
dvc_length = refl

long_no_dvc : (p : Path) → 2 ≤ length p → is_at dvc_path p ≡ false
long_no_dvc p l =
    false_from_ne_true (is_at dvc_path p) (λ e. let x = and_parts (under dvc_path p) (under p dvc_path) e in absurd (omega (arith, under-length p dvc_path x.1, dvc_length, l)))

length_of : (p : Path) (n : ℕ) → (length p == n) ≡ true → length p ≡ n
length_of p n e = eqb-true (length p) n e

deep_folder : (c d : List ℕ) (p : Path) (b : Bool) → under p (place_at c d) ≡ b → under shelf_path p ≡ true → length p ≡ 5 → under (place_at c d) p ≡ false → ((under p (place_at c d) ≡ true) × (under (place_at c d) p ≡ false)) ⊎ (in_give (place_at c d) p ≡ false)
deep_folder c d p true v u count short = inl (v, short)
deep_folder c d p false v u count short =
    inr (or_from (in_scratch p) (under (place_at c d) p || under p (place_at c d))
    (or_from (is_at dvc_path p) (under tmp_path p) (long_no_dvc p (omega (arith, count))) (shelf_no_tmp p u))
    (or_from (under (place_at c d) p) (under p (place_at c d)) short v))

-- a folder of the cache is above a place, or apart from it
folder_or_apart : (c d : List ℕ) (p : Path) (b : Bool) → under p (place_at c d) ≡ b → is_cache_folder p ≡ true → ((under p (place_at c d) ≡ true) × (under (place_at c d) p ≡ false)) ⊎ (in_give (place_at c d) p ≡ false)
folder_or_apart c d p b v e =
    elim (or_cases (under p shelf_path) (under shelf_path p && (length p == length shelf_path + 1)) e) [
      | inl u ↦ inl (
        under-trans p shelf_path (place_at c d) u (under-append shelf_path (c ∷ d ∷ [])),
        false_from_ne_true (under (place_at c d) p) (λ s. absurd (omega (arith, under-length (place_at c d) p s, under-length p shelf_path u))),
      )
      | inr u ↦
          let x = and_parts (under shelf_path p) (length p == length shelf_path + 1) u in
          let count : length p ≡ 5 = length_of p 5 x.1 in
          let short : under (place_at c d) p ≡ false = false_from_ne_true (under (place_at c d) p) (λ s. absurd (omega (arith, under-length (place_at c d) p s, count))) in
          deep_folder c d p b v x.0 count short
    ]

-- what lies outside the store is apart from a place
pub shelf_folder : (c : List ℕ) → is_cache_folder (shelf_path ++ c ∷ []) ≡ true
shelf_folder c = refl

above_place : (c d : List ℕ) (p : Path) → under p (place_at c d) ≡ true → (is_cache_folder p ≡ true) ⊎ (under (place_at c d) p ≡ true)
above_place c d p u =
    elim (under_last p (shelf_path ++ c ∷ []) d u) [
      | inr e ↦ inr e
      | inl e ↦ elim (under_last p shelf_path c e) [
        | inl f ↦ inl (or_left (under p shelf_path) (under shelf_path p && (length p == length shelf_path + 1)) f)
        | inr f ↦ inl (ap is_cache_folder (under-antisym p (shelf_path ++ c ∷ []) e f) ∙ shelf_folder c)
      ]
    ]

below_place : (c d : List ℕ) (p : Path) → under (place_at c d) p ≡ true → in_objects p ≡ true
below_place c d p u =
    and_from (under shelf_path p) (nat_le (length shelf_path + 2) (length p)) (under-trans shelf_path (place_at c d) p (under-append shelf_path (c ∷ d ∷ [])) u)
    (le-leb 6 (length p) (omega (arith, under-length (place_at c d) p u)))

store_outside : (c d : List ℕ) (p : Path) → in_store p ≡ false → in_give (place_at c d) p ≡ false
store_outside c d p o =
    let x = or_parts (in_scratch p || is_cache_folder p) (in_objects p) o in
    let y = or_parts (in_scratch p) (is_cache_folder p) x.0 in
    let below : under (place_at c d) p ≡ false = false_from_ne_true (under (place_at c d) p) (λ e. both_ways (in_objects p) x.1 (below_place c d p e)) in
    let above : under p (place_at c d) ≡ false = false_from_ne_true (under p (place_at c d)) (λ e. elim (above_place c d p e) [
      | inl f ↦ both_ways (is_cache_folder p) y.1 f
      | inr f ↦ both_ways (in_objects p) x.1 (below_place c d p f)
    ]) in
    or_from (in_scratch p) (under (place_at c d) p || under p (place_at c d)) y.0 (or_from (under (place_at c d) p) (under p (place_at c d)) below above)

-- ---- objects

some_if : (b : Bool) (all bytes : List ℕ) → cond b (Some all) None ≡ Some bytes → (b ≡ true) × (all ≡ bytes)
some_if true all bytes e = (refl, cc)
some_if false all bytes e = absurd (cc)

pub whole_named : (name : ObjectName) (o : Option Item) (bytes : List ℕ) → whole_in name o ≡ Some bytes → (o ≡ Some (file bytes)) × (has_name name bytes ≡ true)
whole_named name None bytes e = absurd (cc)
whole_named name (Some folder) bytes e = absurd (cc)
whole_named name (Some (file all)) bytes e =
    let r = some_if (has_name name all) all bytes e in
    (ap (λ (x : List ℕ). Some (file x)) r.1, ap (has_name name) (sym r.1) ∙ r.0)

pub whole_of : (name : ObjectName) (o : Option Item) (bytes : List ℕ) → o ≡ Some (file bytes) → has_name name bytes ≡ true → whole_in name o ≡ Some bytes
whole_of name o bytes e h =
    ap (whole_in name) e ∙ ap (λ (b : Bool). cond b (Some bytes) None) h

digits_of_name : (name : ObjectName) (bytes : List ℕ) → has_name name bytes ≡ true → length name.digits ≡ 32
digits_of_name name bytes h =
    let e : encode_lower (md5 bytes) ≡ name.digits = (bytes_eq-Decides (encode_lower (md5 bytes)) name.digits).0 h in
    ap length (sym e) ∙ are_digits-length (encode_lower (md5 bytes)) (name_of_bytes-digits bytes)

digits_same : (d f x y : List ℕ) → length d ≡ 32 → length f ≡ 32 → take 2 d ≡ take 2 f → drop 2 d ++ x ≡ drop 2 f ++ y → d ≡ f
digits_same d f x y l k a b =
    let p : length (drop 2 d) ≡ 30 = omega (arith, length-drop 2 d, l) in
    let q : length (drop 2 f) ≡ 30 = omega (arith, length-drop 2 f, k) in
    let r : drop 2 d ≡ drop 2 f = sym (take_at (drop 2 d) x 30 p) ∙ ap (take 30) b ∙ take_at (drop 2 f) y 30 q in
    sym (take-append-drop 2 d) ∙ ap (λ (z : List ℕ). z ++ drop 2 d) a ∙ ap (λ (z : List ℕ). take 2 f ++ z) r ∙ take-append-drop 2 f

-- two objects at one place have one name's digits
same_named : (name other : ObjectName) (bytes all : List ℕ) → has_name name bytes ≡ true → has_name other all ≡ true → object_path other ≡ object_path name → has_name name all ≡ true
same_named name other bytes all h k s =
    let front : take 2 other.digits ≡ take 2 name.digits = cc in
    let back : drop 2 other.digits ++ ending_of other.dir ≡ drop 2 name.digits ++ ending_of name.dir = cc in
    let same : other.digits ≡ name.digits = digits_same other.digits name.digits (ending_of other.dir) (ending_of name.dir) (digits_of_name other all k) (digits_of_name name bytes h) front back in
    ap (bytes_eq (encode_lower (md5 all))) (sym same) ∙ k

-- ---- calls that publish nothing

folder_no_tmp : (p : Path) → is_cache_folder p ≡ true → under tmp_path p ≡ false
folder_no_tmp p e =
    elim (or_cases (under p shelf_path) (under shelf_path p && (length p == length shelf_path + 1)) e) [
      | inl u ↦ above_shelf_no_tmp p u
      | inr u ↦ shelf_no_tmp p (and_parts (under shelf_path p) (length p == length shelf_path + 1) u).0
    ]

scratch_folder_made : (p : Path) (m n : Moment) → InScratch m n → is_cache_folder p ≡ true → IsMade p m n
scratch_folder_made p m n h e =
    elim (path_cases dvc_path p) [
      | inl s ↦ subst (λ (x : Path). IsMade x m n) s h.dvc
      | inr ne ↦ inl (same_at p in_scratch m n h.others (or_from (is_at dvc_path p) (under tmp_path p) (not_at dvc_path p ne) (folder_no_tmp p e)))
    ]

pub store_of_scratch : (names : List ObjectName) (m n : Moment) → InScratch m n → InStore names m n
store_of_scratch names m n h = record {
  folders = λ p e. scratch_folder_made p m n h e;
  places = λ a b. inl (same_under (place_at a b) in_scratch m n h.others (λ p u. no_scratch_below a b p u));
  whole = λ name bytes e. ap (whole_in name) (h.others.paths.items (object_path name) (no_scratch_below (take 2 name.digits) (drop 2 name.digits ++ ending_of name.dir) (object_path name) (under-refl (object_path name)))) ∙ e;
  others = keeps_in in_scratch in_store m n (λ p o. (or_parts (in_scratch p) (is_cache_folder p) (or_parts (in_scratch p || is_cache_folder p) (in_objects p) o).0).0) h.others;
}

-- ---- an object that is put

put_folder : (name : ObjectName) (bytes : List ℕ) (p : Path) (m n : Moment) → InGive (object_path name) (Some bytes) m n → is_cache_folder p ≡ true → IsMade p m n
put_folder name bytes p m n h e =
    let c = take 2 name.digits in
    let d = drop 2 name.digits ++ ending_of name.dir in
    elim (folder_or_apart c d p (under p (place_at c d)) refl e) [
      | inl u ↦ h.road p u.0 u.1
      | inr o ↦ inl (same_at p (in_give (object_path name)) m n h.others o)
    ]

put_place : (name : ObjectName) (bytes : List ℕ) (m n : Moment) → has_name name bytes ≡ true → IsSameUnder (object_path name) m n ⊎ (IsNewFile (object_path name) bytes n ⊎ IsGivingWay (object_path name) m n) → IsKeptPlace (object_path name) m n
put_place name bytes m n h (inl a) = inl a
put_place name bytes m n h (inr (inl a)) = inr (inl (record { name = name; bytes = bytes; place = refl; named = h; file = a }))
put_place name bytes m n h (inr (inr a)) = inr (inr a)

own_place : (name : ObjectName) → is_place_of_any (name ∷ []) (object_path name) ≡ true
own_place name = or_left (is_at (object_path name) (object_path name)) false (at_itself (object_path name))

put_places : (name : ObjectName) (bytes : List ℕ) (m n : Moment) (a b : List ℕ) → has_name name bytes ≡ true → InGive (object_path name) (Some bytes) m n → (place_at a b ≡ object_path name) ⊎ (place_at a b ≢ object_path name) → IsStoredPlace (name ∷ []) (place_at a b) m n
put_places name bytes m n a b good h (inl s) =
    subst (λ (x : Path). IsStoredPlace (name ∷ []) x m n) (sym s) (inr (own_place name, put_place name bytes m n good h.path))
put_places name bytes m n a b good h (inr ne) =
    inl (same_under (place_at a b) (in_give (object_path name)) m n h.others (λ p u. other_place a b (take 2 name.digits) (drop 2 name.digits ++ ending_of name.dir) p ne u))

put_whole : (name other : ObjectName) (bytes all : List ℕ) (m n : Moment) → has_name name bytes ≡ true → object_at m.tree name ≡ None → InGive (object_path name) (Some bytes) m n → object_at m.tree other ≡ Some all → (object_path other ≡ object_path name) ⊎ (object_path other ≢ object_path name) → object_at n.tree other ≡ Some all
put_whole name other bytes all m n good missing h e (inl s) =
    let w = whole_named other (item_at m.tree (object_path other)) all e in
    let was : object_at m.tree name ≡ Some all = whole_of name (item_at m.tree (object_path name)) all (ap (item_at m.tree) (sym s) ∙ w.0) (same_named name other bytes all good w.1 s) in
    let clash : None ≡ Some all = sym missing ∙ was in
    absurd (cc)
put_whole name other bytes all m n good missing h e (inr ne) =
    ap (whole_in other) (h.others.paths.items (object_path other) (other_place (take 2 other.digits) (drop 2 other.digits ++ ending_of other.dir) (take 2 name.digits) (drop 2 name.digits ++ ending_of name.dir) (object_path other) ne (under-refl (object_path other)))) ∙ e

pub other_object : (name other : ObjectName) (given : Option (List ℕ)) (m n : Moment) → InGive (object_path name) given m n → object_path other ≢ object_path name → item_at n.tree (object_path other) ≡ item_at m.tree (object_path other)
other_object name other given m n h ne =
    h.others.paths.items (object_path other) (other_place (take 2 other.digits) (drop 2 other.digits ++ ending_of other.dir) (take 2 name.digits) (drop 2 name.digits ++ ending_of name.dir) (object_path other) ne (under-refl (object_path other)))

pub store_of_give : (name : ObjectName) (bytes : List ℕ) (m n : Moment) → has_name name bytes ≡ true → object_at m.tree name ≡ None → InGive (object_path name) (Some bytes) m n → InStore (name ∷ []) m n
store_of_give name bytes m n good missing h = record {
  folders = λ p e. put_folder name bytes p m n h e;
  places = λ a b. put_places name bytes m n a b good h (path_cases (place_at a b) (object_path name));
  whole = λ other all e. put_whole name other bytes all m n good missing h e (path_cases (object_path other) (object_path name));
  others = keeps_in (in_give (object_path name)) in_store m n (λ p o. store_outside (take 2 name.digits) (drop 2 name.digits ++ ending_of name.dir) p o) h.others;
}

-- ---- what stays

dvc_above_shelf : under dvc_path shelf_path ≡ true
unfolding dvc_path
dvc_above_shelf = refl

above_shelf_in_dvc : (p : Path) → p ≢ [] → under p shelf_path ≡ true → under dvc_path p ≡ true
unfolding dvc_path
above_shelf_in_dvc [] ne u = absurd (ne refl)
above_shelf_in_dvc (c ∷ p) ne u =
    let x = and_parts (bytes_eq c (codes ".dvc")) (under p (codes "cache" ∷ codes "files" ∷ codes "md5" ∷ [])) u in
    and_from (bytes_eq (codes ".dvc") c) true ((bytes_eq-Decides (codes ".dvc") c).1 (sym ((bytes_eq-Decides c (codes ".dvc")).0 x.0))) refl

outside_store : (p : Path) → under dvc_path p ≡ false → p ≢ [] → in_store p ≡ false
outside_store p o ne =
    let no_shelf : under shelf_path p ≡ false = false_from_ne_true (under shelf_path p) (λ e. both_ways (under dvc_path p) o (under-trans dvc_path shelf_path p dvc_above_shelf e)) in
    let no_above : under p shelf_path ≡ false = false_from_ne_true (under p shelf_path) (λ e. both_ways (under dvc_path p) o (above_shelf_in_dvc p ne e)) in
    let no_tmp : under tmp_path p ≡ false = false_from_ne_true (under tmp_path p) (λ e. both_ways (under dvc_path p) o (under-trans dvc_path tmp_path p tmp_in_dvc e)) in
    let no_dvc : is_at dvc_path p ≡ false = false_from_ne_true (is_at dvc_path p) (λ e. both_ways (under dvc_path p) o (and_parts (under dvc_path p) (under p dvc_path) e).0) in
    let no_deep : (under shelf_path p && (length p == length shelf_path + 1)) ≡ false = false_from_ne_true (under shelf_path p && (length p == length shelf_path + 1)) (λ e. both_ways (under shelf_path p) no_shelf (and_parts (under shelf_path p) (length p == length shelf_path + 1) e).0) in
    let no_object : in_objects p ≡ false = false_from_ne_true (in_objects p) (λ e. both_ways (under shelf_path p) no_shelf (and_parts (under shelf_path p) (nat_le (length shelf_path + 2) (length p)) e).0) in
    or_from (in_scratch p || is_cache_folder p) (in_objects p)
    (or_from (in_scratch p) (is_cache_folder p) (or_from (is_at dvc_path p) (under tmp_path p) no_dvc no_tmp) (or_from (under p shelf_path) (under shelf_path p && (length p == length shelf_path + 1)) no_above no_deep))
    no_object

root_same : (m n : Moment) → IsMade [] m n → IsSameAt [] m n
root_same m n (inl a) = a
root_same m n (inr a) = let e : Some folder ≡ None = a.0 in absurd (cc)

pub store_apart_dvc : {names : List ObjectName} (p : Path) (m n : Moment) → InStore names m n → under dvc_path p ≡ false → IsSameAt p m n
store_apart_dvc [] m n h o = root_same m n (h.folders [] refl)
store_apart_dvc (c ∷ p) m n h o = same_at (c ∷ p) in_store m n h.others (outside_store (c ∷ p) o (cons_not_root c p))

-- ---- a value apart from the store

files_above_shelf : under files_path shelf_path ≡ true
files_above_shelf = refl

pub outside_area : (at p : Path) → IsOutside at → under at p ≡ true → in_store p ≡ false
outside_area at p out u =
    let no_shelf : under shelf_path p ≡ false = false_from_ne_true (under shelf_path p) (λ e. both_ways (overlap at files_path) out.no_object (under-overlap at files_path p u (under-trans files_path shelf_path p files_above_shelf e))) in
    let no_above : under p shelf_path ≡ false = false_from_ne_true (under p shelf_path) (λ e. both_ways (overlap at files_path) out.no_object (under-overlap at files_path shelf_path (under-trans at p shelf_path u e) files_above_shelf)) in
    let no_tmp : under tmp_path p ≡ false = false_from_ne_true (under tmp_path p) (λ e. both_ways (overlap at tmp_path) out.no_lane (under-overlap at tmp_path p u e)) in
    let no_dvc : is_at dvc_path p ≡ false = false_from_ne_true (is_at dvc_path p) (λ e. both_ways (overlap at tmp_path) out.no_lane (under-overlap at tmp_path tmp_path (under-trans at p tmp_path u (under-trans p dvc_path tmp_path (and_parts (under dvc_path p) (under p dvc_path) e).1 tmp_in_dvc)) (under-refl tmp_path))) in
    let no_deep : (under shelf_path p && (length p == length shelf_path + 1)) ≡ false = false_from_ne_true (under shelf_path p && (length p == length shelf_path + 1)) (λ e. both_ways (under shelf_path p) no_shelf (and_parts (under shelf_path p) (length p == length shelf_path + 1) e).0) in
    let no_place : in_objects p ≡ false = false_from_ne_true (in_objects p) (λ e. both_ways (under shelf_path p) no_shelf (and_parts (under shelf_path p) (nat_le (length shelf_path + 2) (length p)) e).0) in
    or_from (in_scratch p || is_cache_folder p) (in_objects p)
    (or_from (in_scratch p) (is_cache_folder p) (or_from (is_at dvc_path p) (under tmp_path p) no_dvc no_tmp) (or_from (under p shelf_path) (under shelf_path p && (length p == length shelf_path + 1)) no_above no_deep))
    no_place

pub store_keeps_item : {names : List ObjectName} (at p : Path) (m n : Moment) → IsOutside at → InStore names m n → under at p ≡ true → item_at n.tree p ≡ item_at m.tree p
store_keeps_item at p m n out h u = h.others.paths.items p (outside_area at p out u)

pub outside_no_scratch : (at p : Path) → IsOutside at → under at p ≡ true → IsNoScratch p
outside_no_scratch at p out u =
    let scratch = (or_parts (in_scratch p) (is_cache_folder p) (or_parts (in_scratch p || is_cache_folder p) (in_objects p) (outside_area at p out u)).0).0 in
    let parts = or_parts (is_at dvc_path p) (under tmp_path p) scratch in
    record {
      no_dvc = λ e. both_ways (is_at dvc_path p) parts.0 (ap (is_at dvc_path) e ∙ at_itself dvc_path);
      no_tmp = parts.1;
    }

-- ---- the place of each object

pub kept_of_stored : (names : List ObjectName) (p : Path) (m n : Moment) → IsStoredPlace names p m n → IsKeptPlace p m n
kept_of_stored names p m n (inl a) = inl a
kept_of_stored names p m n (inr a) = a.1

-- an object's place is as it was, or has a new object, or gives way
pub store_kept_place : {names : List ObjectName} (name : ObjectName) (m n : Moment) → InStore names m n → IsKeptPlace (object_path name) m n
store_kept_place {names} name m n h =
    kept_of_stored names (object_path name) m n (h.places (take 2 name.digits) (drop 2 name.digits ++ ending_of name.dir))

same_of_stored : (names : List ObjectName) (p : Path) (m n : Moment) → is_place_of_any names p ≡ false → IsStoredPlace names p m n → IsSameUnder p m n
same_of_stored names p m n none (inl a) = a
same_of_stored names p m n none (inr a) = absurd (both_ways (is_place_of_any names p) none a.0)

-- at a place of no name that is stored all is as it was
pub store_same_place : {names : List ObjectName} (name : ObjectName) (m n : Moment) → is_place_of_any names (object_path name) ≡ false → InStore names m n → IsSameUnder (object_path name) m n
store_same_place {names} name m n none h =
    same_of_stored names (object_path name) m n none (h.places (take 2 name.digits) (drop 2 name.digits ++ ending_of name.dir))

-- ---- over histories

pub passes_stored_none : (names : List ObjectName) (a b : History) → b ≡ a → Passes (InStore names a.present) a b
passes_stored_none names a b e = passes_same (InStore names a.present) a b e (store_itself names a.present)

pub passes_stored_then : {names : List ObjectName} (a b c : History) → Passes (InStore names a.present) a b → Passes (InStore names b.present) b c → Passes (InStore names a.present) a c
passes_stored_then {names} a b c x y = passes_on (InStore names a.present) (InStore names b.present) a b c x (λ m h. store_then a.present b.present m x.now h) y

pub passes_stored_more : (few more : List ObjectName) (a b : History) → AreAmong few more → Passes (InStore few a.present) a b → Passes (InStore more a.present) a b
passes_stored_more few more a b wide x = passes_weaker (InStore few a.present) (InStore more a.present) a b (λ m h. store_more few more a.present m wide h) x

pub passes_stored_scratch : (names : List ObjectName) (a b : History) → Passes (InScratch a.present) a b → Passes (InStore names a.present) a b
passes_stored_scratch names a b x = passes_weaker (InScratch a.present) (InStore names a.present) a b (λ m h. store_of_scratch names a.present m h) x

pub passes_stored_give : (name : ObjectName) (bytes : List ℕ) (a b : History) → has_name name bytes ≡ true → object_at a.present.tree name ≡ None → Passes (InGive (object_path name) (Some bytes) a.present) a b → Passes (InStore (name ∷ []) a.present) a b
passes_stored_give name bytes a b good missing x =
    passes_weaker (InGive (object_path name) (Some bytes) a.present) (InStore (name ∷ []) a.present) a b (λ m h. store_of_give name bytes a.present m good missing h) x
