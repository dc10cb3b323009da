-- Laws of objects that are stored one after another.
--     place_same, fault_none     what is due at a place
--     store_same_road            files in the way of a place
--     filled_of_copied           a file that has a name is in the lane with it, hashed on the way or not
--     kept_fault                 an object that is put changes nothing that is due at other places
--     some_kept                  an object that was whole stays so
--     told_..                    what a refusal of one step tells of the whole
use Rattle.std.proofs.Common.{◌≡◌, ◌≢◌, ◌⊎◌, ℕ, ◌+◌, true, ◌&&◌, List, [], ◌∷◌, ◌++◌, length, take, codes, refl, sym, ap, subst, ◌∙◌, inl, inr, Option, Some, None, Result, Ok, Err, OnOk, ◌==◌}
use Rattle.std.specs.Prelude.{is_some, IfErr}
use Rattle.std.proofs.lemmas.Bool.{false≢true, or_left, and_parts, and_from}
use Rattle.dvc_base.specs.Path.{Path, under}
use Rattle.dvc_base.specs.Name.{ObjectName}
use Rattle.dvc_base.proofs.PathLemmas.{under-append, under-antisym, under-refl, under-trans}
use Rattle.world_api.specs.Tree.{Tree, Item, file, item_at}
use Rattle.world_api.specs.History.{Moment, History, Passes}
use Rattle.world_api.specs.Calls.{parent}
use Rattle.world_api.specs.Layout.{dvc_path}
use Rattle.world_api.specs.Writes.{IsNewFile, IsNoFileAt, InScratch}
use Rattle.world_api.proofs.TreeLemmas.{path_cases}
use Rattle.object_cache.specs.declared.fault.CacheFault.{CacheFault}
use Rattle.object_cache.specs.declared.fault.CacheFault.TheVariants.{Absent, Missing, Changed, TooLarge, NotFolder, Failed, NoMemory}
use Rattle.object_cache.specs.Objects.{object_path, has_name, whole_in, object_at, are_whole}
use Rattle.file_hash.specs.declared.listing.Member.{Member}
use Rattle.object_cache.specs.Giving.{InGive}
use Rattle.object_cache.specs.Copying.{HasNamed, IsInLane, IsCopied, AreKnown}
use Rattle.object_cache.specs.Store.{shelf_path, is_cache_folder, IsOutside, InStore}
use Rattle.object_cache.specs.Due.{IsDue, IsToldInCache, IsToldAt, IsToldOf, IsOnRoad, or_then, not_folder, size_fault, place_if, place_fault, places_fault, HasPlace}
use Rattle.object_cache.proofs.CopyLemmas.{item_kept}
use Rattle.object_cache.proofs.GiveLemmas.{under_last}
use Rattle.object_cache.proofs.RoadLemmas.{road_of, same_not_folder, made_is_file, object_apart}
use Rattle.object_cache.proofs.StoreLemmas.{shelf_folder, other_object, whole_of, store_keeps_item, passes_stored_scratch, passes_stored_then, passes_stored_give}

pub on_ok : {T E : Type 0} (r : Result T E) (P Q : Type 0) → (P → Q) → OnOk r P → OnOk r Q
on_ok (Ok done) P Q f h = f h
on_ok (Err why) P Q f h = tt

pub err_weaker : {T E : Type 0} (r : Result T E) (P Q : E → Type 0) → ((why : E) → P why → Q why) → IfErr r P → IfErr r Q
err_weaker (Ok done) P Q f h = tt
err_weaker (Err why) P Q f h = f why h

pub due_none : (got due : Option CacheFault) → due ≡ None → IsDue got None → IsDue got due
due_none got due e h = subst (λ (o : Option CacheFault). IsDue got o) (sym e) h

-- ---- what is due at a place

place_if_same : (x : Option (List ℕ)) (t u : Tree) (name : ObjectName) → not_folder u (parent (object_path name)) ≡ not_folder t (parent (object_path name)) → place_if x u name ≡ place_if x t name
place_if_same (Some bytes) t u name e = refl
place_if_same None t u name e = e

place_if_none : (x : Option (List ℕ)) (t : Tree) (name : ObjectName) → not_folder t (parent (object_path name)) ≡ None → place_if x t name ≡ None
place_if_none (Some bytes) t name e = refl
place_if_none None t name e = e

pub place_same : (t u : Tree) (name : ObjectName) → item_at u (object_path name) ≡ item_at t (object_path name) → not_folder u (parent (object_path name)) ≡ not_folder t (parent (object_path name)) → place_fault u name ≡ place_fault t name
place_same t u name item road =
    let o = item_at t (object_path name) in
    ap (λ (i : Option Item). or_then (size_fault i) (place_if (whole_in name i) u name)) item
    ∙ ap (λ (x : Option CacheFault). or_then (size_fault o) x) (place_if_same (whole_in name o) t u name road)

pub fault_none : (t : Tree) (name : ObjectName) → size_fault (item_at t (object_path name)) ≡ None → not_folder t (parent (object_path name)) ≡ None → place_fault t name ≡ None
fault_none t name small road =
    ap (λ (x : Option CacheFault). or_then x (place_if (object_at t name) t name)) small ∙ place_if_none (object_at t name) t name road

-- ---- folders above a place

pub road_in_cache : (name : ObjectName) (q : Path) → under q (parent (object_path name)) ≡ true → is_cache_folder q ≡ true
road_in_cache name q u =
    let c = take 2 name.digits in
    elim (under_last q shelf_path c u) [
      | inl e ↦ or_left (under q shelf_path) (under shelf_path q && (length q == length shelf_path + 1)) e
      | inr e ↦ ap is_cache_folder (under-antisym q (shelf_path ++ c ∷ []) u e) ∙ shelf_folder c
    ]

pub store_same_road : {names : List ObjectName} (name : ObjectName) (m n : Moment) → InStore names m n → not_folder n.tree (parent (object_path name)) ≡ not_folder m.tree (parent (object_path name))
store_same_road name m n h =
    same_not_folder m.tree n.tree (parent (object_path name)) (λ q u. made_is_file q m n (h.folders q (road_in_cache name q u)))

pub dvc_on_road : (t : Tree) (name : ObjectName) → not_folder t (parent (object_path name)) ≡ None → IsNoFileAt t dvc_path
unfolding dvc_path
dvc_on_road t name e = road_of t (parent (object_path name)) e (codes ".dvc" ∷ []) refl

-- ---- an object that is put

kept_at : {names : List ObjectName} (name other : ObjectName) (bytes : List ℕ) (a b d : Moment) → HasPlace a.tree name → InScratch a b → InGive (object_path name) (Some bytes) b d → IsNewFile (object_path name) bytes d → size_fault (Some (file bytes)) ≡ None → InStore names a d → (object_path other ≡ object_path name) ⊎ (object_path other ≢ object_path name) → place_fault d.tree other ≡ place_fault a.tree other
kept_at name other bytes a b d had scratch give new small store (inl s) =
    let road : not_folder a.tree (parent (object_path other)) ≡ None = ap (λ (p : Path). not_folder a.tree (parent p)) s ∙ had.road in
    let was : size_fault (item_at a.tree (object_path other)) ≡ None = ap (λ (p : Path). size_fault (item_at a.tree p)) s ∙ had.small in
    let now : size_fault (item_at d.tree (object_path other)) ≡ None = ap (λ (p : Path). size_fault (item_at d.tree p)) s ∙ ap size_fault new.stands ∙ small in
    fault_none d.tree other now (store_same_road other a d store ∙ road) ∙ sym (fault_none a.tree other was road)
kept_at name other bytes a b d had scratch give new small store (inr ne) =
    place_same a.tree d.tree other (other_object name other (Some bytes) b d give ne ∙ item_kept (object_path other) a b (object_apart other) scratch) (store_same_road other a d store)

pub kept_fault : {names : List ObjectName} (name other : ObjectName) (bytes : List ℕ) (a b d : Moment) → HasPlace a.tree name → InScratch a b → InGive (object_path name) (Some bytes) b d → IsNewFile (object_path name) bytes d → size_fault (Some (file bytes)) ≡ None → InStore names a d → place_fault d.tree other ≡ place_fault a.tree other
kept_fault name other bytes a b d had scratch give new small store =
    kept_at name other bytes a b d had scratch give new small store (path_cases (object_path other) (object_path name))

pub still_missing : (name : ObjectName) (a b : Moment) → HasPlace a.tree name → InScratch a b → object_at b.tree name ≡ None
still_missing name a b had scratch = ap (whole_in name) (item_kept (object_path name) a b (object_apart name) scratch) ∙ had.missing

-- bytes that have the name, and aren't too many, are in the lane
pub record IsFilled (name : ObjectName) (n : Moment) : Type 0 where
  pub bytes : List ℕ
  pub named : has_name name bytes ≡ true
  pub small : size_fault (Some (file bytes)) ≡ None
  pub lane : IsInLane bytes n

pub filled_of_copied : {H : List ℕ → Type 0} (name : ObjectName) (item : Option Item) (n : Moment) → HasNamed name item → IsCopied H item n → IsFilled name n
filled_of_copied name item n known h =
    let s : Some (file known.bytes) ≡ Some (file h.bytes) = sym known.there ∙ h.there in
    let e : known.bytes ≡ h.bytes = cc in
    record { bytes = h.bytes; named = subst (λ (b : List ℕ). has_name name b ≡ true) e known.named; small = subst (λ (i : Option Item). size_fault i ≡ None) h.there known.small; lane = h.lane }

-- the lane was filled, and then published at the object's place
pub passes_put : (name : ObjectName) (place : Path) (bytes : List ℕ) (a b d : History) → place ≡ object_path name → has_name name bytes ≡ true → HasPlace a.present.tree name → Passes (InScratch a.present) a b → Passes (InGive place (Some bytes) b.present) b d → Passes (InStore (name ∷ []) a.present) a d
passes_put name place bytes a b d e good had x y =
    passes_stored_then a b d (passes_stored_scratch (name ∷ []) a b x)
    (passes_stored_give name bytes b d good (still_missing name a.present b.present had x.now) (subst (λ (p : Path). Passes (InGive p (Some bytes) b.present) b d) e y))

pub new_object : (name : ObjectName) (place : Path) (bytes : List ℕ) (n : Moment) → place ≡ object_path name → has_name name bytes ≡ true → IsNewFile place bytes n → is_some (object_at n.tree name) ≡ true
new_object name place bytes n e good h =
    ap is_some (whole_of name (item_at n.tree (object_path name)) bytes (ap (item_at n.tree) (sym e) ∙ h.stands) good)

kept_some : {names : List ObjectName} (m n : Moment) (name : ObjectName) → InStore names m n → (o : Option (List ℕ)) → object_at m.tree name ≡ o → is_some o ≡ true → is_some (object_at n.tree name) ≡ true
kept_some m n name h None s e = absurd (false≢true e)
kept_some m n name h (Some bytes) s e = ap is_some (h.whole name bytes s)

pub some_kept : {names : List ObjectName} (m n : Moment) (name : ObjectName) → InStore names m n → is_some (object_at m.tree name) ≡ true → is_some (object_at n.tree name) ≡ true
some_kept m n name h e = kept_some m n name h (object_at m.tree name) refl (e)

-- ---- several objects

pub all_kept : {names : List ObjectName} (m n : Moment) (ns : List ObjectName) → InStore names m n → are_whole m.tree ns ≡ true → are_whole n.tree ns ≡ true
all_kept m n [] h e = refl
all_kept m n (x ∷ ns) h e =
    let p = and_parts (is_some (object_at m.tree x)) (are_whole m.tree ns) e in
    and_from (is_some (object_at n.tree x)) (are_whole n.tree ns) (some_kept m n x h p.0) (all_kept m n ns h p.1)

pub whole_push : (t : Tree) (ns : List ObjectName) (x : ObjectName) → are_whole t ns ≡ true → is_some (object_at t x) ≡ true → are_whole t (ns ++ x ∷ []) ≡ true
whole_push t [] x a b = and_from (is_some (object_at t x)) true b refl
whole_push t (y ∷ ns) x a b =
    let p = and_parts (is_some (object_at t y)) (are_whole t ns) a in
    and_from (is_some (object_at t y)) (are_whole t (ns ++ x ∷ [])) p.0 (whole_push t ns x p.1 b)

pub places_same : (t u : Tree) (ns : List ObjectName) → ((other : ObjectName) → place_fault u other ≡ place_fault t other) → places_fault u ns ≡ places_fault t ns
places_same t u [] f = refl
places_same t u (x ∷ ns) f =
    ap (λ (o : Option CacheFault). or_then o (places_fault u ns)) (f x) ∙ ap (λ (o : Option CacheFault). or_then (place_fault t x) o) (places_same t u ns f)

or_then_assoc : (a b d : Option CacheFault) → or_then (or_then a b) d ≡ or_then a (or_then b d)
or_then_assoc None b d = refl
or_then_assoc (Some f) b d = refl

or_then_none : (a : Option CacheFault) → or_then a None ≡ a
or_then_none None = refl
or_then_none (Some f) = refl

pub places_push : (t : Tree) (ns : List ObjectName) (x : ObjectName) → places_fault t (ns ++ x ∷ []) ≡ or_then (places_fault t ns) (place_fault t x)
places_push t [] x = or_then_none (place_fault t x)
places_push t (y ∷ ns) x =
    ap (λ (o : Option CacheFault). or_then (place_fault t y) o) (places_push t ns x) ∙ sym (or_then_assoc (place_fault t y) (places_fault t ns) (place_fault t x))

pub known_kept : {names : List ObjectName} (at : Path) (m n : Moment) (ms : List Member) → IsOutside at → InStore names m n → AreKnown m.tree at ms → AreKnown n.tree at ms
known_kept at m n [] out h known = tt
known_kept at m n (x ∷ ms) out h known =
    (subst (λ (i : Option Item). HasNamed x.name i) (sym (store_keeps_item at (at ++ x.path) m n out h (under-append at x.path))) known.0, known_kept at m n ms out h known.1)

-- ---- what refusals tell, over any world

pub told_in_cache : (at : Path) (fault : CacheFault) → IsToldInCache fault → IsToldAt at fault
told_in_cache at (Changed path told found) h = absurd h
told_in_cache at (Absent name) h = h
told_in_cache at Missing h = h
told_in_cache at (TooLarge what limit) h = h
told_in_cache at (NotFolder path) h = h
told_in_cache at Failed h = h
told_in_cache at NoMemory h = h

pub told_of_copy : (at : Path) (fault : CacheFault) → IsToldOf at fault → IsToldAt at fault
told_of_copy at (Changed path told found) h = ap (under at) h ∙ under-refl at
told_of_copy at (Absent name) h = tt
told_of_copy at Missing h = tt
told_of_copy at (TooLarge what limit) h = absurd h
told_of_copy at (NotFolder path) h = absurd h
told_of_copy at Failed h = tt
told_of_copy at NoMemory h = tt

pub told_above : (at below : Path) (fault : CacheFault) → under at below ≡ true → IsToldAt below fault → IsToldAt at fault
told_above at below (Changed path told found) u h = under-trans at below path u h
told_above at below (Absent name) u h = h
told_above at below Missing u h = h
told_above at below (TooLarge what limit) u h = h
told_above at below (NotFolder path) u h = h
told_above at below Failed u h = h
told_above at below NoMemory u h = h

pub told_on_road : (name : ObjectName) (fault : CacheFault) → IsOnRoad (parent (object_path name)) fault → IsToldInCache fault
told_on_road name (NotFolder path) h = road_in_cache name path h
told_on_road name (Changed path told found) h = absurd (false≢true h)
told_on_road name (Absent other) h = tt
told_on_road name Missing h = tt
told_on_road name (TooLarge what limit) h = absurd (false≢true h)
told_on_road name Failed h = tt
told_on_road name NoMemory h = tt
