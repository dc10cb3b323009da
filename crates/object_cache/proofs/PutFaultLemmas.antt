-- Why a value that can be named is not stored.
--     IsBarredBy t fault   a file stands where a folder of the cache has to be, or an object's file is larger than any that is read
--     barred               that is what is due of a value whose naming is no fault
--     put_fault_named      then the fault of storing it is that of the places of its objects
use Rattle.std.proofs.Common.{◌≡◌, ◌⊎◌, ℕ, ◌<◌, Bool, true, false, cond, List, [], ◌∷◌, ◌++◌, length, refl, sym, ap, subst, ◌∙◌, inl, inr, append_assoc, Option, Some, None, Ok}
use Rattle.std.specs.Prelude.{nat_lt}
use Rattle.std.proofs.lemmas.Bool.{ltb-true, cases_Bool}
use Rattle.dvc_base.specs.Path.{Path, under}
use Rattle.dvc_base.specs.Name.{ObjectName}
use Rattle.dvc_base.specs.Limits.{limit_of}
use Rattle.dvc_base.specs.declared.limits.What.TheVariants.{FileSize}
use Rattle.world_api.specs.Tree.{Tree, Item, folder, file, item_at, value_at}
use Rattle.world_api.specs.Calls.{IsFileAt, parent}
use Rattle.file_hash.specs.Naming.{naming_of}
use Rattle.file_hash.specs.declared.named.Named.{Named}
use Rattle.object_cache.specs.declared.fault.CacheFault.{CacheFault}
use Rattle.object_cache.specs.declared.fault.CacheFault.TheVariants.{TooLarge, NotFolder}
use Rattle.object_cache.specs.Objects.{object_path, object_at, object_names}
use Rattle.object_cache.specs.Store.{is_cache_folder}
use Rattle.object_cache.specs.Due.{or_then, is_file, first_file_from, not_folder_at, size_fault, has_fault, place_if, place_fault, places_fault, naming_fault, put_fault}
use Rattle.object_cache.proofs.RoadLemmas.{way_here}
use Rattle.object_cache.proofs.PutLemmas.{road_in_cache}

abbrev pub IsBarredBy : Tree → CacheFault → Type 0
IsBarredBy t (NotFolder p) = (is_cache_folder p ≡ true) × IsFileAt t p
IsBarredBy t (TooLarge FileSize limit) =
    (name : ObjectName) × (bytes : List ℕ) × ((item_at t (object_path name) ≡ Some (file bytes)) × (limit_of FileSize < length bytes))
IsBarredBy t _ = ⊥

-- ---- files in the way

pub record IsFoundOn (t : Tree) (way p : Path) : Type 0 where
  pub on_way : under p way ≡ true
  pub stands : IsFileAt t p

file_there : (t : Tree) (p : Path) (o : Option Item) → item_at t p ≡ o → is_file o ≡ true → IsFileAt t p
file_there t p None is e = absurd (cc)
file_there t p (Some folder) is e = absurd (cc)
file_there t p (Some (file bytes)) is e = (bytes, is)

found_from : (t : Tree) (here cs p : Path) → first_file_from t here cs ≡ Some p → IsFoundOn t (here ++ cs) p
found_from t here [] p e = absurd (cc)
found_from t here (c ∷ cs) p e =
    let next = here ++ c ∷ [] in
    elim (cases_Bool (is_file (item_at t next))) [
      | inl found ↦
          let some : Some next ≡ Some p = sym (ap (λ (b : Bool). cond b (Some next) (first_file_from t next cs)) found) ∙ e in
          let same : next ≡ p = cc in
          subst (IsFoundOn t (here ++ c ∷ cs)) same (record { on_way = way_here here c cs; stands = file_there t next (item_at t next) refl found })
      | inr none ↦
          let more : first_file_from t next cs ≡ Some p = sym (ap (λ (b : Bool). cond b (Some next) (first_file_from t next cs)) none) ∙ e in
          subst (λ (way : Path). IsFoundOn t way p) (append_assoc here (c ∷ []) cs) (found_from t next cs p more)
    ]

barred_road : (t : Tree) (name : ObjectName) (o : Option Path) (fault : CacheFault) → first_file_from t [] (parent (object_path name)) ≡ o → not_folder_at o ≡ Some fault → IsBarredBy t fault
barred_road t name None fault is e = absurd (cc)
barred_road t name (Some p) fault is e =
    let h = found_from t [] (parent (object_path name)) p is in
    let same : NotFolder p ≡ fault = cc in
    subst (IsBarredBy t) same (road_in_cache name p h.on_way, h.stands)

-- ---- an object and its place

or_some : (a b : Option CacheFault) (fault : CacheFault) → or_then a b ≡ Some fault → (a ≡ Some fault) ⊎ (b ≡ Some fault)
or_some None b fault e = inr e
or_some (Some f) b fault e = inl e

large_if : (t : Tree) (name : ObjectName) (bytes : List ℕ) (b : Bool) (fault : CacheFault) → item_at t (object_path name) ≡ Some (file bytes) → nat_lt (limit_of FileSize) (length bytes) ≡ b → cond b (Some (TooLarge FileSize (limit_of FileSize))) None ≡ Some fault → IsBarredBy t fault
large_if t name bytes false fault is over e = absurd (cc)
large_if t name bytes true fault is over e =
    let same : TooLarge FileSize (limit_of FileSize) ≡ fault = cc in
    subst (IsBarredBy t) same (name, bytes, (is, ltb-true (limit_of FileSize) (length bytes) over))

barred_size : (t : Tree) (name : ObjectName) (o : Option Item) (fault : CacheFault) → item_at t (object_path name) ≡ o → size_fault o ≡ Some fault → IsBarredBy t fault
barred_size t name None fault is e = absurd (cc)
barred_size t name (Some folder) fault is e = absurd (cc)
barred_size t name (Some (file bytes)) fault is e = large_if t name bytes (nat_lt (limit_of FileSize) (length bytes)) fault is refl e

barred_if : (t : Tree) (name : ObjectName) (x : Option (List ℕ)) (fault : CacheFault) → place_if x t name ≡ Some fault → IsBarredBy t fault
barred_if t name (Some bytes) fault e = absurd (cc)
barred_if t name None fault e = barred_road t name (first_file_from t [] (parent (object_path name))) fault refl e

pub place_barred : (t : Tree) (name : ObjectName) (fault : CacheFault) → place_fault t name ≡ Some fault → IsBarredBy t fault
place_barred t name fault e =
    elim (or_some (has_fault t name) (place_if (object_at t name) t name) fault e) [
      | inl large ↦ barred_size t name (item_at t (object_path name)) fault refl large
      | inr road ↦ barred_if t name (object_at t name) fault road
    ]

pub places_barred : (t : Tree) (names : List ObjectName) (fault : CacheFault) → places_fault t names ≡ Some fault → IsBarredBy t fault
places_barred t [] fault e = absurd (cc)
places_barred t (x ∷ names) fault e =
    elim (or_some (place_fault t x) (places_fault t names) fault e) [
      | inl here ↦ place_barred t x fault here
      | inr more ↦ places_barred t names fault more
    ]

-- ---- a value

pub put_fault_named : (t : Tree) (at : Path) (named : Named) → naming_of (value_at t at) ≡ Ok named → put_fault t at ≡ places_fault t (object_names (value_at t at))
put_fault_named t at named e =
    ap (λ r. or_then (naming_fault r) (places_fault t (object_names (value_at t at)))) e

pub barred : (t : Tree) (at : Path) (named : Named) (fault : CacheFault) → naming_of (value_at t at) ≡ Ok named → put_fault t at ≡ Some fault → IsBarredBy t fault
barred t at named fault e due =
    places_barred t (object_names (value_at t at)) fault (sym (put_fault_named t at named e) ∙ due)
