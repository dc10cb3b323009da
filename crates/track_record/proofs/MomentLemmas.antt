-- The moments of one track file: what stands at its outs is put into the cache, and then the file is published.
--     not_stored, below_not_root     paths that aren't the tool's own stay while values are put
--     stored_under                   so does what stands at the file
--     write_folder, write_place, write_object     a publish leaves the cache as it is
--     held_on                        what is held stays so
--     records_of_stored, records_of_write         both are moments of the record
--     passes_put, passes_published   the same over histories
use Rattle.std.proofs.Common.{◌≡◌, ◌≢◌, ◌⊎◌, ℕ, Bool, true, false, ◌||◌, List, [], ◌∷◌, inl, inr, refl, sym, ap, subst, ◌∙◌, Option, Some, None, is_some}
use Rattle.std.proofs.lemmas.Bool.{false≢true, cases_Bool, or_parts, or_from, or_cases, and_parts, and_from, false_from_ne_true}
use Rattle.dvc_base.specs.Path.{Path, under}
use Rattle.dvc_base.specs.Name.{ObjectName, place_of}
use Rattle.dvc_base.proofs.PathLemmas.{under-refl, under-trans, under-append}
use Rattle.world_api.specs.Tree.{Tree, value_at}
use Rattle.world_api.specs.History.{Moment, History, Passes}
use Rattle.world_api.specs.Writes.{is_at, IsMade, IsSameUnder, in_scratch, in_write, InWrite}
use Rattle.world_api.specs.Layout.{dvc_path, lock_path}
use Rattle.world_api.proofs.HistoryLemmas.{keeps_then, keeps_in, passes_weaker, passes_on}
use Rattle.world_api.proofs.WriteLemmas.{same_at, same_under, same_under_then, made_then_made}
use Rattle.world_api.proofs.LaneLemmas.{at_same}
use Rattle.object_cache.specs.Objects.{cache_path, object_path, object_at, whole_in, are_whole, object_names, is_stored}
use Rattle.object_cache.specs.Store.{shelf_path, is_cache_folder}
use Rattle.stage_graph.specs.declared.track.TrackFile.{TrackFile}
use Rattle.repro_laws.specs.Headline.{IsApart}
use Rattle.repro_laws.specs.Moments.{is_own, in_places}
use Rattle.repro_laws.specs.declared.stage.Stage.{Stage}
use Rattle.repro_laws.proofs.AlikeLemmas.{each_on}
use Rattle.repro_laws.proofs.MomentLemmas.{kept_place_then}
use Rattle.repro_laws.proofs.StayLemmas.{not_in_turns}
use Rattle.repro_core.specs.Steps.{in_stored, InStored}
use Rattle.repro_core.proofs.LeftLemmas.{is_free_folder, is_free_place}
use Rattle.repro_core.proofs.WorkLemmas.{own_of_dvc}
use Rattle.track_record.specs.Sources.{source_paths, is_same, text_now}
use Rattle.track_record.specs.Records.{in_files, AreHeld, IsPublished, InRecords}

-- ---- paths that aren't the tool's own

own_root : is_own dvc_path ≡ true
unfolding dvc_path lock_path
own_root = refl

pub no_root : (p : Path) → IsApart is_own p → p ≢ []
no_root [] apart e = false≢true (sym (apart dvc_path refl) ∙ own_root)
no_root (c ∷ p) apart e = absurd (cc)

pub below_not_root : (at p : Path) → at ≢ [] → under at p ≡ true → p ≢ []
below_not_root [] p ne u = absurd (ne refl)
below_not_root (c ∷ at) [] ne u = absurd (false≢true u)
below_not_root (c ∷ at) (d ∷ p) ne u = λ e. absurd (cc)

-- a stage that names no path
abbrev bare : Stage
bare = record { name = []; commands = []; dir = []; looks = []; deps = []; params = []; outs = []; made = []; always = false }

pub not_stored : (p : Path) → p ≢ [] → is_own p ≡ false → in_stored p ≡ false
not_stored p ne own =
    let rest = or_parts false (in_scratch p || (is_cache_folder p || (in_places p || under lock_path p))) (not_in_turns bare p ne own refl) in
    let scratch = or_parts (in_scratch p) (is_cache_folder p || (in_places p || under lock_path p)) rest.1 in
    let folders = or_parts (is_cache_folder p) (in_places p || under lock_path p) scratch.1 in
    let places = or_parts (in_places p) (under lock_path p) folders.1 in
    or_from (in_scratch p) (is_cache_folder p || in_places p) scratch.0 (or_from (is_cache_folder p) (in_places p) folders.0 places.0)

-- at or below a path apart from the tool's own
pub below_stored : (at p : Path) → IsApart is_own at → under at p ≡ true → in_stored p ≡ false
below_stored at p apart u = not_stored p (below_not_root at p (no_root at apart) u) (apart p u)

pub stored_under : (at : Path) (m n : Moment) → IsApart is_own at → InStored m n → IsSameUnder at m n
stored_under at m n apart stored = same_under at in_stored m n stored.others (λ p u. below_stored at p apart u)

-- ---- a publish leaves the cache as it is

shelf_in_dvc : under dvc_path shelf_path ≡ true
unfolding dvc_path
shelf_in_dvc = refl

cache_in_dvc : under dvc_path cache_path ≡ true
unfolding dvc_path
cache_in_dvc = refl

-- what lies in `.dvc` doesn't lie below the path
dvc_outside : (at p : Path) → IsApart is_own at → under dvc_path p ≡ true → under at p ≡ false
dvc_outside at p apart in' = false_from_ne_true (under at p) (λ u. false≢true (sym (apart p u) ∙ own_of_dvc p in'))

folder_outside : (at p : Path) → IsApart is_own at → is_cache_folder p ≡ true → under at p ≡ false
folder_outside at p apart in' =
    elim (or_cases (under p shelf_path) _ in') [
      | inl above ↦
          false_from_ne_true (under at p) (λ u. false≢true (sym (dvc_outside at shelf_path apart shelf_in_dvc) ∙ under-trans at p shelf_path u above))
      | inr below ↦
          dvc_outside at p apart (under-trans dvc_path shelf_path p shelf_in_dvc (and_parts (under shelf_path p) _ below).0)
    ]

in_place : (name : ObjectName) (p : Path) → under (object_path name) p ≡ true → under dvc_path p ≡ true
in_place name p u =
    under-trans dvc_path cache_path p cache_in_dvc (under-trans cache_path (object_path name) p (under-append cache_path (place_of name)) u)

module _ (at : Path) (bytes : List ℕ) (k n : Moment) (apart : IsApart is_own at) (write : InWrite at bytes k n) where
  pub write_folder : (p : Path) → is_cache_folder p ≡ true → IsMade p k n
  write_folder p in' =
      elim (cases_Bool (is_at dvc_path p)) [
        | inl e ↦ subst (λ (x : Path). IsMade x k n) (at_same dvc_path p e) write.dvc
        | inr other ↦
            inl (same_at p (in_write at) k n write.others (or_from (under at p) (in_scratch p) (folder_outside at p apart in') (or_parts (under lock_path p) (in_scratch p) (is_free_folder p other in')).1))
      ]

  pub write_place : (name : ObjectName) → IsSameUnder (object_path name) k n
  write_place name =
      same_under (object_path name) (in_write at) k n write.others
      (λ p u. or_from (under at p) (in_scratch p) (dvc_outside at p apart (in_place name p u)) (or_parts (under lock_path p) (in_scratch p) (is_free_place name p u)).1)

  pub write_object : (name : ObjectName) → object_at n.tree name ≡ object_at k.tree name
  write_object name =
      let same = write_place name in
      ap (whole_in name) (same.items (object_path name) (under-refl (object_path name)))

-- ---- what is held stays so

-- each object of the one that is whole is in the other
abbrev pub KeepsObjects : Tree → Tree → Type 0
KeepsObjects t u = (name : ObjectName) (bytes : List ℕ) → object_at t name ≡ Some bytes → object_at u name ≡ Some bytes

some_by : {A : Type 0} (o x : Option A) → ((y : A) → o ≡ Some y → x ≡ Some y) → is_some o ≡ true → is_some x ≡ true
some_by None x f h = absurd (false≢true h)
some_by (Some y) x f h = ap is_some (f y refl)

whole_on : (t u : Tree) (names : List ObjectName) → KeepsObjects t u → are_whole t names ≡ true → are_whole u names ≡ true
whole_on t u [] objects h = refl
whole_on t u (name ∷ names) objects h =
    let parts = and_parts (is_some (object_at t name)) (are_whole t names) h in
    and_from (is_some (object_at u name)) (are_whole u names) (some_by (object_at t name) (object_at u name) (objects name) parts.0) (whole_on t u names objects parts.1)

pub held_on : (t u w : Tree) (x : TrackFile) → KeepsObjects u w → AreHeld t u x → AreHeld t w x
held_on t u w x objects held =
    each_on (λ (p : Path). is_stored u (value_at t p) ≡ true) (λ (p : Path). is_stored w (value_at t p) ≡ true) (source_paths x)
    (λ p h. whole_on u w (object_names (value_at t p)) objects h) held

-- ---- both are moments of the record

abbrev area : TrackFile → Path → Bool
area x p = in_files (x ∷ []) p || in_stored p

in_area : (x : TrackFile) (p : Path) → area x p ≡ false → (under x.file p ≡ false) × (in_stored p ≡ false)
in_area x p out =
    let parts = or_parts (in_files (x ∷ []) p) (in_stored p) out in
    ((or_parts (under x.file p) false parts.0).0, parts.1)

area_write : (x : TrackFile) (p : Path) → area x p ≡ false → in_write x.file p ≡ false
area_write x p out =
    let parts = in_area x p out in
    or_from (under x.file p) (in_scratch p) parts.0 (or_parts (in_scratch p) (is_cache_folder p || in_places p) parts.1).0

pub records_of_stored : (x : TrackFile) (m n : Moment) → IsApart is_own x.file → InStored m n → InRecords (x ∷ []) m n
records_of_stored x m n apart stored =
    record {
      files = (inl (stored_under x.file m n apart stored), tt);
      folders = stored.folders;
      places = stored.places;
      objects = stored.objects;
      others = keeps_in in_stored (area x) m n (λ p out. (in_area x p out).1) stored.others;
    }

module _ (x : TrackFile) (m k : Moment) (apart : IsApart is_own x.file) (differs : is_same m.tree x ≡ false) (held : AreHeld m.tree k.tree x) (stored : InStored m k) where
  write_file : (n : Moment) → InWrite x.file (text_now m.tree x) k n → IsSameUnder x.file m n ⊎ IsPublished m.tree x n
  write_file n write =
      elim write.path [
        | inl same ↦ inl (same_under_then x.file m k n (stored_under x.file m k apart stored) same)
        | inr new ↦
            inr (record {
              differs = differs;
              text = new;
              held = held_on m.tree k.tree n.tree x (λ name bytes e. write_object x.file (text_now m.tree x) k n apart write name ∙ e) held;
            })
      ]

  pub records_of_write : (n : Moment) → InWrite x.file (text_now m.tree x) k n → InRecords (x ∷ []) m n
  records_of_write n write =
      let text = text_now m.tree x in
      record {
        files = (write_file n write, tt);
        folders = λ p in'. made_then_made p m k n (stored.folders p in') (write_folder x.file text k n apart write p in');
        places = λ name. kept_place_then (object_path name) m k n (stored.places name) (inl (write_place x.file text k n apart write name));
        objects = λ name bytes e. write_object x.file text k n apart write name ∙ stored.objects name bytes e;
        others = keeps_then (area x) m k n (keeps_in in_stored (area x) m k (λ p out. (in_area x p out).1) stored.others) (keeps_in (in_write x.file) (area x) k n (area_write x) write.others);
      }

-- ---- over histories

pub passes_put : (x : TrackFile) (a b : History) → IsApart is_own x.file → Passes (InStored a.present) a b → Passes (InRecords (x ∷ []) a.present) a b
passes_put x a b apart put =
    passes_weaker (InStored a.present) (InRecords (x ∷ []) a.present) a b (λ n h. records_of_stored x a.present n apart h) put

pub passes_published : (x : TrackFile) (a b c : History) → IsApart is_own x.file → is_same a.present.tree x ≡ false → AreHeld a.present.tree b.present.tree x → Passes (InStored a.present) a b → Passes (InWrite x.file (text_now a.present.tree x) b.present) b c → Passes (InRecords (x ∷ []) a.present) a c
passes_published x a b c apart differs held put write =
    passes_on (InRecords (x ∷ []) a.present) (InWrite x.file (text_now a.present.tree x) b.present) a b c (passes_put x a b apart put) (λ n h. records_of_write x a.present b.present apart differs held put.now n h) write
