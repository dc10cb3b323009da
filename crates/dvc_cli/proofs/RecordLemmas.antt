-- What the record of track files leaves of what the turns and the laws ask for.
--     track_apart..          a track file lies neither at nor above `dvc.lock` or `dvc.yaml`
--     records_lock           the lock stays
--     records_sound          each moment of it is sound, where it begins at a sound one
--     met_begun, ran_begun   what was met, and which jobs have run, since the turns began
use Rattle.std.proofs.Common.{◌≡◌, ℕ, Bool, true, false, ◌&&◌, ◌||◌, List, [], ◌∷◌, ◌++◌, refl, sym, ap, ◌∙◌, subst, ◌⊎◌, inl, inr, bytes_eq, codes}
use Rattle.std.specs.List.{AllByRecursion}
use Rattle.std.proofs.lemmas.Bool.{cases_Bool, false≢true, or_from, or_cases, and_parts, false_from_ne_true, both_ways}
use Rattle.dvc_base.specs.Path.{Path, under, overlap}
use Rattle.dvc_base.proofs.PathLemmas.{under-antisym, under-overlap}
use Rattle.world_api.specs.Tree.{item_at}
use Rattle.world_api.specs.Effect.{Effect}
use Rattle.world_api.specs.History.{Moment, Book, Stays, itself}
use Rattle.world_api.specs.Layout.{dvc_path, tmp_path, lock_path, yaml_path}
use Rattle.world_api.specs.Writes.{is_at, IsSameUnder, in_scratch}
use Rattle.object_cache.specs.Objects.{object_path}
use Rattle.object_cache.specs.Store.{is_cache_folder, IsKeptPlace}
use Rattle.stage_graph.specs.declared.track.TrackFile.{TrackFile}
use Rattle.workspace_files.specs.Walk.{is_track_name, is_track_path}
use Rattle.repro_laws.specs.Moments.{in_places}
use Rattle.repro_laws.specs.Sound.{lock_by, lock_of, IsSound, HasRunFor, IsKnown, IsMetSince}
use Rattle.repro_laws.specs.declared.stage.Stage.{Stage}
use Rattle.repro_laws.proofs.SameLemmas.{bytes_same}
use Rattle.repro_laws.proofs.SoundLaw.{place_at, made_firm}
use Rattle.repro_core.specs.Steps.{in_stored}
use Rattle.track_record.specs.Records.{in_files, IsPublished, InRecords}

-- ---- paths of track files

module _ (name : List ℕ) (other : is_track_name name ≡ false) where
  one_part : (c : List ℕ) → is_track_name c ≡ true → bytes_eq c name ≡ false
  one_part c track =
      false_from_ne_true (bytes_eq c name) (λ e. false≢true (sym other ∙ (sym (ap is_track_name (bytes_same c name e)) ∙ track)))

  -- a track file lies neither at nor above a file of another name at the root
  pub track_apart : (p : Path) → is_track_path p ≡ true → under p (name ∷ []) ≡ false
  track_apart [] track = absurd (false≢true track)
  track_apart (c ∷ []) track = or_none (one_part c (and_parts _ (is_track_name c) track).1)
    where
      or_none : {b : Bool} → b ≡ false → (b && true) ≡ false
      or_none e = rw e refl
  track_apart (c ∷ d ∷ p) track = by (bytes_eq c name)
    where
      by : (b : Bool) → (b && false) ≡ false
      by true = refl
      by false = refl

  none_at : (fs : List TrackFile) → AllByRecursion (λ f. is_track_path f.file ≡ true) fs → in_files fs (name ∷ []) ≡ false
  none_at [] h = refl
  none_at (f ∷ fs) h =
      or_from (under f.file (name ∷ [])) (in_files fs (name ∷ [])) (track_apart f.file h.0) (none_at fs h.1)

lock_far : (fs : List TrackFile) → AllByRecursion (λ f. is_track_path f.file ≡ true) fs → in_files fs lock_path ≡ false
unfolding lock_path
lock_far fs h = none_at (codes "dvc.lock") refl fs h

yaml_far : (fs : List TrackFile) → AllByRecursion (λ f. is_track_path f.file ≡ true) fs → in_files fs yaml_path ≡ false
unfolding yaml_path
yaml_far fs h = none_at (codes "dvc.yaml") refl fs h

lock_unstored : in_stored lock_path ≡ false
unfolding lock_path dvc_path tmp_path
lock_unstored = refl

yaml_unstored : in_stored yaml_path ≡ false
unfolding yaml_path dvc_path tmp_path
yaml_unstored = refl

-- ---- the lock

pub records_lock : (fs : List TrackFile) (m n : Moment) → AllByRecursion (λ f. is_track_path f.file ≡ true) fs → InRecords fs m n → item_at n.tree lock_path ≡ item_at m.tree lock_path
records_lock fs m n named h =
    let others = h.others in
    let kept = others.paths in
    kept.items lock_path (or_from (in_files fs lock_path) (in_stored lock_path) (lock_far fs named) lock_unstored)

pub records_remember : (fs : List TrackFile) (m n : Moment) → AllByRecursion (λ f. is_track_path f.file ≡ true) fs → InRecords fs m n → lock_of n.tree ≡ lock_of m.tree
records_remember fs m n named h = ap lock_by (records_lock fs m n named h)

dvc_is_folder : is_cache_folder dvc_path ≡ true
unfolding dvc_path
dvc_is_folder = refl

-- ---- what a stop may change

file_firm : (m n : Moment) (f : TrackFile) (p : Path) → IsSameUnder f.file m n ⊎ IsPublished m.tree f n → under f.file p ≡ true → m.loose p ≡ false → n.loose p ≡ false
file_firm m n f p (inl same) u firm = same.loose p u ∙ firm
file_firm m n f p (inr new) u firm = let text = new.text in text.firm p u

files_firm : (fs : List TrackFile) (m n : Moment) (p : Path) → AllByRecursion (λ f. IsSameUnder f.file m n ⊎ IsPublished m.tree f n) fs → in_files fs p ≡ true → m.loose p ≡ false → n.loose p ≡ false
files_firm [] m n p each here firm = absurd (false≢true here)
files_firm (f ∷ fs) m n p each here firm =
    elim (or_cases (under f.file p) (in_files fs p) here) [
      | inl u ↦ file_firm m n f p each.0 u firm
      | inr later ↦ files_firm fs m n p each.1 later firm
    ]

place_firm : (q p : Path) (m n : Moment) → IsKeptPlace q m n → under q p ≡ true → m.loose p ≡ false → n.loose p ≡ false
place_firm q p m n (inl same) u firm = same.loose p u ∙ firm
place_firm q p m n (inr (inl new)) u firm = let file = new.file in file.firm p u
place_firm q p m n (inr (inr gives)) u firm = gives.firm p u firm

-- what lies outside the lanes stays on the disk
stays_firm : (fs : List TrackFile) (m n : Moment) (p : Path) → InRecords fs m n → (in_scratch p ≡ false) ⊎ (is_cache_folder p ≡ true) → m.loose p ≡ false → n.loose p ≡ false
stays_firm fs m n p h (inr cache) firm = made_firm p m n (h.folders p cache) firm
stays_firm fs m n p h (inl scratch) firm =
    elim (cases_Bool (in_files fs p)) [
      | inl here ↦ files_firm fs m n p h.files here firm
      | inr no_file ↦ elim (cases_Bool (is_cache_folder p)) [
        | inl cache ↦ made_firm p m n (h.folders p cache) firm
        | inr no_folder ↦ elim (cases_Bool (in_places p)) [
          | inl placed ↦ let at = place_at p placed in place_firm (object_path at.name) p m n (h.places at.name) at.below firm
          | inr no_place ↦
              let others = h.others in
              let kept = others.paths in
              kept.loose p (or_from (in_files fs p) (in_stored p) no_file (or_from (in_scratch p) (is_cache_folder p || in_places p) scratch (or_from (is_cache_folder p) (in_places p) no_folder no_place)))
              ∙ firm
        ]
      ]
    ]

dvc_scratch : (p : Path) → under tmp_path p ≡ false → (in_scratch p ≡ false) ⊎ (is_cache_folder p ≡ true)
dvc_scratch p tmp =
    elim (cases_Bool (is_at dvc_path p)) [
      | inl at ↦
          let parts = and_parts (under dvc_path p) (under p dvc_path) at in
          inr (subst (λ (q : Path). is_cache_folder q ≡ true) (under-antisym dvc_path p parts.0 parts.1) dvc_is_folder)
      | inr far ↦ inl (or_from (is_at dvc_path p) (under tmp_path p) far tmp)
    ]

dvc_apart : overlap dvc_path lock_path ≡ false
unfolding lock_path dvc_path
dvc_apart = refl

tmp_apart : overlap tmp_path lock_path ≡ false
unfolding lock_path tmp_path
tmp_apart = refl

apart_from : (q p : Path) → overlap q lock_path ≡ false → under lock_path p ≡ true → under q p ≡ true → ⊥
apart_from q p apart a b = both_ways (overlap q lock_path) apart (under-overlap q lock_path p b a)

lock_scratch : (p : Path) → under lock_path p ≡ true → in_scratch p ≡ false
lock_scratch p below =
    or_from (is_at dvc_path p) (under tmp_path p)
    (false_from_ne_true (is_at dvc_path p) (λ e. apart_from dvc_path p dvc_apart below (and_parts (under dvc_path p) (under p dvc_path) e).0))
    (false_from_ne_true (under tmp_path p) (λ e. apart_from tmp_path p tmp_apart below e))

yaml_scratch : in_scratch yaml_path ≡ false
unfolding yaml_path dvc_path tmp_path
yaml_scratch = refl

pub records_sound : (fs : List TrackFile) (book : Book) (effect : Effect) (m n : Moment) → AllByRecursion (λ f. is_track_path f.file ≡ true) fs → IsSound book effect m → InRecords fs m n → IsSound book effect n
records_sound fs book effect m n named s h = record {
  truthful = λ lock e. s.truthful lock (sym (records_remember fs m n named h) ∙ e);
  lock_firm = λ p below. stays_firm fs m n p h (inl (lock_scratch p below)) (s.lock_firm p below);
  yaml_firm = stays_firm fs m n yaml_path h (inl yaml_scratch) s.yaml_firm;
  dvc_firm = λ p below tmp. stays_firm fs m n p h (dvc_scratch p tmp) (s.dvc_firm p below tmp);
}

-- ---- what has run and was met since the turns began

ran_begun : (m b n : Moment) (s : Stage) → Stays itself m.aside b.aside → HasRunFor s b n → HasRunFor s m n
ran_begun m b n s aside h =
    let ran = h.ran in
    record {
      job = h.job;
      own = h.own;
      ran = record { before = ran.before; after = ran.after; ran = ran.ran ∙ ap (λ f. f.ran ++ ran.before ++ h.job ∷ ran.after) aside.fixed };
    }

pub met_begun : (book : Book) (ss : List Stage) (m b n : Moment) → Stays itself m.aside b.aside → IsMetSince book ss m n → IsMetSince book ss b n
met_begun book [] m b n aside met = tt
met_begun book (s ∷ ss) m b n aside met = (λ h. met.0 (by h), met_begun book ss m b n aside met.1)
  where
    by : HasRunFor s b n ⊎ IsKnown n s → HasRunFor s m n ⊎ IsKnown n s
    by (inl ran) = inl (ran_begun m b n s aside ran)
    by (inr known) = inr known
