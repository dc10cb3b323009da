-- The record of track files leaves the lock as it is, and one that can be written.
--     records_remember, records_place
--     records_itself                     before anything is recorded
use Rattle.std.proofs.Common.{◌≡◌, ◌⊎◌, ◌||◌, ℕ, true, false, List, [], ◌∷◌, Some, refl, sym, ap, ◌∙◌, inl, inr}
use Rattle.std.specs.List.{AllByRecursion}
use Rattle.std.proofs.lemmas.Bool.{false≢true, or_from, false_from_ne_true}
use Rattle.dvc_base.specs.Path.{under}
use Rattle.world_api.specs.Tree.{Tree, folder, file, item_at}
use Rattle.world_api.specs.Calls.{parent}
use Rattle.world_api.specs.History.{Moment}
use Rattle.world_api.specs.Layout.{dvc_path, tmp_path, lock_path}
use Rattle.world_api.specs.Writes.{IsMade, IsNoFileAt, IsSameUnder, CanWrite}
use Rattle.world_api.proofs.HistoryLemmas.{keeps_itself}
use Rattle.object_cache.specs.Store.{is_cache_folder}
use Rattle.stage_graph.specs.declared.track.TrackFile.{TrackFile}
use Rattle.repro_laws.specs.Headline.{IsApart}
use Rattle.repro_laws.specs.Moments.{is_own}
use Rattle.repro_laws.specs.Sound.{lock_by, lock_of}
use Rattle.repro_core.specs.Steps.{in_stored}
use Rattle.track_record.specs.Records.{in_files, IsPublished, InRecords}

lock_own : is_own lock_path ≡ true
unfolding lock_path dvc_path
lock_own = refl

lock_unstored : in_stored lock_path ≡ false
unfolding lock_path dvc_path tmp_path
lock_unstored = refl

-- no track file lies at or above the lock, since that is the tool's own
lock_far : (fs : List TrackFile) → AllByRecursion (λ f. IsApart is_own f.file) fs → in_files fs lock_path ≡ false
lock_far [] h = refl
lock_far (f ∷ fs) h =
    or_from (under f.file lock_path) (in_files fs lock_path) (false_from_ne_true (under f.file lock_path) (λ e. false≢true (sym (h.0 lock_path e) ∙ lock_own))) (lock_far fs h.1)

records_lock : (fs : List TrackFile) (m n : Moment) → AllByRecursion (λ f. IsApart is_own f.file) fs → InRecords fs m n → item_at n.tree lock_path ≡ item_at m.tree lock_path
records_lock fs m n apart h =
    let others = h.others in
    let kept = others.paths in
    kept.items lock_path (or_from (in_files fs lock_path) (in_stored lock_path) (lock_far fs apart) lock_unstored)

pub records_remember : (fs : List TrackFile) (m n : Moment) → AllByRecursion (λ f. IsApart is_own f.file) fs → InRecords fs m n → lock_of n.tree ≡ lock_of m.tree
records_remember fs m n apart h = ap lock_by (records_lock fs m n apart h)

dvc_is_folder : is_cache_folder dvc_path ≡ true
unfolding dvc_path
dvc_is_folder = refl

root_above_lock : (t : Tree) → item_at t (parent lock_path) ≡ Some folder
unfolding lock_path
root_above_lock t = refl

folder_file : (bytes : List ℕ) → Some folder ≡ Some (file bytes) → ⊥
folder_file bytes e = cc

no_file_then : (m n : Moment) → IsMade dvc_path m n → IsNoFileAt m.tree dvc_path → IsNoFileAt n.tree dvc_path
no_file_then m n (inl same) none bytes e = none bytes (sym same.item ∙ e)
no_file_then m n (inr made) none bytes e = folder_file bytes (sym made.1.stands ∙ e)

pub records_place : (fs : List TrackFile) (m n : Moment) → AllByRecursion (λ f. IsApart is_own f.file) fs → InRecords fs m n → CanWrite lock_path m.tree → CanWrite lock_path n.tree
records_place fs m n apart h place =
    let room = place.room in
    record {
      room = record { above = root_above_lock n.tree; no_folder = λ e. room.no_folder (sym (records_lock fs m n apart h) ∙ e) };
      no_file = no_file_then m n (h.folders dvc_path dvc_is_folder) place.no_file;
    }

-- ---- nothing is recorded

pub records_itself : (fs : List TrackFile) (m : Moment) → InRecords fs m m
records_itself fs m = record {
  files = each fs;
  folders = λ p cache. inl (record { item = refl; loose = refl });
  places = λ name. inl (record { items = λ p below. refl; loose = λ p below. refl });
  objects = λ name bytes e. e;
  others = keeps_itself (λ p. in_files fs p || in_stored p) m;
}
  where
    each : (fs : List TrackFile) → AllByRecursion (λ f. IsSameUnder f.file m m ⊎ IsPublished m.tree f m) fs
    each [] = tt
    each (f ∷ fs) = (inl (record { items = λ p below. refl; loose = λ p below. refl }), each fs)
