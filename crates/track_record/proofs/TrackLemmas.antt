-- Track files that are recorded one after another.
--     room_kept, ready_at, tracked_at     the next file can be recorded
--     files_more, held_more, due_more     one file more
--     answer_on                           the first that is refused
--     room_alone                          a single file can be published once its outs are put
--     recorded_same, recorded_new         a file that stays, and one that is published
--     on_ok                               one fact of Ok by another
use Rattle.std.proofs.Common.{◌≡◌, ◌≢◌, ◌⊎◌, ◌<◌, ◌+◌, ℕ, true, false, List, [], ◌∷◌, length, take, get_or, inl, inr, refl, sym, subst, ◌∙◌, arith, append-nil, Some, None, Result, Ok, Err, OnOk}
use Rattle.std.specs.List.{AllByRecursion}
use Rattle.std.proofs.lemmas.Bool.{false≢true, or_parts, or_from, false_from_ne_true, cond-true, cond-false}
use Rattle.dvc_base.specs.Path.{Path, under, overlap}
use Rattle.dvc_base.specs.declared.fault.Fault.{Fault}
use Rattle.dvc_base.proofs.PathLemmas.{under-refl, under-trans}
use Rattle.world_api.specs.Tree.{Tree, folder, file, item_at}
use Rattle.world_api.specs.Calls.{parent}
use Rattle.world_api.specs.History.{Moment}
use Rattle.world_api.specs.Layout.{dvc_path}
use Rattle.world_api.specs.Writes.{IsMade, IsSameUnder, IsNewFile, IsNoFileAt, InWrite, IsNoScratch, CanWrite}
use Rattle.world_api.proofs.TreeLemmas.{under_parent, parent_apart}
use Rattle.lock_files.specs.Form.{IsTrack}
use Rattle.object_cache.specs.Store.{is_cache_folder}
use Rattle.stage_graph.specs.declared.track.TrackFile.{TrackFile}
use Rattle.repro_laws.specs.Headline.{IsApart}
use Rattle.repro_laws.specs.Moments.{is_own}
use Rattle.repro_laws.specs.Sound.{IsAnswerAt}
use Rattle.repro_laws.proofs.AlikeLemmas.{each_on}
use Rattle.repro_core.specs.Steps.{in_stored, InStored}
use Rattle.repro_core.proofs.ExitLemmas.{own_area}
use Rattle.repro_core.proofs.StoreLemmas.{each_at, each_front, each_more, answer_at}
use Rattle.track_record.specs.Sources.{source_paths, all_sources, track_fault, tracks_fault, is_same, text_now, file_now}
use Rattle.track_record.specs.Records.{AreTracked, AreOneOrApart, AreReady, in_files, AreHeld, IsPublished, InRecords, AreRecorded}
use Rattle.track_record.proofs.EntryLemmas.{same_fault, same_held}
use Rattle.track_record.proofs.MomentLemmas.{no_root, not_stored, held_on, stored_under, write_object, records_of_stored, records_of_write}
use Rattle.track_record.proofs.StepLemmas.{sources_at, Place, IsPlace, stay_at, so_at, file_now_as, far_under}

-- ---- room for the next file

dvc_in_cache : is_cache_folder dvc_path ≡ true
unfolding dvc_path
dvc_in_cache = refl

not_both : (bytes : List ℕ) → Some folder ≡ Some (file bytes) → ⊥
not_both bytes e = absurd (cc)

no_file_then : (m n : Moment) → IsMade dvc_path m n → IsNoFileAt m.tree dvc_path → IsNoFileAt n.tree dvc_path
no_file_then m n (inl same) none bytes e = none bytes (sym same.item ∙ e)
no_file_then m n (inr made) none bytes e = not_both bytes (sym made.1.stands ∙ e)

folder_on : (t u : Tree) (q : Path) → (q ≢ [] → item_at u q ≡ item_at t q) → item_at t q ≡ Some folder → item_at u q ≡ Some folder
folder_on t u [] same e = refl
folder_on t u (c ∷ q) same e = same (λ s. absurd (cc)) ∙ e

-- the folder above a file lies in none of the files that are it or stand apart from it
above_files : (x : TrackFile) (ys : List TrackFile) → x.file ≢ [] → AllByRecursion (AreOneOrApart x) ys → in_files ys (parent x.file) ≡ false
above_files x [] ne near = refl
above_files x (y ∷ ys) ne near =
    or_from (under y.file (parent x.file)) (in_files ys (parent x.file)) (above near.0) (above_files x ys ne near.1)
  where
    above : AreOneOrApart x y → under y.file (parent x.file) ≡ false
    above (inl e) = subst (λ (z : TrackFile). under z.file (parent x.file) ≡ false) (sym e) (parent_apart x.file ne)
    above (inr far) =
        false_from_ne_true (under y.file (parent x.file)) (λ u. false≢true (sym (or_parts (under x.file y.file) (under y.file x.file) far).1 ∙ under-trans y.file (parent x.file) x.file u (under_parent x.file)))

above_own : (p : Path) → IsApart is_own p → is_own (parent p) ≡ false
above_own p apart =
    false_from_ne_true (is_own (parent p)) (λ own. false≢true (sym (apart p (under-refl p)) ∙ own_area.below (parent p) p own (under_parent p)))

no_folder_then : (x : TrackFile) (m k : Moment) → IsSameUnder x.file m k ⊎ IsPublished m.tree x k → item_at m.tree x.file ≢ Some folder → item_at k.tree x.file ≢ Some folder
no_folder_then x m k (inl same) none e = none (sym (same.items x.file (under-refl x.file)) ∙ e)
no_folder_then x m k (inr new) none e =
    let text = new.text in
    not_both (text_now m.tree x) (sym e ∙ text.stands)

apart_at : (s : Place) → IsPlace s → IsApart is_own s.one.file
apart_at s here = each_at (λ (x : TrackFile). IsApart is_own x.file) s.all s.at s.one here.within here.is here.apart

pub room_kept : (s : Place) (m k : Moment) → IsPlace s → InRecords s.all m k → CanWrite s.one.file m.tree → CanWrite s.one.file k.tree
room_kept s m k here so place =
    let x = s.one in
    let apart = apart_at s here in
    let room = place.room in
    let others = so.others in
    record {
      room = record {
        above = folder_on m.tree k.tree (parent x.file) (λ ne. others.paths.items (parent x.file) (or_from (in_files s.all (parent x.file)) (in_stored (parent x.file)) (above_files x s.all (no_root x.file apart) here.near) (not_stored (parent x.file) ne (above_own x.file apart)))) room.above;
        no_folder = no_folder_then x m k (so_at s here m k so) room.no_folder;
      };
      no_file = no_file_then m k (so.folders dvc_path dvc_in_cache) place.no_file;
    }

-- ---- what is asked of one among all

pub place_at : (fs : List TrackFile) (i : ℕ) (x : TrackFile) (t : Tree) → i < length fs → x ≡ get_or fs i x → AreTracked fs → AreReady fs t → IsPlace (record { all = fs; at = i; one = x })
place_at fs i x t l at tracked ready =
    record {
      within = l;
      is = at;
      tracked = tracked;
      apart = ready.apart;
      near = each_at (λ (y : TrackFile). AllByRecursion (AreOneOrApart y) fs) fs i x l at ready.each;
    }

pub ready_at : (s : Place) (m k : Moment) → IsPlace s → InRecords s.all m k → AreReady s.all m.tree → AreReady (s.one ∷ []) k.tree
ready_at s m k here so ready =
    let place = each_at (λ (x : TrackFile). CanWrite x.file m.tree) s.all s.at s.one here.within here.is ready.room in
    record {
      apart = (apart_at s here, tt);
      room = (room_kept s m k here so place, tt);
      each = ((inl refl, tt), tt);
    }

pub tracked_at : (fs : List TrackFile) (i : ℕ) (x : TrackFile) → i < length fs → x ≡ get_or fs i x → AreTracked fs → AreTracked (x ∷ [])
tracked_at fs i x l at tracked =
    let far = each_at (λ (y : TrackFile). AllByRecursion (λ (p : Path). overlap y.file p ≡ false) (all_sources fs)) fs i x l at tracked.far in
    record {
      form = (each_at (λ (y : TrackFile). IsTrack y.track) fs i x l at tracked.form, tt);
      files = (each_at (λ (y : TrackFile). IsNoScratch y.file) fs i x l at tracked.files, tt);
      outs = alone (IsApart is_own) (sources_at (IsApart is_own) fs i x l at tracked.outs);
      far = (alone (λ (p : Path). overlap x.file p ≡ false) (sources_at (λ (p : Path). overlap x.file p ≡ false) fs i x l at far), tt);
    }
  where
    alone : (P : Path → Type 0) → AllByRecursion P (source_paths x) → AllByRecursion P (all_sources (x ∷ []))
    alone P h = subst (AllByRecursion P) (sym (append-nil (source_paths x))) h

-- ---- one file more

module _ (s : Place) (here : IsPlace s) (m k n : Moment) (so : InRecords s.all m k) (one : AreRecorded (s.one ∷ []) k n) where
  abbrev IsDone : Moment → TrackFile → Type 0
  IsDone u x = item_at u.tree x.file ≡ file_now m.tree x

  item_now : IsDone n s.one
  item_now = one.files.0 ∙ file_now_as s here m k so

  done_then : (x : TrackFile) → AreOneOrApart s.one x → IsApart is_own x.file → IsDone k x → IsDone n x
  done_then x (inl e) apart done = subst (IsDone n) (sym e) item_now
  done_then x (inr far) apart done =
      let same = far_under s here m k so n one.during x far apart in
      same.items x.file (under-refl x.file) ∙ done

  all_then : (xs : List TrackFile) → AllByRecursion (AreOneOrApart s.one) xs → AllByRecursion (λ (x : TrackFile). IsApart is_own x.file) xs → AllByRecursion (IsDone k) xs → AllByRecursion (IsDone n) xs
  all_then [] near apart done = tt
  all_then (x ∷ xs) near apart done =
      (done_then x near.0 apart.0 done.0, all_then xs near.1 apart.1 done.1)

  pub files_more : AllByRecursion (IsDone k) (take s.at s.all) → AllByRecursion (IsDone n) (take (s.at + 1) s.all)
  files_more done =
      each_more (IsDone n) s.all s.at s.one here.within here.is
      (all_then (take s.at s.all) (each_front (AreOneOrApart s.one) s.all s.at here.near) (each_front (λ (x : TrackFile). IsApart is_own x.file) s.all s.at here.apart) done)
      item_now

  pub held_more : AllByRecursion (AreHeld m.tree k.tree) (take s.at s.all) → AllByRecursion (AreHeld m.tree n.tree) (take (s.at + 1) s.all)
  held_more held =
      let during = one.during in
      each_more (AreHeld m.tree n.tree) s.all s.at s.one here.within here.is
      (each_on (AreHeld m.tree k.tree) (AreHeld m.tree n.tree) (take s.at s.all) (λ x h. held_on m.tree k.tree n.tree x during.objects h) held)
      (same_held m.tree k.tree n.tree s.one (stay_at s here m k so) one.held.0)

pub due_more : (s : Place) (m k : Moment) → IsPlace s → InRecords s.all m k → AllByRecursion (λ (x : TrackFile). track_fault m.tree x ≡ None) (take s.at s.all) → track_fault k.tree s.one ≡ None → AllByRecursion (λ (x : TrackFile). track_fault m.tree x ≡ None) (take (s.at + 1) s.all)
due_more s m k here so none now =
    each_more (λ (x : TrackFile). track_fault m.tree x ≡ None) s.all s.at s.one here.within here.is none (sym (same_fault m.tree k.tree s.one (stay_at s here m k so)) ∙ now)

pub answer_on : (s : Place) (m k : Moment) (t : Tree) (fault : Fault) → IsPlace s → InRecords s.all m k → AllByRecursion (λ (x : TrackFile). track_fault m.tree x ≡ None) (take s.at s.all) → IsAnswerAt t (Some fault) (track_fault k.tree s.one) → IsAnswerAt t (Some fault) (tracks_fault m.tree s.all)
answer_on s m k t fault here so none answer =
    answer_at t (track_fault m.tree) s.all s.at s.one fault here.within here.is none (subst (IsAnswerAt t (Some fault)) (same_fault m.tree k.tree s.one (stay_at s here m k so)) answer)

-- ---- a single file

pub room_alone : (x : TrackFile) (m k : Moment) → AreTracked (x ∷ []) → AreReady (x ∷ []) m.tree → InStored m k → CanWrite x.file k.tree
room_alone x m k tracked ready stored =
    let s : Place = record { all = x ∷ []; at = 0; one = x } in
    room_kept s m k (place_at (x ∷ []) 0 x m.tree (omega arith) refl tracked ready) (records_of_stored x m k ready.apart.0 stored) ready.room.0

pub recorded_same : (x : TrackFile) (m k : Moment) → IsApart is_own x.file → InStored m k → AreHeld m.tree k.tree x → is_same m.tree x ≡ true → AreRecorded (x ∷ []) m k
recorded_same x m k apart stored held same =
    let kept = stored_under x.file m k apart stored in
    record {
      files = (kept.items x.file (under-refl x.file) ∙ sym (cond-true (is_same m.tree x) (item_at m.tree x.file) (Some (file (text_now m.tree x))) same), tt);
      held = (held, tt);
      during = records_of_stored x m k apart stored;
    }

pub recorded_new : (x : TrackFile) (m k n : Moment) → IsApart is_own x.file → InStored m k → AreHeld m.tree k.tree x → is_same m.tree x ≡ false → InWrite x.file (text_now m.tree x) k n → IsNewFile x.file (text_now m.tree x) n → AreRecorded (x ∷ []) m n
recorded_new x m k n apart stored held differs write new =
    let during = records_of_write x m k apart differs held stored n write in
    record {
      files = (new.stands ∙ sym (cond-false (is_same m.tree x) (item_at m.tree x.file) (Some (file (text_now m.tree x))) differs), tt);
      held = (held_on m.tree k.tree n.tree x (λ name bytes e. write_object x.file (text_now m.tree x) k n apart write name ∙ e) held, tt);
      during = during;
    }

pub on_ok : {T : Type 0} (r : Result T Fault) (P Q : Type 0) → (P → Q) → OnOk r P → OnOk r Q
on_ok (Ok done) P Q f h = f h
on_ok (Err why) P Q f h = tt
