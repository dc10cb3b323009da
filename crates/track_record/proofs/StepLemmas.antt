-- One track file more, among those that are recorded.
--     source_stays, stay_all     what stands at outs stays while track files are recorded
--     stay_at                    so it does at those of each of them
--     records_itself, records_then, passes_records     moments of the record, one stretch of them after another
--     file_now_as                what is to stand at a file is what was to
use Rattle.std.proofs.Common.{◌≡◌, ◌≢◌, ◌⊎◌, ◌<◌, ℕ, Bool, true, false, ◌||◌, zero, suc, List, [], ◌∷◌, ◌++◌, length, get_or, inl, inr, refl, sym, ap, subst, ◌∙◌, arith, Some}
use Rattle.std.specs.List.{AllByRecursion}
use Rattle.std.proofs.lemmas.Bool.{false≢true, cases_Bool, cond-true, cond-false, or_parts, or_from, false_from_ne_true}
use Rattle.dvc_base.specs.Path.{Path, under, overlap}
use Rattle.dvc_base.proofs.PathLemmas.{under-refl, under-append, under-overlap}
use Rattle.world_api.specs.Tree.{Tree, file, item_at, value_at}
use Rattle.world_api.specs.History.{Moment, History, Passes}
use Rattle.world_api.specs.Writes.{IsSameUnder, IsNewFile}
use Rattle.world_api.proofs.HistoryLemmas.{keeps_itself, keeps_then, keeps_in, passes_on}
use Rattle.world_api.proofs.WriteLemmas.{same_at_itself, same_under, same_under_itself, same_under_then, made_then_made}
use Rattle.object_cache.specs.Objects.{object_path}
use Rattle.stage_graph.specs.declared.track.TrackFile.{TrackFile}
use Rattle.repro_laws.specs.Headline.{IsApart}
use Rattle.repro_laws.specs.Moments.{is_own}
use Rattle.repro_laws.proofs.AlikeLemmas.{each_on, each_two, each_front, value_kept}
use Rattle.repro_laws.proofs.FileLemmas.{only_file, file_at}
use Rattle.repro_laws.proofs.MomentLemmas.{new_file_stays, kept_place_then}
use Rattle.repro_core.specs.Steps.{in_stored}
use Rattle.repro_core.proofs.StoreLemmas.{each_at}
use Rattle.track_record.specs.Sources.{source_paths, all_sources, is_same, text_now, file_now}
use Rattle.track_record.specs.Records.{AreTracked, AreOneOrApart, in_files, IsPublished, InRecords}
use Rattle.track_record.proofs.EntryLemmas.{AreSame, Stay, same_test, same_text, same_held}
use Rattle.track_record.proofs.MomentLemmas.{no_root, below_stored, held_on}

-- ---- what stands at the outs

abbrev pub area_of : List TrackFile → Path → Bool
area_of fs p = in_files fs p || in_stored p

-- the path is apart from each of the files
abbrev pub AreFar : List TrackFile → Path → Type 0
AreFar fs p = AllByRecursion (λ (x : TrackFile). overlap x.file p ≡ false) fs

outside_files : (fs : List TrackFile) (p q : Path) → under p q ≡ true → AreFar fs p → in_files fs q ≡ false
outside_files [] p q u far = refl
outside_files (x ∷ fs) p q u far =
    or_from (under x.file q) (in_files fs q) (false_from_ne_true (under x.file q) (λ e. false≢true (sym far.0 ∙ under-overlap x.file p q e u))) (outside_files fs p q u far.1)

root_below : (p r : Path) → p ≢ [] → (p ++ r) ≢ []
root_below [] r ne = absurd (ne refl)
root_below (c ∷ p) r ne = λ e. absurd (cc)

file_by : (t u : Tree) (p : Path) → p ≢ [] → item_at u p ≡ item_at t p → file_at u p ≡ file_at t p
file_by t u [] ne e = absurd (ne refl)
file_by t u (c ∷ p) ne e = ap only_file e

pub source_stays : (fs : List TrackFile) (m k : Moment) (p : Path) → InRecords fs m k → IsApart is_own p → AreFar fs p → value_at k.tree p ≡ value_at m.tree p
source_stays fs m k p so apart far =
    let ne = no_root p apart in
    let others = so.others in
    let at : (q : Path) → under p q ≡ true → item_at k.tree q ≡ item_at m.tree q =
    λ q u. others.paths.items q (or_from (in_files fs q) (in_stored q) (outside_files fs p q u far) (below_stored p q apart u)) in
    value_kept m.tree k.tree p (at p (under-refl p)) (λ r. file_by m.tree k.tree (p ++ r) (root_below p r ne) (at (p ++ r) (under-append p r)))

-- what each file is apart from is apart from each file
far_each : (fs : List TrackFile) (ps : List Path) → AllByRecursion (λ (x : TrackFile). AllByRecursion (λ (p : Path). overlap x.file p ≡ false) ps) fs → AllByRecursion (AreFar fs) ps
far_each fs [] h = tt
far_each fs (p ∷ ps) h = (
  each_on (λ (x : TrackFile). (overlap x.file p ≡ false) × AllByRecursion (λ (q : Path). overlap x.file q ≡ false) ps) (λ (x : TrackFile). overlap x.file p ≡ false) fs (λ x a. a.0) h,
  far_each fs ps (each_on (λ (x : TrackFile). (overlap x.file p ≡ false) × AllByRecursion (λ (q : Path). overlap x.file q ≡ false) ps) (λ (x : TrackFile). AllByRecursion (λ (q : Path). overlap x.file q ≡ false) ps) fs (λ x a. a.1) h),
)

pub stay_all : (fs : List TrackFile) (m k : Moment) → AreTracked fs → InRecords fs m k → AreSame m.tree k.tree (all_sources fs)
stay_all fs m k tracked so =
    each_two (IsApart is_own) (AreFar fs) (λ (p : Path). value_at k.tree p ≡ value_at m.tree p) (all_sources fs) (λ p apart far. source_stays fs m k p so apart far) tracked.outs (far_each fs (all_sources fs) tracked.far)

-- of the outs of one file among all
pub sources_at : (P : Path → Type 0) (fs : List TrackFile) (i : ℕ) (x : TrackFile) → i < length fs → x ≡ get_or fs i x → AllByRecursion P (all_sources fs) → AllByRecursion P (source_paths x)
sources_at P [] i x l at h = absurd (omega arith)
sources_at P (y ∷ fs) zero x l at h =
    subst (λ (z : TrackFile). AllByRecursion P (source_paths z)) (sym at) (each_front P (source_paths y) (all_sources fs) h).0
sources_at P (y ∷ fs) (suc i) x l at h =
    sources_at P fs i x (omega arith) at (each_front P (source_paths y) (all_sources fs) h).1

-- ---- before the first file

same_files : (fs : List TrackFile) (m : Moment) → AllByRecursion (λ (x : TrackFile). IsSameUnder x.file m m ⊎ IsPublished m.tree x m) fs
same_files [] m = tt
same_files (x ∷ fs) m = (inl (same_under_itself x.file m), same_files fs m)

pub records_itself : (fs : List TrackFile) (m : Moment) → InRecords fs m m
records_itself fs m =
    record {
      files = same_files fs m;
      folders = λ p in'. inl (same_at_itself p m);
      places = λ name. inl (same_under_itself (object_path name) m);
      objects = λ name bytes e. e;
      others = keeps_itself (area_of fs) m;
    }

-- ---- a file among all

pub record Place : Type 0 where
  pub all : List TrackFile
  pub at : ℕ
  pub one : TrackFile

-- the file stands at its place, and each of all is it or stands apart from it
pub record IsPlace (s : Place) : Type 0 where
  pub within : s.at < length s.all
  pub is : s.one ≡ get_or s.all s.at s.one
  pub tracked : AreTracked s.all
  pub apart : AllByRecursion (λ (x : TrackFile). IsApart is_own x.file) s.all
  pub near : AllByRecursion (AreOneOrApart s.one) s.all

module _ (s : Place) (here : IsPlace s) (m k : Moment) (so : InRecords s.all m k) where
  pub stay_at : Stay m.tree k.tree s.one
  stay_at =
      sources_at (λ (p : Path). value_at k.tree p ≡ value_at m.tree p) s.all s.at s.one here.within here.is (stay_all s.all m k here.tracked so)

  pub so_at : IsSameUnder s.one.file m k ⊎ IsPublished m.tree s.one k
  so_at =
      each_at (λ (x : TrackFile). IsSameUnder x.file m k ⊎ IsPublished m.tree x k) s.all s.at s.one here.within here.is so.files

  pub file_now_as : file_now k.tree s.one ≡ file_now m.tree s.one
  file_now_as =
      let x = s.one in
      let test = same_test m.tree k.tree x stay_at in
      let text = same_text m.tree k.tree x stay_at in
      elim (cases_Bool (is_same m.tree x)) [
        | inl same ↦
            cond-true (is_same k.tree x) (item_at k.tree x.file) (Some (file (text_now k.tree x))) (test ∙ same)
            ∙ item_as same so_at
            ∙ sym (cond-true (is_same m.tree x) (item_at m.tree x.file) (Some (file (text_now m.tree x))) same)
        | inr other ↦
            cond-false (is_same k.tree x) (item_at k.tree x.file) (Some (file (text_now k.tree x))) (test ∙ other)
            ∙ ap (λ (t : List ℕ). Some (file t)) text
            ∙ sym (cond-false (is_same m.tree x) (item_at m.tree x.file) (Some (file (text_now m.tree x))) other)
      ]
    where
      item_as : is_same m.tree s.one ≡ true → IsSameUnder s.one.file m k ⊎ IsPublished m.tree s.one k → item_at k.tree s.one.file ≡ item_at m.tree s.one.file
      item_as same (inl kept) = kept.items s.one.file (under-refl s.one.file)
      item_as same (inr new) = absurd (false≢true (sym new.differs ∙ same))

  module _ (n : Moment) (step : InRecords (s.one ∷ []) k n) where
    -- a file stays that stands apart from the one
    pub far_under : (x : TrackFile) → overlap s.one.file x.file ≡ false → IsApart is_own x.file → IsSameUnder x.file k n
    far_under x far apart =
        same_under x.file (area_of (s.one ∷ [])) k n step.others
        (λ p u. or_from (in_files (s.one ∷ []) p) (in_stored p) (or_from (under s.one.file p) false (false_from_ne_true (under s.one.file p) (λ e. false≢true (sym far ∙ under-overlap s.one.file x.file p e u))) refl) (below_stored x.file p apart u))

    kept_file : (x : TrackFile) → IsSameUnder x.file m k ⊎ IsPublished m.tree x k → IsSameUnder x.file k n → IsSameUnder x.file m n ⊎ IsPublished m.tree x n
    kept_file x (inl before) same = inl (same_under_then x.file m k n before same)
    kept_file x (inr new) same =
        inr (record {
          differs = new.differs;
          text = new_file_stays x.file (text_now m.tree x) k n same new.text;
          held = held_on m.tree k.tree n.tree x step.objects new.held;
        })

    published_as : IsPublished k.tree s.one n → IsPublished m.tree s.one n
    published_as new =
        record {
          differs = sym (same_test m.tree k.tree s.one stay_at) ∙ new.differs;
          text = subst (λ (t : List ℕ). IsNewFile s.one.file t n) (same_text m.tree k.tree s.one stay_at) new.text;
          held = same_held m.tree k.tree n.tree s.one stay_at new.held;
        }

    one_file : IsSameUnder s.one.file k n ⊎ IsPublished k.tree s.one n → IsSameUnder s.one.file m n ⊎ IsPublished m.tree s.one n
    one_file (inl same) = kept_file s.one so_at same
    one_file (inr new) = inr (published_as new)

    file_then : (x : TrackFile) → AreOneOrApart s.one x → IsApart is_own x.file → IsSameUnder x.file m k ⊎ IsPublished m.tree x k → IsSameUnder x.file m n ⊎ IsPublished m.tree x n
    file_then x (inl e) apart before =
        subst (λ (y : TrackFile). IsSameUnder y.file m n ⊎ IsPublished m.tree y n) (sym e) (one_file step.files.0)
    file_then x (inr far) apart before = kept_file x before (far_under x far apart)

    files_then : (xs : List TrackFile) → AllByRecursion (AreOneOrApart s.one) xs → AllByRecursion (λ (x : TrackFile). IsApart is_own x.file) xs → AllByRecursion (λ (x : TrackFile). IsSameUnder x.file m k ⊎ IsPublished m.tree x k) xs → AllByRecursion (λ (x : TrackFile). IsSameUnder x.file m n ⊎ IsPublished m.tree x n) xs
    files_then [] near apart before = tt
    files_then (x ∷ xs) near apart before =
        (file_then x near.0 apart.0 before.0, files_then xs near.1 apart.1 before.1)

    -- outside the area of all lies what is outside that of the one
    in_all : (p : Path) → area_of s.all p ≡ false → area_of (s.one ∷ []) p ≡ false
    in_all p out =
        let parts = or_parts (in_files s.all p) (in_stored p) out in
        let one : under s.one.file p ≡ false =
        each_at (λ (x : TrackFile). under x.file p ≡ false) s.all s.at s.one here.within here.is (none_of s.all parts.0) in
        or_from (in_files (s.one ∷ []) p) (in_stored p) (or_from (under s.one.file p) false one refl) parts.1
      where
        none_of : (xs : List TrackFile) → in_files xs p ≡ false → AllByRecursion (λ (x : TrackFile). under x.file p ≡ false) xs
        none_of [] h = tt
        none_of (x ∷ xs) h =
            let parts = or_parts (under x.file p) (in_files xs p) h in
            (parts.0, none_of xs parts.1)

    pub records_then : InRecords s.all m n
    records_then =
        record {
          files = files_then s.all here.near here.apart so.files;
          folders = λ p in'. made_then_made p m k n (so.folders p in') (step.folders p in');
          places = λ name. kept_place_then (object_path name) m k n (so.places name) (step.places name);
          objects = λ name bytes e. step.objects name bytes (so.objects name bytes e);
          others = keeps_then (area_of s.all) m k n so.others (keeps_in (area_of (s.one ∷ [])) (area_of s.all) k n in_all step.others);
        }

pub passes_records : (s : Place) (a b c : History) → IsPlace s → Passes (InRecords s.all a.present) a b → Passes (InRecords (s.one ∷ []) b.present) b c → Passes (InRecords s.all a.present) a c
passes_records s a b c here so step =
    passes_on (InRecords s.all a.present) (InRecords (s.one ∷ []) b.present) a b c so (λ n h. records_then s here a.present b.present so.now n h) step
