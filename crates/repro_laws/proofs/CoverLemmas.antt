-- A stage whose paths lie apart from some outputs, in two trees that differ at these alone.
--     apart_none       no output lies in the way of anything
--     apart_own        what a stage reads lies apart from its outputs
--     read_stays       it reads the same parameters
--     covers_back      what the book covers it has covered before
use Rattle.std.proofs.Common.{◌≡◌, Bool, true, false, not, List, [], ◌∷◌, refl, sym, ap, subst, ◌∙◌}
use Rattle.std.specs.List.{AllByRecursion, list_any, flat_map}
use Rattle.std.proofs.lemmas.Bool.{and_parts, not-true}
use Rattle.std.proofs.lemmas.List.{append-nil}
use Rattle.dvc_base.specs.Path.{Path, overlap}
use Rattle.dvc_base.proofs.PathLemmas.{under-refl}
use Rattle.world_api.specs.Tree.{Tree, Value, nothing, content, members, IsTree, value_at}
use Rattle.world_api.specs.History.{Book}
use Rattle.repro_laws.specs.Stage.{read_paths, stage_outs, is_nothing, params_at}
use Rattle.repro_laws.specs.Book.{IsCovered}
use Rattle.repro_laws.specs.Headline.{IsApart, IsKept, is_ordered, Covers}
use Rattle.repro_laws.specs.declared.stage.Stage.{Stage}
use Rattle.repro_laws.proofs.ListLemmas.{each_from, each_false}
use Rattle.repro_laws.proofs.FileLemmas.{file_at, some_value}
use Rattle.repro_laws.proofs.ParamLemmas.{params_by_files}
use Rattle.repro_laws.proofs.ReadLemmas.{outside_outs, Stay, stay_value, left_files}
use Rattle.repro_laws.proofs.StepLaw.{reads_params}
use Rattle.repro_laws.proofs.StayLaw.{IsApartLater}

-- ---- paths

-- no path that the stage reads overlaps one of the outputs
abbrev pub AreClear : List Path → Stage → Type 0
AreClear outs s = list_any (λ p. list_any (overlap p) outs) (read_paths s) ≡ false

reads_none : (ps : List Path) → list_any (λ p. list_any (overlap p) []) ps ≡ false
reads_none [] = refl
reads_none (p ∷ ps) = reads_none ps

outs_none : (ps : List Path) → AllByRecursion (λ p. list_any (overlap p) [] ≡ false) ps
outs_none [] = tt
outs_none (p ∷ ps) = (refl, outs_none ps)

pub apart_none : (own : Path → Bool) (s : Stage) → IsKept own s → IsApartLater own [] s
apart_none own s kept = record { kept = kept; reads = reads_none (read_paths s); outs = outs_none (stage_outs s) }

pub apart_own : (s : Stage) → is_ordered (s ∷ []) ≡ true → AreClear (stage_outs s) s
apart_own s order =
    let meets : List Path → Bool = λ outs. list_any (λ p. list_any (overlap p) outs) (read_paths s) in
    ap meets (sym (append-nil (stage_outs s))) ∙ not-true (meets (flat_map stage_outs (s ∷ []))) (and_parts (not (meets (flat_map stage_outs (s ∷ [])))) true order).0

-- ---- parameters

pub read_stays : (own way : Path → Bool) (outs : List Path) (s : Stage) (t u : Tree) → IsKept own s → AreClear outs s → IsTree t → IsTree u → Stay own way outs t u → params_at s u ≡ params_at s t
read_stays own way outs s t u kept clear a b stay =
    params_by_files s t u (each_from (λ w. (list_any (overlap w.path) outs ≡ false) × IsApart own w.path) (λ w. file_at u w.path ≡ file_at t w.path) s.params (λ w x. left_files way t u w.path a b (stay w.path (outside_outs w.path w.path outs x.0 (under-refl w.path)) (x.1 w.path (under-refl w.path)))) (reads_params own outs s kept clear))

-- ---- the book

-- nothing is covered, and any other value has stayed
covered_if : (book : Book) (v w : Value) → (is_nothing v ≡ false → w ≡ v) → IsCovered book w → IsCovered book v
covered_if book nothing w stays covered = tt
covered_if book (content bytes) w stays covered = subst (IsCovered book) (stays refl) covered
covered_if book (members m) w stays covered = subst (IsCovered book) (stays refl) covered

module _ (own way : Path → Bool) (outs : List Path) (book : Book) (t u : Tree) (a : IsTree t) (b : IsTree u) (stay : Stay own way outs t u) where
  covered_back : (p : Path) → list_any (overlap p) outs ≡ false → IsApart own p → IsCovered book (value_at u p) → IsCovered book (value_at t p)
  covered_back p clear apart covered =
      covered_if book (value_at t p) (value_at u p) (λ some. stay_value own way outs t u p a b stay clear apart (some_value t p some)) covered

  all_back : (ps : List Path) → AllByRecursion (λ p. list_any (overlap p) outs ≡ false) ps → AllByRecursion (IsApart own) ps → AllByRecursion (λ p. IsCovered book (value_at u p)) ps → AllByRecursion (λ p. IsCovered book (value_at t p)) ps
  all_back [] clear apart covered = tt
  all_back (p ∷ ps) clear apart covered =
      (covered_back p clear.0 apart.0 covered.0, all_back ps clear.1 apart.1 covered.1)

  pub covers_back : (s : Stage) → IsApartLater own outs s → Covers book u s → Covers book t s
  covers_back s apart covers =
      let kept = apart.kept in
      record {
        reads = all_back (read_paths s) (each_false (λ p. list_any (overlap p) outs) (read_paths s) apart.reads) kept.reads covers.reads;
        outs = all_back (stage_outs s) apart.outs kept.outs covers.outs;
      }
