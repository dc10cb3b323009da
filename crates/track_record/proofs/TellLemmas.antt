-- What a refusal tells of one of some outs, and what comes of a file that isn't published.
--     tells_none, tells_free      Ok, and a free refusal, tell of nothing
--     tells_entry, tells_file     what is told of one out is told of its track file's, and of those of all
--     few_..                      want of memory or a failure of the world, as a publish may answer
use Rattle.std.proofs.Common.{◌≡◌, ◌<◌, ℕ, Bool, false, ◌||◌, zero, suc, List, [], ◌∷◌, ◌++◌, length, get_or, map, inl, inr, subst, arith, Option, Some, None, IsTrue, ◌==◌}
use Rattle.std.proofs.lemmas.Bool.{false≢true, or_left, or_right, or_cases}
use Rattle.dvc_base.specs.Path.{Path}
use Rattle.dvc_base.specs.Fault.{kind_of, place_of_kind, MayBe, is_free, IsHonest}
use Rattle.dvc_base.specs.declared.fault.Fault.{Fault}
use Rattle.dvc_base.specs.declared.fault.Fault.TheVariants as f
use Rattle.world_api.specs.Tree.{Tree}
use Rattle.lock_files.specs.declared.entry.PathEntry.{PathEntry}
use Rattle.stage_graph.specs.declared.track.TrackFile.{TrackFile}
use Rattle.repro_laws.specs.Sound.{IsAnswerAt}
use Rattle.repro_core.specs.Steps.{record_kinds}
use Rattle.track_record.specs.Sources.{source_path, source_paths, all_sources}
use Rattle.track_record.specs.Records.{source_kinds, TellsSource, TellsOfSource}

-- ---- one of some outs

free_source : (p : Path) (fault : Fault) → IsTrue (is_free fault) → TellsSource p (Some fault)
free_source p (f.MissingSource path) free = absurd (false≢true free)
free_source p (f.NotFolder path) free = absurd (false≢true free)
free_source p (f.Changed path told found) free = absurd (false≢true free)
free_source p (f.TooLarge what limit) free = absurd (false≢true free)
free_source p _ free = tt

pub tells_free : (ps : List Path) (fault : Fault) → IsTrue (is_free fault) → TellsOfSource ps (Some fault)
tells_free [] fault free = free
tells_free (p ∷ ps) fault free = inl (free_source p fault free)

pub tells_none : (ps : List Path) → TellsOfSource ps None
tells_none [] = tt
tells_none (p ∷ ps) = inl tt

tells_empty : (ps : List Path) (got : Option Fault) → TellsOfSource [] got → TellsOfSource ps got
tells_empty ps None h = tells_none ps
tells_empty ps (Some fault) h = tells_free ps fault h

tells_front : (ps qs : List Path) (got : Option Fault) → TellsOfSource ps got → TellsOfSource (ps ++ qs) got
tells_front [] qs got h = tells_empty qs got h
tells_front (p ∷ ps) qs got (inl h) = inl h
tells_front (p ∷ ps) qs got (inr h) = inr (tells_front ps qs got h)

tells_back : (ps qs : List Path) (got : Option Fault) → TellsOfSource qs got → TellsOfSource (ps ++ qs) got
tells_back [] qs got h = h
tells_back (p ∷ ps) qs got h = inr (tells_back ps qs got h)

pub tells_entry : (dir : Path) (es : List PathEntry) (i : ℕ) (e : PathEntry) (got : Option Fault) → i < length es → e ≡ get_or es i e → TellsSource (source_path dir e) got → TellsOfSource (map (source_path dir) es) got
tells_entry dir [] i e got l at h = absurd (omega arith)
tells_entry dir (x ∷ es) zero e got l at h =
    inl (subst (λ (y : PathEntry). TellsSource (source_path dir y) got) at h)
tells_entry dir (x ∷ es) (suc i) e got l at h = inr (tells_entry dir es i e got (omega arith) at h)

pub tells_file : (fs : List TrackFile) (i : ℕ) (x : TrackFile) (got : Option Fault) → i < length fs → x ≡ get_or fs i x → TellsOfSource (source_paths x) got → TellsOfSource (all_sources fs) got
tells_file [] i x got l at h = absurd (omega arith)
tells_file (y ∷ fs) zero x got l at h =
    tells_front (source_paths y) (all_sources fs) got (subst (λ (z : TrackFile). TellsOfSource (source_paths z) got) at h)
tells_file (y ∷ fs) (suc i) x got l at h =
    tells_back (source_paths y) (all_sources fs) got (tells_file fs i x got (omega arith) at h)

-- ---- few kinds

few_free : (fault : Fault) → MayBe record_kinds (Some fault) → IsTrue (is_free fault)
few_free fault h =
    let first : Bool = 0 == place_of_kind (kind_of fault) in
    let second : Bool = 35 == place_of_kind (kind_of fault) in
    let third : Bool = 36 == place_of_kind (kind_of fault) in
    elim (or_cases first (second || false) h) [
      | inl x ↦ or_left first (second || (third || false)) x
      | inr x ↦
          or_right first (second || (third || false)) (elim (or_cases second false x) [
            | inl y ↦ or_left second (third || false) y
            | inr y ↦ absurd (false≢true y)
          ])
    ]

pub few_kinds : (got : Option Fault) → MayBe record_kinds got → MayBe source_kinds got
few_kinds None h = tt
few_kinds (Some fault) h =
    let first : Bool = 0 == place_of_kind (kind_of fault) in
    let second : Bool = 35 == place_of_kind (kind_of fault) in
    elim (or_cases first (second || false) h) [
      | inl x ↦ or_left first _ x
      | inr x ↦
          or_right first _ (elim (or_cases second false x) [ inl y ↦ or_left second _ y | inr y ↦ absurd (false≢true y) ])
    ]

free_honest : (tells : Bool) (fault : Fault) → IsTrue (is_free fault) → IsHonest tells (Some fault)
free_honest tells (f.Changed path told found) free = absurd (false≢true free)
free_honest tells (f.CommandFailed stage code) free = absurd (false≢true free)
free_honest tells _ free = tt

pub few_honest : (tells : Bool) (got : Option Fault) → MayBe record_kinds got → IsHonest tells got
few_honest tells None h = tt
few_honest tells (Some fault) h = free_honest tells fault (few_free fault h)

pub few_told : (ps : List Path) (got : Option Fault) → MayBe record_kinds got → TellsOfSource ps got
few_told ps None h = tells_none ps
few_told ps (Some fault) h = tells_free ps fault (few_free fault h)

pub few_answer : (t : Tree) (got due : Option Fault) → due ≡ None → MayBe record_kinds got → IsAnswerAt t got due
few_answer t None due none h = inl none
few_answer t (Some fault) due none h = inl (inl (few_free fault h))
