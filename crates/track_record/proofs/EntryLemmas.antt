-- The entries of a track file, with the names of what stands at its outs.
--     Stay t u x                    what stands at the outs is the same in both trees
--     same_fault, same_test, same_text, same_held      so is what is due of them, and what the file is to say
--     entries_more, test_more, due_one_more, named_more, held_more   one entry more
--     refused_at                    the first that is refused
--     track_form                    with other names the track file stays in form
--     .._whole                      what holds of the items of a loop holds of a track file's outs
use Rattle.std.proofs.Common.{◌≡◌, ◌<◌, ℕ, ◌+◌, Bool, true, ◌&&◌, List, [], ◌∷◌, ◌++◌, length, take, get_or, map, refl, sym, ap, subst, ◌∙◌, Option, Some, None, IsTrue}
use Rattle.std.specs.List.{AllByRecursion, list_all}
use Rattle.std.proofs.lemmas.Bool.{and_from}
use Rattle.std.proofs.lemmas.List.{map-append, length-map}
use Rattle.std.proofs.lemmas.List.Folds.{list_all-append, list_all_more}
use Rattle.dvc_base.specs.Path.{Path}
use Rattle.dvc_base.specs.declared.fault.Fault.{Fault}
use Rattle.world_api.specs.Tree.{Tree, Value, value_at}
use Rattle.world_api.specs.History.{Moment}
use Rattle.yaml_print.specs.Print.{print_text}
use Rattle.file_hash.specs.Naming.{named_of}
use Rattle.lock_files.specs.Form.{is_path_entry, are_distinct, IsTrack}
use Rattle.lock_files.specs.Nodes.{track_node}
use Rattle.lock_files.specs.Value.{path_at}
use Rattle.lock_files.specs.declared.entry.PathEntry.{PathEntry}
use Rattle.lock_files.specs.declared.entry.Track.{Track}
use Rattle.change_check.specs.Same.{told_of, is_named}
use Rattle.object_cache.specs.Objects.{is_stored}
use Rattle.stage_graph.specs.Paths.{folder_of}
use Rattle.stage_graph.specs.declared.track.TrackFile.{TrackFile}
use Rattle.repro_laws.specs.Refusals.{first_fault, first_of}
use Rattle.repro_laws.specs.Headline.{IsApart}
use Rattle.repro_laws.specs.Moments.{is_own}
use Rattle.repro_laws.specs.Sound.{IsAnswerAt}
use Rattle.repro_laws.proofs.AlikeLemmas.{each_on, each_two, each_mapped, each_map}
use Rattle.repro_core.specs.Steps.{InStored, AreNamed}
use Rattle.repro_core.proofs.StoredLemmas.{stored_is}
use Rattle.repro_core.proofs.StoreLemmas.{one_more, each_at, each_more, take_whole, first_none, answer_at}
use Rattle.track_record.specs.Sources.{source_path, source_paths, source_due, source_fault, track_fault, entry_with, entry_now, is_same_source, is_same, text_now}
use Rattle.track_record.specs.Records.{AreHeld, TellsOfSource}

-- ---- what stands at the outs is the same

abbrev pub AreSame : Tree → Tree → List Path → Type 0
AreSame t u ps = AllByRecursion (λ (p : Path). value_at u p ≡ value_at t p) ps

abbrev pub Stay : Tree → Tree → TrackFile → Type 0
Stay t u x = AreSame t u (source_paths x)

entries_same : (dir : Path) (t u : Tree) (es : List PathEntry) → AreSame t u (map (source_path dir) es) → map (entry_now dir u) es ≡ map (entry_now dir t) es
entries_same dir t u [] h = refl
entries_same dir t u (e ∷ es) h =
    ap (λ (v : Value). entry_with e (named_of v) ∷ map (entry_now dir u) es) h.0 ∙ ap (λ (l : List PathEntry). entry_now dir t e ∷ l) (entries_same dir t u es h.1)

tests_same : (dir : Path) (t u : Tree) (es : List PathEntry) → AreSame t u (map (source_path dir) es) → list_all (is_same_source dir u) es ≡ list_all (is_same_source dir t) es
tests_same dir t u [] h = refl
tests_same dir t u (e ∷ es) h =
    ap (λ (v : Value). is_named (told_of e) (named_of v) && list_all (is_same_source dir u) es) h.0 ∙ ap (λ (b : Bool). is_same_source dir t e && b) (tests_same dir t u es h.1)

faults_same : (dir : Path) (t u : Tree) (es : List PathEntry) → AreSame t u (map (source_path dir) es) → first_of (source_fault dir u) es ≡ first_of (source_fault dir t) es
faults_same dir t u [] h = refl
faults_same dir t u (e ∷ es) h =
    ap (λ (v : Value). first_fault (source_due (source_path dir e) v) (first_of (source_fault dir u) es)) h.0 ∙ ap (first_fault (source_fault dir t e)) (faults_same dir t u es h.1)

pub same_fault : (t u : Tree) (x : TrackFile) → Stay t u x → track_fault u x ≡ track_fault t x
same_fault t u x stay = faults_same (folder_of x.file) t u x.track.outs stay

pub same_test : (t u : Tree) (x : TrackFile) → Stay t u x → is_same u x ≡ is_same t x
same_test t u x stay = tests_same (folder_of x.file) t u x.track.outs stay

-- the text of a track file with these entries
abbrev pub text_with : TrackFile → List PathEntry → List ℕ
text_with x es = print_text (track_node (record { outs = es; rest = x.track.rest }))

pub same_text : (t u : Tree) (x : TrackFile) → Stay t u x → text_now u x ≡ text_now t x
same_text t u x stay = ap (text_with x) (entries_same (folder_of x.file) t u x.track.outs stay)

pub same_held : (t u w : Tree) (x : TrackFile) → Stay t u x → AreHeld u w x → AreHeld t w x
same_held t u w x stay held =
    each_two (λ (p : Path). value_at u p ≡ value_at t p) (λ (p : Path). is_stored w (value_at u p) ≡ true) (λ (p : Path). is_stored w (value_at t p) ≡ true) (source_paths x)
    (λ p same h. ap (is_stored w) (sym same) ∙ h) stay held

-- ---- one entry more

-- what stands at the out is the same in both trees
module _ (dir : Path) (t k : Tree) (es : List PathEntry) (i : ℕ) (e : PathEntry) (l : i < length es) (at : e ≡ get_or es i e) (same : value_at k (source_path dir e) ≡ value_at t (source_path dir e)) where
  pub entries_more : (found : List PathEntry) (new : PathEntry) → found ≡ map (entry_now dir t) (take i es) → new ≡ entry_now dir k e → found ++ new ∷ [] ≡ map (entry_now dir t) (take (i + 1) es)
  entries_more found new is here =
      ap (λ (xs : List PathEntry). xs ++ new ∷ []) is
      ∙ ap (λ (x : PathEntry). map (entry_now dir t) (take i es) ++ x ∷ []) (here ∙ ap (λ (v : Value). entry_with e (named_of v)) same)
      ∙ sym (map-append (entry_now dir t) (take i es) (e ∷ []))
      ∙ ap (map (entry_now dir t)) (sym (one_more es i e l at))

  pub test_more : (before one now : Bool) → before ≡ list_all (is_same_source dir t) (take i es) → one ≡ is_same_source dir k e → now ≡ (before && one) → now ≡ list_all (is_same_source dir t) (take (i + 1) es)
  test_more before one now is here both =
      both
      ∙ ap (λ (b : Bool). b && one) is
      ∙ ap (λ (b : Bool). list_all (is_same_source dir t) (take i es) && b) (here ∙ ap (λ (v : Value). is_named (told_of e) (named_of v)) same)
      ∙ ap (λ (x : PathEntry). list_all (is_same_source dir t) (take i es) && is_same_source dir t x) at
      ∙ sym (list_all_more (is_same_source dir t) es i e l)

  pub due_one_more : AllByRecursion (λ (x : PathEntry). source_fault dir t x ≡ None) (take i es) → source_fault dir k e ≡ None → AllByRecursion (λ (x : PathEntry). source_fault dir t x ≡ None) (take (i + 1) es)
  due_one_more none here =
      each_more (λ (x : PathEntry). source_fault dir t x ≡ None) es i e l at none (ap (source_due (source_path dir e)) (sym same) ∙ here)

  pub refused_at : (u : Tree) (fault : Fault) → AllByRecursion (λ (x : PathEntry). source_fault dir t x ≡ None) (take i es) → IsAnswerAt u (Some fault) (source_fault dir k e) → IsAnswerAt u (Some fault) (first_of (source_fault dir t) es)
  refused_at u fault none answer =
      answer_at u (source_fault dir t) es i e fault l at none (subst (IsAnswerAt u (Some fault)) (ap (source_due (source_path dir e)) same) answer)

pub named_none : (es : List PathEntry) → AreNamed (map path_at (take 0 es)) []
named_none es = record { paths = refl; good = refl }

pub named_more : (es : List PathEntry) (i : ℕ) (e : PathEntry) (found : List PathEntry) (new : PathEntry) → i < length es → e ≡ get_or es i e → new.path ≡ e.path → IsTrue (is_path_entry new) → AreNamed (map path_at (take i es)) found → AreNamed (map path_at (take (i + 1) es)) (found ++ new ∷ [])
named_more es i e found new l at path good named =
    record {
      paths =
          map-append path_at found (new ∷ [])
          ∙ ap (λ (ts : List (List ℕ)). ts ++ new.path ∷ []) named.paths
          ∙ ap (λ (x : List ℕ). map path_at (take i es) ++ x ∷ []) path
          ∙ sym (map-append path_at (take i es) (e ∷ []))
          ∙ ap (map path_at) (sym (one_more es i e l at));
      good =
          list_all-append is_path_entry found (new ∷ [])
          ∙ and_from (list_all is_path_entry found) (list_all is_path_entry (new ∷ [])) named.good (and_from (is_path_entry new) true good refl);
    }

-- ---- what is held

-- what stood at an out in t is whole in the cache of u
abbrev pub IsHeld : Path → Tree → Tree → PathEntry → Type 0
IsHeld dir t u e = is_stored u (value_at t (source_path dir e)) ≡ true

pub held_more : (dir : Path) (t : Tree) (k n : Moment) (es : List PathEntry) (i : ℕ) (e : PathEntry) → i < length es → e ≡ get_or es i e → InStored k n → AllByRecursion (IsHeld dir t k.tree) (take i es) → value_at k.tree (source_path dir e) ≡ value_at t (source_path dir e) → is_stored n.tree (value_at k.tree (source_path dir e)) ≡ true → AllByRecursion (IsHeld dir t n.tree) (take (i + 1) es)
held_more dir t k n es i e l at step held same here =
    each_more (IsHeld dir t n.tree) es i e l at
    (each_on (IsHeld dir t k.tree) (IsHeld dir t n.tree) (take i es) (λ x h. stored_is k n (value_at t (source_path dir x)) step h) held)
    (ap (is_stored n.tree) (sym same) ∙ here)

-- ---- form

pub track_form : (x : Track) (es : List PathEntry) → IsTrack x → AreNamed (map path_at x.outs) es → IsTrack (record { outs = es; rest = x.rest })
track_form x es form named =
    let same : length es ≡ length x.outs = sym (length-map es path_at) ∙ ap length named.paths ∙ length-map x.outs path_at in
    record {
      some = subst (λ (n : ℕ). 0 < n) (sym same) form.some;
      outs = named.good;
      paths = subst (λ (ts : List (List ℕ)). IsTrue (are_distinct [] ts)) (sym named.paths) form.paths;
      others = form.others;
      no_deps = form.no_deps;
      no_wdir = form.no_wdir;
      keys = form.keys;
      sound = form.sound;
    }

-- ---- the outs of one track file

-- the items of a loop are its outs, whose paths are read from its folder
module _ (x : TrackFile) (dir : Path) (items : List PathEntry) (from : dir ≡ folder_of x.file) (is : items ≡ x.track.outs) where
  pub apart_at : (i : ℕ) (e : PathEntry) → i < length items → e ≡ get_or items i e → AllByRecursion (IsApart is_own) (source_paths x) → IsApart is_own (source_path dir e)
  apart_at i e l at h =
      let all = each_mapped (source_path (folder_of x.file)) (IsApart is_own) x.track.outs h in
      let each : AllByRecursion (λ (y : PathEntry). IsApart is_own (source_path dir y)) items =
      subst (λ (q : Path). AllByRecursion (λ (y : PathEntry). IsApart is_own (source_path q y)) items) (sym from) (subst (AllByRecursion (λ (y : PathEntry). IsApart is_own (source_path (folder_of x.file) y))) (sym is) all) in
      each_at (λ (y : PathEntry). IsApart is_own (source_path dir y)) items i e l at each

  pub tells_whole : (got : Option Fault) → TellsOfSource (map (source_path dir) items) got → TellsOfSource (source_paths x) got
  tells_whole got h =
      subst (λ (q : Path). TellsOfSource (map (source_path q) x.track.outs) got) from (subst (λ (es : List PathEntry). TellsOfSource (map (source_path dir) es) got) is h)

  module _ (t : Tree) where
    pub refused_whole : (u : Tree) (got : Option Fault) → IsAnswerAt u got (first_of (source_fault dir t) items) → IsAnswerAt u got (track_fault t x)
    refused_whole u got h =
        subst (λ (q : Path). IsAnswerAt u got (first_of (source_fault q t) x.track.outs)) from (subst (λ (es : List PathEntry). IsAnswerAt u got (first_of (source_fault dir t) es)) is h)

    module _ (i : ℕ) (end : i ≡ length items) where
      all_items : take i items ≡ x.track.outs
      all_items = take_whole items i end ∙ is

      pub outs_whole : (found : List PathEntry) → found ≡ map (entry_now dir t) (take i items) → found ≡ map (entry_now (folder_of x.file) t) x.track.outs
      outs_whole found h =
          h ∙ ap (map (entry_now dir t)) all_items ∙ ap (λ (q : Path). map (entry_now q t) x.track.outs) from

      pub test_whole : (b : Bool) → b ≡ list_all (is_same_source dir t) (take i items) → b ≡ is_same t x
      test_whole b h =
          h ∙ ap (list_all (is_same_source dir t)) all_items ∙ ap (λ (q : Path). list_all (is_same_source q t) x.track.outs) from

      pub held_whole : (u : Tree) → AllByRecursion (IsHeld dir t u) (take i items) → AreHeld t u x
      held_whole u h =
          each_map (source_path (folder_of x.file)) (λ (p : Path). is_stored u (value_at t p) ≡ true) x.track.outs
          (subst (λ (q : Path). AllByRecursion (IsHeld q t u) x.track.outs) from (subst (AllByRecursion (IsHeld dir t u)) all_items h))

      pub due_whole : AllByRecursion (λ (y : PathEntry). source_fault dir t y ≡ None) (take i items) → track_fault t x ≡ None
      due_whole h =
          first_none (source_fault (folder_of x.file) t) x.track.outs
          (subst (λ (q : Path). AllByRecursion (λ (y : PathEntry). source_fault q t y ≡ None) x.track.outs) from (subst (AllByRecursion (λ (y : PathEntry). source_fault dir t y ≡ None)) all_items h))

      pub form_whole : (found : List PathEntry) → AreNamed (map path_at (take i items)) found → IsTrack x.track → IsTrack (record { outs = found; rest = x.track.rest })
      form_whole found h form =
          track_form x.track found form (subst (λ (es : List PathEntry). AreNamed (map path_at es) found) all_items h)
