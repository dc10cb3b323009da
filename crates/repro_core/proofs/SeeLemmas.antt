-- What is seen along a list of paths.
--     map_more             one item more of a list, with what is made of it
--     first_rest           an item that isn't refused: the first refusal is that of the others
--     answer_again         the answer of a look as they are written, after one in order
--     none_again           where none is refused in order, none is as they are written
--     seen_more            paths that are seen, one list after another
--     after_deps, after_params     the refusal of what is seen, where nothing before it is refused
--     good_seen            what is seen is good by its parts
--     looked_read, looked_seen     the parameters of what was looked at, and what is seen of the stage
use Rattle.std.proofs.Common.{◌≡◌, ℕ, ◌+◌, ◌<◌, List, [], ◌∷◌, ◌++◌, length, take, drop, get_or, map, inl, inr, refl, sym, ap, ◌∙◌, subst, Option, Some, None, Result, Ok, Err, IfOk, unwrap_or}
use Rattle.std.specs.List.{list_all}
use Rattle.std.specs.Result.{result_err}
use Rattle.std.proofs.lemmas.Bool.{and_from}
use Rattle.std.proofs.lemmas.List.{take_more, drop_more, map-append}
use Rattle.std.proofs.lemmas.List.Folds.{list_all-append}
use Rattle.dvc_base.specs.Answer.{fault_in, IsAnswer}
use Rattle.dvc_base.specs.declared.data.ParamFile.{ParamFile}
use Rattle.dvc_base.specs.declared.fault.Fault.{Fault}
use Rattle.world_api.specs.Tree.{Tree}
use Rattle.lock_files.specs.declared.entry.PathEntry.{PathEntry}
use Rattle.lock_files.specs.Form.{is_path_entry}
use Rattle.lock_files.specs.Order.{in_order}
use Rattle.lock_files.specs.Value.{path_at}
use Rattle.change_check.specs.Same.{canonical_files}
use Rattle.change_check.specs.declared.seen.Seen.{Seen}
use Rattle.change_check.specs.declared.seen.SeenPath.{SeenPath}
use Rattle.repro_laws.specs.Params.{AreParams}
use Rattle.repro_laws.specs.Stage.{params_at, dep_text}
use Rattle.repro_laws.specs.Entries.{path_named, in_front, all_named, seen_dep, seen_out, seen_at}
use Rattle.repro_laws.specs.Refusals.{first_fault, first_of, deps_fault, present_fault, see_fault}
use Rattle.repro_laws.specs.declared.stage.Stage.{Stage}
use Rattle.repro_laws.proofs.SeenLemmas.{each_none}
use Rattle.repro_laws.proofs.RefusalLemmas.{none_each, each_in, none_in}
use Rattle.repro_core.specs.Looks.{AreSeen}
use Rattle.repro_core.specs.Steps.{IsGoodSeen}
use Rattle.repro_core.specs.declared.see.Looked.{Looked}

-- ---- the item at a place

module _ {A : Type 0} (xs : List A) (i : ℕ) (x : A) (before : i < length xs) (here : x ≡ get_or xs i x) where
  pub map_more : {B : Type 0} (f : A → B) → map f (take (i + 1) xs) ≡ map f (take i xs) ++ f x ∷ []
  map_more f =
      ap (map f) (take_more xs i x before ∙ ap (λ (y : A). take i xs ++ y ∷ []) (sym here)) ∙ map-append f (take i xs) (x ∷ [])

  left : drop i xs ≡ x ∷ drop (i + 1) xs
  left = drop_more xs i x before ∙ ap (λ (y : A). y ∷ drop (i + 1) xs) (sym here)

  module _ (f : A → Option Fault) (so_far : first_of f xs ≡ first_of f (drop i xs)) where
    pub first_rest : f x ≡ None → first_of f xs ≡ first_of f (drop (i + 1) xs)
    first_rest e = so_far ∙ ap (first_of f) left ∙ ap (λ o. first_fault o (first_of f (drop (i + 1) xs))) e

-- ---- in order, and as they are written

module _ {A : Type 0} (key : A → List ℕ) (f : A → Option Fault) (written ordered : List A) (e : ordered ≡ in_order key written) where
  pub none_again : first_of f ordered ≡ None → first_of f written ≡ None
  none_again none = none_in key f written ordered e (each_none f ordered none)

  module _ (fault : Fault) (first : IsAnswer (Some fault) (first_of f ordered)) where
    free_after : first_of f written ≡ None → IsAnswer (Some fault) (first_of f written)
    free_after none =
        elim first [
          | inl free ↦ inl free
          | inr due ↦ let clear = none_each f ordered (each_in key f written ordered e none) in absurd (cc)
        ]

    pub answer_again : {T : Type 0} (again : Result T Fault) (o : Option Fault) (got : Fault) → o ≡ result_err again → got ≡ unwrap_or o fault → IsAnswer (fault_in again) (first_of f written) → IsAnswer (Some got) (first_of f written)
    answer_again (Ok done) o got is e second =
        subst (λ (x : Fault). IsAnswer (Some x) (first_of f written)) (sym (e ∙ ap (λ (r : Option Fault). unwrap_or r fault) is)) (free_after second)
    answer_again (Err earlier) o got is e second =
        subst (λ (x : Fault). IsAnswer (Some x) (first_of f written)) (sym (e ∙ ap (λ (r : Option Fault). unwrap_or r fault) is)) second

-- ---- paths that are seen

front_parts : (a : Option PathEntry) (b : Option (List PathEntry)) (es : List PathEntry) → in_front a b ≡ Some es → (entry : PathEntry) × ((rest : List PathEntry) × ((a ≡ Some entry) × ((b ≡ Some rest) × (entry ∷ rest ≡ es))))
front_parts None b es e = absurd (cc)
front_parts (Some entry) None es e = absurd (cc)
front_parts (Some entry) (Some rest) es e = (entry, (rest, (refl, (refl, cc))))

named_both : (ps qs : List SeenPath) (es fs : List PathEntry) → all_named ps ≡ Some es → all_named qs ≡ Some fs → all_named (ps ++ qs) ≡ Some (es ++ fs)
named_both [] qs es fs a b =
    let none : [] ≡ es = cc in
    b ∙ ap (λ (xs : List PathEntry). Some (xs ++ fs)) none
named_both (p ∷ ps) qs es fs a b =
    let parts = front_parts (path_named p.path p.named) (all_named ps) es a in
    ap (λ o. in_front o (all_named (ps ++ qs))) parts.1.1.0
    ∙ ap (in_front (Some parts.0)) (named_both ps qs parts.1.0 fs parts.1.1.1.0 b)
    ∙ ap (λ (xs : List PathEntry). Some (xs ++ fs)) parts.1.1.1.1

pub seen_more : (texts more : List (List ℕ)) (ps qs : List SeenPath) → AreSeen texts ps → AreSeen more qs → AreSeen (texts ++ more) (ps ++ qs)
seen_more texts more ps qs a b =
    let es = a.0 in
    let fs = b.0 in (
      es ++ fs,
      (
        named_both ps qs es fs a.1.0 b.1.0,
        record {
          paths = map-append path_at es fs ∙ ap (λ (xs : List (List ℕ)). xs ++ map path_at fs) a.1.1.paths ∙ ap (λ (xs : List (List ℕ)). texts ++ xs) b.1.1.paths;
          good =
              list_all-append is_path_entry es fs ∙ and_from (list_all is_path_entry es) (list_all is_path_entry fs) a.1.1.good b.1.1.good;
        },
      ),
    )

-- ---- what is seen of a stage

module _ (s : Stage) (t : Tree) (got : Option Fault) (deps : deps_fault s t ≡ None) where
  pub after_deps : IsAnswer got (first_fault (fault_in (params_at s t)) (present_fault s t)) → IsAnswer got (see_fault s t)
  after_deps h =
      subst (IsAnswer got) (sym (ap (λ (o : Option Fault). first_fault o (first_fault (fault_in (params_at s t)) (present_fault s t))) deps)) h

  pub after_params : (ps : List ParamFile) → params_at s t ≡ Ok ps → IsAnswer got (present_fault s t) → IsAnswer got (see_fault s t)
  after_params ps read h =
      after_deps (subst (IsAnswer got) (sym (ap (λ (r : Result (List ParamFile) Fault). first_fault (fault_in r) (present_fault s t)) read)) h)

-- what is refused first is refused
pub first_answer : (fault : Fault) (due later : Option Fault) → IsAnswer (Some fault) due → IsAnswer (Some fault) (first_fault due later)
first_answer fault due later (inl free) = inl free
first_answer fault due later (inr e) = inr (ap (λ (o : Option Fault). first_fault o later) e)

pub good_seen : (s : Stage) (deps outs : List SeenPath) (ps : List ParamFile) (looked : Looked) → AreSeen (map dep_text s.deps) deps → AreParams ps → length outs ≡ length s.made
    → looked.seen.deps ≡ deps → looked.seen.outs ≡ outs → looked.params ≡ ps → looked.seen.params ≡ canonical_files ps → IsGoodSeen s looked.params looked.seen
good_seen s deps outs ps looked named form count d o p v = record {
  entries = named.0;
  deps = ap all_named d ∙ named.1.0;
  named = named.1.1;
  params = subst AreParams (sym p) form;
  canonical = v ∙ ap canonical_files (sym p);
  outs = ap length o ∙ count;
}

pub looked_read : (r : Result Looked Fault) (due : Result (List ParamFile) Fault) (ps : List ParamFile) → due ≡ Ok ps → IfOk r (λ looked. looked.params ≡ ps) → IfOk r (λ looked. due ≡ Ok looked.params)
looked_read (Ok looked) due ps read p = read ∙ ap (λ (qs : List ParamFile). Ok qs) (sym p)
looked_read (Err fault) due ps read p = tt

abbrev seen_with : List (List ℕ) → List SeenPath → List ParamFile → List SeenPath → Seen
seen_with commands deps params outs = record { commands = commands; deps = deps; params = params; outs = outs }

pub looked_seen : (s : Stage) (t : Tree) (deps : List SeenPath) (r : Result Looked Fault) → deps ≡ map (seen_dep t) s.deps → IfOk r (λ looked. looked.seen.deps ≡ deps) → IfOk r (λ looked. looked.seen.commands ≡ s.commands)
    → IfOk r (λ looked. looked.seen.outs ≡ map (seen_out t) s.made) → IfOk r (λ looked. IsGoodSeen s looked.params looked.seen) → IfOk r (λ looked. looked.seen ≡ seen_at s looked.params t)
looked_seen s t deps (Ok looked) due d c o good =
    let seen = looked.seen in
    ap (λ (x : List (List ℕ)). seen_with x seen.deps seen.params seen.outs) c
    ∙ ap (λ (x : List SeenPath). seen_with s.commands x seen.params seen.outs) (d ∙ due)
    ∙ ap (λ (x : List ParamFile). seen_with s.commands (map (seen_dep t) s.deps) x seen.outs) good.canonical
    ∙ ap (λ (x : List SeenPath). seen_with s.commands (map (seen_dep t) s.deps) (canonical_files looked.params) x) o
looked_seen s t deps (Err fault) due d c o good = tt
