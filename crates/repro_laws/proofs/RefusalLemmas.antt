-- Refusals by the items of a list, as it is written and in order.
--     none_each                     no item is refused: there is no first refusal
--     first_some                    there is one just where some item is refused
--     any_in_order                  a list in order has the items of the list
--     each_in, none_in              none is refused of a list in order just where none is of the list as it is written
--     some_in, one_in               and some is just where some is
--     deps_each, each_deps, deps_refused, dep_refused              so it is of a stage's dependencies
--     present_each, each_present, present_refused, out_refused     and of its outputs that stand
--     value_under_each              the value of each output is found by its text, where the texts rise
--     missing_at, large_at          what commands gave is refused output by output
--     missing_each, each_missing    no output is missing just where each has a value
--     large_each, each_large        none is too large just where no value passes a limit
use Rattle.std.proofs.Common.{◌≡◌, ℕ, Bool, true, false, cond, ◌||◌, List, [], ◌∷◌, ◌++◌, map, refl, sym, ap, subst, ◌∙◌, inl, inr, bytes_eq, Option, Some, None, is_some, IsSome, IsTrue}
use Rattle.std.specs.List.{AllByRecursion, list_any}
use Rattle.std.specs.Ordering.{is_lt}
use Rattle.std.proofs.lemmas.Bool.{both_ways, and_parts, cases_Bool, cond-true, cond-false, false_from_ne_true}
use Rattle.std.proofs.lemmas.Cmp.{nat_list_cmp_total, tied_itself}
use Rattle.std.proofs.lemmas.Slice.Eq.{bytes_eq-Decides}
use Rattle.dvc_base.specs.declared.fault.Fault.{Fault}
use Rattle.world_api.specs.Tree.{Tree, Value, nothing, content, members, value_at}
use Rattle.lock_files.specs.Order.{is_less, put_in, in_order, is_rising}
use Rattle.lock_files.proofs.BookLemmas.{same}
use Rattle.lock_files.proofs.PathsBack.{less_chain}
use Rattle.repro_laws.specs.Limits.{limit_fault}
use Rattle.repro_laws.specs.Stage.{dep_value, is_nothing, dep_text, out_text}
use Rattle.repro_laws.specs.Refusals.{first_fault, first_of, refused_dep, deps_fault, present_fault, value_under, refused_out, missing_fault, large_fault}
use Rattle.repro_laws.specs.declared.stage.Dep.{Dep}
use Rattle.repro_laws.specs.declared.stage.Out.{Out}
use Rattle.repro_laws.specs.declared.stage.Stage.{Stage}
use Rattle.repro_laws.proofs.AlikeLemmas.{each_ordered, each_written, each_on}
use Rattle.repro_laws.proofs.ListLemmas.{any_second}
use Rattle.repro_laws.proofs.SeenLemmas.{each_none, first_same}

-- ---- the first refusal

module _ {A : Type 0} (f : A → Option Fault) where
  abbrev refuses : A → Bool
  refuses x = is_some (f x)

  pub none_each : (xs : List A) → AllByRecursion (λ x. f x ≡ None) xs → first_of f xs ≡ None
  none_each [] all = refl
  none_each (x ∷ xs) all = ap (λ o. first_fault o (first_of f xs)) all.0 ∙ none_each xs all.1

  some_first : (o more : Option Fault) → is_some (first_fault o more) ≡ (is_some o || is_some more)
  some_first None more = refl
  some_first (Some fault) more = refl

  pub first_some : (xs : List A) → is_some (first_of f xs) ≡ list_any (λ x. is_some (f x)) xs
  first_some [] = refl
  first_some (x ∷ xs) = some_first (f x) (first_of f xs) ∙ ap (λ b. is_some (f x) || b) (first_some xs)

-- ---- in order

swapped : (a b c : Bool) → (b || (a || c)) ≡ (a || (b || c))
swapped true true c = refl
swapped true false c = refl
swapped false true c = refl
swapped false false c = refl

any_put : {A : Type 0} (key : A → List ℕ) (f : A → Bool) (a : A) (bs : List A) → list_any f (put_in key a bs) ≡ (f a || list_any f bs)
any_put key f a [] = refl
any_put key f a (b ∷ bs) =
    elim (cases_Bool (is_less (key b) (key a))) [
      | inl h ↦
          ap (list_any f) (cond-true (is_less (key b) (key a)) (b ∷ put_in key a bs) (a ∷ b ∷ bs) h) ∙ ap (λ c. f b || c) (any_put key f a bs) ∙ swapped (f a) (f b) (list_any f bs)
      | inr h ↦
          ap (list_any f) (cond-false (is_less (key b) (key a)) (b ∷ put_in key a bs) (a ∷ b ∷ bs) h)
    ]

pub any_in_order : {A : Type 0} (key : A → List ℕ) (f : A → Bool) (xs : List A) → list_any f (in_order key xs) ≡ list_any f xs
any_in_order key f [] = refl
any_in_order key f (x ∷ xs) = any_put key f x (in_order key xs) ∙ ap (λ b. f x || b) (any_in_order key f xs)

module _ {A : Type 0} (key : A → List ℕ) (f : A → Option Fault) (written ordered : List A) (e : ordered ≡ in_order key written) where
  pub each_in : first_of f written ≡ None → AllByRecursion (λ x. f x ≡ None) ordered
  each_in none =
      subst (AllByRecursion (λ (x : A). f x ≡ None)) (sym e) (each_ordered key (λ x. f x ≡ None) written (each_none f written none))

  pub none_in : AllByRecursion (λ x. f x ≡ None) ordered → first_of f written ≡ None
  none_in all =
      none_each f written (each_written key (λ x. f x ≡ None) written (subst (AllByRecursion (λ (x : A). f x ≡ None)) e all))

  pub some_in : is_some (first_of f written) ≡ list_any (λ x. is_some (f x)) ordered
  some_in =
      first_some f written ∙ sym (any_in_order key (λ x. is_some (f x)) written) ∙ ap (list_any (λ x. is_some (f x))) (sym e)

  -- one refused item of the list in order is enough
  pub one_in : (front rest : List A) (x : A) (fault : Fault) → ordered ≡ front ++ x ∷ rest → f x ≡ Some fault → IsSome (first_of f written)
  one_in front rest x fault cut refused =
      let here : list_any (λ y. is_some (f y)) (x ∷ rest) ≡ true =
      ap (λ o. is_some o || list_any (λ y. is_some (f y)) rest) refused in
      some_in ∙ ap (list_any (λ y. is_some (f y))) cut ∙ any_second (λ y. is_some (f y)) front (x ∷ rest) here

-- ---- what is seen of a stage

module _ (s : Stage) (t : Tree) (e : s.deps ≡ in_order dep_text s.looks) where
  abbrev dep_fault : Dep → Option Fault
  dep_fault d = refused_dep s.name d (dep_value t d)

  pub deps_each : deps_fault s t ≡ None → AllByRecursion (λ d. refused_dep s.name d (dep_value t d) ≡ None) s.deps
  deps_each = each_in dep_text dep_fault s.looks s.deps e

  pub each_deps : AllByRecursion (λ d. refused_dep s.name d (dep_value t d) ≡ None) s.deps → deps_fault s t ≡ None
  each_deps = none_in dep_text dep_fault s.looks s.deps e

  pub deps_refused : is_some (deps_fault s t) ≡ list_any (λ d. is_some (refused_dep s.name d (dep_value t d))) s.deps
  deps_refused = some_in dep_text dep_fault s.looks s.deps e

  pub dep_refused : (front rest : List Dep) (d : Dep) (fault : Fault) → s.deps ≡ front ++ d ∷ rest → refused_dep s.name d (dep_value t d) ≡ Some fault → IsSome (deps_fault s t)
  dep_refused = one_in dep_text dep_fault s.looks s.deps e

module _ (s : Stage) (t : Tree) (e : s.made ≡ in_order out_text s.outs) where
  abbrev out_fault : Out → Option Fault
  out_fault o = limit_fault (value_at t o.path)

  pub present_each : present_fault s t ≡ None → AllByRecursion (λ o. limit_fault (value_at t o.path) ≡ None) s.made
  present_each = each_in out_text out_fault s.outs s.made e

  pub each_present : AllByRecursion (λ o. limit_fault (value_at t o.path) ≡ None) s.made → present_fault s t ≡ None
  each_present = none_in out_text out_fault s.outs s.made e

  pub present_refused : is_some (present_fault s t) ≡ list_any (λ o. is_some (limit_fault (value_at t o.path))) s.made
  present_refused = some_in out_text out_fault s.outs s.made e

  pub out_refused : (front rest : List Out) (o : Out) (fault : Fault) → s.made ≡ front ++ o ∷ rest → limit_fault (value_at t o.path) ≡ Some fault → IsSome (present_fault s t)
  out_refused = one_in out_text out_fault s.outs s.made e

-- ---- texts that rise

not_itself : (a b : List ℕ) → is_less a b ≡ true → bytes_eq a b ≡ false
not_itself a b h =
    false_from_ne_true (bytes_eq a b) (λ e. both_ways (is_less a a) (ap is_lt (tied_itself nat_list_cmp_total a)) (subst (λ (x : List ℕ). is_less a x ≡ true) (sym (same a b e)) h))

abbrev Above : List ℕ → List Out → Type 0
Above text os = AllByRecursion (λ (o : Out). is_less text o.text ≡ true) os

rising_above : (o : Out) (os : List Out) → is_rising (map out_text (o ∷ os)) ≡ true → Above o.text os × (is_rising (map out_text os) ≡ true)
rising_above o [] up = (tt, refl)
rising_above o (p ∷ os) up =
    let parts = and_parts (is_less o.text p.text) (is_rising (map out_text (p ∷ os))) up in
    let rest = rising_above p os parts.1 in
    ((parts.0, each_on (λ x. is_less p.text x.text ≡ true) (λ x. is_less o.text x.text ≡ true) os (λ x h. less_chain o.text p.text x.text parts.0 h) rest.0), parts.1)

-- ---- the values of outputs

module _ (v : Out → Value) where
  abbrev IsFound : List Out → List Out → Type 0
  IsFound all os = AllByRecursion (λ (o : Out). value_under all (map v all) o.text ≡ v o) os

  found_later : (o : Out) (all os : List Out) → Above o.text os → IsFound all os → IsFound (o ∷ all) os
  found_later o all [] above found = tt
  found_later o all (p ∷ os) above found =
      (ap (λ b. cond b (v o) (value_under all (map v all) p.text)) (not_itself o.text p.text above.0) ∙ found.0, found_later o all os above.1 found.1)

  pub value_under_each : (os : List Out) → is_rising (map out_text os) ≡ true → AllByRecursion (λ o. value_under os (map v os) o.text ≡ v o) os
  value_under_each [] up = tt
  value_under_each (o ∷ os) up =
      let parts = rising_above o os up in
      (ap (λ b. cond b (v o) (value_under os (map v os) o.text)) (itself o.text), found_later o os os parts.0 (value_under_each os parts.1))
    where
      itself : (a : List ℕ) → bytes_eq a a ≡ true
      itself a = (bytes_eq-Decides a a).1 refl

  module _ (s : Stage) (vs : List Value) (e : s.made ≡ in_order out_text s.outs) (up : IsTrue (is_rising (map out_text s.made))) (is : vs ≡ map v s.made) where
    found_written : AllByRecursion (λ o. value_under s.made vs o.text ≡ v o) s.outs
    found_written =
        let found : AllByRecursion (λ o. value_under s.made vs o.text ≡ v o) s.made =
        subst (λ (ws : List Value). AllByRecursion (λ (o : Out). value_under s.made ws o.text ≡ v o) s.made) (sym is) (value_under_each s.made up) in
        each_written out_text (λ o. value_under s.made vs o.text ≡ v o) s.outs (subst (AllByRecursion (λ (o : Out). value_under s.made vs o.text ≡ v o)) e found)

    pub missing_at : missing_fault s vs ≡ first_of (λ o. refused_out s.name o (v o)) s.outs
    missing_at =
        first_same (λ o. refused_out s.name o (v o)) (λ o. refused_out s.name o (value_under s.made vs o.text)) s.outs (each_on (λ o. value_under s.made vs o.text ≡ v o) (λ o. refused_out s.name o (value_under s.made vs o.text) ≡ refused_out s.name o (v o)) s.outs (λ o h. ap (refused_out s.name o) h) found_written)

    pub large_at : large_fault s vs ≡ first_of (λ o. limit_fault (v o)) s.outs
    large_at =
        first_same (λ o. limit_fault (v o)) (λ o. limit_fault (value_under s.made vs o.text)) s.outs (each_on (λ o. value_under s.made vs o.text ≡ v o) (λ o. limit_fault (value_under s.made vs o.text) ≡ limit_fault (v o)) s.outs (λ o h. ap limit_fault h) found_written)

    -- no output is missing just where each of the list in order has a value
    there : (o : Out) (w : Value) → refused_out s.name o w ≡ None → is_nothing w ≡ false
    there o nothing h = absurd (cc)
    there o (content bytes) h = refl
    there o (members m) h = refl

    none_there : (o : Out) (w : Value) → is_nothing w ≡ false → refused_out s.name o w ≡ None
    none_there o nothing h = absurd (cc)
    none_there o (content bytes) h = refl
    none_there o (members m) h = refl

    pub missing_each : missing_fault s vs ≡ None → AllByRecursion (λ o. is_nothing (v o) ≡ false) s.made
    missing_each none =
        each_on (λ o. refused_out s.name o (v o) ≡ None) (λ o. is_nothing (v o) ≡ false) s.made (λ o h. there o (v o) h) (each_in out_text (λ o. refused_out s.name o (v o)) s.outs s.made e (sym missing_at ∙ none))

    pub each_missing : AllByRecursion (λ o. is_nothing (v o) ≡ false) s.made → missing_fault s vs ≡ None
    each_missing all =
        missing_at ∙ none_in out_text (λ o. refused_out s.name o (v o)) s.outs s.made e (each_on (λ o. is_nothing (v o) ≡ false) (λ o. refused_out s.name o (v o) ≡ None) s.made (λ o h. none_there o (v o) h) all)

    pub large_each : large_fault s vs ≡ None → AllByRecursion (λ o. limit_fault (v o) ≡ None) s.made
    large_each none = each_in out_text (λ o. limit_fault (v o)) s.outs s.made e (sym large_at ∙ none)

    pub each_large : AllByRecursion (λ o. limit_fault (v o) ≡ None) s.made → large_fault s vs ≡ None
    each_large all = large_at ∙ none_in out_text (λ o. limit_fault (v o)) s.outs s.made e all
