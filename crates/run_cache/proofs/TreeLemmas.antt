-- The names in a folder, and what stands there.
--     no_names        nothing has a name where no folder stands
--     among_names     what stands directly in a folder is among the names there
use Rattle.std.proofs.Common.{◌≡◌, ◌≢◌, ℕ, Bool, true, false, cond, List, [], ◌∷◌, ◌++◌, refl, sym, ap, ◌∙◌, bytes_eq, Some}
use Rattle.std.specs.Prelude.{IsSome, is_some}
use Rattle.std.specs.List.{flat_map, list_any}
use Rattle.std.specs.Ordering.{eq_by_cmp}
use Rattle.std.specs.FinMap.{entries, get, get-entries}
use Rattle.std.specs.FinMap.Entries.{find}
use Rattle.std.proofs.lemmas.Bool.{false≢true, or_left, or_right}
use Rattle.std.proofs.lemmas.Slice.Eq.{bytes_eq-Decides}
use Rattle.dvc_base.specs.Path.{Path}
use Rattle.world_api.specs.Tree.{Tree, Item, folder, path_cmp, item_at, IsTree, name_below, names_in}
use Rattle.world_api.proofs.TreeLemmas.{same_path, path_itself}

abbrev Member : Type 0
Member = Path × Item

abbrev names_of : Path → List Member → List (List ℕ)
names_of p es = flat_map (λ e. name_below p e.0) es

-- ---- no folder, no names

data Named (p q : Path) : Type 0 where
  elsewhere : name_below p q ≡ [] → Named p q
  inside : (c : List ℕ) → q ≡ p ++ c ∷ [] → Named p q

named_further : (b c : List ℕ) (p q : Path) (x : Bool) → bytes_eq b c ≡ x → Named p q → Named (b ∷ p) (c ∷ q)
named_further b c p q false e n = elsewhere (ap (λ v. cond v (name_below p q) []) e)
named_further b c p q true e (elsewhere none) = elsewhere (ap (λ v. cond v (name_below p q) []) e ∙ none)
named_further b c p q true e (inside d is) =
    inside d (ap (λ (x : Path). c ∷ x) is ∙ ap (λ (x : List ℕ). x ∷ (p ++ d ∷ [])) (sym ((bytes_eq-Decides b c).0 e)))

named : (p q : Path) → Named p q
named [] [] = elsewhere refl
named [] (c ∷ []) = inside c refl
named [] (c ∷ d ∷ q) = elsewhere refl
named (b ∷ p) [] = elsewhere refl
named (b ∷ p) (c ∷ q) = named_further b c p q (bytes_eq b c) refl (named p q)

found_first : (q : Path) (e : Member) (es : List Member) → q ≡ e.0 → is_some (find path_cmp q (e ∷ es)) ≡ true
found_first q e es s = ap (λ b. is_some (cond b (Some e.1) (find path_cmp q es))) (ap (eq_by_cmp path_cmp q) (sym s) ∙ path_itself q)

found_later : (q : Path) (e : Member) (es : List Member) → is_some (find path_cmp q es) ≡ true → is_some (find path_cmp q (e ∷ es)) ≡ true
found_later q e es h =
    elim (eq_by_cmp path_cmp q e.0) as (λ b. is_some (cond b (Some e.1) (find path_cmp q es)) ≡ true) [ true ↦ refl | false ↦ h ]

none_named : (p : Path) (es : List Member) → ((c : List ℕ) → is_some (find path_cmp (p ++ c ∷ []) es) ≡ true → ⊥) → names_of p es ≡ []
none_named p [] h = refl
none_named p (e ∷ es) h =
    let rest = none_named p es (λ c is. h c (found_later (p ++ c ∷ []) e es is)) in
    elim (named p e.0) [
      | elsewhere none ↦ ap (λ (x : List (List ℕ)). x ++ names_of p es) none ∙ rest
      | inside c is ↦ absurd (h c (found_first (p ++ c ∷ []) e es (sym is)))
    ]

pub no_names : (t : Tree) (p : Path) → IsTree t → item_at t p ≢ Some folder → names_in t p ≡ []
no_names t p tree h = none_named p (entries t) (λ c is. h (tree.parents p c (ap is_some (get-entries t (p ++ c ∷ [])) ∙ is)))

-- ---- what stands in a folder has a name there

name_below-push : (p : Path) (c : List ℕ) → name_below p (p ++ c ∷ []) ≡ c ∷ []
name_below-push [] c = refl
name_below-push (b ∷ p) c = ap (λ x. cond x (name_below p (p ++ c ∷ [])) []) ((bytes_eq-Decides b b).1 refl) ∙ name_below-push p c

any_right : (test : List ℕ → Bool) (xs ys : List (List ℕ)) → list_any test ys ≡ true → list_any test (xs ++ ys) ≡ true
any_right test [] ys h = h
any_right test (x ∷ xs) ys h = or_right (test x) (list_any test (xs ++ ys)) (any_right test xs ys h)

names_any : (p : Path) (c : List ℕ) (test : List ℕ → Bool) (es : List Member) → test c ≡ true → is_some (find path_cmp (p ++ c ∷ []) es) ≡ true → list_any test (names_of p es) ≡ true
names_any p c test [] t h = absurd (false≢true h)
names_any p c test (e ∷ es) t h =
    elim (eq_by_cmp path_cmp (p ++ c ∷ []) e.0) as (λ b. eq_by_cmp path_cmp (p ++ c ∷ []) e.0 ≡ b → is_some (cond b (Some e.1) (find path_cmp (p ++ c ∷ []) es)) ≡ true → list_any test (name_below p e.0 ++ names_of p es) ≡ true) [
      | true ↦ λ s i.
          let name : name_below p e.0 ≡ c ∷ [] = ap (name_below p) (sym (same_path (p ++ c ∷ []) e.0 s)) ∙ name_below-push p c in
          ap (λ x. list_any test (x ++ names_of p es)) name ∙ or_left (test c) (list_any test (names_of p es)) t
      | false ↦ λ s i. any_right test (name_below p e.0) (names_of p es) (names_any p c test es t i)
    ] refl h

pub among_names : (t : Tree) (p : Path) (c : List ℕ) (test : List ℕ → Bool) → test c ≡ true → IsSome (get t (p ++ c ∷ [])) → list_any test (names_in t p) ≡ true
among_names t p c test h some = names_any p c test (entries t) h (ap is_some (sym (get-entries t (p ++ c ∷ []))) ∙ some)
