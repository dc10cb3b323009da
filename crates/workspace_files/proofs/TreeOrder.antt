-- The entries below a folder are those of the walk over its names, in their order.
--     below_names        the entries below a folder, name by name
--     branch_is          the entries at or below a path: the one there, and those below it
--     below_file         none below a file
--     names_there        something stands at each name of a folder
--     found_each         each entry is found at its path
use Rattle.std.proofs.Common.{◌≡◌, ℕ, ◌<◌, Bool, true, false, cond, ◌||◌, List, [], ◌∷◌, ◌++◌, length, drop, refl, sym, ap, ◌∙◌, subst, inl, inr, arith, append_assoc, bytes_eq, Option, Some, None}
use Rattle.std.specs.Prelude.{IsSome, is_some, T, nat_lt}
use Rattle.std.specs.Option.{option_or}
use Rattle.std.specs.List.{flat_map, list_any, AllByRecursion}
use Rattle.std.specs.Ordering.{nat_cmp, is_lt, is_eq, eq_by_cmp, ordering_then}
use Rattle.std.specs.declared.cmp.Ordering.{Ordering}
use Rattle.std.specs.declared.cmp.Ordering.TheVariants.{Less, Equal, Greater}
use Rattle.std.specs.Cmp.{IsTotalOrder, tied_itself, nat_cmp_total, both_ways}
use Rattle.std.specs.Cmp.Lexicographic.{slice_cmp, lists_total}
use Rattle.std.specs.FinMap.{entries, entries_sorted, get, get-entries}
use Rattle.std.specs.FinMap.Entries.{find, is_sorted, below_all, where_key, is_sorted-where_key, find-where_key, same_entries}
use Rattle.std.proofs.lemmas.Bool.{false≢true, and_parts, and_from, or_left, or_right, or_cases, lt-ltb, cases_lt}
use Rattle.std.proofs.lemmas.List.{append-nil, length-append}
use borrow.Author.Tests.{ltb-true}
use Rattle.std.proofs.lemmas.Slice.Eq.{bytes_eq-Decides}
use Rattle.dvc_base.specs.Path.{Path, under, is_within}
use Rattle.dvc_base.proofs.PathLemmas.{under-refl, under-append, under-split, under-trans, under-length, under-same_length}
use Rattle.world_api.specs.Tree.{Tree, Item, folder, file, path_cmp, item_at, IsTree, name_below, names_in}
use Rattle.world_api.specs.Calls.{are_rising}
use Rattle.world_api.proofs.TreeLemmas.{path_cmp-total, path_cmp-antisym, same_path, path_itself}
use Rattle.file_hash.specs.Walk.{below}

abbrev pub Entry : Type 0
Entry = Path × Item

to_T : (b : Bool) → b ≡ true → T b
to_T b e = subst T (sym e) tt

from_T : (b : Bool) → T b → b ≡ true
from_T true h = refl
from_T false h = absurd h

less_of : (r : Ordering) → is_lt r ≡ true → r ≡ Less
less_of Less e = refl
less_of Equal e = absurd (false≢true e)
less_of Greater e = absurd (false≢true e)

each_more : {A : Type 0} (P Q : A → Type 0) (xs : List A) → ((x : A) → P x → Q x) → AllByRecursion P xs → AllByRecursion Q xs
each_more P Q [] f h = tt
each_more P Q (x ∷ xs) f h = (f x h.0, each_more P Q xs f h.1)

-- ---- a common front

name_total : IsTotalOrder (slice_cmp nat_cmp)
name_total = lists_total nat_cmp_total

skip_front : (r : Ordering) (x : Ordering) → r ≡ Equal → ordering_then r x ≡ x
skip_front Less x e = absurd (false≢true (ap is_eq e))
skip_front Equal x e = refl
skip_front Greater x e = absurd (false≢true (ap is_eq e))

common_front : (p x y : Path) → path_cmp (p ++ x) (p ++ y) ≡ path_cmp x y
common_front [] x y = refl
common_front (c ∷ p) x y =
    skip_front (slice_cmp nat_cmp c c) (path_cmp (p ++ x) (p ++ y)) (tied_itself name_total c) ∙ common_front p x y

first_less : (r x : Ordering) → r ≡ Less → ordering_then r x ≡ Less
first_less Less x e = refl
first_less Equal x e = absurd (false≢true (ap is_lt e))
first_less Greater x e = absurd (false≢true (ap is_lt e))

-- what lies at or below one name comes before what lies at or below a later one
before_under : (p : Path) (c d : List ℕ) (x y : Path) → slice_cmp nat_cmp c d ≡ Less → under (p ++ c ∷ []) x ≡ true → under (p ++ d ∷ []) y ≡ true → path_cmp x y ≡ Less
before_under p c d x y less a b =
    let cut : x ≡ p ++ c ∷ drop (length (p ++ c ∷ [])) x = under-split (p ++ c ∷ []) x a ∙ append_assoc p (c ∷ []) (drop (length (p ++ c ∷ [])) x) in
    let other : y ≡ p ++ d ∷ drop (length (p ++ d ∷ [])) y = under-split (p ++ d ∷ []) y b ∙ append_assoc p (d ∷ []) (drop (length (p ++ d ∷ [])) y) in
    ap (λ (q : Path). path_cmp q y) cut ∙ ap (λ (q : Path). path_cmp (p ++ c ∷ drop (length (p ++ c ∷ [])) x) q) other
    ∙ common_front p (c ∷ drop (length (p ++ c ∷ [])) x) (d ∷ drop (length (p ++ d ∷ [])) y)
    ∙ first_less (slice_cmp nat_cmp c d) (path_cmp (drop (length (p ++ c ∷ [])) x) (drop (length (p ++ d ∷ [])) y)) less

rising_all : (c : List ℕ) (cs : List (List ℕ)) → are_rising (c ∷ cs) ≡ true → AllByRecursion (λ d. slice_cmp nat_cmp c d ≡ Less) cs × (are_rising cs ≡ true)
rising_all c [] h = (tt, refl)
rising_all c (d ∷ ds) h =
    let parts = and_parts (is_lt (slice_cmp nat_cmp c d)) (are_rising (d ∷ ds)) h in
    let first = less_of (slice_cmp nat_cmp c d) parts.0 in
    ((first, later c d ds first (rising_all d ds parts.1).0), parts.1)
  where
    later : (c d : List ℕ) (ds : List (List ℕ)) → slice_cmp nat_cmp c d ≡ Less → AllByRecursion (λ e. slice_cmp nat_cmp d e ≡ Less) ds → AllByRecursion (λ e. slice_cmp nat_cmp c e ≡ Less) ds
    later c d [] l h = tt
    later c d (e ∷ es) l h = (name_total.trans c d e l h.0, later c d es l h.1)

both_all : {A : Type 0} (P Q R : A → Type 0) (xs : List A) → ((x : A) → P x → Q x → R x) → AllByRecursion P xs → AllByRecursion Q xs → AllByRecursion R xs
both_all P Q R [] f a b = tt
both_all P Q R (x ∷ xs) f a b = (f x a.0 b.0, both_all P Q R xs f a.1 b.1)

not_same : (x y : Path) → path_cmp x y ≡ Less → eq_by_cmp path_cmp y x ≡ false
not_same x y less =
    elim (eq_by_cmp path_cmp y x) as (λ b. eq_by_cmp path_cmp y x ≡ b → b ≡ false) [
      | true ↦ λ e. absurd (false≢true (sym (ap is_eq less) ∙ subst (λ (z : Path). eq_by_cmp path_cmp x z ≡ true) (sym (same_path y x e)) (path_itself x)))
      | false ↦ λ e. refl
    ] refl

-- ---- lists of entries that rise

module _ {X : Type 0} where
  abbrev pub Rise : List (Path × X) → Type 0
  Rise es = is_sorted path_cmp es ≡ true

  below_append : (x : Path) (es fs : List (Path × X)) → below_all path_cmp x es ≡ true → below_all path_cmp x fs ≡ true → below_all path_cmp x (es ++ fs) ≡ true
  below_append x [] fs a b = b
  below_append x (e ∷ es) fs a b =
      let parts = and_parts (is_lt (path_cmp x e.0)) (below_all path_cmp x es) a in
      and_from (is_lt (path_cmp x e.0)) (below_all path_cmp x (es ++ fs)) parts.0 (below_append x es fs parts.1 b)

  sorted-append : (es fs : List (Path × X)) → Rise es → Rise fs → AllByRecursion (λ e. below_all path_cmp e.0 fs ≡ true) es → Rise (es ++ fs)
  sorted-append [] fs a b h = b
  sorted-append (e ∷ es) fs a b h =
      let parts = and_parts (below_all path_cmp e.0 es) (is_sorted path_cmp es) a in
      and_from (below_all path_cmp e.0 (es ++ fs)) (is_sorted path_cmp (es ++ fs)) (below_append e.0 es fs parts.0 h.0) (sorted-append es fs parts.1 b h.1)

  option_or-cond : (b : Bool) (x : X) (o q : Option X) → option_or (cond b (Some x) o) q ≡ cond b (Some x) (option_or o q)
  option_or-cond true x o q = refl
  option_or-cond false x o q = refl

  find-both : (q : Path) (es fs : List (Path × X)) → find path_cmp q (es ++ fs) ≡ option_or (find path_cmp q es) (find path_cmp q fs)
  find-both q [] fs = refl
  find-both q (e ∷ es) fs =
      ap (cond (eq_by_cmp path_cmp q e.0) (Some e.1)) (find-both q es fs)
      ∙ sym (option_or-cond (eq_by_cmp path_cmp q e.0) e.1 (find path_cmp q es) (find path_cmp q fs))

  find_kept : (p : Path → Bool) (q : Path) (es : List (Path × X)) → find path_cmp q (where_key path_cmp p es) ≡ cond (p q) (find path_cmp q es) None
  find_kept p q es = find-where_key path_cmp p q (λ x e. ap p (sym (path_cmp-antisym q x e))) es

  rise_kept : (p : Path → Bool) (es : List (Path × X)) → Rise es → Rise (where_key path_cmp p es)
  rise_kept p es h = from_T (is_sorted path_cmp (where_key path_cmp p es)) (is_sorted-where_key path_cmp p es (to_T (is_sorted path_cmp es) h))

  same_lists : (es fs : List (Path × X)) → Rise es → Rise fs → ((q : Path) → find path_cmp q es ≡ find path_cmp q fs) → es ≡ fs
  same_lists es fs a b same = same_entries path_cmp path_cmp-total path_cmp-antisym es fs (to_T (is_sorted path_cmp es) a) (to_T (is_sorted path_cmp fs) b) same

  kept_each : (p : Path → Bool) (es : List (Path × X)) → AllByRecursion (λ e. p e.0 ≡ true) (where_key path_cmp p es)
  kept_each p [] = tt
  kept_each p (e ∷ es) =
      elim (p e.0) as (λ b. p e.0 ≡ b → AllByRecursion (λ e. p e.0 ≡ true) (cond b (e ∷ where_key path_cmp p es) (where_key path_cmp p es))) [
        | true ↦ λ t. (t, kept_each p es)
        | false ↦ λ t. kept_each p es
      ] refl

  -- ---- name by name

  abbrev pub branch : Path → List (Path × X) → List ℕ → List (Path × X)
  branch p es c = where_key path_cmp (under (p ++ c ∷ [])) es

  abbrev pub branches : Path → List (Path × X) → List (List ℕ) → List (Path × X)
  branches p es cs = flat_map (branch p es) cs

  find_branches : (p q : Path) (es : List (Path × X)) (cs : List (List ℕ)) → find path_cmp q (branches p es cs) ≡ cond (list_any (λ c. under (p ++ c ∷ []) q) cs) (find path_cmp q es) None
  find_branches p q es [] = refl
  find_branches p q es (c ∷ cs) =
      find-both q (branch p es c) (branches p es cs)
      ∙ ap (λ o. option_or o (find path_cmp q (branches p es cs))) (find_kept (under (p ++ c ∷ [])) q es)
      ∙ ap (option_or (cond (under (p ++ c ∷ []) q) (find path_cmp q es) None)) (find_branches p q es cs)
      ∙ either (under (p ++ c ∷ []) q) (list_any (λ c. under (p ++ c ∷ []) q) cs) (find path_cmp q es)
    where
      none_or : (o : Option X) (b : Bool) → option_or o (cond b o None) ≡ o
      none_or None true = refl
      none_or None false = refl
      none_or (Some x) b = refl

      either : (a b : Bool) (o : Option X) → option_or (cond a o None) (cond b o None) ≡ cond (a || b) o None
      either true b o = none_or o b
      either false b o = refl

  below_branch : (p : Path) (c d : List ℕ) (x : Path) (es : List (Path × X)) → slice_cmp nat_cmp c d ≡ Less → under (p ++ c ∷ []) x ≡ true → below_all path_cmp x (branch p es d) ≡ true
  below_branch p c d x [] less u = refl
  below_branch p c d x (e ∷ es) less u =
      elim (under (p ++ d ∷ []) e.0) as (λ b. under (p ++ d ∷ []) e.0 ≡ b → below_all path_cmp x (cond b (e ∷ branch p es d) (branch p es d)) ≡ true) [
        | true ↦ λ v. and_from (is_lt (path_cmp x e.0)) (below_all path_cmp x (branch p es d)) (ap is_lt (before_under p c d x e.0 less u v)) (below_branch p c d x es less u)
        | false ↦ λ v. below_branch p c d x es less u
      ] refl

  below_branches : (p : Path) (c : List ℕ) (x : Path) (es : List (Path × X)) (cs : List (List ℕ)) → AllByRecursion (λ d. slice_cmp nat_cmp c d ≡ Less) cs → under (p ++ c ∷ []) x ≡ true → below_all path_cmp x (branches p es cs) ≡ true
  below_branches p c x es [] less u = refl
  below_branches p c x es (d ∷ ds) less u =
      below_append x (branch p es d) (branches p es ds) (below_branch p c d x es less.0 u) (below_branches p c x es ds less.1 u)

  below_each : (p : Path) (c : List ℕ) (es bs : List (Path × X)) (cs : List (List ℕ)) → AllByRecursion (λ d. slice_cmp nat_cmp c d ≡ Less) cs → AllByRecursion (λ e. under (p ++ c ∷ []) e.0 ≡ true) bs → AllByRecursion (λ e. below_all path_cmp e.0 (branches p es cs) ≡ true) bs
  below_each p c es [] cs less h = tt
  below_each p c es (b ∷ bs) cs less h = (below_branches p c b.0 es cs less h.0, below_each p c es bs cs less h.1)

  branches_rise : (p : Path) (es : List (Path × X)) (cs : List (List ℕ)) → Rise es → are_rising cs ≡ true → Rise (branches p es cs)
  branches_rise p es [] rise h = refl
  branches_rise p es (c ∷ cs) rise h =
      let parts = rising_all c cs h in
      sorted-append (branch p es c) (branches p es cs) (rise_kept (under (p ++ c ∷ [])) es rise) (branches_rise p es cs rise parts.1)
      (below_each p c es (branch p es c) cs parts.0 (kept_each (under (p ++ c ∷ [])) es))

  -- ---- what is found of each entry

  below_all_each : (x : Path) (es : List (Path × X)) → below_all path_cmp x es ≡ true → AllByRecursion (λ e. path_cmp x e.0 ≡ Less) es
  below_all_each x [] h = tt
  below_all_each x (e ∷ es) h =
      let parts = and_parts (is_lt (path_cmp x e.0)) (below_all path_cmp x es) h in
      (less_of (path_cmp x e.0) parts.0, below_all_each x es parts.1)

  pub found_each : (es : List (Path × X)) → Rise es → AllByRecursion (λ e. find path_cmp e.0 es ≡ Some e.1) es
  found_each [] rise = tt
  found_each (e ∷ es) rise =
      let parts = and_parts (below_all path_cmp e.0 es) (is_sorted path_cmp es) rise in (
        ap (λ b. cond b (Some e.1) (find path_cmp e.0 es)) (path_itself e.0),
        both_all (λ f. path_cmp e.0 f.0 ≡ Less) (λ f. find path_cmp f.0 es ≡ Some f.1) (λ f. find path_cmp f.0 (e ∷ es) ≡ Some f.1) es
            (λ f less is. ap (λ b. cond b (Some e.1) (find path_cmp f.0 es)) (not_same e.0 f.0 less) ∙ is)
            (below_all_each e.0 es parts.0) (found_each es parts.1),
      )

-- ---- a tree

pub tree_rises : (t : Tree) → Rise (entries t)
tree_rises t = from_T (is_sorted path_cmp (entries t)) (entries_sorted t)

pub item_at_push : (t : Tree) (q : Path) (c : List ℕ) → item_at t (q ++ c ∷ []) ≡ get t (q ++ c ∷ [])
item_at_push t [] c = refl
item_at_push t (d ∷ q) c = refl

some_above : (t : Tree) → IsTree t → (p : Path) (c : List ℕ) (r : Path) → IsSome (get t (p ++ c ∷ r)) → IsSome (get t (p ++ c ∷ []))
some_above t tree p c [] h = h
some_above t tree p c (d ∷ r) h =
    let further = some_above t tree (p ++ c ∷ []) d r (subst (λ (x : Path). IsSome (get t x)) (sym (append_assoc p (c ∷ []) (d ∷ r))) h) in
    ap is_some (sym (item_at_push t p c) ∙ tree.parents (p ++ c ∷ []) d further)

within_parts : (p q : Path) → is_within q p ≡ true → (under p q ≡ true) × (length p < length q)
within_parts p q h =
    let parts = and_parts (under p q) (nat_lt (length p) (length q)) h in (parts.0, ltb-true (length p) (length q) parts.1)

some_rest : (p r : Path) → length p < length (p ++ r) → (c : List ℕ) × (s : Path) × (r ≡ c ∷ s)
some_rest p [] h = absurd (omega (arith, length-append p []))
some_rest p (c ∷ s) h = (c, s, refl)

-- a path below another lies at or below one of the names in it
split_within : (p q : Path) → is_within q p ≡ true → (c : List ℕ) × (s : Path) × (q ≡ p ++ c ∷ s)
split_within p q h =
    let parts = within_parts p q h in
    let cut = under-split p q parts.0 in
    let rest = some_rest p (drop (length p) q) (subst (λ (x : Path). length p < length x) cut parts.1) in
    (rest.0, rest.1, cut ∙ ap (λ (x : Path). p ++ x) rest.2)

name_below-push : (p : Path) (c : List ℕ) → name_below p (p ++ c ∷ []) ≡ c ∷ []
name_below-push [] c = refl
name_below-push (b ∷ p) c = ap (λ x. cond x (name_below p (p ++ c ∷ [])) []) ((bytes_eq-Decides b b).1 refl) ∙ name_below-push p c

any_right : (test : List ℕ → Bool) (xs ys : List (List ℕ)) → list_any test ys ≡ true → list_any test (xs ++ ys) ≡ true
any_right test [] ys h = h
any_right test (x ∷ xs) ys h = or_right (test x) (list_any test (xs ++ ys)) (any_right test xs ys h)

names_any : (p : Path) (c : List ℕ) (test : List ℕ → Bool) (es : List Entry) → test c ≡ true → is_some (find path_cmp (p ++ c ∷ []) es) ≡ true → list_any test (flat_map (λ e. name_below p e.0) es) ≡ true
names_any p c test [] t h = absurd (false≢true h)
names_any p c test (e ∷ es) t h =
    elim (eq_by_cmp path_cmp (p ++ c ∷ []) e.0) as (λ b. eq_by_cmp path_cmp (p ++ c ∷ []) e.0 ≡ b → is_some (cond b (Some e.1) (find path_cmp (p ++ c ∷ []) es)) ≡ true → list_any test (name_below p e.0 ++ flat_map (λ e. name_below p e.0) es) ≡ true) [
      | true ↦ λ s i.
          let name : name_below p e.0 ≡ c ∷ [] = ap (name_below p) (sym (same_path (p ++ c ∷ []) e.0 s)) ∙ name_below-push p c in
          ap (λ x. list_any test (x ++ flat_map (λ e. name_below p e.0) es)) name ∙ or_left (test c) (list_any test (flat_map (λ e. name_below p e.0) es)) t
      | false ↦ λ s i. any_right test (name_below p e.0) (flat_map (λ e. name_below p e.0) es) (names_any p c test es t i)
    ] refl h

within_any : (t : Tree) → IsTree t → (p q : Path) → IsSome (get t q) → is_within q p ≡ true → list_any (λ c. under (p ++ c ∷ []) q) (names_in t p) ≡ true
within_any t tree p q some h =
    let cut = split_within p q h in
    let there = some_above t tree p cut.0 cut.1 (subst (λ (x : Path). IsSome (get t x)) cut.2 some) in
    let at : under (p ++ cut.0 ∷ []) q ≡ true =
    subst (λ (x : Path). under (p ++ cut.0 ∷ []) x ≡ true) (append_assoc p (cut.0 ∷ []) cut.1 ∙ sym cut.2) (under-append (p ++ cut.0 ∷ []) cut.1) in
    names_any p cut.0 (λ c. under (p ++ c ∷ []) q) (entries t) at (ap is_some (sym (get-entries t (p ++ cut.0 ∷ []))) ∙ there)

push_within : (p : Path) (c : List ℕ) (q : Path) → under (p ++ c ∷ []) q ≡ true → is_within q p ≡ true
push_within p c q u =
    and_from (under p q) (nat_lt (length p) (length q)) (under-trans p (p ++ c ∷ []) q (under-append p (c ∷ [])) u)
    (lt-ltb (length p) (length q) (omega (arith, under-length (p ++ c ∷ []) q u, length-append p (c ∷ []))))

any_within : (p q : Path) (cs : List (List ℕ)) → list_any (λ c. under (p ++ c ∷ []) q) cs ≡ true → is_within q p ≡ true
any_within p q [] h = absurd (false≢true h)
any_within p q (c ∷ cs) h =
    elim (or_cases (under (p ++ c ∷ []) q) (list_any (λ c. under (p ++ c ∷ []) q) cs) h) [
      | inl u ↦ push_within p c q u
      | inr more ↦ any_within p q cs more
    ]

same_choice : (a b : Bool) (o : Option Item) → (IsSome o → a ≡ b) → cond a o None ≡ cond b o None
same_choice a b (Some x) h = ap (λ c. cond c (Some x) None) (h refl)
same_choice true true None h = refl
same_choice true false None h = refl
same_choice false true None h = refl
same_choice false false None h = refl

pub below_names : (t : Tree) (p : Path) → IsTree t → are_rising (names_in t p) ≡ true → below p (entries t) ≡ branches p (entries t) (names_in t p)
below_names t p tree rising =
    let es = entries t in
    let cs = names_in t p in
    same_lists (below p es) (branches p es cs) (rise_kept (λ q. is_within q p) es (tree_rises t)) (branches_rise p es cs (tree_rises t) rising)
    (λ q. find_kept (λ x. is_within x p) q es
    ∙ same_choice (is_within q p) (list_any (λ c. under (p ++ c ∷ []) q) cs) (find path_cmp q es) (λ some. both_ways (is_within q p) (list_any (λ c. under (p ++ c ∷ []) q) cs) (within_any t tree p q (ap is_some (get-entries t q) ∙ some)) (any_within p q cs))
    ∙ sym (find_branches p q es cs))

-- ---- one branch

within_less : (p q : Path) → is_within q p ≡ true → path_cmp p q ≡ Less
within_less p q h =
    let cut = split_within p q h in
    ap (λ (x : Path). path_cmp x q) (sym (append-nil p)) ∙ ap (λ (x : Path). path_cmp (p ++ []) x) cut.2 ∙ common_front p [] (cut.0 ∷ cut.1)

below_it : (q : Path) (es : List Entry) → below_all path_cmp q (below q es) ≡ true
below_it q [] = refl
below_it q (e ∷ es) =
    elim (is_within e.0 q) as (λ b. is_within e.0 q ≡ b → below_all path_cmp q (cond b (e ∷ below q es) (below q es)) ≡ true) [
      | true ↦ λ w. and_from (is_lt (path_cmp q e.0)) (below_all path_cmp q (below q es)) (ap is_lt (within_less q e.0 w)) (below_it q es)
      | false ↦ λ w. below_it q es
    ] refl

within_other : (q x : Path) → eq_by_cmp path_cmp x q ≡ false → under q x ≡ is_within x q
within_other q x other =
    both_ways (under q x) (is_within x q)
    (λ u. and_from (under q x) (nat_lt (length q) (length x)) u (lt-ltb (length q) (length x)
    (elim (cases_lt (length q) (length x)) [
      | inl less ↦ less
      | inr most ↦ absurd (false≢true (sym other ∙ subst (λ (y : Path). eq_by_cmp path_cmp x y ≡ true) (sym (under-same_length q x u (omega (arith, under-length q x u)))) (path_itself x)))
    ])))
    (λ w. (within_parts q x w).0)

find_branch : (t : Tree) (q x : Path) (item : Item) → get t q ≡ Some item → find path_cmp x (where_key path_cmp (under q) (entries t)) ≡ find path_cmp x ((q, item) ∷ below q (entries t))
find_branch t q x item there =
    let es = entries t in
    find_kept (under q) x es ∙ elim (eq_by_cmp path_cmp x q) as (λ b. eq_by_cmp path_cmp x q ≡ b → cond (under q x) (find path_cmp x es) None ≡ cond b (Some item) (find path_cmp x (below q es))) [
      | true ↦ λ s.
          let same = same_path x q s in
          ap (λ (y : Path). cond (under q y) (find path_cmp y es) None) same ∙ ap (λ b. cond b (find path_cmp q es) None) (under-refl q) ∙ sym (get-entries t q) ∙ there
      | false ↦ λ s. ap (λ b. cond b (find path_cmp x es) None) (within_other q x s) ∙ sym (find_kept (λ y. is_within y q) x es)
    ] refl

pub branch_is : (t : Tree) (q : Path) (item : Item) → get t q ≡ Some item → where_key path_cmp (under q) (entries t) ≡ (q, item) ∷ below q (entries t)
branch_is t q item there =
    let es = entries t in
    same_lists (where_key path_cmp (under q) es) ((q, item) ∷ below q es) (rise_kept (under q) es (tree_rises t))
    (and_from (below_all path_cmp q (below q es)) (is_sorted path_cmp (below q es)) (below_it q es) (rise_kept (λ x. is_within x q) es (tree_rises t)))
    (λ x. find_branch t q x item there)

folder_or_file : (bytes : List ℕ) → Some folder ≡ Some (file bytes) → ⊥
folder_or_file bytes e = cc

not_within_file : (t : Tree) → IsTree t → (q x : Path) (bytes : List ℕ) → item_at t q ≡ Some (file bytes) → IsSome (get t x) → is_within x q ≡ true → ⊥
not_within_file t tree q x bytes there some w =
    let cut = split_within q x w in
    let child = some_above t tree q cut.0 cut.1 (subst (λ (y : Path). IsSome (get t y)) cut.2 some) in
    folder_or_file bytes (sym (tree.parents q cut.0 child) ∙ there)

nothing_chosen : (b : Bool) (o : Option Item) → (IsSome o → b ≡ true → ⊥) → cond b o None ≡ None
nothing_chosen true None h = refl
nothing_chosen true (Some x) h = absurd (h refl refl)
nothing_chosen false o h = refl

-- nothing lies below a file
pub below_file : (t : Tree) → IsTree t → (q : Path) (bytes : List ℕ) → item_at t q ≡ Some (file bytes) → below q (entries t) ≡ []
below_file t tree q bytes there =
    same_lists (below q (entries t)) [] (rise_kept (λ x. is_within x q) (entries t) (tree_rises t)) refl
    (λ x. find_kept (λ y. is_within y q) x (entries t) ∙ nothing_chosen (is_within x q) (find path_cmp x (entries t)) (λ some w. not_within_file t tree q x bytes there (ap is_some (get-entries t x) ∙ some) w))

-- ---- names

name_below-each : (p q : Path) → AllByRecursion (λ c. q ≡ p ++ c ∷ []) (name_below p q)
name_below-each [] [] = tt
name_below-each [] (c ∷ []) = (refl, tt)
name_below-each [] (c ∷ d ∷ q) = tt
name_below-each (b ∷ p) [] = tt
name_below-each (b ∷ p) (c ∷ q) =
    elim (bytes_eq b c) as (λ x. bytes_eq b c ≡ x → AllByRecursion (λ d. c ∷ q ≡ b ∷ p ++ d ∷ []) (cond x (name_below p q) [])) [
      | true ↦ λ e. each_more (λ d. q ≡ p ++ d ∷ []) (λ d. c ∷ q ≡ b ∷ p ++ d ∷ []) (name_below p q) (λ d s. ap (λ (x : Path). c ∷ x) s ∙ ap (λ (x : List ℕ). x ∷ (p ++ d ∷ [])) (sym ((bytes_eq-Decides b c).0 e))) (name_below-each p q)
      | false ↦ λ e. tt
    ] refl

pub all_append : {A : Type 0} (P : A → Type 0) (xs ys : List A) → AllByRecursion P xs → AllByRecursion P ys → AllByRecursion P (xs ++ ys)
all_append P [] ys a b = b
all_append P (x ∷ xs) ys a b = (a.0, all_append P xs ys a.1 b)

names_found : (t : Tree) (p : Path) (es : List Entry) → AllByRecursion (λ e. find path_cmp e.0 (entries t) ≡ Some e.1) es → AllByRecursion (λ c. IsSome (get t (p ++ c ∷ []))) (flat_map (λ e. name_below p e.0) es)
names_found t p [] h = tt
names_found t p (e ∷ es) h =
    all_append (λ c. IsSome (get t (p ++ c ∷ []))) (name_below p e.0) (flat_map (λ e. name_below p e.0) es)
    (each_more (λ c. e.0 ≡ p ++ c ∷ []) (λ c. IsSome (get t (p ++ c ∷ []))) (name_below p e.0) (λ c s. subst (λ (x : Path). IsSome (get t x)) s (ap is_some (get-entries t e.0 ∙ h.0))) (name_below-each p e.0))
    (names_found t p es h.1)

-- each name is one of a member
pub names_there : (t : Tree) (p : Path) → AllByRecursion (λ c. IsSome (get t (p ++ c ∷ []))) (names_in t p)
names_there t p = names_found t p (entries t) (found_each (entries t) (tree_rises t))
