-- What stands in a tree after the files of a folder were put below a path.
--     parent_below                 the folder above a path that lies below another
--     step, look                   what one file, and all files, make of a path below
--     files_apart, files_below     what is found after all were put: elsewhere, and below the path
--     look-..                      of `look` alone
use Rattle.std.proofs.Common.{◌≡◌, ◌≢◌, ℕ, zero, suc, ◌-◌, Bool, true, false, cond, not, ◌&&◌, List, [], ◌∷◌, ◌++◌, length, drop, refl, sym, ap, subst, ◌∙◌, arith, append_assoc, inl, inr, Option, Some, None}
use Rattle.std.specs.Prelude.{◌⊎◌, IsSome, is_some, ⊤, T}
use Rattle.std.specs.List.{AllByRecursion}
use Rattle.std.specs.Ordering.{eq_by_cmp, is_lt}
use Rattle.std.specs.Cmp.{tied_itself}
use Rattle.std.specs.FinMap.{FinMap, get, insert, find, entries, entries_sorted, is_sorted, get-entries}
use Rattle.std.specs.FinMap.Entries.{below_all}
use Rattle.std.proofs.lemmas.Bool.{false≢true, false_from_ne_true}
use Rattle.std.proofs.lemmas.List.{append_cancel_left, append-nil, length-append}
use Rattle.dvc_base.specs.Path.{Path, under}
use Rattle.dvc_base.proofs.PathLemmas.{under-refl, under-trans, under-split, under-append, under-length}
use Rattle.world_api.specs.Tree.{Tree, Item, folder, file, path_cmp}
use Rattle.world_api.specs.Calls.{parent}
use Rattle.world_api.proofs.TreeLemmas.{path_cmp-total, path_itself, other_path, path_cases, same_path, get_put_same, get_put_other, parent_push, split_last, under_parent, long_not_root, parent-length, cons_not_root}
use Rattle.sim_world.specs.Edits.{with_folders, put_member, put_files}
use Rattle.file_hash.specs.Files.{IsFileMap}
use Rattle.sim_world.specs.Item.{bytes_of}
use Rattle.sim_world.proofs.ListLemmas.{all_weaker}
use Rattle.sim_world.specs.Root.{is_root}

abbrev Files : Type 0
Files = List (Path × List ℕ)

-- ---- paths

pub parent_below : (at q : Path) → q ≢ [] → parent (at ++ q) ≡ at ++ parent q
parent_below at q ne =
    let r = split_last q ne in
    ap (λ (x : Path). parent (at ++ x)) r.1
    ∙ ap parent (sym (append_assoc at (parent q) (r.0 ∷ [])))
    ∙ parent_push (at ++ parent q) r.0

pub length_parent : (q : Path) → length (parent q) ≡ length q - 1
length_parent [] = refl
length_parent (c ∷ q) = parent-length (c ∷ q) (length q) refl ∙ omega arith

-- a path that isn't q lies above q just where it lies at or above the folder of q
under_step : (x q : Path) → q ≢ [] → x ≢ q → under x q ≡ under x (parent q)
under_step x q ne other =
    elim (under x q) as (λ b. under x q ≡ b → b ≡ under x (parent q)) [
      | true ↦ λ u.
          let rest : Path = drop (length x) q in
          let parts : q ≡ x ++ rest = under-split x q u in
          let more : rest ≢ [] = λ e. other (sym (parts ∙ ap (λ (y : Path). x ++ y) e ∙ append-nil x)) in
          sym (ap (λ (y : Path). under x (parent y)) parts ∙ ap (under x) (parent_below x rest more) ∙ under-append x (parent rest))
      | false ↦ λ u. sym (false_from_ne_true (under x (parent q)) (λ e. false≢true (sym u ∙ under-trans x (parent q) q e (under_parent q))))
    ] refl

-- ---- one file

abbrev pub is_between : Path → Path → Bool
is_between x q = not (is_root x) && under x q

folders_apart : (n : ℕ) (at q p : Path) (t : Tree) → length q ≡ n → under at p ≡ false → get (with_folders n (at ++ q) t) p ≡ get t p
folders_apart zero at q p t l out = refl
folders_apart (suc n) at q p t l out =
    let ne : q ≢ [] = long_not_root q n l in
    get_put_other (with_folders n (parent (at ++ q)) t) (at ++ q) folder p (λ s. false≢true (sym out ∙ ap (under at) s ∙ under-append at q))
    ∙ ap (λ (x : Path). get (with_folders n x t) p) (parent_below at q ne)
    ∙ folders_apart n at (parent q) p t (parent-length q n l) out

folders_below : (n : ℕ) (at q x : Path) (t : Tree) → length q ≡ n → get (with_folders n (at ++ q) t) (at ++ x) ≡ cond (is_between x q) (Some folder) (get t (at ++ x))
folders_below zero at [] [] t l = refl
folders_below zero at [] (c ∷ x) t l = refl
folders_below zero at (d ∷ q) x t l = absurd (omega arith)
folders_below (suc n) at q x t l =
    let ne : q ≢ [] = long_not_root q n l in
    let k : Tree = with_folders n (parent (at ++ q)) t in
    elim (path_cases x q) [
      | inl s ↦
          ap (λ (y : Path). get (insert k (at ++ q) folder) (at ++ y)) s ∙ get_put_same k (at ++ q) folder
          ∙ sym (ap (λ b. cond b (Some folder) (get t (at ++ x))) (ap (λ (y : Path). is_between y q) s ∙ between_itself q ne))
      | inr other ↦
          get_put_other k (at ++ q) folder (at ++ x) (λ s. other (append_cancel_left at x q s))
          ∙ ap (λ (y : Path). get (with_folders n y t) (at ++ x)) (parent_below at q ne)
          ∙ folders_below n at (parent q) x t (parent-length q n l)
          ∙ ap (λ b. cond (not (is_root x) && b) (Some folder) (get t (at ++ x))) (sym (under_step x q ne other))
    ]
  where
    between_itself : (q : Path) → q ≢ [] → is_between q q ≡ true
    between_itself [] ne = absurd (ne refl)
    between_itself (c ∷ q) ne = under-refl (c ∷ q)

-- what a file at a path below makes of another such path
abbrev pub step : Path × List ℕ → Path → Option Item → Option Item
step e x o = cond (eq_by_cmp path_cmp x e.0) (Some (file e.1)) (cond (is_between x e.0) (Some folder) o)

abbrev pub look : Files → Path → Option Item → Option Item
look [] x o = o
look (e ∷ es) x o = look es x (step e x o)

member_apart : (at q p : Path) (bytes : List ℕ) (t : Tree) → under at p ≡ false → get (put_member at q bytes t) p ≡ get t p
member_apart at [] p bytes t out =
    get_put_other t (at ++ []) (file bytes) p (λ s. false≢true (sym out ∙ ap (under at) s ∙ under-append at []))
member_apart at (c ∷ q) p bytes t out =
    let r : Path = c ∷ q in
    get_put_other (with_folders (length r - 1) (parent (at ++ r)) t) (at ++ r) (file bytes) p (λ s. false≢true (sym out ∙ ap (under at) s ∙ under-append at r))
    ∙ ap (λ (x : Path). get (with_folders (length r - 1) x t) p) (parent_below at r (cons_not_root c q))
    ∙ folders_apart (length r - 1) at (parent r) p t (length_parent r) out

member_below : (at q x : Path) (bytes : List ℕ) (t : Tree) → q ≢ [] → get (put_member at q bytes t) (at ++ x) ≡ step (q, bytes) x (get t (at ++ x))
member_below at q x bytes t ne =
    let n : ℕ = length q - 1 in
    let k : Tree = with_folders n (parent (at ++ q)) t in
    elim (path_cases x q) [
      | inl s ↦
          ap (λ (y : Path). get (insert k (at ++ q) (file bytes)) (at ++ y)) s ∙ get_put_same k (at ++ q) (file bytes)
          ∙ sym (ap (λ b. cond b (Some (file bytes)) (cond (is_between x q) (Some folder) (get t (at ++ x)))) (ap (λ (y : Path). eq_by_cmp path_cmp y q) s ∙ path_itself q))
      | inr other ↦
          get_put_other k (at ++ q) (file bytes) (at ++ x) (λ s. other (append_cancel_left at x q s))
          ∙ ap (λ (y : Path). get (with_folders n y t) (at ++ x)) (parent_below at q ne)
          ∙ folders_below n at (parent q) x t (length_parent q)
          ∙ ap (λ b. cond (not (is_root x) && b) (Some folder) (get t (at ++ x))) (sym (under_step x q ne other))
          ∙ sym (ap (λ b. cond b (Some (file bytes)) (cond (is_between x q) (Some folder) (get t (at ++ x)))) (other_path x q other))
    ]

-- ---- all files

abbrev pub HasNoRoot : Files → Type 0
HasNoRoot es = AllByRecursion (λ e. e.0 ≢ []) es

pub files_apart : (at : Path) (es : Files) (t : Tree) (p : Path) → under at p ≡ false → get (put_files at es t) p ≡ get t p
files_apart at [] t p out = refl
files_apart at (e ∷ es) t p out = files_apart at es (put_member at e.0 e.1 t) p out ∙ member_apart at e.0 p e.1 t out

pub files_below : (at : Path) (es : Files) (t : Tree) (x : Path) → HasNoRoot es → get (put_files at es t) (at ++ x) ≡ look es x (get t (at ++ x))
files_below at [] t x roots = refl
files_below at (e ∷ es) t x roots =
    files_below at es (put_member at e.0 e.1 t) x roots.1 ∙ ap (look es x) (member_below at e.0 x e.1 t roots.0)

-- ---- what is found

-- neither path lies at or below the other
pub record IsApart (p q : Path) : Type 0 where
  pub not_below : under p q ≡ false
  pub not_above : under q p ≡ false

abbrev pub AreApart : Files → Type 0
AreApart [] = ⊤
AreApart (e ∷ es) = AllByRecursion (λ f. IsApart e.0 f.0) es × AreApart es

no_bytes : (b : Bool) (o : Option Item) → bytes_of o ≡ None → bytes_of (cond b (Some folder) o) ≡ None
no_bytes true o h = refl
no_bytes false o h = h

-- at a path that isn't one of theirs there is no file
pub look-none : (es : Files) (x : Path) (o : Option Item) → find path_cmp x es ≡ None → bytes_of o ≡ None → bytes_of (look es x o) ≡ None
look-none [] x o none h = h
look-none (e ∷ es) x o none h =
    elim (eq_by_cmp path_cmp x e.0) as (λ b. cond b (Some e.1) (find path_cmp x es) ≡ None → bytes_of (look es x (cond b (Some (file e.1)) (cond (is_between x e.0) (Some folder) o))) ≡ None) [
      | true ↦ λ f. absurd (false≢true (sym (ap is_some f)))
      | false ↦ λ f. look-none es x (cond (is_between x e.0) (Some folder) o) f (no_bytes (is_between x e.0) o h)
    ] none

step_apart : (e : Path × List ℕ) (x : Path) (o : Option Item) → IsApart x e.0 → step e x o ≡ o
step_apart e x o apart =
    ap (λ b. cond b (Some (file e.1)) (cond (is_between x e.0) (Some folder) o)) (other_path x e.0 (λ s. false≢true (sym apart.not_below ∙ ap (under x) (sym s) ∙ under-refl x)))
    ∙ ap (λ b. cond (not (is_root x) && b) (Some folder) o) apart.not_below
    ∙ none_between (not (is_root x)) o
  where
    none_between : (b : Bool) (o : Option Item) → cond (b && false) (Some folder) o ≡ o
    none_between true o = refl
    none_between false o = refl

look_apart : (es : Files) (x : Path) (o : Option Item) → AllByRecursion (λ f. IsApart x f.0) es → look es x o ≡ o
look_apart [] x o all = refl
look_apart (e ∷ es) x o all = ap (look es x) (step_apart e x o all.0) ∙ look_apart es x o all.1

-- at one of their paths its file is found
pub look-found : (es : Files) (x : Path) (o : Option Item) (bytes : List ℕ) → AreApart es → find path_cmp x es ≡ Some bytes → look es x o ≡ Some (file bytes)
look-found [] x o bytes apart f = absurd (false≢true (ap is_some f))
look-found (e ∷ es) x o bytes apart f =
    elim (eq_by_cmp path_cmp x e.0) as (λ b. eq_by_cmp path_cmp x e.0 ≡ b → cond b (Some e.1) (find path_cmp x es) ≡ Some bytes → look es x (cond b (Some (file e.1)) (cond (is_between x e.0) (Some folder) o)) ≡ Some (file bytes)) [
      | true ↦ λ s here.
          look_apart es x (Some (file e.1)) (subst (λ (y : Path). AllByRecursion (λ f. IsApart y f.0) es) (sym (same_path x e.0 s)) apart.0)
          ∙ ap (λ (y : List ℕ). Some (file y)) (some_same e.1 bytes here)
      | false ↦ λ s later. look-found es x _ bytes apart.1 later
    ] refl f
  where
    some_same : (a b : List ℕ) → Some a ≡ Some b → a ≡ b
    some_same a b e = cc

-- below a folder that was made nothing but more of them stands
look_folder : (es : Files) (x : Path) → AllByRecursion (λ f. f.0 ≢ x) es → look es x (Some folder) ≡ Some folder
look_folder [] x all = refl
look_folder (e ∷ es) x all =
    ap (λ b. look es x (cond b (Some (file e.1)) (cond (is_between x e.0) (Some folder) (Some folder)))) (other_path x e.0 (λ s. all.0 (sym s)))
    ∙ ap (look es x) (either_way (is_between x e.0))
    ∙ look_folder es x all.1
  where
    either_way : (b : Bool) → cond b (Some folder) (Some folder) ≡ Some folder
    either_way true = refl
    either_way false = refl

pub look_root : (es : Files) (o : Option Item) → HasNoRoot es → look es [] o ≡ o
look_root [] o roots = refl
look_root (e ∷ es) o roots =
    ap (λ b. look es [] (cond b (Some (file e.1)) o)) (other_path [] e.0 (λ s. roots.0 (sym s))) ∙ look_root es o roots.1

-- where something is found, the path lies at or above one of theirs
abbrev pub AnyBelow : Path → Files → Type 0
AnyBelow x [] = ⊥
AnyBelow x (e ∷ es) = (under x e.0 ≡ true) ⊎ AnyBelow x es

under_of_step : (e : Path × List ℕ) (x : Path) → under x e.0 ≡ false → step e x None ≡ None
under_of_step e x out =
    ap (λ b. cond b (Some (file e.1)) (cond (is_between x e.0) (Some folder) None)) (other_path x e.0 (λ s. false≢true (sym out ∙ ap (under x) (sym s) ∙ under-refl x)))
    ∙ ap (λ b. cond (not (is_root x) && b) (Some folder) None) out
    ∙ nothing_between (not (is_root x))
  where
    nothing_between : (b : Bool) → cond (b && false) (Some folder) None ≡ None
    nothing_between true = refl
    nothing_between false = refl

pub look-below : (es : Files) (x : Path) → IsSome (look es x None) → AnyBelow x es
look-below [] x some = absurd (false≢true some)
look-below (e ∷ es) x some =
    elim (under x e.0) as (λ b. under x e.0 ≡ b → (b ≡ true) ⊎ AnyBelow x es) [
      | true ↦ λ u. inl refl
      | false ↦ λ u. inr (look-below es x (subst (λ o. IsSome (look es x o)) (under_of_step e x u) some))
    ] refl

step_folder : (e : Path × List ℕ) (x : Path) (c : List ℕ) (o : Option Item) → x ≢ [] → under (x ++ c ∷ []) e.0 ≡ true → step e x o ≡ Some folder
step_folder e [] c o ne u = absurd (ne refl)
step_folder e (d ∷ x) c o ne u =
    let y : Path = d ∷ x in
    let above : under y e.0 ≡ true = under-trans y (y ++ c ∷ []) e.0 (under-append y (c ∷ [])) u in
    let other : y ≢ e.0 = λ s. absurd (omega (arith, under-length (y ++ c ∷ []) e.0 u, ap length s, length-append y (c ∷ []))) in
    ap (λ b. cond b (Some (file e.1)) (cond (is_between y e.0) (Some folder) o)) (other_path y e.0 other)
    ∙ ap (λ b. cond b (Some folder) o) above

-- the folder above what stands below the path is one
pub look-parent : (es : Files) (x : Path) (c : List ℕ) (o : Option Item) → x ≢ [] → AreApart es → IsSome (look es (x ++ c ∷ []) None) → look es x o ≡ Some folder
look-parent [] x c o ne apart some = absurd (false≢true some)
look-parent (e ∷ es) x c o ne apart some =
    elim (under (x ++ c ∷ []) e.0) as (λ b. under (x ++ c ∷ []) e.0 ≡ b → look es x (step e x o) ≡ Some folder) [
      | true ↦ λ u.
          ap (look es x) (step_folder e x c o ne u)
          ∙ look_folder es x (all_weaker (λ f. IsApart e.0 f.0) (λ f. f.0 ≢ x) es
          (λ f far s. false≢true (sym far.not_above ∙ ap (λ (y : Path). under y e.0) s ∙ under-trans x (x ++ c ∷ []) e.0 (under-append x (c ∷ [])) u)) apart.0)
      | false ↦ λ u. look-parent es x c (step e x o) ne apart.1 (subst (λ o. IsSome (look es (x ++ c ∷ []) o)) (under_of_step e (x ++ c ∷ []) u) some)
    ] refl

-- ---- the entries of a map of files

some_more : {X : Type 0} (e : Path × X) (es : List (Path × X)) (x : Path) → IsSome (find path_cmp x es) → IsSome (find path_cmp x (e ∷ es))
some_more e es x some =
    elim (eq_by_cmp path_cmp x e.0) as (λ b. IsSome (cond b (Some e.1) (find path_cmp x es))) [ true ↦ refl | false ↦ some ]

all_found : {X : Type 0} (es : List (Path × X)) → AllByRecursion (λ e. IsSome (find path_cmp e.0 es)) es
all_found [] = tt
all_found (e ∷ es) = (
  ap (λ b. is_some (cond b (Some e.1) (find path_cmp e.0 es))) (path_itself e.0),
  all_weaker (λ f. IsSome (find path_cmp f.0 es)) (λ f. IsSome (find path_cmp f.0 (e ∷ es))) es (λ f some. some_more e es f.0 some) (all_found es),
)

pub entries_in : {X : Type 0} (m : FinMap path_cmp X) → AllByRecursion (λ e. IsSome (get m e.0)) (entries m)
entries_in m = all_weaker (λ e. IsSome (find path_cmp e.0 (entries m))) (λ e. IsSome (get m e.0)) (entries m) (λ e some. ap is_some (get-entries m e.0) ∙ some) (all_found (entries m))

abbrev AreIn : FinMap path_cmp (List ℕ) → Files → Type 0
AreIn m es = AllByRecursion (λ e. IsSome (get m e.0)) es

pub no_root : (m : FinMap path_cmp (List ℕ)) → IsFileMap m → HasNoRoot (entries m)
no_root m is =
    all_weaker (λ e. IsSome (get m e.0)) (λ e. e.0 ≢ []) (entries m)
    (λ e some s. false≢true (sym (ap is_some (ap (get m) s ∙ is.rootless)) ∙ some)) (entries_in m)

less_other : (p q : Path) → T (is_lt (path_cmp p q)) → p ≢ q
less_other p q l s = subst T (ap is_lt (ap (path_cmp p) (sym s) ∙ tied_itself path_cmp-total p)) l

two_parts : (a b : Bool) → T (a && b) → T a × T b
two_parts true true h = (tt, tt)
two_parts true false h = absurd h
two_parts false b h = absurd h

apart_from : (m : FinMap path_cmp (List ℕ)) (e : Path × List ℕ) (es : Files) → IsFileMap m → IsSome (get m e.0) → AreIn m es → T (below_all path_cmp e.0 es) → AllByRecursion (λ f. IsApart e.0 f.0) es
apart_from m e [] is some all below = tt
apart_from m e (f ∷ es) is some all below =
    let parts = two_parts (is_lt (path_cmp e.0 f.0)) (below_all path_cmp e.0 es) below in
    let other : e.0 ≢ f.0 = less_other e.0 f.0 parts.0 in (
      record {
        not_below = false_from_ne_true (under e.0 f.0) (λ u. other (is.apart e.0 f.0 some all.0 u));
        not_above = false_from_ne_true (under f.0 e.0) (λ u. other (sym (is.apart f.0 e.0 all.0 some u)));
      },
      apart_from m e es is some all.1 parts.1,
    )

all_apart : (m : FinMap path_cmp (List ℕ)) (es : Files) → IsFileMap m → AreIn m es → T (is_sorted path_cmp es) → AreApart es
all_apart m [] is all sorted = tt
all_apart m (e ∷ es) is all sorted =
    let parts = two_parts (below_all path_cmp e.0 es) (is_sorted path_cmp es) sorted in
    (apart_from m e es is all.0 all.1 parts.0, all_apart m es is all.1 parts.1)

pub are_apart : (m : FinMap path_cmp (List ℕ)) → IsFileMap m → AreApart (entries m)
are_apart m is = all_apart m (entries m) is (entries_in m) (entries_sorted m)
