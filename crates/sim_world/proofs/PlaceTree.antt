-- A value put at a path leaves a tree, and stands there.
--     place-tree       it is one
--     place-value      the value at the path is the one that was put
use Rattle.std.proofs.Common.{◌≡◌, ◌≢◌, ℕ, ◌≤◌, Bool, true, false, cond, not, List, [], ◌∷◌, ◌++◌, length, drop, refl, sym, ap, subst, ◌∙◌, arith, append_assoc, inl, inr, Option, Some, None}
use Rattle.std.specs.Prelude.{IsSome, is_some, T, ◌&&◌}
use Rattle.std.specs.Ordering.{eq_by_cmp, is_eq, is_lt}
use Rattle.std.specs.declared.cmp.Ordering.{Ordering}
use Rattle.std.specs.declared.cmp.Ordering.TheVariants.{Less, Equal, Greater}
use Rattle.std.specs.FinMap.{FinMap, get, insert, find, entries, entries_sorted, is_sorted, get-entries, get-from_entries, same_map}
use Rattle.std.specs.FinMap.Entries.{below_all}
use Rattle.std.proofs.lemmas.Bool.{false≢true, not_from_true}
use Rattle.std.proofs.lemmas.List.{append_cancel_left, append-nil, length-append}
use Rattle.std.proofs.lemmas.List.Elements.{All-take}
use Rattle.std.proofs.Math.Seq.{take-append_seam}
use Rattle.dvc_base.specs.Path.{Path, under, joined}
use Rattle.dvc_base.specs.Normal.{IsName, IsNormal}
use Rattle.dvc_base.proofs.PathLemmas.{under-split, under-append}
use Rattle.world_api.specs.Tree.{Tree, Item, folder, file, path_cmp, item_at, members, value_of, value_at, members_of, IsRelPath, IsTree}
use Rattle.world_api.specs.Calls.{parent}
use Rattle.world_api.proofs.TreeLemmas.{path_cmp-total, path_cmp-antisym, path_itself, other_path, path_cases, get_put_same, get_put_other, get_gone, parent_push, tree-put}
use Rattle.sim_world.specs.Answer.{told}
use Rattle.sim_world.specs.Edits.{without, place, put_files}
use Rattle.file_hash.specs.Files.{IsFileMap}
use Rattle.sim_world.specs.Good.{IsGood, IsFit, AreFit}
use Rattle.sim_world.specs.Item.{bytes_of}
use Rattle.sim_world.specs.declared.value.Value.{Value}
use Rattle.sim_world.specs.declared.value.Value.TheVariants.{Nothing, File, Files}
use Rattle.sim_world.proofs.PlaceLemmas.{HasNoRoot, AreApart, AnyBelow, look, parent_below, files_apart, files_below, look-none, look-found, look-below, look-parent, look_root, no_root, are_apart}

-- ---- paths

joined_le : (q rest : Path) → length (joined q) ≤ length (joined (q ++ rest))
joined_le [] rest = omega arith
joined_le (c ∷ []) [] = omega arith
joined_le (c ∷ []) (d ∷ rest) = omega (arith, length-append c (47 ∷ joined (d ∷ rest)))
joined_le (c ∷ d ∷ q) rest =
    omega (arith, joined_le (d ∷ q) rest, length-append c (47 ∷ joined (d ∷ q)), length-append c (47 ∷ joined (d ∷ (q ++ rest))))

pub rel_front : (q rest : Path) → IsRelPath (q ++ rest) → IsRelPath q
rel_front q rest is = record {
  normal = subst IsNormal (take-append_seam q rest) (All-take IsName (length q) (q ++ rest) is.normal);
  short = omega (arith, joined_le q rest, is.short);
}

pub rel_under : (q p : Path) → under q p ≡ true → IsRelPath p → IsRelPath q
rel_under q p u is = rel_front q (drop (length q) p) (subst IsRelPath (under-split q p u) is)

fit_below : (at x : Path) (es : List (Path × List ℕ)) → AnyBelow x es → AreFit at es → IsRelPath (at ++ x)
fit_below at x [] any fits = absurd any
fit_below at x (e ∷ es) (inl u) fits =
    let rest : Path = drop (length x) e.0 in
    rel_front (at ++ x) rest (subst IsRelPath (ap (λ (y : Path). at ++ y) (under-split x e.0 u) ∙ sym (append_assoc at x rest)) fits.0)
fit_below at x (e ∷ es) (inr any) fits = fit_below at x es any fits.1

pub item_get : (t : Tree) (p : Path) → p ≢ [] → item_at t p ≡ get t p
item_get t [] ne = absurd (ne refl)
item_get t (c ∷ p) ne = refl

pub item_from : (a b : Tree) (p : Path) → get a p ≡ get b p → item_at a p ≡ item_at b p
item_from a b [] e = refl
item_from a b (c ∷ p) e = e

root_apart : (at : Path) → at ≢ [] → under at [] ≡ false
root_apart [] ne = absurd (ne refl)
root_apart (c ∷ at) ne = refl

below_not_root : (at x : Path) → at ≢ [] → (at ++ x) ≢ []
below_not_root [] x ne s = ne refl
below_not_root (c ∷ at) x ne s = absurd (cc)

-- ---- it leaves a tree

-- nothing stands below the path
abbrev pub IsBare : Path → Tree → Type 0
IsBare at t = (x : Path) → x ≢ [] → get t (at ++ x) ≡ None

some_from : {X : Type 0} (a b : Option X) → a ≡ b → IsSome a → IsSome b
some_from a b e some = ap is_some (sym e) ∙ some

module _ (at : Path) (es : List (Path × List ℕ)) (t : Tree) (ne : at ≢ []) (is : IsTree t) (here : get t at ≡ Some folder) (bare : IsBare at t) (roots : HasNoRoot es) (apart : AreApart es) (fits : AreFit at es) where
  k : Tree
  k = put_files at es t

  outside : (p : Path) → under at p ≡ false → item_at k p ≡ item_at t p
  unfolding k
  outside p out = item_from (put_files at es t) t p (files_apart at es t p out)

  at_top : get k at ≡ Some folder
  unfolding k
  at_top =
      ap (get (put_files at es t)) (sym (append-nil at)) ∙ files_below at es t [] roots ∙ look_root es (get t (at ++ [])) roots
      ∙ ap (get t) (append-nil at) ∙ here

  below : (x : Path) → x ≢ [] → get k (at ++ x) ≡ look es x None
  unfolding k
  below x nx = files_below at es t x roots ∙ ap (look es x) (bare x nx)

  -- the folder above what stands below the path
  inside : (x : Path) (c : List ℕ) → IsSome (get k (at ++ (x ++ c ∷ []))) → get k (at ++ x) ≡ Some folder
  inside x c some =
      elim (path_cases x []) [
        | inl s ↦ ap (λ (y : Path). get k (at ++ y)) s ∙ ap (get k) (append-nil at) ∙ at_top
        | inr nx ↦
            below x nx
            ∙ look-parent es x c None nx apart (some_from _ _ (below (x ++ c ∷ []) (λ s. absurd (omega (arith, ap length s, length-append x (c ∷ []))))) some)
      ]

  at_or_below : (p : Path) (c : List ℕ) → under at (p ++ c ∷ []) ≡ true → under at p ≡ false → p ++ c ∷ [] ≡ at
  at_or_below p c u out =
      let x : Path = drop (length at) (p ++ c ∷ []) in
      let parts : p ++ c ∷ [] ≡ at ++ x = under-split at (p ++ c ∷ []) u in
      elim (path_cases x []) [
        | inl s ↦ parts ∙ ap (λ (y : Path). at ++ y) s ∙ append-nil at
        | inr nx ↦ absurd (false≢true (sym out ∙ ap (under at) (sym (parent_push p c) ∙ ap parent parts ∙ parent_below at x nx) ∙ under-append at (parent x)))
      ]

  stood : (p : Path) (c : List ℕ) → IsSome (get k (p ++ c ∷ [])) → under at p ≡ false → IsSome (get t (p ++ c ∷ []))
  unfolding k
  stood p c some out =
      elim (under at (p ++ c ∷ [])) as (λ b. under at (p ++ c ∷ []) ≡ b → IsSome (get t (p ++ c ∷ []))) [
        | true ↦ λ u. ap is_some (ap (get t) (at_or_below p c u out) ∙ here)
        | false ↦ λ far. some_from _ _ (files_apart at es t (p ++ c ∷ []) far) some
      ] refl

  parents_of : (p : Path) (c : List ℕ) → IsSome (get k (p ++ c ∷ [])) → item_at k p ≡ Some folder
  parents_of p c some =
      elim (under at p) as (λ b. under at p ≡ b → item_at k p ≡ Some folder) [
        | true ↦ λ v.
            let x : Path = drop (length at) p in
            let parts : p ≡ at ++ x = under-split at p v in
            let whole : p ++ c ∷ [] ≡ at ++ (x ++ c ∷ []) = ap (λ (y : Path). y ++ c ∷ []) parts ∙ append_assoc at x (c ∷ []) in
            ap (item_at k) parts ∙ item_get k (at ++ x) (below_not_root at x ne) ∙ inside x c (some_from _ _ (ap (get k) whole) some)
        | false ↦ λ out. outside p out ∙ is.parents p c (stood p c some out)
      ] refl

  paths_of : (p : Path) → IsSome (get k p) → IsRelPath p
  unfolding k
  paths_of p some =
      elim (under at p) as (λ b. under at p ≡ b → IsRelPath p) [
        | true ↦ λ v.
            let x : Path = drop (length at) p in
            let parts : p ≡ at ++ x = under-split at p v in
            elim (path_cases x []) [
              | inl s ↦ is.paths p (ap is_some (ap (get t) (parts ∙ ap (λ (y : Path). at ++ y) s ∙ append-nil at) ∙ here))
              | inr nx ↦ subst IsRelPath (sym parts) (fit_below at x es (look-below es x (some_from _ _ (ap (get (put_files at es t)) parts ∙ below x nx) some)) fits)
            ]
        | false ↦ λ out. is.paths p (some_from _ _ (files_apart at es t p out) some)
      ] refl

  pub files-tree : IsTree (put_files at es t)
  unfolding k
  files-tree = record {
    rootless = files_apart at es t [] (root_apart at ne) ∙ is.rootless;
    parents = parents_of;
    paths = paths_of;
  }

folder_bare : (at : Path) (t : Tree) → IsBare at t → IsBare at (insert t at folder)
folder_bare at t bare x nx =
    get_put_other t at folder (at ++ x) (λ s. nx (append_cancel_left at x [] (s ∙ sym (append-nil at)))) ∙ bare x nx

pub place-tree : (at : Path) (value : Value) (t : Tree) → IsTree t → IsRelPath at → IsFit at value → IsGood value → at ≢ [] → item_at t (parent at) ≡ Some folder → IsBare at t → IsTree (place at value t)
place-tree at Nothing t is rel fits good ne above bare = is
place-tree at (File bytes) t is rel fits good ne above bare =
    tree-put t at (file bytes) is rel ne above (λ c some. absurd (false≢true (sym (ap is_some (bare (c ∷ []) (λ s. absurd (cc)))) ∙ some)))
place-tree at (Files m) t is rel fits good ne above bare =
    files-tree at (entries m) (insert t at folder) ne (tree-put t at folder is rel ne above (λ c some. refl)) (get_put_same t at folder) (folder_bare at t bare) (no_root m good) (are_apart m good) fits

pub bare_without : (at : Path) (t : Tree) → IsBare at (without at t)
bare_without at t x nx = get_gone t (λ p. not (under at p)) (at ++ x) (not_from_true (under at (at ++ x)) (under-append at x))

-- ---- the value stands there

none_below : (p : Path) (es : List (Path × Item)) → T (below_all path_cmp p es) → find path_cmp p es ≡ None
none_below p [] h = refl
none_below p (e ∷ es) h =
    let parts = halves (is_lt (path_cmp p e.0)) (below_all path_cmp p es) h in
    ap (λ b. cond b (Some e.1) (find path_cmp p es)) (less_not (path_cmp p e.0) parts.0) ∙ none_below p es parts.1
  where
    halves : (a b : Bool) → T (a && b) → T a × T b
    halves true true h = (tt, tt)
    halves true false h = absurd h
    halves false b h = absurd h

    less_not : (r : Ordering) → T (is_lt r) → is_eq r ≡ false
    less_not Less h = refl
    less_not Equal h = absurd h
    less_not Greater h = absurd h

below_of : (e : Path × Item) (es : List (Path × Item)) → T (is_sorted path_cmp (e ∷ es)) → T (below_all path_cmp e.0 es) × T (is_sorted path_cmp es)
below_of e es h = halves (below_all path_cmp e.0 es) (is_sorted path_cmp es) h
  where
    halves : (a b : Bool) → T (a && b) → T a × T b
    halves true true h = (tt, tt)
    halves true false h = absurd h
    halves false b h = absurd h

pub members_found : (at x : Path) (es : List (Path × Item)) → T (is_sorted path_cmp es) → find path_cmp x (members_of at es) ≡ bytes_of (find path_cmp (at ++ x) es)
members_found at x [] h = refl
members_found at x ((p, folder) ∷ es) h =
    let parts = below_of (p, folder) es h in
    members_found at x es parts.1
    ∙ elim (path_cases (at ++ x) p) [
      | inl s ↦
          ap bytes_of (ap (λ (y : Path). find path_cmp y es) s ∙ none_below p es parts.0)
          ∙ sym (ap (λ b. bytes_of (cond b (Some folder) (find path_cmp (at ++ x) es))) (ap (λ (y : Path). eq_by_cmp path_cmp y p) s ∙ path_itself p))
      | inr other ↦ sym (ap (λ b. bytes_of (cond b (Some folder) (find path_cmp (at ++ x) es))) (other_path (at ++ x) p other))
    ]
members_found at x ((p, file bytes) ∷ es) h =
    let rest : find path_cmp x (members_of at es) ≡ bytes_of (find path_cmp (at ++ x) es) = members_found at x es (below_of (p, file bytes) es h).1 in
    let goal : Bool → Type 0 = λ b. find path_cmp x (cond b ((drop (length at) p, bytes) ∷ []) [] ++ members_of at es) ≡ bytes_of (cond (eq_by_cmp path_cmp (at ++ x) p) (Some (file bytes)) (find path_cmp (at ++ x) es)) in
    elim (under at p) as (λ b. under at p ≡ b → goal b) [
      | true ↦ λ u.
          let parts : p ≡ at ++ drop (length at) p = under-split at p u in
          elim (path_cases x (drop (length at) p)) [
            | inl s ↦
                ap (λ b. cond b (Some bytes) (find path_cmp x (members_of at es))) (ap (λ (y : Path). eq_by_cmp path_cmp y (drop (length at) p)) s ∙ path_itself (drop (length at) p))
                ∙ sym (ap (λ b. bytes_of (cond b (Some (file bytes)) (find path_cmp (at ++ x) es))) (ap (λ (y : Path). eq_by_cmp path_cmp y p) (ap (λ (y : Path). at ++ y) s ∙ sym parts) ∙ path_itself p))
            | inr other ↦
                ap (λ b. cond b (Some bytes) (find path_cmp x (members_of at es))) (other_path x (drop (length at) p) other)
                ∙ rest
                ∙ sym (ap (λ b. bytes_of (cond b (Some (file bytes)) (find path_cmp (at ++ x) es))) (other_path (at ++ x) p (λ s. other (append_cancel_left at x _ (s ∙ parts)))))
          ]
      | false ↦ λ out.
          rest
          ∙ sym (ap (λ b. bytes_of (cond b (Some (file bytes)) (find path_cmp (at ++ x) es))) (other_path (at ++ x) p (λ s. false≢true (sym out ∙ ap (under at) (sym s) ∙ under-append at x))))
    ] refl

pub folder-value : (k : Tree) (at : Path) (m : FinMap path_cmp (List ℕ)) → item_at k at ≡ Some folder → ((x : Path) → bytes_of (get k (at ++ x)) ≡ get m x) → value_at k at ≡ members m
folder-value k at m e same =
    ap (value_of k at) e
    ∙ ap members (same_map path_cmp-total path_cmp-antisym _ m (λ x.
    get-from_entries path_cmp-total (members_of at (entries k)) x
    ∙ members_found at x (entries k) (entries_sorted k)
    ∙ ap bytes_of (sym (get-entries k (at ++ x)))
    ∙ same x))

files_value : (m : FinMap path_cmp (List ℕ)) → IsFileMap m → (x : Path) → x ≢ [] → bytes_of (look (entries m) x None) ≡ get m x
files_value m is x nx =
    elim (find path_cmp x (entries m)) as (λ o. find path_cmp x (entries m) ≡ o → bytes_of (look (entries m) x None) ≡ o) [
      | None ↦ λ e. look-none (entries m) x None e refl
      | Some bytes ↦ λ e. ap bytes_of (look-found (entries m) x None bytes (are_apart m is) e)
    ] refl
    ∙ sym (get-entries m x)

pub place-value : (at : Path) (value : Value) (t k : Tree) → IsGood value → at ≢ [] → get t at ≡ None → IsBare at t → ((x : Path) → get k (at ++ x) ≡ get (place at value t) (at ++ x)) → value_at k at ≡ told value
place-value at Nothing t k good ne gone bare same =
    ap (value_of k at) (item_get k at ne ∙ ap (get k) (sym (append-nil at)) ∙ same [] ∙ ap (get t) (append-nil at) ∙ gone)
place-value at (File bytes) t k good ne gone bare same =
    ap (value_of k at) (item_get k at ne ∙ ap (get k) (sym (append-nil at)) ∙ same [] ∙ ap (get (insert t at (file bytes))) (append-nil at) ∙ get_put_same t at (file bytes))
place-value at (Files m) t k good ne gone bare same =
    let es : List (Path × List ℕ) = entries m in
    let t1 : Tree = insert t at folder in
    let top : get k at ≡ Some folder =
    ap (get k) (sym (append-nil at)) ∙ same [] ∙ files_below at es t1 [] (no_root m good) ∙ look_root es (get t1 (at ++ [])) (no_root m good)
    ∙ ap (get t1) (append-nil at) ∙ get_put_same t at folder in
    folder-value k at m (item_get k at ne ∙ top) (λ x.
    elim (path_cases x []) [
      | inl s ↦ ap (λ (y : Path). bytes_of (get k (at ++ y))) s ∙ ap (λ (y : Path). bytes_of (get k y)) (append-nil at) ∙ ap bytes_of top ∙ sym (good.rootless) ∙ ap (get m) (sym s)
      | inr nx ↦ ap bytes_of (same x ∙ files_below at es t1 x (no_root m good) ∙ ap (look es x) (folder_bare at t bare x nx)) ∙ files_value m good x nx
    ])
