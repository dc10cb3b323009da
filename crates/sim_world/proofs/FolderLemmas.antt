-- Laws of folders that are made, and of a value put where the folder above stands.
use Rattle.std.proofs.Common.{◌≡◌, ◌≢◌, ℕ, zero, suc, true, false, not, [], ◌∷◌, length, Option, Some, None, refl, sym, ap, subst, ◌∙◌, Result, Ok, Err, OnOk, OnErr}
use Rattle.std.specs.FinMap.{get, insert, entries}
use Rattle.std.proofs.lemmas.Bool.{false≢true, false_from_ne_true, not_from_false}
use Rattle.dvc_base.specs.Path.{Path, under}
use Rattle.dvc_base.proofs.PathLemmas.{under-refl, under-trans}
use Rattle.world_api.specs.Tree.{Tree, Item, folder, file, item_at, IsRelPath, IsTree}
use Rattle.world_api.specs.Calls.{parent}
use Rattle.world_api.proofs.TreeLemmas.{tree-put, tree-without, get_put_other, item_put_same, item_put_other, item_kept, under_parent, parent_apart, cons_not_root, long_not_root, parent-length, none_long}
use Rattle.sim_world.specs.Edits.{is_root, without, with_folders, is_folder, has_place, place}
use Rattle.sim_world.specs.Good.{IsGood, IsFit}
use Rattle.sim_world.specs.declared.value.Value.{Value}
use Rattle.sim_world.specs.declared.value.Value.TheVariants.{Nothing, File, Files}
use Rattle.sim_world.proofs.PlaceLemmas.{files_apart}
use Rattle.sim_world.proofs.PlaceTree.{item_from, rel_under, bare_without, place-tree}

pub root_not : (p : Path) → is_root p ≡ false → p ≢ []
root_not p e s = false≢true (sym e ∙ ap is_root s)

pub folders-tree : (n : ℕ) (at : Path) (t : Tree) → length at ≡ n → IsRelPath at → IsTree t → IsTree (with_folders n at t) × (item_at (with_folders n at t) at ≡ Some folder)
folders-tree zero [] t l rel is = (is, refl)
folders-tree zero (c ∷ p) t l rel is = absurd (none_long (c ∷ p) l (cons_not_root c p))
folders-tree (suc n) at t l rel is =
    let ne : at ≢ [] = long_not_root at n l in
    let so = folders-tree n (parent at) t (parent-length at n l) (rel_under (parent at) at (under_parent at) rel) is in
    (tree-put (with_folders n (parent at) t) at folder so.0 rel ne so.1 (λ c s. refl), item_put_same (with_folders n (parent at) t) at folder ne)

pub folders_other : (n : ℕ) (at : Path) (t : Tree) (p : Path) → length at ≡ n → under p at ≡ false → get (with_folders n at t) p ≡ get t p
folders_other zero at t p l apart = refl
folders_other (suc n) at t p l apart =
    get_put_other (with_folders n (parent at) t) at folder p (λ s. false≢true (sym apart ∙ ap (λ (x : Path). under x at) s ∙ under-refl at))
    ∙ folders_other n (parent at) t p (parent-length at n l) (false_from_ne_true (under p (parent at)) (λ e. false≢true (sym apart ∙ under-trans p (parent at) at e (under_parent at))))

pub folder_is : (o : Option Item) → is_folder o ≡ true → o ≡ Some folder
folder_is None e = absurd (false≢true e)
folder_is (Some folder) e = refl
folder_is (Some (file bytes)) e = absurd (false≢true e)

pub has_place-parts : (t : Tree) (at : Path) → has_place t at ≡ true → (at ≢ []) × (item_at t (parent at) ≡ Some folder)
has_place-parts t [] e = absurd (false≢true e)
has_place-parts t (c ∷ p) e = (cons_not_root c p, folder_is (item_at t (parent (c ∷ p))) e)

pub has_place-from : (t : Tree) (at : Path) → at ≢ [] → item_at t (parent at) ≡ Some folder → has_place t at ≡ true
has_place-from t [] ne above = absurd (ne refl)
has_place-from t (c ∷ p) ne above = ap is_folder above

-- a value is put at its path and below it alone
pub place_other : (at : Path) (value : Value) (t : Tree) (p : Path) → under at p ≡ false → item_at (place at value t) p ≡ item_at t p
place_other at Nothing t p apart = refl
place_other at (File bytes) t p apart =
    item_put_other t at (file bytes) p (λ s. false≢true (sym apart ∙ ap (under at) s ∙ under-refl at))
place_other at (Files m) t p apart =
    item_from _ _ p (files_apart at (entries m) (insert t at folder) p apart)
    ∙ item_put_other t at folder p (λ s. false≢true (sym apart ∙ ap (under at) s ∙ under-refl at))

pub made-tree : {T E : Type 0} (r : Result T E) (t k : Tree) (at : Path) → IsTree t → IsRelPath at → at ≢ [] → item_at t (parent at) ≡ Some folder → OnOk r (k ≡ insert t at folder) → OnErr r (k ≡ t) → IsTree k
made-tree (Ok x) t k at is rel ne above ok err = subst IsTree (sym ok) (tree-put t at folder is rel ne above (λ c some. refl))
made-tree (Err x) t k at is rel ne above ok err = subst IsTree (sym err) is

-- what a run leaves is a tree
pub left-tree : (at : Path) (value : Value) (t : Tree) → IsTree t → IsRelPath at → IsFit at value → IsGood value → at ≢ [] → item_at t (parent at) ≡ Some folder → IsTree (place at value (without at t))
left-tree at value t is rel fits good ne above =
    place-tree at value (without at t) (tree-without t at is) rel fits good ne
    (item_kept t (λ p. not (under at p)) (parent at) (not_from_false (under at (parent at)) (parent_apart at ne)) ∙ above)
    (bare_without at t)
