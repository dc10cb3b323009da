-- What an edit leaves.
use Rattle.std.proofs.Common.{◌≡◌, ◌≢◌, ℕ, zero, suc, Bool, true, false, cond, not, ◌&&◌, [], ◌∷◌, ◌++◌, length, refl, sym, ap, subst, ◌∙◌, inl, inr, None, Some}
use Rattle.std.specs.FinMap.{get, insert}
use Rattle.std.proofs.lemmas.Bool.{false≢true, false_from_ne_true, or_parts, not_from_true, not_from_false, not-false}
use Rattle.std.proofs.lemmas.List.{append-nil}
use Rattle.dvc_base.specs.Path.{Path, under}
use Rattle.dvc_base.proofs.PathLemmas.{under-refl, under-trans, under-append}
use Rattle.world_api.specs.Tree.{Tree, folder, item_at, value_at, value_of, IsRelPath, IsTree}
use Rattle.world_api.specs.History.{Moment}
use Rattle.world_api.specs.Calls.{parent}
use Rattle.world_api.proofs.TreeLemmas.{item_kept, item_gone, item_put_same, item_put_other, get_gone, path_cases, cons_not_root, under_parent, parent_apart, tree-without}
use Rattle.sim_world.specs.Answer.{told}
use Rattle.sim_world.specs.Call.{IsEdited}
use Rattle.sim_world.specs.Change.{edited}
use Rattle.sim_world.specs.Edits.{without, with_folders, folders_above, place, is_nothing, put_value, is_folder, is_new_above, is_edited, edited_tree}
use Rattle.sim_world.specs.Good.{IsGood, IsFit}
use Rattle.sim_world.specs.declared.value.Value.{Value}
use Rattle.sim_world.specs.declared.value.Value.TheVariants.{Nothing, File, Files}
use Rattle.sim_world.proofs.BookLemmas.{stays_met}
use Rattle.sim_world.proofs.FolderLemmas.{folder_is, folders_other, folders-tree, place_other}
use Rattle.sim_world.proofs.PlaceTree.{item_from, rel_under, place-tree, place-value}

-- ---- what an edit leaves

-- a folder that stands stays one
folders_keep : (n : ℕ) (at : Path) (t : Tree) (p : Path) → item_at t p ≡ Some folder → item_at (with_folders n at t) p ≡ Some folder
folders_keep zero at t p e = e
folders_keep (suc n) at t [] e = refl
folders_keep (suc n) at t (c ∷ p) e =
    let k : Tree = with_folders n (parent at) t in
    elim (path_cases at (c ∷ p)) [
      | inl s ↦ subst (λ (q : Path). item_at (insert k q folder) (c ∷ p) ≡ Some folder) (sym s) (item_put_same k (c ∷ p) folder (cons_not_root c p))
      | inr ne ↦ item_put_other k at folder (c ∷ p) (λ s. ne (sym s)) ∙ folders_keep n (parent at) t (c ∷ p) e
    ]

-- a path that an edit doesn't write at was a folder, where it is above
stood_above : (at p : Path) (t : Tree) → (under p at && not (is_folder (item_at t p))) ≡ false → under p at ≡ true → item_at t p ≡ Some folder
stood_above at p t out u =
    let gone : not (is_folder (item_at t p)) ≡ false = sym (ap (λ (b : Bool). b && not (is_folder (item_at t p))) u) ∙ out in
    folder_is (item_at t p) (not-false (is_folder (item_at t p)) gone)

above_kept : (at p : Path) (t : Tree) → under at p ≡ false → (under p at && not (is_folder (item_at t p))) ≡ false → item_at (folders_above at (without at t)) p ≡ item_at t p
above_kept at p t apart out =
    let above : Path = parent at in
    let kept : item_at (without at t) p ≡ item_at t p = item_kept t (λ q. not (under at q)) p (not_from_false (under at p) apart) in
    elim (under p above) as (λ b. under p above ≡ b → item_at (folders_above at (without at t)) p ≡ item_at t p) [
      | true ↦ λ u.
          let stood : item_at t p ≡ Some folder = stood_above at p t out (under-trans p above at u (under_parent at)) in
          folders_keep (length above) above (without at t) p (kept ∙ stood) ∙ sym stood
      | false ↦ λ u. item_from (folders_above at (without at t)) (without at t) p (folders_other (length above) above (without at t) p refl u) ∙ kept
    ] refl

edited_other : (at : Path) (value : Value) (t : Tree) (p : Path) → at ≢ [] → is_edited at value t p ≡ false → item_at (edited_tree at value t) p ≡ item_at t p
edited_other [] value t p ne out = absurd (ne refl)
edited_other (c ∷ at) value t p ne out =
    let q : Path = c ∷ at in
    let parts = or_parts (under q p) (is_new_above q value t p) out in
    elim (is_nothing value) as (λ b. (not b && (under p q && not (is_folder (item_at t p)))) ≡ false → item_at (cond b (without q t) (place q value (folders_above q (without q t)))) p ≡ item_at t p) [
      | true ↦ λ e. item_kept t (λ r. not (under q r)) p (not_from_false (under q p) parts.0)
      | false ↦ λ e. place_other q value (folders_above q (without q t)) p parts.0 ∙ above_kept q p t parts.0 e
    ] parts.1

nothing_is : (value : Value) → is_nothing value ≡ true → value ≡ Nothing
nothing_is Nothing e = refl
nothing_is (File bytes) e = absurd (false≢true e)
nothing_is (Files m) e = absurd (false≢true e)

-- nothing stands at the path or below it, where only folders above it were made
pub above_gone : (at x : Path) (t : Tree) → at ≢ [] → get (folders_above at (without at t)) (at ++ x) ≡ None
above_gone at x t ne =
    let above : Path = parent at in
    folders_other (length above) above (without at t) (at ++ x) refl
    (false_from_ne_true (under (at ++ x) above) (λ u. false≢true (sym (parent_apart at ne) ∙ under-trans at (at ++ x) above (under-append at x) u)))
    ∙ get_gone t (λ p. not (under at p)) (at ++ x) (not_from_true (under at (at ++ x)) (under-append at x))

edited_value : (at : Path) (value : Value) (t : Tree) → IsGood value → at ≢ [] → value_at (edited_tree at value t) at ≡ told value
edited_value [] value t good ne = absurd (ne refl)
edited_value (c ∷ at) value t good ne =
    let q : Path = c ∷ at in
    let above : Tree = folders_above q (without q t) in
    elim (is_nothing value) as (λ b. is_nothing value ≡ b → value_at (cond b (without q t) (place q value above)) q ≡ told value) [
      | true ↦ λ e. ap (value_of (without q t) q) (item_gone t (λ p. not (under q p)) q ne (not_from_true (under q q) (under-refl q))) ∙ ap told (sym (nothing_is value e))
      | false ↦ λ e. place-value q value above (place q value above) good ne (ap (get above) (sym (append-nil q)) ∙ above_gone q [] t ne) (λ x nx. above_gone q x t ne) (λ x. refl)
    ] refl

pub edit_done : (at : Path) (value : Value) (m : Moment) → IsGood value → at ≢ [] → IsEdited at value m (edited at value m)
edit_done at value m good ne = record {
  stands = edited_value at value m.tree good ne;
  firm = λ p u. ap (λ (b : Bool). not b && m.loose p) u;
  others = record {
    items = λ p out. edited_other at value m.tree p ne out;
    loose = λ p out. ap (λ (b : Bool). not b && m.loose p) out;
  };
  aside = stays_met (told value ∷ []) m.aside;
}

-- an edit leaves a tree
pub put-tree : (at : Path) (value : Value) (t : Tree) → IsTree t → IsRelPath at → IsFit at value → IsGood value → at ≢ [] → IsTree (put_value at value (without at t))
put-tree at value t is rel fits good ne =
    let kept : Tree = without at t in
    let so = folders-tree (length (parent at)) (parent at) kept refl (rel_under (parent at) at (under_parent at) rel) (tree-without t at is) in
    elim (is_nothing value) as (λ b. IsTree (cond b kept (place at value (folders_above at kept)))) [
      | true ↦ tree-without t at is
      | false ↦ place-tree at value (folders_above at kept) so.0 rel fits good ne so.1 (λ x nx. above_gone at x t ne)
    ]
