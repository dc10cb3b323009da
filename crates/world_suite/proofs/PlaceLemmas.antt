-- Of the folder above a path, and of what stands at a path and above it.
--     parent_of       a path that is one component longer than another at or above it has that for its parent
--     road_root       the root alone stands at or above the root
--     road_from, road_on       no file stands at a path or above it where none stands at it, nor at or above its parent
use Rattle.std.proofs.Common.{◌≡◌, ◌≢◌, ◌-◌, ℕ, Bool, true, List, [], ◌∷◌, ◌++◌, length, drop, refl, ap, sym, subst, inl, inr, ◌∙◌, append_assoc, arith, Result, Ok, Err, IfOk}
use Rattle.std.proofs.lemmas.Bool.{false≢true}
use Rattle.std.proofs.lemmas.List.{length-drop, append-nil}
use Rattle.dvc_base.specs.Path.{Path, under}
use Rattle.dvc_base.proofs.PathLemmas.{under-split, under-append}
use Rattle.world_api.specs.Tree.{Tree}
use Rattle.world_api.specs.History.{History}
use Rattle.world_api.specs.Outside.{tree_of}
use Rattle.world_api.specs.Calls.{parent}
use Rattle.world_api.specs.Writes.{IsNoFileAt, HasRoad}
use Rattle.world_api.proofs.TreeLemmas.{parent_push, split_last, path_cases}

single : (l : Path) → length l ≡ 1 → (c : List ℕ) × (l ≡ c ∷ [])
single [] e = absurd (omega arith)
single (c ∷ []) e = (c, refl)
single (c ∷ d ∷ l) e = absurd (omega arith)

pub parent_of : (q p : Path) → under q p ≡ true → length p - length q ≡ 1 → parent p ≡ q
parent_of q p below one =
    let last = single (drop (length q) p) (length-drop (length q) p ∙ one) in
    ap parent (under-split q p below ∙ ap (λ (x : Path). q ++ x) last.1) ∙ parent_push q last.0

-- ---- no file stands at the path or above it

under_above : (q p : Path) → under q p ≡ true → q ≢ p → under q (parent p) ≡ true
under_above q p u ne =
    let rest : Path = drop (length q) p in
    let split = under-split q p u in
    let last = split_last rest (λ e. ne (sym (split ∙ ap (λ (x : Path). q ++ x) e ∙ append-nil q))) in
    let whole : p ≡ (q ++ parent rest) ++ last.0 ∷ [] = split ∙ ap (λ (x : Path). q ++ x) last.1 ∙ sym (append_assoc q (parent rest) (last.0 ∷ [])) in
    ap (under q) (ap parent whole ∙ parent_push (q ++ parent rest) last.0) ∙ under-append q (parent rest)

pub road_root : (t : Tree) → IsNoFileAt t [] → HasRoad [] t
road_root t none [] u = none
road_root t none (c ∷ q) u = absurd (false≢true u)

pub road_from : (at above : Path) (t : Tree) → parent at ≡ above → IsNoFileAt t at → HasRoad above t → HasRoad at t
road_from at above t e none road q u =
    elim (path_cases q at) as (λ w. IsNoFileAt t q) [
      | inl same ↦ subst (IsNoFileAt t) (sym same) none
      | inr ne ↦ road q (subst (λ (x : Path). under q x ≡ true) e (under_above q at u ne))
    ]

pub road_on : {E : Type 0} (r : Result Bool E) (told : Type 0) (at above : Path) (old new : History) → parent at ≡ above → (told → IsNoFileAt (tree_of old) at) → IfOk r (λ _. told → new ≡ old) → IfOk r (λ is. is ≡ true → told → HasRoad above (tree_of new)) → IfOk r (λ is. is ≡ true → told → HasRoad at (tree_of new))
road_on (Ok is) told at above old new e none same road =
    λ yes says. road_from at above (tree_of new) e (subst (λ (h : History). IsNoFileAt (tree_of h) at) (sym (same says)) (none says)) (road yes says)
road_on (Err why) told at above old new e none same road = tt
