-- Files in the way of folders, and the folders above what stands.
--     road_of              where no file is found, none stands at or above the path
--     give_same_road       what is found stays so while a file is put below
--     folders_above        above what stands there are folders
--     object_apart         the place of an object is no lane's
use Rattle.std.proofs.Common.{◌≡◌, ◌≢◌, ℕ, Bool, true, false, cond, inl, inr, List, [], ◌∷◌, ◌++◌, codes, refl, sym, ap, subst, ◌∙◌, append_assoc, bytes_eq, Option, Some, None}
use Rattle.std.specs.Prelude.{is_some}
use Rattle.std.specs.FinMap.{get}
use Rattle.std.proofs.lemmas.Bool.{false≢true, false_from_ne_true, both_ways, or_parts, and_parts, and_from}
use Rattle.std.proofs.lemmas.Slice.Eq.{bytes_eq-Decides}
use Rattle.dvc_base.specs.Path.{Path, under, overlap}
use Rattle.dvc_base.specs.Name.{ObjectName, place_of}
use Rattle.dvc_base.proofs.PathLemmas.{under-refl, under-trans, under-append}
use Rattle.world_api.proofs.LaneLemmas.{tmp_in_dvc}
use Rattle.world_api.specs.Tree.{Tree, Item, folder, file, item_at, IsTree}
use Rattle.world_api.specs.History.{Moment}
use Rattle.world_api.specs.Calls.{parent}
use Rattle.world_api.specs.Layout.{dvc_path, tmp_path}
use Rattle.world_api.specs.Writes.{IsMade, IsNoFileAt, HasRoad, IsNoScratch}
use Rattle.world_api.proofs.TreeLemmas.{cons_not_root, not_root, under_parent, parent_apart}
use Rattle.object_cache.specs.Objects.{object_path}
use Rattle.object_cache.specs.Giving.{InGive}
use Rattle.object_cache.specs.Due.{is_file, first_file_from, first_file, not_folder_at, not_folder}

-- ---- where none is found

not_file : (o : Option Item) (bytes : List ℕ) → is_file o ≡ false → o ≡ Some (file bytes) → ⊥
not_file None bytes e s = absurd (cc)
not_file (Some folder) bytes e s = absurd (cc)
not_file (Some (file all)) bytes e s = false≢true (sym e)

none_parts : (b : Bool) (x : Path) (y : Option Path) → cond b (Some x) y ≡ None → (b ≡ false) × (y ≡ None)
none_parts true x y e = absurd (cc)
none_parts false x y e = (refl, e)

road_from : (t : Tree) (p cs q : Path) → first_file_from t p cs ≡ None → under q cs ≡ true → q ≢ [] → IsNoFileAt t (p ++ q)
road_from t p [] [] e u ne = absurd (ne refl)
road_from t p [] (d ∷ q) e u ne = absurd (false≢true u)
road_from t p (c ∷ cs) [] e u ne = absurd (ne refl)
road_from t p (c ∷ cs) (d ∷ []) e u ne =
    let x = and_parts (bytes_eq d c) true u in
    let same : d ≡ c = (bytes_eq-Decides d c).0 x.0 in
    let r = none_parts (is_file (item_at t (p ++ c ∷ []))) (p ++ c ∷ []) (first_file_from t (p ++ c ∷ []) cs) e in
    λ bytes s. not_file (item_at t (p ++ c ∷ [])) bytes r.0 (subst (λ (y : List ℕ). item_at t (p ++ y ∷ []) ≡ Some (file bytes)) same s)
road_from t p (c ∷ cs) (d ∷ f ∷ q) e u ne =
    let x = and_parts (bytes_eq d c) (under (f ∷ q) cs) u in
    let same : d ≡ c = (bytes_eq-Decides d c).0 x.0 in
    let r = none_parts (is_file (item_at t (p ++ c ∷ []))) (p ++ c ∷ []) (first_file_from t (p ++ c ∷ []) cs) e in
    subst (λ (y : List ℕ). IsNoFileAt t (p ++ y ∷ f ∷ q)) (sym same)
    (subst (λ (y : Path). IsNoFileAt t y) (append_assoc p (c ∷ []) (f ∷ q)) (road_from t (p ++ c ∷ []) cs (f ∷ q) r.1 x.1 (cons_not_root f q)))

none_found : (o : Option Path) → not_folder_at o ≡ None → o ≡ None
none_found None e = refl
none_found (Some p) e = absurd (cc)

root_no_file : (t : Tree) → IsNoFileAt t []
root_no_file t bytes s = absurd (cc)

pub road_of : (t : Tree) (p : Path) → not_folder t p ≡ None → HasRoad p t
road_of t p e [] u = root_no_file t
road_of t p e (d ∷ q) u = road_from t [] p (d ∷ q) (none_found (first_file t p) e) u (cons_not_root d q)

-- the first step of a way lies on it
pub way_here : (here : Path) (c : List ℕ) (rest : Path) → under (here ++ c ∷ []) (here ++ (c ∷ rest)) ≡ true
way_here here c rest =
    ap (λ (p : Path). under (here ++ c ∷ []) p) (sym (append_assoc here (c ∷ []) rest)) ∙ under-append (here ++ c ∷ []) rest

pub way_there : (here parts rest next : Path) (c d : List ℕ) → next ≡ here ++ d ∷ [] → d ≡ c → parts ≡ c ∷ rest → under next (here ++ parts) ≡ true
way_there here parts rest next c d its same e =
    let first : under (here ++ d ∷ []) (here ++ (c ∷ rest)) ≡ true =
    subst (λ (x : List ℕ). under (here ++ x ∷ []) (here ++ (c ∷ rest)) ≡ true) (sym same) (way_here here c rest) in
    subst (λ (p : Path). under next (here ++ p) ≡ true) (sym e) (subst (λ (p : Path). under p (here ++ (c ∷ rest)) ≡ true) (sym its) first)

-- ---- what is found stays so

same_from : (t u : Tree) (p cs : Path) → ((q : Path) → under q cs ≡ true → is_file (item_at u (p ++ q)) ≡ is_file (item_at t (p ++ q))) → first_file_from u p cs ≡ first_file_from t p cs
same_from t u p [] f = refl
same_from t u p (c ∷ cs) f =
    let it = bytes_eq-Decides c c in
    let here = f (c ∷ []) (and_from (bytes_eq c c) true (it.1 refl) refl) in
    let rest = same_from t u (p ++ c ∷ []) cs (λ q v.
    subst (λ (y : Path). is_file (item_at u y) ≡ is_file (item_at t y)) (sym (append_assoc p (c ∷ []) q)) (f (c ∷ q) (and_from (bytes_eq c c) (under q cs) (it.1 refl) v))) in
    ap (λ (b : Bool). cond b (Some (p ++ c ∷ [])) (first_file_from u (p ++ c ∷ []) cs)) here
    ∙ ap (λ (o : Option Path). cond (is_file (item_at t (p ++ c ∷ []))) (Some (p ++ c ∷ [])) o) rest

pub same_not_folder : (t u : Tree) (p : Path) → ((q : Path) → under q p ≡ true → is_file (item_at u q) ≡ is_file (item_at t q)) → not_folder u p ≡ not_folder t p
same_not_folder t u p f = ap not_folder_at (same_from t u [] p f)

pub made_is_file : (q : Path) (m n : Moment) → IsMade q m n → is_file (item_at n.tree q) ≡ is_file (item_at m.tree q)
made_is_file q m n (inl a) = ap is_file a.item
made_is_file q m n (inr a) = ap is_file a.1.stands ∙ sym (ap is_file a.0)

pub give_same_road : (at : Path) (given : Option (List ℕ)) (m n : Moment) → at ≢ [] → InGive at given m n → not_folder n.tree (parent at) ≡ not_folder m.tree (parent at)
give_same_road at given m n root h =
    same_not_folder m.tree n.tree (parent at) (λ q u.
    made_is_file q m n (h.road q (under-trans q (parent at) at u (under_parent at)) (false_from_ne_true (under at q) (λ e. both_ways (under at (parent at)) (parent_apart at root) (under-trans at q (parent at) e u)))))

-- ---- folders above what stands

item_get : (t : Tree) (p : Path) → p ≢ [] → item_at t p ≡ get t p
item_get t [] ne = absurd (ne refl)
item_get t (c ∷ p) ne = refl

folder_above : (t : Tree) (q : Path) (c : List ℕ) (i : Item) → IsTree t → item_at t (q ++ c ∷ []) ≡ Some i → item_at t q ≡ Some folder
folder_above t q c i is e = is.parents q c (ap is_some (sym (item_get t (q ++ c ∷ []) (not_root q c)) ∙ e))

pub folders_above : (t : Tree) (q p : Path) (i : Item) → IsTree t → p ≢ [] → item_at t (q ++ p) ≡ Some i → item_at t q ≡ Some folder
folders_above t q [] i is ne e = absurd (ne refl)
folders_above t q (c ∷ []) i is ne e = folder_above t q c i is e
folders_above t q (c ∷ d ∷ p) i is ne e =
    folder_above t q c folder is (folders_above t (q ++ c ∷ []) (d ∷ p) i is (cons_not_root d p) (ap (item_at t) (append_assoc q (c ∷ []) (d ∷ p)) ∙ e))

pub dvc_of_object : (t : Tree) (name : ObjectName) (bytes : List ℕ) → IsTree t → item_at t (object_path name) ≡ Some (file bytes) → IsNoFileAt t dvc_path
unfolding dvc_path
dvc_of_object t name bytes is e all s =
    let f : item_at t (codes ".dvc" ∷ []) ≡ Some folder = folders_above t (codes ".dvc" ∷ []) (codes "cache" ∷ place_of name) (file bytes) is (cons_not_root (codes "cache") (place_of name)) e in
    let z : Some folder ≡ Some (file all) = sym f ∙ s in
    cc

-- ---- the place of an object

pub object_apart : (name : ObjectName) → IsNoScratch (object_path name)
unfolding dvc_path tmp_path
object_apart name = record { no_dvc = λ e. absurd (cc); no_tmp = refl }

-- ---- a path apart from `.dvc`

pub apart_no_scratch : (at : Path) → overlap at dvc_path ≡ false → IsNoScratch at
apart_no_scratch at h =
    let parts = or_parts (under at dvc_path) (under dvc_path at) h in
    record {
      no_dvc = λ e. both_ways (under dvc_path at) parts.1 (ap (under dvc_path) e ∙ under-refl dvc_path);
      no_tmp = false_from_ne_true (under tmp_path at) (λ e. both_ways (under dvc_path at) parts.1 (under-trans dvc_path tmp_path at tmp_in_dvc e));
    }

pub apart_not_root : (at : Path) → overlap at dvc_path ≡ false → at ≢ []
apart_not_root at h e =
    both_ways (under at dvc_path) (or_parts (under at dvc_path) (under dvc_path at) h).0 (ap (λ (x : Path). under x dvc_path) e)
