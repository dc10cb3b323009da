-- A refusal that isn't free is due of the tree that it leaves, as it was of the tree before.
--     value_kept     a value is that of the items below its path
--     still_due      a refusal that leaves what is due at each place is due still
use Rattle.std.proofs.Common.{◌≡◌, ◌≢◌, Bool, true, false, cond, List, [], ◌∷◌, ◌++◌, length, drop, refl, sym, ap, ◌∙◌, inl, inr, Option, Some, None, Result, Ok, Err, IfErr}
use Rattle.std.proofs.lemmas.Bool.{false≢true}
use Rattle.std.specs.FinMap.{get, entries, entries_sorted, from_entries, get-entries}
use Rattle.std.specs.FinMap.Entries.{find, where_key, is_sorted-where_key, find-where_key, same_entries}
use Rattle.dvc_base.specs.Path.{Path, under, overlap}
use Rattle.dvc_base.specs.Name.{ObjectName}
use Rattle.dvc_base.proofs.PathLemmas.{under-refl}
use Rattle.world_api.specs.Layout.{tmp_path}
use Rattle.world_api.specs.Tree.{Tree, Item, folder, file, members, path_cmp, item_at, member_of, members_of, Value, value_of, value_at}
use Rattle.world_api.specs.History.{Moment}
use Rattle.world_api.proofs.TreeLemmas.{path_cmp-total, path_cmp-antisym}
use Rattle.file_hash.specs.Naming.{naming_of}
use Rattle.object_cache.specs.declared.fault.CacheFault.{CacheFault}
use Rattle.object_cache.specs.Objects.{object_names}
use Rattle.object_cache.specs.Store.{IsOutside, InStore}
use Rattle.object_cache.specs.Due.{fault_of, is_free, IsDue, KeepsPlaces, IsLeft, or_then, naming_fault, places_fault, put_fault}
use Rattle.object_cache.proofs.StoreLemmas.{store_keeps_item}
use Rattle.object_cache.proofs.PutLemmas.{places_same}

-- ---- a value is that of the items below its path

no_member : (at q : Path) (item : Item) → under at q ≡ false → member_of at q item ≡ []
no_member at q folder u = refl
no_member at q (file bytes) u = ap (λ b. cond b ((drop (length at) q, bytes) ∷ []) []) u

members_where : (at : Path) (es : List (Path × Item)) → members_of at es ≡ members_of at (where_key path_cmp (under at) es)
members_where at [] = refl
members_where at (e ∷ es) =
    elim (under at e.0) as (λ b. under at e.0 ≡ b → member_of at e.0 e.1 ++ members_of at es ≡ members_of at (cond b (e ∷ where_key path_cmp (under at) es) (where_key path_cmp (under at) es))) [
      | true ↦ λ u. ap (λ x. member_of at e.0 e.1 ++ x) (members_where at es)
      | false ↦ λ u. ap (λ x. x ++ members_of at es) (no_member at e.0 e.1 u) ∙ members_where at es
    ] refl

found_where : (b : Bool) (x y : Option Item) → (b ≡ true → x ≡ y) → cond b x None ≡ cond b y None
found_where true x y same = same refl
found_where false x y same = refl

find_where : (t : Tree) (at q : Path) → find path_cmp q (where_key path_cmp (under at) (entries t)) ≡ cond (under at q) (get t q) None
find_where t at q =
    find-where_key path_cmp (under at) q (λ x e. ap (under at) (sym (path_cmp-antisym q x e))) (entries t)
    ∙ ap (λ (o : Option Item). cond (under at q) o None) (sym (get-entries t q))

same_where : (t u : Tree) (at : Path) → ((q : Path) → under at q ≡ true → get u q ≡ get t q) → where_key path_cmp (under at) (entries u) ≡ where_key path_cmp (under at) (entries t)
same_where t u at same =
    same_entries path_cmp path_cmp-total path_cmp-antisym (where_key path_cmp (under at) (entries u)) (where_key path_cmp (under at) (entries t))
    (is_sorted-where_key path_cmp (under at) (entries u) (entries_sorted u)) (is_sorted-where_key path_cmp (under at) (entries t) (entries_sorted t))
    (λ q. find_where u at q ∙ found_where (under at q) (get u q) (get t q) (same q) ∙ sym (find_where t at q))

same_members : (t u : Tree) (at : Path) → ((q : Path) → under at q ≡ true → get u q ≡ get t q) → members_of at (entries u) ≡ members_of at (entries t)
same_members t u at same =
    members_where at (entries u) ∙ ap (members_of at) (same_where t u at same) ∙ sym (members_where at (entries t))

got_below : (t u : Tree) (at q : Path) → at ≢ [] → under at q ≡ true → item_at u q ≡ item_at t q → get u q ≡ get t q
got_below t u [] q ne b e = absurd (ne refl)
got_below t u (c ∷ at) [] ne b e = absurd (false≢true b)
got_below t u (c ∷ at) (d ∷ q) ne b e = e

value_by : (t u : Tree) (at : Path) (o : Option Item) → members_of at (entries u) ≡ members_of at (entries t) → value_of u at o ≡ value_of t at o
value_by t u at None e = refl
value_by t u at (Some (file bytes)) e = refl
value_by t u at (Some folder) e = ap (λ es. members (from_entries es)) e

pub value_kept : (t u : Tree) (at : Path) → at ≢ [] → item_at u at ≡ item_at t at → ((q : Path) → under at q ≡ true → item_at u q ≡ item_at t q) → value_at u at ≡ value_at t at
value_kept t u at ne here same =
    value_by t u at (item_at u at) (same_members t u at (λ q b. got_below t u at q ne b (same q b))) ∙ ap (value_of t at) here

-- ---- what is due of a value that is put

outside_below_root : (at : Path) → IsOutside at → at ≢ []
outside_below_root at out e = false≢true (sym (ap (λ (p : Path). overlap p tmp_path) (sym e) ∙ out.no_lane))

put_same : {names : List ObjectName} (at : Path) (m n : Moment) → IsOutside at → InStore names m n → KeepsPlaces m.tree n.tree → put_fault n.tree at ≡ put_fault m.tree at
put_same at m n out store keeps =
    let ne = outside_below_root at out in
    let below = λ (q : Path) (b : under at q ≡ true). store_keeps_item at q m n out store b in
    let same : value_at n.tree at ≡ value_at m.tree at = value_kept m.tree n.tree at ne (below at (under-refl at)) below in
    ap (λ (v : Value). or_then (naming_fault (naming_of v)) (places_fault n.tree (object_names v))) same
    ∙ ap (λ (o : Option CacheFault). or_then (naming_fault (naming_of (value_at m.tree at))) o) (places_same m.tree n.tree (object_names (value_at m.tree at)) keeps)

due_still : (t u : Tree) (at : Path) (fault : CacheFault) → (is_free fault ≡ false → put_fault u at ≡ put_fault t at) → IsDue (Some fault) (put_fault t at) → is_free fault ≡ false → put_fault u at ≡ Some fault
due_still t u at fault same (inl free) f = absurd (false≢true (sym f ∙ free))
due_still t u at fault same (inr e) f = same f ∙ e

pub still_due : {T : Type 0} {names : List ObjectName} (r : Result T CacheFault) (at : Path) (m n : Moment) → IsOutside at → InStore names m n → IfErr r (IsLeft m.tree n.tree) → IsDue (fault_of r) (put_fault m.tree at) → IfErr r (λ fault. is_free fault ≡ false → put_fault n.tree at ≡ Some fault)
still_due (Ok done) at m n out store left due = tt
still_due (Err fault) at m n out store left due =
    due_still m.tree n.tree at fault (λ f. put_same at m n out store (left f)) due
