-- The folders down to a path, made from above down: what is left, and what is passed on the way.
use Rattle.std.proofs.Common.{◌≡◌, ◌≢◌, ℕ, zero, suc, true, false, List, [], ◌∷◌, length, refl, sym, ap, subst, ◌∙◌, inl, inr, Option, Some, None, Result, Ok, Err, OnOk, IsErr}
use Rattle.std.proofs.lemmas.Bool.{false≢true, cond_both}
use Rattle.dvc_base.specs.Path.{Path, under}
use Rattle.dvc_base.proofs.PathLemmas.{under-refl, under-trans}
use Rattle.world_api.specs.Tree.{Item, folder, file, item_at}
use Rattle.world_api.specs.History.{Moment, History, Passes, Keeps}
use Rattle.world_api.specs.Calls.{parent}
use Rattle.world_api.specs.Writes.{is_at, IsMade, HasRoad, IsFolderAt, InMakeFolder}
use Rattle.world_api.proofs.HistoryLemmas.{keeps_itself, keeps_then, keeps_in, passes_none, passes_then}
use Rattle.world_api.proofs.LaneLemmas.{not_at}
use Rattle.world_api.proofs.TreeLemmas.{path_cases, under_parent, long_not_root, parent-length, none_long, cons_not_root}
use Rattle.world_api.proofs.WriteLemmas.{same_at, made_then_same}
use Rattle.sim_world.specs.Call.{Makes, IsSame}
use Rattle.sim_world.specs.Change.{grown, made}
use Rattle.sim_world.specs.Edits.{is_folder, is_root}
use Rattle.sim_world.specs.Writing.{made_once, road_made, IsOnRoad}
use Rattle.sim_world.proofs.ChangeLemmas.{passes_one}
use Rattle.sim_world.proofs.FolderLemmas.{folder_is}
use Rattle.sim_world.proofs.WritingLemmas.{made_keeps, made_new, none_from}

folder_no_file : (bytes : List ℕ) → ◌≡◌ {A = Option Item} (Some folder) (Some (file bytes)) → ⊥
folder_no_file bytes e = absurd (cc)

road_still : (at : Path) (m : Moment) → InMakeFolder at m m
road_still at m = record {
  road = λ q u. inl (record { item = refl; loose = refl });
  others = keeps_itself (λ q. under q at) m;
}

was_none : (q : Path) (m n : Moment) → IsMade q m n → item_at n.tree q ≡ None → item_at m.tree q ≡ None
was_none q m n (inl same) e = sym same.item ∙ e
was_none q m n (inr made) e = made.0

-- a folder more on the road, whose folder above stands
road_more : (at q : Path) (m n : Moment) → HasRoad at m.tree → InMakeFolder at m n → under q at ≡ true → q ≢ [] → item_at n.tree (parent q) ≡ Some folder → is_folder (item_at n.tree q) ≡ false → InMakeFolder at m (made q n)
road_more at q m n road x u ne above gone =
    let k : Moment = made q n in
    let keeps : Keeps (is_at q) n k = made_keeps q n in
    record {
      road = λ p v.
          elim (path_cases q p) [
            | inl s ↦ subst (λ (y : Path). IsMade y m k) s (inr (was_none q m n (x.road q u) (none_from (item_at n.tree q) gone (no_file (x.road q u))), made_new q n ne above))
            | inr other ↦ made_then_same p m n k (x.road p v) (same_at p (is_at q) n k keeps (not_at q p other))
          ];
      others = keeps_then (λ p. under p at) m n k x.others (keeps_in (is_at q) (λ p. under p at) n k (λ p out. far p out) keeps);
    }
  where
    no_file : IsMade q m n → (bytes : List ℕ) → item_at n.tree q ≢ Some (file bytes)
    no_file (inl same) bytes e = road q u bytes (sym same.item ∙ e)
    no_file (inr new) bytes e = folder_no_file bytes (sym new.1.stands ∙ e)

    far : (p : Path) → under p at ≡ false → is_at q p ≡ false
    far p out = not_at q p (λ s. false≢true (sym out ∙ ap (λ (y : Path). under y at) (sym s) ∙ u))

record OnRoad (at q : Path) (h k : History) : Type 0 where
  passes : Passes (InMakeFolder at h.present) h k
  stands : item_at k.present.tree q ≡ Some folder

road_on : (n : ℕ) (at q : Path) (h : History) → HasRoad at h.present.tree → length q ≡ n → under q at ≡ true → OnRoad at q h (road_made n q h)
road_on zero at [] h road l u = record { passes = passes_none (InMakeFolder at h.present) h (road_still at h.present); stands = refl }
road_on zero at (c ∷ q) h road l u = absurd (none_long (c ∷ q) l (cons_not_root c q))
road_on (suc n) at q h road l u =
    let ne : q ≢ [] = long_not_root q n l in
    let above : under (parent q) at ≡ true = under-trans (parent q) q at (under_parent q) u in
    let so : OnRoad at (parent q) h (road_made n (parent q) h) = road_on n at (parent q) h road (parent-length q n l) above in
    let k : History = road_made n (parent q) h in
    cond_both (is_folder (item_at k.present.tree q)) k (grown (made q) k) (λ (x : History). OnRoad at q h x)
    (λ e. record { passes = so.passes; stands = folder_is (item_at k.present.tree q) e })
    (λ e. record {
      passes = passes_then (InMakeFolder at h.present) h k (grown (made q) k) so.passes
          (passes_one (InMakeFolder at h.present) k (made q) so.passes.now (road_more at q h.present k.present road so.passes.now u ne so.stands e));
      stands = (made_new q k.present ne so.stands).stands;
    })

pub road_passes : {T E : Type 0} (r : Result T E) (at : Path) (h h' : History) → HasRoad at h.present.tree → Makes r (road_made (length at) at) (IsOnRoad at) h h' → Passes (InMakeFolder at h.present) h h'
road_passes (Ok x) at h h' road made = subst (λ (k : History). Passes (InMakeFolder at h.present) h k) (sym made) (road_on (length at) at at h road refl (under-refl at)).passes
road_passes (Err x) at h h' road made = subst (λ (k : History). Passes (InMakeFolder at h.present) h k) (sym made.2) (road_on (length made.0) at made.0 h road refl made.1).passes

pub road_made-stands : {T E : Type 0} (r : Result T E) (at : Path) (h h' : History) → HasRoad at h.present.tree → Makes r (road_made (length at) at) (IsOnRoad at) h h' → OnOk r (IsFolderAt h'.present.tree at)
road_made-stands (Ok x) at h h' road made = subst (λ (k : History). IsFolderAt k.present.tree at) (sym made) (road_on (length at) at at h road refl (under-refl at)).stands
road_made-stands (Err x) at h h' road made = tt

-- ---- how the code makes them

-- those above were refused
pub road_above : {T E : Type 0} (r : Result T E) (at above : Path) (h h' : History) → IsErr r → above ≡ parent at → IsOnRoad above h h' → Makes r (road_made (length at) at) (IsOnRoad at) h h'
road_above (Ok x) at above h h' e is made = absurd (false≢true e)
road_above (Err x) at above h h' e is made =
    (made.0, under-trans made.0 (parent at) at (subst (λ (p : Path). under made.0 p ≡ true) is made.1) (under_parent at), made.2)

-- those above were made, and the last was made or refused
pub road_last : {T E : Type 0} (r : Result T E) (at above : Path) (h k h' : History) → is_root at ≡ false → above ≡ parent at → k ≡ road_made (length above) above h → Makes r (made_once at) IsSame k h' → Makes r (road_made (length at) at) (IsOnRoad at) h h'
road_last (Ok x) [] above h k h' e is all made = absurd (false≢true (sym e))
road_last (Ok x) (c ∷ at) above h k h' e is all made =
    made ∙ ap (made_once (c ∷ at)) (all ∙ ap (λ (p : Path). road_made (length p) p h) is ∙ ap (λ (n : ℕ). road_made n (parent (c ∷ at)) h) (parent-length (c ∷ at) (length at) refl))
road_last (Err x) at above h k h' e is all made = (parent at, under_parent at, made ∙ all ∙ ap (λ (p : Path). road_made (length p) p h) is)
