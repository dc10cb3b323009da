-- The writing calls in memory: what each leaves, and what it passes on the way.
use Rattle.std.proofs.Common.{◌≡◌, ◌≢◌, ℕ, Bool, false, cond, not, ◌&&◌, ◌||◌, List, [], ◌∷◌, ◌++◌, refl, sym, ap, subst, ◌∙◌, inl, inr, Option, Some, None, Result, Ok, Err, OnOk}
use Rattle.std.specs.Prelude.{is_some, codes}
use Rattle.std.specs.FinMap.{insert}
use Rattle.std.specs.Fmt.{decimal}
use Rattle.std.proofs.lemmas.Bool.{false≢true, cond_both, or_parts, not_from_true, not_from_false}
use Rattle.dvc_base.specs.Path.{Path, under}
use Rattle.dvc_base.proofs.PathLemmas.{under-refl}
use Rattle.world_api.specs.Tree.{Tree, Item, folder, file, item_at, IsTree}
use Rattle.world_api.specs.History.{Moment, History, Passes, Keeps}
use Rattle.world_api.specs.Calls.{IsFileAt, parent}
use Rattle.world_api.specs.Layout.{dvc_path, tmp_path, lane_path}
use Rattle.world_api.specs.Writes.{is_at, IsSameAt, IsNewFolder, IsRemade, IsNoFileAt, HasRoom, in_begin, InBegin, IsBegun, InAppend, IsAppended, InSettle, IsSettled, IsMoved, in_publish, InPublish, IsPublished}
use Rattle.world_api.proofs.HistoryLemmas.{keeps_then, keeps_in, stays_itself, passes_none, passes_then}
use Rattle.world_api.proofs.TreeLemmas.{item_kept, item_gone, item_put_same, item_put_other}
use Rattle.world_api.proofs.LaneLemmas.{at_itself, not_at, dvc_not_root, tmp_not_root, lane_not_root, dvc-parent, tmp-parent, lane-parent, dvc_above_lane, dvc_above_tmp, tmp_above_lane}
use Rattle.world_api.proofs.WriteLemmas.{same_at, made_then_same, begin_itself, append_itself, settle_itself, publish_itself}
use Rattle.sim_world.specs.Answer.{told}
use Rattle.sim_world.specs.Call.{Makes, IsSame}
use Rattle.sim_world.specs.Change.{grown, made, written, made_firm, published}
use Rattle.sim_world.specs.Edits.{without, is_folder, has_place, place, left_tree, made_tree, published_tree}
use Rattle.sim_world.specs.Writing.{held, lane_bytes, made_once, with_tmp, begun, IsBeginning, appended, firm, moved}
use Rattle.sim_world.specs.declared.value.Value.{Value}
use Rattle.sim_world.specs.declared.value.Value.TheVariants.{File}
use Rattle.sim_world.proofs.BookLemmas.{stays_met}
use Rattle.sim_world.proofs.FolderLemmas.{has_place-from, folder_is}
use Rattle.sim_world.proofs.ChangeLemmas.{below_not_root, passes_one, one_passes, one_left}
use Rattle.sim_world.proofs.RunLemmas.{left_other}

-- ---- one change

apart_from : (at p : Path) → is_at at p ≡ false → p ≢ at
apart_from at p out s = false≢true (sym out ∙ ap (is_at at) s ∙ at_itself at)

made_other : (at : Path) (t : Tree) (p : Path) → is_at at p ≡ false → item_at (made_tree at t) p ≡ item_at t p
made_other at t p out =
    cond_both (has_place t at) (insert t at folder) t (λ (k : Tree). item_at k p ≡ item_at t p)
    (λ _. item_put_other t at folder p (apart_from at p out)) (λ _. refl)

pub made_keeps : (at : Path) (m : Moment) → Keeps (is_at at) m (made at m)
made_keeps at m = record {
  paths = record {
    items = λ p out. made_other at m.tree p out;
    loose = λ p out. ap (λ (b : Bool). not b && m.loose p) out;
  };
  aside = stays_itself m.aside;
}

pub made_new : (at : Path) (m : Moment) → at ≢ [] → item_at m.tree (parent at) ≡ Some folder → IsNewFolder at (made at m)
made_new at m ne above = record {
  stands = ap (λ (b : Bool). item_at (cond b (insert m.tree at folder) m.tree) at) (has_place-from m.tree at ne above) ∙ item_put_same m.tree at folder ne;
  firm = ap (λ (b : Bool). not b && m.loose at) (at_itself at);
}

written_keeps : (lane : ℕ) (value : Value) (m : Moment) → Keeps (under (lane_path lane)) m (written lane value m)
written_keeps lane value m = record {
  paths = record {
    items = λ p out. left_other (lane_path lane) value m.tree p out;
    loose = λ p out. ap (λ (b : Bool). b || m.loose p) out;
  };
  aside = stays_itself m.aside;
}

left_here : (at : Path) (bytes : List ℕ) (t : Tree) → at ≢ [] → item_at t (parent at) ≡ Some folder → item_at (left_tree at (File bytes) t) at ≡ Some (file bytes)
left_here at bytes t ne above =
    ap (λ (b : Bool). item_at (cond b (place at (File bytes) (without at t)) t) at) (has_place-from t at ne above)
    ∙ item_put_same (without at t) at (file bytes) ne

-- the folder above a lane that stands
lane_above : (lane : ℕ) (t : Tree) → IsTree t → IsFileAt t (lane_path lane) → item_at t (parent (lane_path lane)) ≡ Some folder
unfolding lane_path tmp_path
lane_above lane t is stands = is.parents tmp_path (codes "new-" ++ decimal lane) (ap is_some stands.1)

-- ---- `begin`

pub none_from : (o : Option Item) → is_folder o ≡ false → ((bytes : List ℕ) → o ≢ Some (file bytes)) → o ≡ None
none_from None e no_file = refl
none_from (Some folder) e no_file = absurd (false≢true (sym e))
none_from (Some (file bytes)) e no_file = absurd (no_file bytes refl)

no_folder : (o : Option Item) → is_folder o ≡ false → o ≢ Some folder
no_folder o e s = false≢true (sym e ∙ ap is_folder s)

dvc_not_tmp : dvc_path ≢ tmp_path
dvc_not_tmp e = false≢true (sym dvc_above_tmp ∙ ap (under tmp_path) e ∙ under-refl tmp_path)

in_begin-parts : (lane : ℕ) (p : Path) → in_begin lane p ≡ false → (is_at dvc_path p ≡ false) × (is_at tmp_path p ≡ false) × (under (lane_path lane) p ≡ false)
in_begin-parts lane p out =
    let whole = or_parts (is_at dvc_path p || is_at tmp_path p) (under (lane_path lane) p) out in
    let parts = or_parts (is_at dvc_path p) (is_at tmp_path p) whole.0 in
    (parts.0, parts.1, whole.1)

begin_dvc : (lane : ℕ) (m : Moment) → is_folder (item_at m.tree dvc_path) ≡ false → IsNoFileAt m.tree dvc_path → InBegin lane m (made dvc_path m)
begin_dvc lane m e no_file = record {
  dvc = inr (none_from (item_at m.tree dvc_path) e no_file, made_new dvc_path m dvc_not_root (ap (item_at m.tree) dvc-parent));
  tmp = inl (same_at tmp_path (is_at dvc_path) m (made dvc_path m) (made_keeps dvc_path m) (not_at dvc_path tmp_path dvc_not_tmp));
  others = keeps_in (is_at dvc_path) (in_begin lane) m (made dvc_path m) (λ p out. (in_begin-parts lane p out).0) (made_keeps dvc_path m);
}

remade : (m n k : Moment) → IsRemade tmp_path m n → item_at n.tree tmp_path ≢ Some folder → IsNewFolder tmp_path k → IsRemade tmp_path m k
remade m n k (inl same) ne new = inr (λ e. ne (same.item ∙ e), inr new)
remade m n k (inr (was, is)) ne new = inr (was, inr new)

begin_tmp : (lane : ℕ) (m n : Moment) → InBegin lane m n → item_at n.tree dvc_path ≡ Some folder → is_folder (item_at n.tree tmp_path) ≡ false → InBegin lane m (made tmp_path n)
begin_tmp lane m n x above e = record {
  dvc = made_then_same dvc_path m n (made tmp_path n) x.dvc (same_at dvc_path (is_at tmp_path) n (made tmp_path n) (made_keeps tmp_path n) (not_at tmp_path dvc_path (λ s. dvc_not_tmp (sym s))));
  tmp = remade m n (made tmp_path n) x.tmp (no_folder (item_at n.tree tmp_path) e) (made_new tmp_path n tmp_not_root (ap (item_at n.tree) tmp-parent ∙ above));
  others = keeps_then (in_begin lane) m n (made tmp_path n) x.others (keeps_in (is_at tmp_path) (in_begin lane) n (made tmp_path n) (λ p out. (in_begin-parts lane p out).1) (made_keeps tmp_path n));
}

same_remade : (m n k : Moment) → IsRemade tmp_path m n → IsSameAt tmp_path n k → IsRemade tmp_path m k
same_remade m n k (inl a) b = inl (record { item = b.item ∙ a.item; loose = b.loose ∙ a.loose })
same_remade m n k (inr (was, inl none)) b = inr (was, inl (b.item ∙ none))
same_remade m n k (inr (was, inr new)) b = inr (was, inr (record { stands = b.item ∙ new.stands; firm = b.loose ∙ new.firm }))

begin_lane : (lane : ℕ) (m n : Moment) (value : Value) → InBegin lane m n → InBegin lane m (written lane value n)
begin_lane lane m n value x =
    let k : Moment = written lane value n in
    let keeps : Keeps (under (lane_path lane)) n k = written_keeps lane value n in
    record {
      dvc = made_then_same dvc_path m n k x.dvc (same_at dvc_path (under (lane_path lane)) n k keeps (dvc_above_lane lane));
      tmp = same_remade m n k x.tmp (same_at tmp_path (under (lane_path lane)) n k keeps (tmp_above_lane lane));
      others = keeps_then (in_begin lane) m n k x.others (keeps_in (under (lane_path lane)) (in_begin lane) n k (λ p out. (in_begin-parts lane p out).2) keeps);
    }

step_dvc : (lane : ℕ) (h : History) → IsNoFileAt h.present.tree dvc_path → Passes (InBegin lane h.present) h (made_once dvc_path h) × (item_at (made_once dvc_path h).present.tree dvc_path ≡ Some folder)
step_dvc lane h no_file =
    cond_both (is_folder (item_at h.present.tree dvc_path)) h (grown (made dvc_path) h)
    (λ (k : History). Passes (InBegin lane h.present) h k × (item_at k.present.tree dvc_path ≡ Some folder))
    (λ e. (passes_none (InBegin lane h.present) h (begin_itself lane h.present), folder_is (item_at h.present.tree dvc_path) e))
    (λ e. (passes_one (InBegin lane h.present) h (made dvc_path) (begin_itself lane h.present) (begin_dvc lane h.present e no_file), (made_new dvc_path h.present dvc_not_root (ap (item_at h.present.tree) dvc-parent)).stands))

step_tmp : (lane : ℕ) (h k : History) → Passes (InBegin lane h.present) h k → item_at k.present.tree dvc_path ≡ Some folder → Passes (InBegin lane h.present) h (made_once tmp_path k) × (item_at (made_once tmp_path k).present.tree tmp_path ≡ Some folder)
step_tmp lane h k x above =
    cond_both (is_folder (item_at k.present.tree tmp_path)) k (grown (made tmp_path) k)
    (λ (n : History). Passes (InBegin lane h.present) h n × (item_at n.present.tree tmp_path ≡ Some folder))
    (λ e. (x, folder_is (item_at k.present.tree tmp_path) e))
    (λ e. (passes_then (InBegin lane h.present) h k (grown (made tmp_path) k) x (passes_one (InBegin lane h.present) k (made tmp_path) x.now (begin_tmp lane h.present k.present x.now above e)), (made_new tmp_path k.present tmp_not_root (ap (item_at k.present.tree) tmp-parent ∙ above)).stands))

step_folders : (lane : ℕ) (h : History) → IsNoFileAt h.present.tree dvc_path → Passes (InBegin lane h.present) h (with_tmp h) × (item_at (with_tmp h).present.tree tmp_path ≡ Some folder)
step_folders lane h no_file =
    let dvc = step_dvc lane h no_file in
    step_tmp lane h (made_once dvc_path h) dvc.0 dvc.1

begun_passes : (lane : ℕ) (h : History) → IsNoFileAt h.present.tree dvc_path → Passes (InBegin lane h.present) h (begun lane h)
begun_passes lane h no_file =
    let so = (step_folders lane h no_file).0 in
    passes_then (InBegin lane h.present) h (with_tmp h) (begun lane h) so
    (passes_one (InBegin lane h.present) (with_tmp h) (written lane (File [])) so.now (begin_lane lane h.present (with_tmp h).present (File []) so.now))

begun_empty : (lane : ℕ) (h : History) → IsNoFileAt h.present.tree dvc_path → IsBegun lane (begun lane h).present
begun_empty lane h no_file = record {
  empty = left_here (lane_path lane) [] (with_tmp h).present.tree (lane_not_root lane) (ap (item_at (with_tmp h).present.tree) (lane-parent lane) ∙ (step_folders lane h no_file).1);
  loose = λ p u. ap (λ (b : Bool). b || (with_tmp h).present.loose p) u;
}

beginning_passes : (lane : ℕ) (h new : History) → IsNoFileAt h.present.tree dvc_path → IsBeginning h new → Passes (InBegin lane h.present) h new
beginning_passes lane h new no_file (inl (inl e)) = subst (λ (k : History). Passes (InBegin lane h.present) h k) (sym e) (passes_none (InBegin lane h.present) h (begin_itself lane h.present))
beginning_passes lane h new no_file (inl (inr e)) = subst (λ (k : History). Passes (InBegin lane h.present) h k) (sym e) (step_dvc lane h no_file).0
beginning_passes lane h new no_file (inr e) = subst (λ (k : History). Passes (InBegin lane h.present) h k) (sym e) (step_folders lane h no_file).0

pub begin_passes : {T E : Type 0} (r : Result T E) (lane : ℕ) (h h' : History) → IsNoFileAt h.present.tree dvc_path → Makes r (begun lane) IsBeginning h h' → Passes (InBegin lane h.present) h h'
begin_passes (Ok x) lane h h' no_file made = subst (λ (k : History). Passes (InBegin lane h.present) h k) (sym made) (begun_passes lane h no_file)
begin_passes (Err x) lane h h' no_file made = beginning_passes lane h h' no_file made

pub begin_begun : {T E : Type 0} (r : Result T E) (lane : ℕ) (h h' : History) → IsNoFileAt h.present.tree dvc_path → Makes r (begun lane) IsBeginning h h' → OnOk r (IsBegun lane h'.present)
begin_begun (Ok x) lane h h' no_file made = subst (λ (k : History). IsBegun lane k.present) (sym made) (begun_empty lane h no_file)
begin_begun (Err x) lane h h' no_file made = tt

-- ---- `append`

append_done : (lane : ℕ) (bytes : List ℕ) (m : Moment) → IsTree m.tree → IsFileAt m.tree (lane_path lane) → IsAppended lane bytes m (written lane (File (lane_bytes lane m.tree ++ bytes)) m)
append_done lane bytes m is stands = record {
  grown = λ old e.
      left_here (lane_path lane) (lane_bytes lane m.tree ++ bytes) m.tree (lane_not_root lane) (lane_above lane m.tree is stands)
      ∙ ap (λ (o : Option Item). Some (file (held o ++ bytes))) e;
  loose = λ p u. ap (λ (b : Bool). b || m.loose p) u;
}

appended_one : {T E : Type 0} (r : Result T E) (lane : ℕ) (bytes : List ℕ) (h h' : History) → Makes r (appended lane bytes) IsSame h h' → Makes r (grown (written lane (File (lane_bytes lane h.present.tree ++ bytes)))) IsSame h h'
appended_one (Ok x) lane bytes h h' made = made
appended_one (Err x) lane bytes h h' made = made

pub append_passes : {T E : Type 0} (r : Result T E) (lane : ℕ) (bytes : List ℕ) (h h' : History) → Makes r (appended lane bytes) IsSame h h' → Passes (InAppend lane h.present) h h'
append_passes r lane bytes h h' made =
    let value : Value = File (lane_bytes lane h.present.tree ++ bytes) in
    one_passes r (InAppend lane h.present) (written lane value) h h' (append_itself lane h.present) (record { others = written_keeps lane value h.present }) (appended_one r lane bytes h h' made)

pub append_appended : {T E : Type 0} (r : Result T E) (lane : ℕ) (bytes : List ℕ) (h h' : History) → IsTree h.present.tree → IsFileAt h.present.tree (lane_path lane) → Makes r (appended lane bytes) IsSame h h' → OnOk r (IsAppended lane bytes h.present h'.present)
append_appended r lane bytes h h' is stands made =
    one_left r (IsAppended lane bytes h.present) (written lane (File (lane_bytes lane h.present.tree ++ bytes))) h h' (append_done lane bytes h.present is stands) (appended_one r lane bytes h h' made)

-- ---- `settle`

firm_keeps : (lane : ℕ) (m : Moment) → Keeps (under (lane_path lane)) m (made_firm lane m)
firm_keeps lane m = record {
  paths = record { items = λ p out. refl; loose = λ p out. ap (λ (b : Bool). not b && m.loose p) out };
  aside = stays_itself m.aside;
}

firm_one : {T E : Type 0} (r : Result T E) (lane : ℕ) (h h' : History) → Makes r (firm lane) IsSame h h' → Makes r (grown (made_firm lane)) IsSame h h'
firm_one (Ok x) lane h h' made = made
firm_one (Err x) lane h h' made = made

pub settle_passes : {T E : Type 0} (r : Result T E) (lane : ℕ) (h h' : History) → Makes r (firm lane) IsSame h h' → Passes (InSettle lane h.present) h h'
settle_passes r lane h h' made =
    one_passes r (InSettle lane h.present) (made_firm lane) h h' (settle_itself lane h.present) (record { others = firm_keeps lane h.present }) (firm_one r lane h h' made)

pub settle_settled : {T E : Type 0} (r : Result T E) (lane : ℕ) (h h' : History) → Makes r (firm lane) IsSame h h' → OnOk r (IsSettled lane h.present h'.present)
settle_settled r lane h h' made =
    one_left r (IsSettled lane h.present) (made_firm lane) h h' (record { same = refl; firm = λ p u. ap (λ (b : Bool). not b && h.present.loose p) u }) (firm_one r lane h h' made)

-- ---- `publish`

-- neither path lies in the other, so the value is not taken away with the lane
publish_here : (lane : ℕ) (at : Path) (bytes : List ℕ) (m : Moment) → under (lane_path lane) at ≡ false → HasRoom at m.tree → item_at (published_tree (lane_path lane) at (File bytes) m.tree) at ≡ Some (file bytes)
publish_here lane at bytes m apart room =
    item_kept (left_tree at (File bytes) m.tree) (λ q. not (under (lane_path lane) q)) at (not_from_false (under (lane_path lane) at) apart)
    ∙ left_here at bytes m.tree (λ e. room.no_folder (ap (item_at m.tree) e)) room.above

publish_new : (lane : ℕ) (at : Path) (m : Moment) → under (lane_path lane) at ≡ false → HasRoom at m.tree → IsMoved lane at m (published lane at (File (lane_bytes lane m.tree)) m)
publish_new lane at m apart room bytes e = record {
  stands = publish_here lane at (lane_bytes lane m.tree) m apart room ∙ ap (λ (o : Option Item). Some (file (held o))) e;
  firm = λ p u. ap (λ (b : Bool). not b && m.loose p) u;
}

publish_keeps : (lane : ℕ) (at : Path) (value : Value) (m : Moment) → Keeps (in_publish lane at) m (published lane at value m)
publish_keeps lane at value m = record {
  paths = record {
    items =
        λ p out. let parts = or_parts (under (lane_path lane) p) (under at p) out in item_kept (left_tree at value m.tree) (λ q. not (under (lane_path lane) q)) p (not_from_false (under (lane_path lane) p) parts.0) ∙ left_other at value m.tree p parts.1;
    loose = λ p out. ap (λ (b : Bool). not b && m.loose p) (or_parts (under (lane_path lane) p) (under at p) out).1;
  };
  aside = stays_met (told value ∷ []) m.aside;
}

moved_one : {T E : Type 0} (r : Result T E) (lane : ℕ) (at : Path) (h h' : History) → Makes r (moved lane at) IsSame h h' → Makes r (grown (published lane at (File (lane_bytes lane h.present.tree)))) IsSame h h'
moved_one (Ok x) lane at h h' made = made
moved_one (Err x) lane at h h' made = made

pub publish_passes : {T E : Type 0} (r : Result T E) (lane : ℕ) (at : Path) (h h' : History) → under (lane_path lane) at ≡ false → HasRoom at h.present.tree → Makes r (moved lane at) IsSame h h' → Passes (InPublish lane at h.present) h h'
publish_passes r lane at h h' apart room made =
    let value : Value = File (lane_bytes lane h.present.tree) in
    one_passes r (InPublish lane at h.present) (published lane at value) h h' (publish_itself lane at h.present) (record { path = inr (publish_new lane at h.present apart room); others = publish_keeps lane at value h.present }) (moved_one r lane at h h' made)

pub publish_published : {T E : Type 0} (r : Result T E) (lane : ℕ) (at : Path) (h h' : History) → under (lane_path lane) at ≡ false → HasRoom at h.present.tree → Makes r (moved lane at) IsSame h h' → OnOk r (IsPublished lane at h.present h'.present)
publish_published r lane at h h' apart room made =
    let value : Value = File (lane_bytes lane h.present.tree) in
    one_left r (IsPublished lane at h.present) (published lane at value) h h'
    (record {
      moved = publish_new lane at h.present apart room;
      gone = λ p u. item_gone (left_tree at value h.present.tree) (λ q. not (under (lane_path lane) q)) p (below_not_root (lane_path lane) p (lane_not_root lane) u) (not_from_true (under (lane_path lane) p) u);
    }) (moved_one r lane at h h' made)
