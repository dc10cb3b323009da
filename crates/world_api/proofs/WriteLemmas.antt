-- Laws of the writing calls: what each keeps, and how calls in a row make a write.
--     .._itself                    each record holds at its call's own start
--     made_then_same, made_then_made
--     scratch_..                   calls that publish nothing, one after another
--     write_of_scratch, write_of_publish     each moment of a write
--     passes_..                    the same over histories, for a caller that has made one call more
use Rattle.std.proofs.Common.{◌≡◌, ◌≢◌, ◌⊎◌, ℕ, Bool, true, false, ◌||◌, List, [], ◌++◌, refl, sym, ap, ◌∙◌, inl, inr, Some, Result, Ok, Err, OnOk}
use Rattle.std.proofs.lemmas.Bool.{false≢true, false_from_ne_true, or_parts, or_from, and_parts}
use Rattle.dvc_base.specs.Path.{Path, under}
use Rattle.dvc_base.proofs.PathLemmas.{under-trans}
use Rattle.world_api.specs.Tree.{folder, file, item_at}
use Rattle.world_api.specs.History.{Moment, History, Keeps, Passes}
use Rattle.world_api.specs.Calls.{parent}
use Rattle.world_api.specs.Layout.{dvc_path, tmp_path, lane_path}
use Rattle.world_api.specs.Writes.{is_at, IsSameAt, IsSameUnder, IsNewFile, IsMade, HasRoom, IsFirmLane, in_begin, InBegin, InAppend, IsAppended, InSettle, IsSettled, IsMoved, in_publish, InPublish, IsPublished, in_scratch, InScratch, in_write, InWrite, IsNoScratch}
use Rattle.world_api.proofs.HistoryLemmas.{keeps_itself, keeps_then, keeps_in, passes_weaker, passes_on}
use Rattle.world_api.proofs.TreeLemmas.{under_parent, path_cases}
use Rattle.world_api.proofs.LaneLemmas.{lane_in_tmp, dvc_above_lane, apart_scratch, apart_dvc, not_at}

-- ---- states of a path

pub same_at : (q : Path) (area : Path → Bool) (m n : Moment) → Keeps area m n → area q ≡ false → IsSameAt q m n
same_at q area m n keeps out = record { item = keeps.paths.items q out; loose = keeps.paths.loose q out }

pub same_under : (q : Path) (area : Path → Bool) (m n : Moment) → Keeps area m n → ((p : Path) → under q p ≡ true → area p ≡ false) → IsSameUnder q m n
same_under q area m n keeps out = record { items = λ p u. keeps.paths.items p (out p u); loose = λ p u. keeps.paths.loose p (out p u) }

pub same_at_then : (q : Path) (m k n : Moment) → IsSameAt q m k → IsSameAt q k n → IsSameAt q m n
same_at_then q m k n a b = record { item = b.item ∙ a.item; loose = b.loose ∙ a.loose }

pub same_under_then : (q : Path) (m k n : Moment) → IsSameUnder q m k → IsSameUnder q k n → IsSameUnder q m n
same_under_then q m k n a b = record { items = λ p u. b.items p u ∙ a.items p u; loose = λ p u. b.loose p u ∙ a.loose p u }

pub same_at_itself : (q : Path) (m : Moment) → IsSameAt q m m
same_at_itself q m = record { item = refl; loose = refl }

pub same_under_itself : (q : Path) (m : Moment) → IsSameUnder q m m
same_under_itself q m = record { items = λ p u. refl; loose = λ p u. refl }

pub made_then_same : (q : Path) (m k n : Moment) → IsMade q m k → IsSameAt q k n → IsMade q m n
made_then_same q m k n (inl a) b = inl (same_at_then q m k n a b)
made_then_same q m k n (inr a) b = inr (a.0, record { stands = b.item ∙ a.1.stands; firm = b.loose ∙ a.1.firm })

pub made_then_made : (q : Path) (m k n : Moment) → IsMade q m k → IsMade q k n → IsMade q m n
made_then_made q m k n a (inl b) = made_then_same q m k n a b
made_then_made q m k n (inl a) (inr b) = inr (sym a.item ∙ b.0, b.1)
made_then_made q m k n (inr a) (inr b) = inr (a.0, b.1)

-- a folder that stood, stands
pub made_folder : (q : Path) (m n : Moment) → IsMade q m n → item_at m.tree q ≡ Some folder → item_at n.tree q ≡ Some folder
made_folder q m n (inl a) e = a.item ∙ e
made_folder q m n (inr a) e = a.1.stands

-- ---- each call at its own start

pub begin_itself : (lane : ℕ) (m : Moment) → InBegin lane m m
begin_itself lane m = record { dvc = inl (same_at_itself dvc_path m); tmp = inl (same_at_itself tmp_path m); others = keeps_itself (in_begin lane) m }

pub append_itself : (lane : ℕ) (m : Moment) → InAppend lane m m
append_itself lane m = record { others = keeps_itself (under (lane_path lane)) m }

pub settle_itself : (lane : ℕ) (m : Moment) → InSettle lane m m
settle_itself lane m = record { others = keeps_itself (under (lane_path lane)) m }

pub publish_itself : (lane : ℕ) (at : Path) (m : Moment) → InPublish lane at m m
publish_itself lane at m = record { path = inl (same_under_itself at m); others = keeps_itself (in_publish lane at) m }

-- ---- calls that publish nothing

lane_outside : (lane : ℕ) (p : Path) → under tmp_path p ≡ false → under (lane_path lane) p ≡ false
lane_outside lane p out =
    false_from_ne_true (under (lane_path lane) p) (λ e. false≢true (sym out ∙ under-trans tmp_path (lane_path lane) p (lane_in_tmp lane) e))

begin_outside : (lane : ℕ) (p : Path) → in_scratch p ≡ false → in_begin lane p ≡ false
begin_outside lane p out =
    let parts = or_parts (is_at dvc_path p) (under tmp_path p) out in
    or_from (is_at dvc_path p || is_at tmp_path p) (under (lane_path lane) p)
    (or_from (is_at dvc_path p) (is_at tmp_path p) parts.0 (false_from_ne_true (is_at tmp_path p) (λ e. false≢true (sym parts.1 ∙ (and_parts (under tmp_path p) (under p tmp_path) e).0))))
    (lane_outside lane p parts.1)

lane_in_scratch : (lane : ℕ) (p : Path) → in_scratch p ≡ false → under (lane_path lane) p ≡ false
lane_in_scratch lane p out = lane_outside lane p (or_parts (is_at dvc_path p) (under tmp_path p) out).1

pub scratch_itself : (m : Moment) → InScratch m m
scratch_itself m = record { dvc = inl (same_at_itself dvc_path m); others = keeps_itself in_scratch m }

pub scratch_then : (m k n : Moment) → InScratch m k → InScratch k n → InScratch m n
scratch_then m k n a b = record { dvc = made_then_made dvc_path m k n a.dvc b.dvc; others = keeps_then in_scratch m k n a.others b.others }

pub scratch_of_begin : (lane : ℕ) (m n : Moment) → InBegin lane m n → InScratch m n
scratch_of_begin lane m n h = record { dvc = h.dvc; others = keeps_in (in_begin lane) in_scratch m n (begin_outside lane) h.others }

scratch_of_lane : (lane : ℕ) (m n : Moment) → Keeps (under (lane_path lane)) m n → InScratch m n
scratch_of_lane lane m n h = record {
  dvc = inl (same_at dvc_path (under (lane_path lane)) m n h (dvc_above_lane lane));
  others = keeps_in (under (lane_path lane)) in_scratch m n (lane_in_scratch lane) h;
}

pub scratch_of_append : (lane : ℕ) (m n : Moment) → InAppend lane m n → InScratch m n
scratch_of_append lane m n h = scratch_of_lane lane m n h.others

pub scratch_of_settle : (lane : ℕ) (m n : Moment) → InSettle lane m n → InScratch m n
scratch_of_settle lane m n h = scratch_of_lane lane m n h.others

-- what stands at a path apart from the lanes: a folder stays one, and all else but a missing `.dvc` stays
pub scratch_folder : (q : Path) (m n : Moment) → InScratch m n → under tmp_path q ≡ false → item_at m.tree q ≡ Some folder → item_at n.tree q ≡ Some folder
scratch_folder q m n h out e =
    elim (path_cases dvc_path q) [
      | inl s ↦ ap (item_at n.tree) (sym s) ∙ made_folder dvc_path m n h.dvc (ap (item_at m.tree) s ∙ e)
      | inr ne ↦ h.others.paths.items q (or_from (is_at dvc_path q) (under tmp_path q) (not_at dvc_path q ne) out) ∙ e
    ]

pub scratch_same : (q : Path) (m n : Moment) → InScratch m n → in_scratch q ≡ false → IsSameAt q m n
scratch_same q m n h out = same_at q in_scratch m n h.others out

-- room at a path stays
pub scratch_room : (at : Path) (m n : Moment) → InScratch m n → IsNoScratch at → HasRoom at m.tree → HasRoom at n.tree
scratch_room at m n h out room =
    let above : under tmp_path (parent at) ≡ false = false_from_ne_true (under tmp_path (parent at)) (λ e. false≢true (sym out.no_tmp ∙ under-trans tmp_path (parent at) at e (under_parent at))) in
    record {
      above = scratch_folder (parent at) m n h above room.above;
      no_folder = λ e. room.no_folder (sym (h.others.paths.items at (or_from (is_at dvc_path at) (under tmp_path at) (not_at dvc_path at (λ s. out.no_dvc (sym s))) out.no_tmp)) ∙ e);
    }

-- ---- a write

room_not_root : (at : Path) (m : Moment) → HasRoom at m.tree → at ≢ []
room_not_root at m room e = room.no_folder (ap (item_at m.tree) e)

pub write_itself : (at : Path) (bytes : List ℕ) (m : Moment) → InWrite at bytes m m
write_itself at bytes m = record { path = inl (same_under_itself at m); dvc = inl (same_at_itself dvc_path m); others = keeps_itself (in_write at) m }

write_area : (at p : Path) → in_write at p ≡ false → in_scratch p ≡ false
write_area at p out = (or_parts (under at p) (in_scratch p) out).1

-- before the publish
pub write_of_scratch : (at : Path) (bytes : List ℕ) (m n : Moment) → IsNoScratch at → HasRoom at m.tree → InScratch m n → InWrite at bytes m n
write_of_scratch at bytes m n out room h = record {
  path = inl (same_under at in_scratch m n h.others (λ p u. apart_scratch at p (room_not_root at m room) out u));
  dvc = h.dvc;
  others = keeps_in in_scratch (in_write at) m n (write_area at) h.others;
}

publish_outside : (lane : ℕ) (at p : Path) → in_write at p ≡ false → in_publish lane at p ≡ false
publish_outside lane at p out =
    let parts = or_parts (under at p) (in_scratch p) out in
    or_from (under (lane_path lane) p) (under at p) (lane_in_scratch lane p parts.1) parts.0

write_path : (lane : ℕ) (at : Path) (bytes : List ℕ) (m k n : Moment) → IsSameUnder at m k → item_at k.tree (lane_path lane) ≡ Some (file bytes) → IsSameUnder at k n ⊎ IsMoved lane at k n → IsSameUnder at m n ⊎ IsNewFile at bytes n
write_path lane at bytes m k n before stands (inl a) = inl (same_under_then at m k n before a)
write_path lane at bytes m k n before stands (inr a) = inr (a bytes stands)

-- during the publish of a lane with the bytes
pub write_of_publish : (lane : ℕ) (at : Path) (bytes : List ℕ) (m k n : Moment) → IsNoScratch at → HasRoom at m.tree → InScratch m k → item_at k.tree (lane_path lane) ≡ Some (file bytes) → InPublish lane at k n → InWrite at bytes m n
write_of_publish lane at bytes m k n out room before stands h =
    let root = room_not_root at m room in
    record {
      path = write_path lane at bytes m k n (same_under at in_scratch m k before.others (λ p u. apart_scratch at p root out u)) stands h.path;
      dvc = made_then_same dvc_path m k n before.dvc (same_at dvc_path (in_publish lane at) k n h.others (or_from (under (lane_path lane) dvc_path) (under at dvc_path) (dvc_above_lane lane) (apart_dvc at root out)));
      others = keeps_then (in_write at) m k n (keeps_in in_scratch (in_write at) m k (write_area at) before.others) (keeps_in (in_publish lane at) (in_write at) k n (publish_outside lane at) h.others);
    }

-- ---- over histories: so far nothing was published, and one call follows

pub passes_begin : (lane : ℕ) (a b : History) → Passes (InBegin lane a.present) a b → Passes (InScratch a.present) a b
passes_begin lane a b x = passes_weaker (InBegin lane a.present) (InScratch a.present) a b (scratch_of_begin lane a.present) x

pub passes_begin_too : (lane : ℕ) (a b c : History) → Passes (InScratch a.present) a b → Passes (InBegin lane b.present) b c → Passes (InScratch a.present) a c
passes_begin_too lane a b c x y =
    passes_on (InScratch a.present) (InBegin lane b.present) a b c x (λ m h. scratch_then a.present b.present m x.now (scratch_of_begin lane b.present m h)) y

pub passes_append : (lane : ℕ) (a b c : History) → Passes (InScratch a.present) a b → Passes (InAppend lane b.present) b c → Passes (InScratch a.present) a c
passes_append lane a b c x y =
    passes_on (InScratch a.present) (InAppend lane b.present) a b c x (λ m h. scratch_then a.present b.present m x.now (scratch_of_append lane b.present m h)) y

pub passes_settle : (lane : ℕ) (a b c : History) → Passes (InScratch a.present) a b → Passes (InSettle lane b.present) b c → Passes (InScratch a.present) a c
passes_settle lane a b c x y =
    passes_on (InScratch a.present) (InSettle lane b.present) a b c x (λ m h. scratch_then a.present b.present m x.now (scratch_of_settle lane b.present m h)) y

pub passes_unpublished : (at : Path) (bytes : List ℕ) (a b : History) → IsNoScratch at → HasRoom at a.present.tree → Passes (InScratch a.present) a b → Passes (InWrite at bytes a.present) a b
passes_unpublished at bytes a b out room x =
    passes_weaker (InScratch a.present) (InWrite at bytes a.present) a b (λ m h. write_of_scratch at bytes a.present m out room h) x

pub passes_publish : (lane : ℕ) (at : Path) (bytes : List ℕ) (a b c : History) → IsNoScratch at → HasRoom at a.present.tree → Passes (InScratch a.present) a b → item_at b.present.tree (lane_path lane) ≡ Some (file bytes) → Passes (InPublish lane at b.present) b c → Passes (InWrite at bytes a.present) a c
passes_publish lane at bytes a b c out room x stands y =
    passes_on (InWrite at bytes a.present) (InPublish lane at b.present) a b c (passes_unpublished at bytes a b out room x) (λ m h. write_of_publish lane at bytes a.present b.present m out room x.now stands h) y

-- ---- what a lane holds

pub lane_grown : (lane : ℕ) (old bytes : List ℕ) (m n : Moment) → item_at m.tree (lane_path lane) ≡ Some (file old) → IsAppended lane bytes m n → item_at n.tree (lane_path lane) ≡ Some (file (old ++ bytes))
lane_grown lane old bytes m n e h = h.grown old e

pub lane_firm : (lane : ℕ) (bytes : List ℕ) (m n : Moment) → item_at m.tree (lane_path lane) ≡ Some (file bytes) → IsSettled lane m n → IsFirmLane lane n
lane_firm lane bytes m n e h = record { stands = (bytes, h.same ∙ e); firm = h.firm }

pub published_file : {T E : Type 0} (r : Result T E) (lane : ℕ) (at : Path) (bytes : List ℕ) (m n : Moment) → item_at m.tree (lane_path lane) ≡ Some (file bytes) → OnOk r (IsPublished lane at m n) → OnOk r (IsNewFile at bytes n)
published_file (Ok done) lane at bytes m n e h = h.moved bytes e
published_file (Err why) lane at bytes m n e h = tt
