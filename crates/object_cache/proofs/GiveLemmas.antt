-- Laws of one file that is put at its place: the calls that are made for it, one after another.
--     placed_then            a place after one stretch of moments and another
--     give_itself, give_then, give_weaker
--     give_of_scratch, give_of_clear, give_of_make, give_of_publish, give_of_write      what each call does
--     passes_..              the same over histories
--     .._road, .._lane       what stands on the way to the place, and in the lane
use Rattle.std.proofs.Common.{◌≡◌, ◌≢◌, ◌⊎◌, ℕ, Bool, true, false, ◌||◌, List, [], ◌∷◌, ◌++◌, refl, sym, ap, subst, ◌∙◌, inl, inr, Option, Some, None, bytes_eq}
use Rattle.std.proofs.lemmas.Bool.{false≢true, false_from_ne_true, both_ways, or_parts, or_from, and_parts, and_from}
use Rattle.std.proofs.lemmas.Slice.Eq.{bytes_eq-Decides}
use Rattle.dvc_base.specs.Path.{Path, under}
use Rattle.dvc_base.proofs.PathLemmas.{under-refl, under-trans}
use Rattle.world_api.specs.Tree.{folder, file, item_at}
use Rattle.world_api.specs.History.{Moment, History, Passes}
use Rattle.world_api.specs.Calls.{InClear, parent}
use Rattle.world_api.specs.Layout.{dvc_path, tmp_path, lane_path}
use Rattle.world_api.specs.Writes.{is_at, IsSameUnder, IsNewFile, IsMade, IsNoFileAt, HasRoad, HasRoom, IsFirmLane, IsFolderAt, InMakeFolder, in_publish, InPublish, in_scratch, InScratch, in_write, InWrite, IsNoScratch}
use Rattle.world_api.proofs.HistoryLemmas.{keeps_itself, keeps_then, keeps_in, passes_same, passes_weaker, passes_on}
use Rattle.world_api.proofs.TreeLemmas.{path_cases, under_parent, parent_apart, split_last}
use Rattle.world_api.proofs.LaneLemmas.{lane_in_tmp, dvc_above_lane, apart_tmp, apart_dvc, apart_scratch, not_at, lane_apart}
use Rattle.world_api.proofs.WriteLemmas.{same_at, same_under, same_at_itself, same_under_itself, same_under_then, made_then_made}
use Rattle.object_cache.specs.Copying.{IsInLane}
use Rattle.object_cache.specs.Giving.{IsGivingWay, IsGivenFile, in_give, InGive}

-- ---- a place, after one stretch and another

way_then_same : (p : Path) (m k n : Moment) → IsGivingWay p m k → IsSameUnder p k n → IsGivingWay p m n
way_then_same p m k n a b = record {
  stood = a.stood;
  gone = λ q u. elim (a.gone q u) [ inl e ↦ inl (b.items q u ∙ e) | inr e ↦ inr (b.items q u ∙ e) ];
  firm = λ q u f. b.loose q u ∙ a.firm q u f;
}

same_then_way : (p : Path) (m k n : Moment) → IsSameUnder p m k → IsGivingWay p k n → IsGivingWay p m n
same_then_way p m k n a b = record {
  stood = sym (a.items p (under-refl p)) ∙ b.stood;
  gone = λ q u. elim (b.gone q u) [ inl e ↦ inl (e ∙ a.items q u) | inr e ↦ inr e ];
  firm = λ q u f. b.firm q u (a.loose q u ∙ f);
}

way_then_way : (p : Path) (m k n : Moment) → IsGivingWay p m k → IsGivingWay p k n → IsGivingWay p m n
way_then_way p m k n a b = record {
  stood = a.stood;
  gone = λ q u. elim (b.gone q u) [
    | inl e ↦ elim (a.gone q u) [ inl f ↦ inl (e ∙ f) | inr f ↦ inr (e ∙ f) ]
    | inr e ↦ inr e
  ];
  firm = λ q u f. b.firm q u (a.firm q u f);
}

-- what is new stays new while nothing changes, and is no folder
pub placed_then : (New : Moment → Type 0) (p : Path) (m k n : Moment) → (New k → IsSameUnder p k n → New n) → (New k → IsFolderAt k.tree p → ⊥) → IsSameUnder p m k ⊎ (New k ⊎ IsGivingWay p m k) → IsSameUnder p k n ⊎ (New n ⊎ IsGivingWay p k n) → IsSameUnder p m n ⊎ (New n ⊎ IsGivingWay p m n)
placed_then New p m k n keep none x (inr (inl b)) = inr (inl b)
placed_then New p m k n keep none (inl a) (inl b) = inl (same_under_then p m k n a b)
placed_then New p m k n keep none (inr (inl a)) (inl b) = inr (inl (keep a b))
placed_then New p m k n keep none (inr (inr a)) (inl b) = inr (inr (way_then_same p m k n a b))
placed_then New p m k n keep none (inl a) (inr (inr b)) = inr (inr (same_then_way p m k n a b))
placed_then New p m k n keep none (inr (inl a)) (inr (inr b)) = absurd (none a b.stood)
placed_then New p m k n keep none (inr (inr a)) (inr (inr b)) = inr (inr (way_then_way p m k n a b))

pub new_file_kept : (p : Path) (bytes : List ℕ) (k n : Moment) → IsNewFile p bytes k → IsSameUnder p k n → IsNewFile p bytes n
new_file_kept p bytes k n g s = record { stands = s.items p (under-refl p) ∙ g.stands; firm = λ q u. s.loose q u ∙ g.firm q u }

pub new_file_no_folder : (p : Path) (bytes : List ℕ) (k : Moment) → IsNewFile p bytes k → IsFolderAt k.tree p → ⊥
new_file_no_folder p bytes k g f = let e : Some (file bytes) ≡ Some folder = sym g.stands ∙ f in cc

given_kept : (at : Path) (given : Option (List ℕ)) (k n : Moment) → IsGivenFile at given k → IsSameUnder at k n → IsGivenFile at given n
given_kept at None k n g s = g
given_kept at (Some bytes) k n g s = new_file_kept at bytes k n g s

given_no_folder : (at : Path) (given : Option (List ℕ)) (k : Moment) → IsGivenFile at given k → IsFolderAt k.tree at → ⊥
given_no_folder at None k g f = g
given_no_folder at (Some bytes) k g f = new_file_no_folder at bytes k g f

-- ---- what one call after another does

pub give_itself : (at : Path) (given : Option (List ℕ)) (m : Moment) → InGive at given m m
give_itself at given m = record {
  path = inl (same_under_itself at m);
  road = λ q u v. inl (same_at_itself q m);
  dvc = inl (same_at_itself dvc_path m);
  others = keeps_itself (in_give at) m;
}

pub give_then : (at : Path) (given : Option (List ℕ)) (m k n : Moment) → InGive at given m k → InGive at given k n → InGive at given m n
give_then at given m k n a b = record {
  path = placed_then (IsGivenFile at given) at m k n (given_kept at given k n) (given_no_folder at given k) a.path b.path;
  road = λ q u v. made_then_made q m k n (a.road q u v) (b.road q u v);
  dvc = made_then_made dvc_path m k n a.dvc b.dvc;
  others = keeps_then (in_give at) m k n a.others b.others;
}

weaker_path : (at : Path) (given : Option (List ℕ)) (m n : Moment) → IsSameUnder at m n ⊎ (⊥ ⊎ IsGivingWay at m n) → IsSameUnder at m n ⊎ (IsGivenFile at given n ⊎ IsGivingWay at m n)
weaker_path at given m n (inl a) = inl a
weaker_path at given m n (inr (inl a)) = absurd a
weaker_path at given m n (inr (inr a)) = inr (inr a)

pub give_weaker : (at : Path) (given : Option (List ℕ)) (m n : Moment) → InGive at None m n → InGive at given m n
give_weaker at given m n h = record { path = weaker_path at given m n h.path; road = h.road; dvc = h.dvc; others = h.others }

-- ---- each call

outside_scratch : (at p : Path) → in_give at p ≡ false → in_scratch p ≡ false
outside_scratch at p o = (or_parts (in_scratch p) (under at p || under p at) o).0

outside_path : (at p : Path) → in_give at p ≡ false → (under at p ≡ false) × (under p at ≡ false)
outside_path at p o = or_parts (under at p) (under p at) (or_parts (in_scratch p) (under at p || under p at) o).1

above_no_tmp : (at q : Path) → IsNoScratch at → under q at ≡ true → under tmp_path q ≡ false
above_no_tmp at q out u = false_from_ne_true (under tmp_path q) (λ e. both_ways (under tmp_path at) out.no_tmp (under-trans tmp_path q at e u))

above_no_lane : (lane : ℕ) (at q : Path) → IsNoScratch at → under q at ≡ true → under (lane_path lane) q ≡ false
above_no_lane lane at q out u = false_from_ne_true (under (lane_path lane) q) (λ e. both_ways (under (lane_path lane) at) (lane_apart lane at out) (under-trans (lane_path lane) q at e u))

road_of_scratch : (at q : Path) (m n : Moment) → IsNoScratch at → InScratch m n → under q at ≡ true → IsMade q m n
road_of_scratch at q m n out h u =
    elim (path_cases dvc_path q) [
      | inl s ↦ subst (λ (x : Path). IsMade x m n) s h.dvc
      | inr ne ↦ inl (same_at q in_scratch m n h.others (or_from (is_at dvc_path q) (under tmp_path q) (not_at dvc_path q ne) (above_no_tmp at q out u)))
    ]

pub give_of_scratch : (at : Path) (given : Option (List ℕ)) (m n : Moment) → IsNoScratch at → at ≢ [] → InScratch m n → InGive at given m n
give_of_scratch at given m n out root h = record {
  path = inl (same_under at in_scratch m n h.others (λ p u. apart_scratch at p root out u));
  road = λ q u v. road_of_scratch at q m n out h u;
  dvc = h.dvc;
  others = keeps_in in_scratch (in_give at) m n (outside_scratch at) h.others;
}

pub give_of_clear : (at : Path) (given : Option (List ℕ)) (m n : Moment) → IsNoScratch at → at ≢ [] → IsFolderAt m.tree at → InClear at m n → InGive at given m n
give_of_clear at given m n out root stood h = record {
  path = inr (inr (record { stood = stood; gone = h.old_or_missing; firm = h.firm }));
  road = λ q u v. inl (same_at q (under at) m n h.others v);
  dvc = inl (same_at dvc_path (under at) m n h.others (apart_dvc at root out));
  others = keeps_in (under at) (in_give at) m n (λ p o. (outside_path at p o).0) h.others;
}

below_not_above : (at p : Path) → at ≢ [] → under at p ≡ true → under p (parent at) ≡ false
below_not_above at p root u =
    false_from_ne_true (under p (parent at)) (λ e. both_ways (under at (parent at)) (parent_apart at root) (under-trans at p (parent at) u e))

pub under_last : (q p : Path) (c : List ℕ) → under q (p ++ c ∷ []) ≡ true → (under q p ≡ true) ⊎ (under (p ++ c ∷ []) q ≡ true)
under_last [] p c e = inl refl
under_last (d ∷ []) [] c e =
    let x = and_parts (bytes_eq d c) true e in
    inr (and_from (bytes_eq c d) true ((bytes_eq-Decides c d).1 (sym ((bytes_eq-Decides d c).0 x.0))) refl)
under_last (d ∷ f ∷ q) [] c e = absurd (false≢true (and_parts (bytes_eq d c) false e).1)
under_last (d ∷ q) (f ∷ p) c e =
    let x = and_parts (bytes_eq d f) (under q (p ++ c ∷ [])) e in
    elim (under_last q p c x.1) [
      | inl y ↦ inl (and_from (bytes_eq d f) (under q p) x.0 y)
      | inr y ↦ inr (and_from (bytes_eq f d) (under (p ++ c ∷ []) q) ((bytes_eq-Decides f d).1 (sym ((bytes_eq-Decides d f).0 x.0))) y)
    ]

-- what lies above a path, and isn't it, lies at or above its folder
pub under_folder : (q at : Path) → at ≢ [] → under q at ≡ true → under at q ≡ false → under q (parent at) ≡ true
under_folder q at root u v =
    let r = split_last at root in
    elim (under_last q (parent at) r.0 (sym (ap (under q) r.1) ∙ u)) [
      | inl e ↦ e
      | inr e ↦ absurd (both_ways (under at q) v (ap (λ (x : Path). under x q) r.1 ∙ e))
    ]

dvc_of_make : (up : Path) (m n : Moment) → InMakeFolder up m n → (b : Bool) → under dvc_path up ≡ b → IsMade dvc_path m n
dvc_of_make up m n h true e = h.road dvc_path e
dvc_of_make up m n h false e = inl (same_at dvc_path (λ q. under q up) m n h.others e)

pub give_of_make : (at : Path) (given : Option (List ℕ)) (m n : Moment) → at ≢ [] → InMakeFolder (parent at) m n → InGive at given m n
give_of_make at given m n root h = record {
  path = inl (same_under at (λ q. under q (parent at)) m n h.others (λ p u. below_not_above at p root u));
  road = λ q u v. h.road q (under_folder q at root u v);
  dvc = dvc_of_make (parent at) m n h (under dvc_path (parent at)) refl;
  others = keeps_in (λ q. under q (parent at)) (in_give at) m n (λ p o. false_from_ne_true (under p (parent at)) (λ e. both_ways (under p at) (outside_path at p o).1 (under-trans p (parent at) at e (under_parent at)))) h.others;
}

outside_lane : (lane : ℕ) (p : Path) → in_scratch p ≡ false → under (lane_path lane) p ≡ false
outside_lane lane p o =
    false_from_ne_true (under (lane_path lane) p) (λ e. both_ways (under tmp_path p) (or_parts (is_at dvc_path p) (under tmp_path p) o).1 (under-trans tmp_path (lane_path lane) p (lane_in_tmp lane) e))

pub give_of_publish : (lane : ℕ) (at : Path) (bytes : List ℕ) (m n : Moment) → IsNoScratch at → at ≢ [] → item_at m.tree (lane_path lane) ≡ Some (file bytes) → InPublish lane at m n → InGive at (Some bytes) m n
give_of_publish lane at bytes m n out root stands h = record {
  path = elim h.path [ inl a ↦ inl a | inr a ↦ inr (inl (a bytes stands)) ];
  road = λ q u v. inl (same_at q (in_publish lane at) m n h.others (or_from (under (lane_path lane) q) (under at q) (above_no_lane lane at q out u) v));
  dvc = inl (same_at dvc_path (in_publish lane at) m n h.others (or_from (under (lane_path lane) dvc_path) (under at dvc_path) (dvc_above_lane lane) (apart_dvc at root out)));
  others = keeps_in (in_publish lane at) (in_give at) m n (λ p o. or_from (under (lane_path lane) p) (under at p) (outside_lane lane p (outside_scratch at p o)) (outside_path at p o).0) h.others;
}

road_of_write : (at q : Path) (bytes : List ℕ) (m n : Moment) → IsNoScratch at → InWrite at bytes m n → under q at ≡ true → under at q ≡ false → IsMade q m n
road_of_write at q bytes m n out h u v =
    elim (path_cases dvc_path q) [
      | inl s ↦ subst (λ (x : Path). IsMade x m n) s h.dvc
      | inr ne ↦ inl (same_at q (in_write at) m n h.others (or_from (under at q) (in_scratch q) v (or_from (is_at dvc_path q) (under tmp_path q) (not_at dvc_path q ne) (above_no_tmp at q out u))))
    ]

pub give_of_write : (at : Path) (bytes : List ℕ) (m n : Moment) → IsNoScratch at → InWrite at bytes m n → InGive at (Some bytes) m n
give_of_write at bytes m n out h = record {
  path = elim h.path [ inl a ↦ inl a | inr a ↦ inr (inl a) ];
  road = λ q u v. road_of_write at q bytes m n out h u v;
  dvc = h.dvc;
  others = keeps_in (in_write at) (in_give at) m n (λ p o. or_from (under at p) (in_scratch p) (outside_path at p o).0 (outside_scratch at p o)) h.others;
}

-- ---- what stands on the way

pub made_no_file : (q : Path) (m n : Moment) → IsMade q m n → IsNoFileAt m.tree q → IsNoFileAt n.tree q
made_no_file q m n (inl a) none bytes e = none bytes (sym a.item ∙ e)
made_no_file q m n (inr a) none bytes e = let s : Some folder ≡ Some (file bytes) = sym a.1.stands ∙ e in cc

pub scratch_road : (at : Path) (m n : Moment) → IsNoScratch at → InScratch m n → HasRoad (parent at) m.tree → HasRoad (parent at) n.tree
scratch_road at m n out h road q u =
    made_no_file q m n (road_of_scratch at q m n out h (under-trans q (parent at) at u (under_parent at))) (road q u)

pub give_road : (at : Path) (given : Option (List ℕ)) (m n : Moment) → at ≢ [] → InGive at given m n → HasRoad (parent at) m.tree → HasRoad (parent at) n.tree
give_road at given m n root h road q u =
    let above = under-trans q (parent at) at u (under_parent at) in
    let apart : under at q ≡ false = false_from_ne_true (under at q) (λ e. both_ways (under at (parent at)) (parent_apart at root) (under-trans at q (parent at) e u)) in
    made_no_file q m n (h.road q above apart) (road q u)

-- ---- the lane, while folders are cleared and made

pub clear_lane : (at : Path) (m n : Moment) → IsNoScratch at → at ≢ [] → InClear at m n → IsSameUnder (lane_path 0) m n
clear_lane at m n out root h =
    same_under (lane_path 0) (under at) m n h.others (λ p u. false_from_ne_true (under at p) (λ e. both_ways (under tmp_path p) (apart_tmp at p root out e) (under-trans tmp_path (lane_path 0) p (lane_in_tmp 0) u)))

pub make_lane : (at : Path) (m n : Moment) → IsNoScratch at → InMakeFolder (parent at) m n → IsSameUnder (lane_path 0) m n
make_lane at m n out h =
    same_under (lane_path 0) (λ q. under q (parent at)) m n h.others (λ p u. false_from_ne_true (under p (parent at)) (λ e. both_ways (under (lane_path 0) at) (lane_apart 0 at out) (under-trans (lane_path 0) p at u (under-trans p (parent at) at e (under_parent at)))))

-- the folder above was made, and no folder stands at the path
pub make_room : (at : Path) (m n : Moment) → at ≢ [] → item_at m.tree at ≢ Some folder → InMakeFolder (parent at) m n → IsFolderAt n.tree (parent at) → HasRoom at n.tree
make_room at m n root none h above = record {
  above = above;
  no_folder = λ e. none (sym (h.others.paths.items at (parent_apart at root)) ∙ e);
}

pub lane_kept : (bytes : List ℕ) (m n : Moment) → IsSameUnder (lane_path 0) m n → IsInLane bytes m → IsInLane bytes n
lane_kept bytes m n s h = record {
  stands = s.items (lane_path 0) (under-refl (lane_path 0)) ∙ h.stands;
  firm = λ p u. s.loose p u ∙ h.firm p u;
}

pub lane_firm : (bytes : List ℕ) (m : Moment) → IsInLane bytes m → IsFirmLane 0 m
lane_firm bytes m h = record { stands = (bytes, h.stands); firm = h.firm }

-- ---- over histories

pub passes_still : (at : Path) (given : Option (List ℕ)) (a b : History) → b ≡ a → Passes (InGive at given a.present) a b
passes_still at given a b e = passes_same (InGive at given a.present) a b e (give_itself at given a.present)

pub passes_clear : (at : Path) (a b c : History) → b ≡ a → IsNoScratch at → at ≢ [] → IsFolderAt a.present.tree at → Passes (InClear at b.present) b c → Passes (InGive at None a.present) a c
passes_clear at a b c e out root stood y =
    subst (λ (h : History). Passes (InClear at h.present) h c → Passes (InGive at None a.present) a c) (sym e)
    (λ (x : Passes (InClear at a.present) a c). passes_weaker (InClear at a.present) (InGive at None a.present) a c (λ m h. give_of_clear at None a.present m out root stood h) x) y

pub passes_cleared : (at : Path) (given : Option (List ℕ)) (a b : History) → Passes (InGive at None a.present) a b → Passes (InGive at given a.present) a b
passes_cleared at given a b x = passes_weaker (InGive at None a.present) (InGive at given a.present) a b (λ m h. give_weaker at given a.present m h) x

pub passes_make : (at up : Path) (given : Option (List ℕ)) (a b c : History) → up ≡ parent at → at ≢ [] → Passes (InGive at given a.present) a b → Passes (InMakeFolder up b.present) b c → Passes (InGive at given a.present) a c
passes_make at up given a b c e root x y =
    passes_on (InGive at given a.present) (InMakeFolder (parent at) b.present) a b c x (λ m h. give_then at given a.present b.present m x.now (give_of_make at given b.present m root h))
    (subst (λ (p : Path). Passes (InMakeFolder p b.present) b c) e y)

pub passes_publish : (lane : ℕ) (at : Path) (bytes : List ℕ) (a b c : History) → IsNoScratch at → at ≢ [] → item_at b.present.tree (lane_path lane) ≡ Some (file bytes) → Passes (InGive at (Some bytes) a.present) a b → Passes (InPublish lane at b.present) b c → Passes (InGive at (Some bytes) a.present) a c
passes_publish lane at bytes a b c out root stands x y =
    passes_on (InGive at (Some bytes) a.present) (InPublish lane at b.present) a b c x (λ m h. give_then at (Some bytes) a.present b.present m x.now (give_of_publish lane at bytes b.present m out root stands h)) y

pub passes_give : (at : Path) (given : Option (List ℕ)) (a b c : History) → Passes (InGive at given a.present) a b → Passes (InGive at given b.present) b c → Passes (InGive at given a.present) a c
passes_give at given a b c x y =
    passes_on (InGive at given a.present) (InGive at given b.present) a b c x (λ m h. give_then at given a.present b.present m x.now h) y

pub passes_scratch : (at : Path) (given : Option (List ℕ)) (a b : History) → IsNoScratch at → at ≢ [] → Passes (InScratch a.present) a b → Passes (InGive at given a.present) a b
passes_scratch at given a b out root x =
    passes_weaker (InScratch a.present) (InGive at given a.present) a b (λ m h. give_of_scratch at given a.present m out root h) x

pub passes_write : (at : Path) (bytes : List ℕ) (a b c : History) → IsNoScratch at → Passes (InGive at (Some bytes) a.present) a b → Passes (InWrite at bytes b.present) b c → Passes (InGive at (Some bytes) a.present) a c
passes_write at bytes a b c out x y =
    passes_on (InGive at (Some bytes) a.present) (InWrite at bytes b.present) a b c x (λ m h. give_then at (Some bytes) a.present b.present m x.now (give_of_write at bytes b.present m out h)) y
