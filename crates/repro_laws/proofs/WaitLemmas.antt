-- Stages of a plan can have their turns, one after another.
--     outs_later         what a stage of a plan may ask of the outputs before it
--     waiting_planned    a front of a plan, and the stages after it
use Rattle.std.proofs.Common.{◌≡◌, ◌≢◌, nat_lt, Bool, true, false, not, List, [], ◌∷◌, ◌++◌, length, refl, sym, ap, subst, ◌∙◌, arith, append_assoc, ◌==◌}
use Rattle.std.specs.List.{AllByRecursion, list_any, flat_map}
use Rattle.std.proofs.lemmas.Bool.{false≢true, or_parts, or_from, or_left, and_from, and_parts, false_from_ne_true, ltb-true}
use Rattle.std.proofs.lemmas.List.Folds.{list_any-append}
use Rattle.dvc_base.specs.Path.{Path, under, overlap, is_within}
use Rattle.world_api.specs.Calls.{is_apart, are_apart}
use Rattle.repro_laws.specs.Stage.{out_path, read_paths, stage_outs, IsStage}
use Rattle.repro_laws.specs.Headline.{IsApart, IsKept, is_ordered, IsPlanned}
use Rattle.repro_laws.specs.declared.stage.Stage.{Stage}
use Rattle.repro_laws.proofs.AlikeLemmas.{is_inside, each_on, each_two, each_front, each_mapped}
use Rattle.repro_laws.proofs.GrowLemmas.{IsFree}
use Rattle.repro_laws.proofs.ParamLemmas.{reads_each}
use Rattle.repro_laws.proofs.SeenLemmas.{IsSeenIn, any_false, any_from}
use Rattle.repro_laws.proofs.DueLemmas.{IsLater}
use Rattle.repro_laws.proofs.TurnDue.{IsTurning, outside_below}
use Rattle.repro_laws.proofs.DueLaw.{done_after, IsWaiting}

-- ---- paths that are apart

pub not_false : (b : Bool) → not b ≡ true → b ≡ false
not_false true e = absurd (false≢true e)
not_false false e = refl

-- a path that isn't the root, and overlaps none of the paths
pub record IsClear (done : List Path) (p : Path) : Type 0 where
  pub root : p ≢ []
  pub none : list_any (overlap p) done ≡ false

not_root_of : (p : Path) → not (length p == 0) ≡ true → p ≢ []
not_root_of [] e s = false≢true e
not_root_of (c ∷ p) e s = absurd (cc)

root_test : (p : Path) (ps : List Path) → is_apart p ps ≡ true → not (length p == 0) ≡ true
root_test p [] h = h
root_test p (q ∷ ps) h = root_test p ps (and_parts (not (overlap p q)) (is_apart p ps) h).1

each_apart : (p : Path) (ps : List Path) → is_apart p ps ≡ true → AllByRecursion (λ q. overlap p q ≡ false) ps
each_apart p [] h = tt
each_apart p (q ∷ ps) h =
    let parts = and_parts (not (overlap p q)) (is_apart p ps) h in
    (not_false (overlap p q) parts.0, each_apart p ps parts.1)

overlap_back : (p q : Path) → overlap p q ≡ false → overlap q p ≡ false
overlap_back p q h = let parts = or_parts (under p q) (under q p) h in or_from (under q p) (under p q) parts.1 parts.0

front_apart : (p : Path) (xs ys : List Path) → is_apart p (xs ++ ys) ≡ true → is_apart p xs ≡ true
front_apart p [] ys h = root_test p ys h
front_apart p (x ∷ xs) ys h =
    let parts = and_parts (not (overlap p x)) (is_apart p (xs ++ ys)) h in
    and_from (not (overlap p x)) (is_apart p xs) parts.0 (front_apart p xs ys parts.1)

pub apart_front : (xs ys : List Path) → are_apart (xs ++ ys) ≡ true → are_apart xs ≡ true
apart_front [] ys h = refl
apart_front (x ∷ xs) ys h =
    let parts = and_parts (is_apart x (xs ++ ys)) (are_apart (xs ++ ys)) h in
    and_from (is_apart x xs) (are_apart xs) (front_apart x xs ys parts.0) (apart_front xs ys parts.1)

pub apart_back : (xs ys : List Path) → are_apart (xs ++ ys) ≡ true → are_apart ys ≡ true
apart_back [] ys h = h
apart_back (x ∷ xs) ys h = apart_back xs ys (and_parts (is_apart x (xs ++ ys)) (are_apart (xs ++ ys)) h).1

pub each_root : (ps : List Path) → are_apart ps ≡ true → AllByRecursion (λ p. p ≢ []) ps
each_root [] h = tt
each_root (p ∷ ps) h =
    let parts = and_parts (is_apart p ps) (are_apart ps) h in
    (not_root_of p (root_test p ps parts.0), each_root ps parts.1)

-- each of the later paths is apart from the earlier ones
each_cross : (xs ys : List Path) → are_apart (xs ++ ys) ≡ true → AllByRecursion (λ y. list_any (overlap y) xs ≡ false) ys
each_cross [] ys h = each_of ys
  where
    each_of : (ys : List Path) → AllByRecursion (λ y. list_any (overlap y) [] ≡ false) ys
    each_of [] = tt
    each_of (y ∷ ys) = (refl, each_of ys)
each_cross (x ∷ xs) ys h =
    let parts = and_parts (is_apart x (xs ++ ys)) (are_apart (xs ++ ys)) h in
    each_two (λ y. overlap x y ≡ false) (λ y. list_any (overlap y) xs ≡ false) (λ y. list_any (overlap y) (x ∷ xs) ≡ false) ys
    (λ y a b. or_from (overlap y x) (list_any (overlap y) xs) (overlap_back x y a) b)
    (each_front (λ y. overlap x y ≡ false) xs ys (each_apart x (xs ++ ys) parts.0)).1 (each_cross xs ys parts.1)

pub each_clear : (xs ys : List Path) → are_apart (xs ++ ys) ≡ true → AllByRecursion (IsClear xs) ys
each_clear xs ys h =
    each_two (λ y. list_any (overlap y) xs ≡ false) (λ y. y ≢ []) (IsClear xs) ys (λ y a b. record { root = b; none = a }) (each_cross xs ys h) (each_root ys (apart_back xs ys h))

-- what overlaps no path lies inside none
none_inside : (ps : List Path) (p : Path) → list_any (overlap p) ps ≡ false → is_inside ps p ≡ false
none_inside [] p h = refl
none_inside (o ∷ os) p h =
    let parts = or_parts (overlap p o) (list_any (overlap p) os) h in
    let far = or_parts (under p o) (under o p) parts.0 in
    or_from (is_within p o) (is_inside os p) (false_from_ne_true (is_within p o) (λ w. false≢true (sym far.1 ∙ (and_parts (under o p) (nat_lt (length o) (length p)) w).0))) (none_inside os p parts.1)

not_within_itself : (p : Path) → is_within p p ≡ false
not_within_itself p =
    false_from_ne_true (is_within p p) (λ w. absurd (omega (arith, ltb-true (length p) (length p) (and_parts (under p p) (nat_lt (length p) (length p)) w).1)))

-- none of paths that are apart lies inside another
pub each_outside : (ps : List Path) → are_apart ps ≡ true → AllByRecursion (λ p. is_inside ps p ≡ false) ps
each_outside [] h = tt
each_outside (p ∷ ps) h =
    let parts = and_parts (is_apart p ps) (are_apart ps) h in
    let far = each_apart p ps parts.0 in (
      or_from (is_within p p) (is_inside ps p) (not_within_itself p) (none_inside ps p (any_from (overlap p) ps far)),
      each_two (λ q. overlap p q ≡ false) (λ q. is_inside ps q ≡ false) (λ q. is_inside (p ∷ ps) q ≡ false) ps
          (λ q a b. or_from (is_within q p) (is_inside ps q) (false_from_ne_true (is_within q p) (λ w. false≢true (sym (or_parts (under p q) (under q p) a).0 ∙ (and_parts (under p q) (nat_lt (length p) (length q)) w).0))) b)
          far (each_outside ps parts.1),
    )

inside_joined : (done outs : List Path) (p : Path) → is_inside done p ≡ false → is_inside outs p ≡ false → is_inside (done ++ outs) p ≡ false
inside_joined done outs p a b = list_any-append (is_within p) done outs ∙ or_from (is_inside done p) (is_inside outs p) a b

-- ---- stages

-- the outputs that are done are some of those of all stages
abbrev pub IsPart : List Path → List Path → Type 0
IsPart done all = (p : Path) → is_inside done p ≡ true → is_inside all p ≡ true

module _ (own : Path → Bool) where
  free_of : (done outs : List Path) → AllByRecursion (IsApart own) outs → AllByRecursion (IsClear done) outs → AllByRecursion (IsFree own done) outs
  free_of done outs kept clear =
      each_two (IsApart own) (IsClear done) (IsFree own done) outs (λ p a c. record { root = c.root; apart = a; far = λ r. outside_below done p r c.none }) kept clear

  seen_in : (all done : List Path) (s : Stage) → IsStage s → IsKept own s → AllByRecursion (λ d. d.inside ≡ is_inside all d.path) s.deps → IsPart done all → AllByRecursion (λ p. is_inside done p ≡ false) (stage_outs s) → IsSeenIn own done s
  seen_in all done s is kept marked part outs =
      record {
        stage = is;
        kept = kept;
        deps = each_on (λ d. d.inside ≡ is_inside all d.path) (λ d. is_inside done d.path ≡ true → d.inside ≡ true) s.deps (λ d m i. m ∙ part d.path i) marked;
        outs = each_mapped out_path (λ p. is_inside done p ≡ false) s.made outs;
      }

  outs_later : (all done : List Path) (s : Stage) → IsStage s → IsKept own s → AllByRecursion (λ d. d.inside ≡ is_inside all d.path) s.deps → IsPart done all → AllByRecursion (IsClear done) (stage_outs s) → IsLater own done s
  outs_later all done s is kept marked part clear =
      record {
        seen = seen_in all done s is kept marked part (each_on (IsClear done) (λ p. is_inside done p ≡ false) (stage_outs s) (λ p c. none_inside done p c.none) clear);
        free = free_of done (stage_outs s) kept.outs clear;
      }

  -- what overlaps none of the outputs that follow
  reads_free : (s : Stage) (rest : List Path) → list_any (λ p. list_any (overlap p) (stage_outs s ++ rest)) (read_paths s) ≡ false → AllByRecursion (λ p. list_any (overlap p) (stage_outs s) ≡ false) (read_paths s)
  reads_free s rest h =
      each_on (λ p. list_any (overlap p) (stage_outs s ++ rest) ≡ false) (λ p. list_any (overlap p) (stage_outs s) ≡ false) (read_paths s)
      (λ p e. (or_parts (list_any (overlap p) (stage_outs s)) (list_any (overlap p) rest) (sym (list_any-append (overlap p) (stage_outs s) rest) ∙ e)).0)
      (any_false (λ p. list_any (overlap p) (stage_outs s ++ rest)) (read_paths s) h)

  turning_of : (all done : List Path) (s : Stage) (rest : List Path) → IsStage s → IsKept own s → AllByRecursion (λ d. d.inside ≡ is_inside all d.path) s.deps → IsPart done all → IsPart (done ++ stage_outs s) all → are_apart (done ++ (stage_outs s ++ rest)) ≡ true → list_any (λ p. list_any (overlap p) (stage_outs s ++ rest)) (read_paths s) ≡ false → IsTurning own done s
  turning_of all done s rest is kept marked part more apart order =
      let outs = stage_outs s in
      let clear = (each_front (IsClear done) outs rest (each_clear done (outs ++ rest) apart)).0 in
      let own_apart : are_apart outs ≡ true = apart_front outs rest (apart_back done (outs ++ rest) apart) in
      let later = outs_later all done s is kept marked part clear in
      let reads = reads_each (λ p. list_any (overlap p) outs ≡ false) s (reads_free s rest order) in
      record {
        later = later;
        after = seen_in all (done ++ outs) s is kept marked more (each_two (IsClear done) (λ p. is_inside outs p ≡ false) (λ p. is_inside (done ++ outs) p ≡ false) outs (λ p c o. inside_joined done outs p (none_inside done p c.none) o) clear (each_outside outs own_apart));
        apart = own_apart;
        reads = reads.0;
        params = reads.1;
      }

  -- ---- plans

  abbrev AreAllMarked : List Path → List Stage → Type 0
  AreAllMarked all ss = AllByRecursion (λ s. AllByRecursion (λ d. d.inside ≡ is_inside all d.path) s.deps) ss

  part_left : (xs ys all : List Path) → IsPart (xs ++ ys) all → IsPart xs all
  part_left xs ys all part p h = part p (list_any-append (is_within p) xs ys ∙ or_left (is_inside xs p) (is_inside ys p) h)

  all_later : (all done : List Path) (ss : List Stage) → AllByRecursion IsStage ss → AllByRecursion (IsKept own) ss → AreAllMarked all ss → IsPart done all → AllByRecursion (IsClear done) (flat_map stage_outs ss) → AllByRecursion (IsLater own done) ss
  all_later all done [] is kept marked part clear = tt
  all_later all done (s ∷ ss) is kept marked part clear =
      let parts = each_front (IsClear done) (stage_outs s) (flat_map stage_outs ss) clear in
      (outs_later all done s is.0 kept.0 marked.0 part parts.0, all_later all done ss is.1 kept.1 marked.1 part parts.1)

  waiting_on : (all done : List Path) (ss others : List Stage) → AllByRecursion IsStage (ss ++ others) → AllByRecursion (IsKept own) (ss ++ others) → AreAllMarked all (ss ++ others) → is_ordered (ss ++ others) ≡ true → are_apart (done ++ flat_map stage_outs (ss ++ others)) ≡ true → IsPart (done ++ flat_map stage_outs (ss ++ others)) all → IsWaiting own done ss × AllByRecursion (IsLater own (done_after done ss)) others
  waiting_on all done [] others is kept marked order apart part =
      let rest = flat_map stage_outs others in
      (tt, all_later all done others is kept marked (part_left done rest all part) (each_clear done rest apart))
  waiting_on all done (s ∷ ss) others is kept marked order apart part =
      let outs = stage_outs s in
      let rest = flat_map stage_outs (ss ++ others) in
      let joined : (done ++ outs) ++ rest ≡ done ++ (outs ++ rest) = append_assoc done outs rest in
      let orders = and_parts (not (list_any (λ p. list_any (overlap p) (outs ++ rest)) (read_paths s))) (is_ordered (ss ++ others)) order in
      let next_part : IsPart ((done ++ outs) ++ rest) all = subst (λ (l : List Path). IsPart l all) (sym joined) part in
      let more = waiting_on all (done ++ outs) ss others is.1 kept.1 marked.1 orders.1 (ap are_apart joined ∙ apart) next_part in
      ((turning_of all done s rest is.0 kept.0 marked.0 (part_left done (outs ++ rest) all part) (part_left (done ++ outs) rest all next_part) apart (not_false _ orders.0), more.0), more.1)

  pub waiting_planned : (ss others : List Stage) → IsPlanned own (ss ++ others) → IsWaiting own [] ss × AllByRecursion (IsLater own (done_after [] ss)) others
  waiting_planned ss others plan =
      waiting_on (flat_map stage_outs (ss ++ others)) [] ss others plan.each plan.kept plan.marked plan.order plan.apart (λ p h. h)
