-- Laws of paths: those above a path, and outputs that are apart.
--     IsRoad t p          a folder stands at each path strictly above p
--     apart_above         a path that is p, or lies above it, lies in none that p is apart from
--     above_outputs       no path strictly above an output lies in an output
--     apart_lists, apart_overlap     outputs that are apart, in two lists
--     strictly            a path that lies below another is longer
use Rattle.std.proofs.Common.{◌≡◌, ◌≢◌, ℕ, ◌+◌, ◌-◌, ◌<◌, nat_lt, true, false, not, cond, ◌&&◌, List, [], ◌∷◌, ◌++◌, length, take, drop, refl, sym, ap, subst, ◌∙◌, inl, inr, arith, append_assoc, Option, Some, is_some, IsSome, ◌==◌}
use Rattle.std.specs.List.{AllByRecursion, list_any}
use Rattle.std.specs.FinMap.{get}
use Rattle.std.proofs.lemmas.Bool.{false≢true, and_parts, and_from, or_parts, or_from, or_left, or_right, or_cases, both_ways, false_from_ne_true, ltb-true, lt-ltb, cases_lt}
use Rattle.std.proofs.lemmas.List.{append-nil, length-append, length-take-le, take-append-drop}
use Rattle.std.proofs.lemmas.Slice.Eq.{bytes_eq-Decides}
use Rattle.std.proofs.Math.Seq.{take-append-add}
use Rattle.dvc_base.specs.Path.{Path, under, overlap, is_within}
use Rattle.dvc_base.proofs.PathLemmas.{under-refl, under-trans, under-split, under-append, under-length, under-same_length, under-overlap}
use Rattle.world_api.specs.Tree.{Tree, Item, folder, IsTree, item_at}
use Rattle.world_api.specs.Effect.{is_in_any}
use Rattle.world_api.specs.Calls.{is_apart, are_apart, parent}
use Rattle.world_api.proofs.TreeLemmas.{split_last, parent_push}
use Rattle.repro_laws.specs.Anew.{is_file, is_blocked}
use Rattle.repro_laws.proofs.ListLemmas.{each_from, any_second, any_parts}

pub not_same : (p q : Path) → under p q ≡ false → q ≢ p
not_same p q h e = both_ways (under p q) h (subst (λ (x : Path). under p x ≡ true) (sym e) (under-refl p))

-- ---- a path within another

pub is_within_parts : (p q : Path) → is_within p q ≡ true → (under q p ≡ true) × (length q < length p)
is_within_parts p q h =
    let x = and_parts (under q p) (nat_lt (length q) (length p)) h in
    (x.0, ltb-true (length q) (length p) x.1)

pub is_within_from : (p q : Path) → under q p ≡ true → length q < length p → is_within p q ≡ true
is_within_from p q a b =
    and_from (under q p) (nat_lt (length q) (length p)) a (lt-ltb (length q) (length p) b)

-- ---- the folder above a path

pub under_parent : (q p : Path) → is_within p q ≡ true → under q (parent p) ≡ true
under_parent q p h =
    let parts = is_within_parts p q h in
    let rest = drop (length q) p in
    let cut : p ≡ q ++ rest = under-split q p parts.0 in
    let n = length p - 1 - length q in
    let whole : length p - 1 ≡ length q + n = omega arith in
    let front : parent p ≡ q ++ take n rest =
    ap (λ (k : ℕ). take k p) whole ∙ ap (take (length q + n)) cut ∙ take-append-add q rest n in
    subst (λ (x : Path). under q x ≡ true) (sym front) (under-append q (take n rest))

pub within_parent : (q p : Path) → p ≢ [] → under q (parent p) ≡ true → is_within p q ≡ true
within_parent q [] root h = absurd (root refl)
within_parent q (c ∷ p) root h =
    let all = c ∷ p in
    let some : length all ≡ length p + 1 = omega arith in
    let l : length (parent all) ≡ length all - 1 = length-take-le (length all - 1) all (omega arith) in
    let up : under (parent all) all ≡ true =
    subst (λ (x : Path). under (parent all) x ≡ true) (take-append-drop (length all - 1) all) (under-append (parent all) (drop (length all - 1) all)) in
    let short = under-length q (parent all) h in
    is_within_from all q (under-trans q (parent all) all h up) (omega arith)

-- ---- folders that lead to a path

abbrev pub IsRoad : Tree → Path → Type 0
IsRoad t p = (q : Path) → is_within p q ≡ true → item_at t q ≡ Some folder

pub item_at_push : (t : Tree) (q : Path) (c : List ℕ) → item_at t (q ++ c ∷ []) ≡ get t (q ++ c ∷ [])
item_at_push t [] c = refl
item_at_push t (d ∷ q) c = refl

folder_above : (t : Tree) → IsTree t → (q rest : Path) → item_at t (q ++ rest) ≡ Some folder → item_at t q ≡ Some folder
folder_above t tree q [] h = subst (λ (x : Path). item_at t x ≡ Some folder) (append-nil q) h
folder_above t tree q (c ∷ rest) h =
    let next : item_at t (q ++ c ∷ []) ≡ Some folder =
    folder_above t tree (q ++ c ∷ []) rest (subst (λ (x : Path). item_at t x ≡ Some folder) (sym (append_assoc q (c ∷ []) rest)) h) in
    tree.parents q c (ap is_some (sym (item_at_push t q c) ∙ next))

-- folders stand above a folder
pub folders_to : (t : Tree) → IsTree t → (p q : Path) → item_at t p ≡ Some folder → under q p ≡ true → item_at t q ≡ Some folder
folders_to t tree p q h u =
    folder_above t tree q (drop (length q) p) (subst (λ (x : Path). item_at t x ≡ Some folder) (under-split q p u) h)

pub road_to : (t : Tree) → IsTree t → (p : Path) → item_at t (parent p) ≡ Some folder → IsRoad t p
road_to t tree p h q w = folders_to t tree (parent p) q h (under_parent q p w)

pub is_blocked_road : (t : Tree) (above p : Path) → IsRoad t (above ++ p) → is_blocked t above p ≡ false
is_blocked_road t above [] h = refl
is_blocked_road t above (c ∷ p) h =
    let l : length (above ++ c ∷ p) ≡ length above + length (c ∷ p) = length-append above (c ∷ p) in
    let some : length (c ∷ p) ≡ length p + 1 = omega arith in
    let here : item_at t above ≡ Some folder =
    h above (is_within_from (above ++ c ∷ p) above (under-append above (c ∷ p)) (omega arith)) in
    ap (λ (o : Option Item). cond (is_file o) true (is_blocked t (above ++ c ∷ []) p)) here ∙ is_blocked_road t (above ++ c ∷ []) p (λ q u. h q (subst (λ (x : Path). is_within x q ≡ true) (append_assoc above (c ∷ []) p) u))

-- ---- outputs that are apart

pub apart_root : (p : Path) (ps : List Path) → is_apart p ps ≡ true → p ≢ []
apart_root p [] h e = both_ways (not (length p == 0)) (ap (λ (x : Path). not (length x == 0)) e) h
apart_root p (q ∷ ps) h e = apart_root p ps (and_parts (not (overlap p q)) (is_apart p ps) h).1 e

pub above_none : (p : Path) → p ≢ [] → under p [] ≡ false
above_none [] h = absurd (h refl)
above_none (c ∷ p) h = refl

pub apart_head : (p q : Path) (ps : List Path) → is_apart p (q ∷ ps) ≡ true → (overlap p q ≡ false) × (is_apart p ps ≡ true)
apart_head p q ps h =
    let parts = and_parts (not (overlap p q)) (is_apart p ps) h in
    (false_from_ne_true (overlap p q) (λ e. both_ways (not (overlap p q)) (ap not e) parts.0), parts.1)

-- a path that is p, or lies above it, lies in none that p is apart from
pub apart_above : (p r : Path) (ps : List Path) → is_apart p ps ≡ true → under r p ≡ true → is_in_any ps r ≡ false
apart_above p r [] h u = refl
apart_above p r (q ∷ ps) h u =
    let parts = apart_head p q ps h in
    let over = or_parts (under p q) (under q p) parts.0 in
    or_from (under q r) (is_in_any ps r) (false_from_ne_true (under q r) (λ e. both_ways (under q p) over.1 (under-trans q r p e u))) (apart_above p r ps parts.1 u)

-- the root lies in no output
pub root_outside : (ps : List Path) → are_apart ps ≡ true → is_in_any ps [] ≡ false
root_outside [] h = refl
root_outside (p ∷ ps) h =
    let parts = and_parts (is_apart p ps) (are_apart ps) h in
    or_from (under p []) (is_in_any ps []) (above_none p (apart_root p ps parts.0)) (root_outside ps parts.1)

abbrev pub IsAbove : List Path → Path → Type 0
IsAbove outs p = (r : Path) → is_within p r ≡ true → is_in_any outs r ≡ false

above_more : (p : Path) (outs ps : List Path) → is_apart p ps ≡ true → AllByRecursion (IsAbove outs) ps → AllByRecursion (IsAbove (p ∷ outs)) ps
above_more p outs [] h all = tt
above_more p outs (q ∷ ps) h all =
    let parts = apart_head p q ps h in
    let over = or_parts (under p q) (under q p) parts.0 in (
      λ r w. or_from (under p r) (is_in_any outs r) (false_from_ne_true (under p r) (λ e. both_ways (under p q) over.0 (under-trans p r q e (is_within_parts q r w).0))) (all.0 r w),
      above_more p outs ps parts.1 all.1,
    )

pub above_outputs : (ps : List Path) → are_apart ps ≡ true → AllByRecursion (IsAbove ps) ps
above_outputs [] h = tt
above_outputs (p ∷ ps) h =
    let parts = and_parts (is_apart p ps) (are_apart ps) h in (
      λ r w. let up = is_within_parts p r w in or_from (under p r) (is_in_any ps r) (false_from_ne_true (under p r) (λ e. let l = under-length p r e in absurd (omega arith))) (apart_above p r ps parts.0 up.0),
      above_more p ps ps parts.0 (above_outputs ps parts.1),
    )

pub roots_apart : (ps : List Path) → are_apart ps ≡ true → AllByRecursion (λ p. p ≢ []) ps
roots_apart [] h = tt
roots_apart (p ∷ ps) h =
    let parts = and_parts (is_apart p ps) (are_apart ps) h in
    (apart_root p ps parts.0, roots_apart ps parts.1)

-- a path above one that lies outside the outputs lies outside them
pub above_outside : (outs : List Path) (q p : Path) → under q p ≡ true → is_in_any outs p ≡ false → is_in_any outs q ≡ false
above_outside [] q p u h = refl
above_outside (out ∷ outs) q p u h =
    let parts = or_parts (under out p) (is_in_any outs p) h in
    or_from (under out q) (is_in_any outs q) (false_from_ne_true (under out q) (λ e. both_ways (under out p) parts.0 (under-trans out q p e u))) (above_outside outs q p u parts.1)

-- what lies in one of the others doesn't lie in p
apart_under : (p q : Path) (ps : List Path) → is_apart p ps ≡ true → is_in_any ps q ≡ true → under p q ≡ false
apart_under p q [] h inside = absurd (false≢true inside)
apart_under p q (x ∷ ps) h inside =
    let parts = apart_head p x ps h in
    elim (or_cases (under x q) (is_in_any ps q) inside) [
      | inl u ↦ false_from_ne_true (under p q) (λ e. both_ways (overlap p x) parts.0 (under-overlap p x q e u))
      | inr later ↦ apart_under p q ps parts.1 later
    ]

pub apart_later : (xs ys : List Path) → are_apart (xs ++ ys) ≡ true → are_apart ys ≡ true
apart_later [] ys h = h
apart_later (x ∷ xs) ys h = apart_later xs ys (and_parts (is_apart x (xs ++ ys)) (are_apart (xs ++ ys)) h).1

-- what lies in the later ones of outputs that are apart doesn't lie in the first ones
pub apart_lists : (xs ys : List Path) → are_apart (xs ++ ys) ≡ true → (q : Path) → is_in_any ys q ≡ true → is_in_any xs q ≡ false
apart_lists [] ys h q inside = refl
apart_lists (x ∷ xs) ys h q inside =
    let parts = and_parts (is_apart x (xs ++ ys)) (are_apart (xs ++ ys)) h in
    or_from (under x q) (is_in_any xs q) (apart_under x q (xs ++ ys) parts.0 (any_second (λ out. under out q) xs ys inside)) (apart_lists xs ys parts.1 q inside)

none_overlap : (p : Path) (ps : List Path) → is_apart p ps ≡ true → list_any (overlap p) ps ≡ false
none_overlap p [] h = refl
none_overlap p (x ∷ ps) h =
    let parts = apart_head p x ps h in
    or_from (overlap p x) (list_any (overlap p) ps) parts.0 (none_overlap p ps parts.1)

-- the first ones overlap none of the later ones
pub apart_overlap : (xs ys : List Path) → are_apart (xs ++ ys) ≡ true → AllByRecursion (λ x. list_any (overlap x) ys ≡ false) xs
apart_overlap [] ys h = tt
apart_overlap (x ∷ xs) ys h =
    let parts = and_parts (is_apart x (xs ++ ys)) (are_apart (xs ++ ys)) h in
    ((any_parts (overlap x) xs ys (none_overlap x (xs ++ ys) parts.0)).1, apart_overlap xs ys parts.1)

pub in_itself : (ps : List Path) → AllByRecursion (λ p. (q : Path) → under p q ≡ true → is_in_any ps q ≡ true) ps
in_itself [] = tt
in_itself (p ∷ ps) = (
  λ q u. or_left (under p q) (is_in_any ps q) u,
  each_from (λ x. (q : Path) → under x q ≡ true → is_in_any ps q ≡ true) (λ x. (q : Path) → under x q ≡ true → is_in_any (p ∷ ps) q ≡ true) ps (λ x f q u. or_right (under p q) (is_in_any ps q) (f q u)) (in_itself ps),
)

-- ---- paths below one another

pub under_common : (p a b : Path) → under (p ++ a) (p ++ b) ≡ under a b
under_common [] a b = refl
under_common (c ∷ p) a b =
    ap (λ x. x && under (p ++ a) (p ++ b)) ((bytes_eq-Decides c c).1 refl) ∙ under_common p a b

pub append_cancel : (p a b : Path) → p ++ a ≡ p ++ b → a ≡ b
append_cancel [] a b e = e
append_cancel (c ∷ p) a b e = append_cancel p a b (ap (drop 1) e)

pub strictly : (q p : Path) → under q p ≡ true → q ≢ p → length q < length p
strictly q p u ne =
    elim (cases_lt (length q) (length p)) [
      | inl less ↦ less
      | inr most ↦ absurd (ne (under-same_length q p u (omega (arith, under-length q p u))))
    ]

pub within : (p q : Path) → under q p ≡ true → q ≢ p → is_within p q ≡ true
within p q u ne = is_within_from p q u (strictly q p u ne)

-- what lies strictly above a path isn't at it, or below it
pub above_apart : (p q : Path) → is_within p q ≡ true → under p q ≡ false
above_apart p q w =
    let up = is_within_parts p q w in
    false_from_ne_true (under p q) (λ e. let l = under-length p q e in absurd (omega arith))

pub parent_append : (p r : Path) → r ≢ [] → p ++ parent r ≡ parent (p ++ r)
parent_append p r ne =
    let last = split_last r ne in
    sym (ap parent (ap (λ (x : Path). p ++ x) last.1 ∙ sym (append_assoc p (parent r) (last.0 ∷ []))) ∙ parent_push (p ++ parent r) last.0)

-- ---- where a tree has something, folders stand above

pub some_above : (u : Tree) → IsTree u → (q : Path) (c : List ℕ) (rest : Path) → IsSome (item_at u (q ++ c ∷ rest)) → item_at u q ≡ Some folder
some_above u tree q c [] some =
    tree.parents q c (subst (λ (o : Option Item). IsSome o) (item_at_push u q c) some)
some_above u tree q c (d ∷ rest) some =
    let next : item_at u (q ++ c ∷ []) ≡ Some folder =
    some_above u tree (q ++ c ∷ []) d rest (subst (λ (x : Path). IsSome (item_at u x)) (sym (append_assoc q (c ∷ []) (d ∷ rest))) some) in
    tree.parents q c (ap is_some (sym (item_at_push u q c) ∙ next))

above_by : (u : Tree) → IsTree u → (p q rest : Path) → p ≡ q ++ rest → length q < length p → IsSome (item_at u p) → item_at u q ≡ Some folder
above_by u tree p q [] cut less some =
    absurd (omega (arith, ap length cut, ap length (append-nil q)))
above_by u tree p q (c ∷ rest) cut less some =
    some_above u tree q c rest (subst (λ (x : Path). IsSome (item_at u x)) cut some)

pub stands_above : (u : Tree) → IsTree u → (p q : Path) → IsSome (item_at u p) → is_within p q ≡ true → item_at u q ≡ Some folder
stands_above u tree p q some w =
    let up = is_within_parts p q w in
    above_by u tree p q (drop (length q) p) (under-split q p up.0) up.1 some
