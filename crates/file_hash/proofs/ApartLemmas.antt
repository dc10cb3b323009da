-- Members in the order of the components of their paths lie apart where no neighbours overlap.
--     between               a path between another and one below that lies below it too
--     apart_neighbours      so paths in this order lie apart where none is followed by one at or below it
--     neighbours_answer     what the test of all neighbours answers
--     refs_apart            so it answers whether members lie apart
use Rattle.std.proofs.Common.{◌≡◌, ℕ, zero, suc, ◌+◌, ◌<◌, Bool, true, false, not, ◌&&◌, List, [], ◌∷◌, ◌++◌, length, drop, map, get_or, refl, sym, ap, ◌∙◌, subst, inl, inr, arith, bytes_eq, Bor}
use Rattle.std.specs.List.{AllByRecursion, IsAllAdjacentAnswer}
use Rattle.std.specs.Ordering.{nat_cmp, is_lt, ordering_then, ordering_reverse}
use Rattle.std.specs.declared.cmp.Ordering.{Ordering}
use Rattle.std.specs.declared.cmp.Ordering.TheVariants.{Less, Equal, Greater}
use Rattle.std.specs.Cmp.{IsStrictWeakOrder}
use Rattle.std.specs.Cmp.Lexicographic.{slice_cmp}
use Rattle.std.specs.FinMap.{slice_cmp-IsAntisymmetric, nat_cmp-IsAntisymmetric}
use Rattle.std.proofs.lemmas.Cmp.{nat_list_cmp_total}
use Rattle.std.proofs.lemmas.List.{append-nil}
use Rattle.std.proofs.lemmas.List.MinMax.{ranks_by}
use Rattle.std.proofs.lemmas.Slice.Eq.{bytes_eq-Decides}
use Rattle.std.proofs.lemmas.Bool.{false≢true, and_parts, or_left, or_from, ne_eqb, false_from_ne_true, cases_Bool}
use Rattle.dvc_base.specs.Path.{Path, under, overlap}
use Rattle.dvc_base.proofs.PathLemmas.{under-split, under-refl}
use Rattle.world_api.specs.Tree.{path_cmp}
use Rattle.world_api.specs.Calls.{are_apart, is_apart}
use Rattle.world_api.proofs.TreeLemmas.{path_cmp-total}
use Rattle.file_hash.specs.Listing.{in_order, path_at}
use Rattle.file_hash.specs.Reading.{IsMember, AreMembers, is_earlier}
use Rattle.file_hash.specs.declared.listing.Member.{Member}
use Rattle.file_hash.proofs.OrderLemmas.{Rises, order_rises, order_each}
use Rattle.file_hash.proofs.ListingLemmas.{less_or_same, apart_order}
use Rattle.file_hash.proofs.TreeOrder.{common_front, skip_front}

pub earlier_weak : IsStrictWeakOrder is_earlier
earlier_weak = ranks_by path_cmp-total path_at

-- ---- orders

first_not : (r x : Ordering) → is_lt (ordering_then r x) ≡ false → is_lt r ≡ false
first_not Less x h = h
first_not Equal x h = refl
first_not Greater x h = refl

-- neither comes before the other
same_name : (c d : List ℕ) → is_lt (slice_cmp nat_cmp c d) ≡ false → is_lt (slice_cmp nat_cmp d c) ≡ false → slice_cmp nat_cmp c d ≡ Equal
same_name c d h k =
    elim (less_or_same (slice_cmp nat_cmp c d) (slice_cmp nat_cmp d c) (nat_list_cmp_total.antisymm c d) k) [
      | inl less ↦ absurd (false≢true (sym h ∙ less))
      | inr same ↦ same
    ]

equal_self : (c : List ℕ) → slice_cmp nat_cmp c c ≡ Equal
equal_self c = elim (less_or_same (slice_cmp nat_cmp c c) (slice_cmp nat_cmp c c) (nat_list_cmp_total.antisymm c c) (not_less_self c)) [
  | inl less ↦ absurd (false≢true (sym (not_less_self c) ∙ less))
  | inr same ↦ same
]
  where
    twice : (r : Ordering) → r ≡ ordering_reverse r → is_lt r ≡ false
    twice Less e = ap is_lt e
    twice Equal e = refl
    twice Greater e = refl

    not_less_self : (c : List ℕ) → is_lt (slice_cmp nat_cmp c c) ≡ false
    not_less_self c = twice (slice_cmp nat_cmp c c) (nat_list_cmp_total.antisymm c c)

pub between : (p q x : Path) → is_lt (path_cmp q p) ≡ false → is_lt (path_cmp x q) ≡ false → under p x ≡ true → under p q ≡ true
between [] q x h k u = refl
between (c ∷ p) q [] h k u = absurd (false≢true u)
between (c ∷ p) [] (d ∷ x) h k u = absurd (false≢true (sym h))
between (c ∷ p) (e ∷ q) (d ∷ x) h k u =
    let parts = and_parts (bytes_eq c d) (under p x) u in
    let cd : c ≡ d = (bytes_eq-Decides c d).0 parts.0 in
    let first : is_lt (slice_cmp nat_cmp e c) ≡ false = first_not (slice_cmp nat_cmp e c) (path_cmp q p) h in
    let second : is_lt (slice_cmp nat_cmp c e) ≡ false = subst (λ (y : List ℕ). is_lt (slice_cmp nat_cmp y e) ≡ false) (sym cd) (first_not (slice_cmp nat_cmp d e) (path_cmp x q) k) in
    let ec : e ≡ c = slice_cmp-IsAntisymmetric nat_cmp-IsAntisymmetric e c (same_name e c first second) in
    let ce : c ≡ e = sym ec in
    let rest : is_lt (path_cmp q p) ≡ false = ap is_lt (sym (skip_front (slice_cmp nat_cmp e c) (path_cmp q p) (same_name e c first second))) ∙ h in
    let de : slice_cmp nat_cmp d e ≡ Equal = ap (λ (y : List ℕ). slice_cmp nat_cmp y e) (sym cd ∙ ce) ∙ equal_self e in
    let further : is_lt (path_cmp x q) ≡ false = ap is_lt (sym (skip_front (slice_cmp nat_cmp d e) (path_cmp x q) de)) ∙ k in
    and_both (bytes_eq c e) (under p q) ((bytes_eq-Decides c e).1 ce) (between p q x rest further parts.1)
  where
    and_both : (a b : Bool) → a ≡ true → b ≡ true → (a && b) ≡ true
    and_both true b e f = f
    and_both false b e f = e

-- a path at or below which an earlier one lies is that one
front_same : (x p : Path) → is_lt (path_cmp x p) ≡ false → under x p ≡ true → x ≡ p
front_same x p h u =
    let cut = under-split x p u in
    no_rest (drop (length x) p) (ap is_lt (sym (ap (path_cmp x) cut ∙ ap (λ (y : Path). path_cmp y (x ++ drop (length x) p)) (sym (append-nil x)) ∙ common_front x [] (drop (length x) p))) ∙ h) cut
  where
    no_rest : (r : Path) → is_lt (path_cmp [] r) ≡ false → p ≡ x ++ r → x ≡ p
    no_rest [] k e = sym (e ∙ append-nil x)
    no_rest (c ∷ r) k e = absurd (false≢true (sym k))

-- ---- neighbours

-- none is followed by one at or below it
abbrev pub clear : List Path → Bool
clear [] = true
clear (p ∷ []) = true
clear (p ∷ q ∷ ps) = not (under p q) && clear (q ∷ ps)

no_overlap : (p q x : Path) → is_lt (path_cmp q p) ≡ false → is_lt (path_cmp x q) ≡ false → is_lt (path_cmp x p) ≡ false → under p q ≡ false → overlap p x ≡ false
no_overlap p q x pq qx px apart =
    let below : under p x ≡ true → ⊥ = λ u. false≢true (sym apart ∙ between p q x pq qx u) in
    or_from (under p x) (under x p) (false_from_ne_true (under p x) below)
    (false_from_ne_true (under x p) (λ u. below (subst (λ (y : Path). under y x ≡ true) (front_same x p px u) (under-refl x))))

all_apart : (p q : Path) (xs : List Member) → 0 < length p → is_lt (path_cmp q p) ≡ false → under p q ≡ false → AllByRecursion (λ m. is_lt (path_cmp m.path q) ≡ false) xs → AllByRecursion (λ m. is_lt (path_cmp m.path p) ≡ false) xs → is_apart p (map path_at xs) ≡ true
all_apart p q [] some pq apart a b = ap not (ne_eqb (length p) 0 (λ e. omega arith))
all_apart p q (x ∷ xs) some pq apart a b =
    ap (λ o. not o && is_apart p (map path_at xs)) (no_overlap p q x.path pq a.0 b.0 apart) ∙ all_apart p q xs some pq apart a.1 b.1

pub not_same_path : (q : Path) → is_lt (path_cmp q q) ≡ false
not_same_path q = twice (path_cmp q q) (path_cmp-total.antisymm q q)
  where
    twice : (r : Ordering) → r ≡ ordering_reverse r → is_lt r ≡ false
    twice Less e = ap is_lt e
    twice Equal e = refl
    twice Greater e = refl

pub apart_neighbours : (ms : List Member) → AreMembers ms → Rises is_earlier earlier_weak ms → are_apart (map path_at ms) ≡ clear (map path_at ms)
apart_neighbours [] g r = refl
apart_neighbours (m ∷ []) g r = ap (λ b. not b && true) (ne_eqb (length m.path) 0 (λ e. omega (arith, g.0.rootless)))
apart_neighbours (m ∷ k ∷ ms) g r =
    let rest = apart_neighbours (k ∷ ms) g.1 r.1 in
    elim (cases_Bool (under m.path k.path)) [
      | inl u ↦
          ap (λ o. (not o && is_apart m.path (map path_at ms)) && are_apart (map path_at (k ∷ ms))) (or_left (under m.path k.path) (under k.path m.path) u)
          ∙ sym (ap (λ b. not b && clear (map path_at (k ∷ ms))) u)
      | inr u ↦
          ap (λ b. b && are_apart (map path_at (k ∷ ms))) (all_apart m.path k.path (k ∷ ms) g.0.rootless r.0.0 u (not_same_path k.path, r.1.0) r.0)
          ∙ rest ∙ sym (ap (λ b. not b && clear (map path_at (k ∷ ms))) u)
    ]

-- ---- the test of all neighbours, behind references

all_clear : {A : Type 0} (path : A → Path) (xs : List A) → ((k : ℕ) (d : A) → k + 1 < length xs → true ≡ not (under (path (get_or xs k d)) (path (get_or xs (k + 1) d)))) → clear (map path xs) ≡ true
all_clear path [] h = refl
all_clear path (x ∷ []) h = refl
all_clear path (x ∷ y ∷ xs) h =
    ap (λ b. b && clear (map path (y ∷ xs))) (sym (h 0 x (omega arith)))
    ∙ all_clear path (y ∷ xs) (λ k d l. h (suc k) d (omega (arith, l)) ∙ ap (λ n. not (under (path (get_or (y ∷ xs) k d)) (path (get_or (x ∷ y ∷ xs) n d)))) (next k))
  where
    next : (k : ℕ) → suc k + 1 ≡ suc (k + 1)
    next k = omega arith

not_clear : {A : Type 0} (path : A → Path) (xs : List A) (k : ℕ) → k + 1 < length xs → ((d : A) → false ≡ not (under (path (get_or xs k d)) (path (get_or xs (k + 1) d)))) → clear (map path xs) ≡ false
not_clear path [] k l h = absurd (omega arith)
not_clear path (x ∷ []) k l h = absurd (omega arith)
not_clear path (x ∷ y ∷ xs) zero l h = ap (λ b. b && clear (map path (y ∷ xs))) (sym (h x))
not_clear path (x ∷ y ∷ xs) (suc k) l h =
    ap (λ b. not (under (path x) (path y)) && b) (not_clear path (y ∷ xs) k (omega (arith, l)) (λ d. h d ∙ ap (λ n. not (under (path (get_or (y ∷ xs) k d)) (path (get_or (x ∷ y ∷ xs) n d)))) (next k)))
    ∙ and_false (not (under (path x) (path y)))
  where
    next : (k : ℕ) → suc k + 1 ≡ suc (k + 1)
    next k = omega arith

    and_false : (b : Bool) → (b && false) ≡ false
    and_false true = refl
    and_false false = refl

pub neighbours_answer : {A : Type 0} (path : A → Path) (xs : List A) (r : Bool) → IsAllAdjacentAnswer (λ a b o. o ≡ not (under (path a) (path b))) xs r → r ≡ clear (map path xs)
neighbours_answer path xs true h = sym (all_clear path xs h)
neighbours_answer path xs false h = sym (not_clear path xs h.0 h.1 h.2)

-- the order doesn't matter
pub apart_sorted : (ms sorted : List Member) → AreMembers ms → sorted ≡ in_order is_earlier ms → clear (map path_at sorted) ≡ are_apart (map path_at ms)
apart_sorted ms sorted g is =
    ap (λ l. clear (map path_at l)) is
    ∙ sym (apart_neighbours (in_order is_earlier ms) (order_each is_earlier earlier_weak IsMember ms g) (order_rises is_earlier earlier_weak ms))
    ∙ apart_order is_earlier ms

map_twice : (refs : List (Bor Member)) → map (λ m. m.now.path) refs ≡ map path_at (map (λ m. m.now) refs)
map_twice [] = refl
map_twice (m ∷ refs) = ap (λ l. m.now.path ∷ l) (map_twice refs)

pub refs_apart : (ms : List Member) (refs : List (Bor Member)) (r : Bool) → AreMembers ms → map (λ m. m.now) refs ≡ in_order is_earlier ms
    → IsAllAdjacentAnswer (λ a b o. o ≡ not (under a.now.path b.now.path)) refs r → r ≡ are_apart (map path_at ms)
refs_apart ms refs r g is h =
    neighbours_answer (λ (m : Bor Member). m.now.path) refs r h ∙ ap clear (map_twice refs) ∙ apart_sorted ms (map (λ m. m.now) refs) g is
