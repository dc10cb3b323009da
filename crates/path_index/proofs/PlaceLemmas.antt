-- Sets of places, and the places of all members of a list that pass a test.
--     in_push, in_insert         one more place
--     insert_more                of those that are added
--     first_more                 the least of one more place
--     set_places                 a set of all places where a test passes has them in order
use Rattle.std.proofs.Common.{◌≡◌, ℕ, zero, suc, ◌+◌, ◌<◌, Bool, true, false, ◌&&◌, ◌||◌, cond, List, [], ◌∷◌, ◌++◌, length, get_or, take, Option, Some, Less, Equal, Greater, refl, sym, ap, ◌∙◌, arith, nat_eq, nat_lt}
use Rattle.std.specs.BTreeSet.{BTreeSet, Updates, contains}
use Rattle.std.specs.Cmp.{unsigned_ties}
use Rattle.std.specs.List.{list_any, AllByRecursion}
use Rattle.std.specs.List.Sorted.{IsStrictlySortedBy}
use Rattle.std.specs.Ordering.{nat_cmp, is_eq}
use Rattle.std.proofs.lemmas.Bool.{and_right, ne_eqb, eq-eqb, eqb-true, le-ltb, lt-ltb}
use Rattle.std.proofs.lemmas.Bool.Decides.{nat_tests}
use Rattle.std.proofs.lemmas.Cmp.{nat_cmp_total, nat_eq_equiv}
use Rattle.std.proofs.lemmas.List.Folds.{list_any-append, list_any_more}
use Rattle.std.proofs.lemmas.Map.Lookups.{btree_set_from_contains, exact_unsigned}
use Rattle.dvc_base.specs.Path.{Path}
use Rattle.path_index.specs.Overlap.{places, places_from}
use Rattle.path_index.specs.First.{IsFirst}
use Rattle.path_index.specs.Table.{path_at, is_in, is_at}
use Rattle.path_index.proofs.FirstLemmas.{first_same}

or_false : (a : Bool) → (a || false) ≡ a
or_false true = refl
or_false false = refl

pub in_push : (ns : List ℕ) (m n : ℕ) → is_in (ns ++ m ∷ []) n ≡ (is_in ns n || nat_eq n m)
in_push ns m n = list_any-append (nat_eq n) ns (m ∷ []) ∙ ap (λ (b : Bool). is_in ns n || b) (or_false (nat_eq n m))

pub first_more : (ns : List ℕ) (m : ℕ) (before after : Option ℕ) → IsFirst (is_in ns) before →
    ((p q : ℕ → Bool) → IsFirst p before → IsFirst q (Some m) → IsFirst (λ n. p n || q n) after) → IsFirst (is_in (ns ++ m ∷ [])) after
first_more ns m before after first earlier =
    first_same (λ n. is_in ns n || nat_eq n m) (is_in (ns ++ m ∷ [])) after (λ n. sym (in_push ns m n))
    (earlier (is_in ns) (λ n. nat_eq n m) first (eq-eqb m m refl, λ n same. let is : n ≡ m = eqb-true n m same in omega arith))

-- ---- sets

in_set : (s : BTreeSet ℕ) (n : ℕ) → contains nat_cmp s n ≡ is_in s.keys n
in_set s n = λ i. list_any (λ m. sym (unsigned_ties n m) i) s.keys

pub in_insert : (s t : BTreeSet ℕ) (k n : ℕ) → Updates nat_cmp s t k true → is_in t.keys n ≡ (is_in s.keys n || nat_eq n k)
in_insert s t k n updates =
    sym (in_set t n)
    ∙ updates.0 n
    ∙ ap (λ (b : Bool). cond (is_eq (nat_cmp k n)) true b) (in_set s n)
    ∙ ap (λ (b : Bool). cond b true (is_in s.keys n)) (sym (unsigned_ties k n) ∙ nat_eq_equiv.symm k n)
    ∙ either_way (nat_eq n k) (is_in s.keys n)
  where
    either_way : (a b : Bool) → cond a true b ≡ (b || a)
    either_way true true = refl
    either_way true false = refl
    either_way false b = sym (or_false b)

or_assoc : (a b c : Bool) → ((a || b) || c) ≡ (a || (b || c))
or_assoc true b c = refl
or_assoc false b c = refl

pub insert_more : (s t start : BTreeSet ℕ) (ns : List ℕ) (i n : ℕ) → i < length ns → Updates nat_cmp s t (get_or ns i 0) true →
    is_in s.keys n ≡ (is_in start.keys n || is_in (take i ns) n) → is_in t.keys n ≡ (is_in start.keys n || is_in (take (i + 1) ns) n)
insert_more s t start ns i n inside updates before =
    let k = get_or ns i 0 in
    in_insert s t k n updates
    ∙ ap (λ (b : Bool). b || nat_eq n k) before
    ∙ or_assoc (is_in start.keys n) (is_in (take i ns) n) (nat_eq n k)
    ∙ ap (λ (b : Bool). is_in start.keys n || b) (sym (list_any_more (nat_eq n) ns i 0 inside))

-- ---- the places of a list

places_past : (t : Path → Bool) (k n : ℕ) (xs : List Path) → n < k → is_in (places_from t k xs) n ≡ false
places_past t k n [] h = refl
places_past t k n (x ∷ xs) h = elim (t x) as (λ b. is_in (cond b (k ∷ places_from t (suc k) xs) (places_from t (suc k) xs)) n ≡ false) [
  | true ↦ ap (λ (b : Bool). b || is_in (places_from t (suc k) xs) n) (ne_eqb n k (λ e. omega arith)) ∙ places_past t (suc k) n xs (omega arith)
  | false ↦ places_past t (suc k) n xs (omega arith)
]

lt_suc : (m n : ℕ) → nat_lt (suc m) (suc n) ≡ nat_lt m n
lt_suc m n = grind (arith, nat_tests)

places_at : (t : Path → Bool) (k m n : ℕ) (xs : List Path) → n ≡ k + m → is_in (places_from t k xs) n ≡ is_at t xs m
places_at t k m n [] e = sym (ap (λ (b : Bool). b && t (path_at [] m)) (le-ltb m 0 (omega arith)))
places_at t k zero n (x ∷ xs) e = elim (t x) as (λ b. is_in (cond b (k ∷ places_from t (suc k) xs) (places_from t (suc k) xs)) n ≡ (nat_lt 0 (suc (length xs)) && b)) [
  | true ↦ ap (λ (b : Bool). b || is_in (places_from t (suc k) xs) n) (eq-eqb n k (omega arith)) ∙ sym (ap (λ (b : Bool). b && true) (lt-ltb 0 (suc (length xs)) (omega arith)))
  | false ↦ places_past t (suc k) n xs (omega arith) ∙ sym (and_right (nat_lt 0 (suc (length xs))) false refl)
]
places_at t k (suc m) n (x ∷ xs) e =
    skipped (t x)
    ∙ places_at t (suc k) m n xs (omega arith)
    ∙ ap (λ (b : Bool). b && t (path_at xs m)) (sym (lt_suc m (length xs)))
  where
    skipped : (b : Bool) → is_in (cond b (k ∷ places_from t (suc k) xs) (places_from t (suc k) xs)) n ≡ is_in (places_from t (suc k) xs) n
    skipped true = ap (λ (c : Bool). c || is_in (places_from t (suc k) xs) n) (ne_eqb n k (λ same. omega arith))
    skipped false = refl

pub in_places : (t : Path → Bool) (xs : List Path) (n : ℕ) → is_in (places t xs) n ≡ is_at t xs n
in_places t xs n = places_at t 0 n n xs (omega arith)

less_is : (j k : ℕ) → j < k → nat_cmp j k ≡ Less
less_is j k h = ap (λ (b : Bool). cond b Less (cond (nat_eq j k) Equal Greater)) (lt-ltb j k h)

below_all : (t : Path → Bool) (j k : ℕ) (xs : List Path) → j < k → AllByRecursion (λ n. nat_cmp j n ≡ Less) (places_from t k xs)
below_all t j k [] h = tt
below_all t j k (x ∷ xs) h = elim (t x) as (λ b. AllByRecursion (λ n. nat_cmp j n ≡ Less) (cond b (k ∷ places_from t (suc k) xs) (places_from t (suc k) xs))) [
  | true ↦ (less_is j k h, below_all t j (suc k) xs (omega arith))
  | false ↦ below_all t j (suc k) xs (omega arith)
]

places_sorted : (t : Path → Bool) (k : ℕ) (xs : List Path) → IsStrictlySortedBy nat_cmp (places_from t k xs)
unfolding IsStrictlySortedBy
places_sorted t k [] = tt
places_sorted t k (x ∷ xs) = elim (t x) as (λ b. IsStrictlySortedBy nat_cmp (cond b (k ∷ places_from t (suc k) xs) (places_from t (suc k) xs))) [
  | true ↦ (below_all t k (suc k) xs (omega arith), places_sorted t (suc k) xs)
  | false ↦ places_sorted t (suc k) xs
]

pub set_places : (t : Path → Bool) (xs : List Path) (s : BTreeSet ℕ) → IsStrictlySortedBy nat_cmp s.keys → ((n : ℕ) → is_in s.keys n ≡ is_at t xs n) → s.keys ≡ places t xs
set_places t xs s sorted same =
    let all : BTreeSet ℕ = record { keys = places t xs } in
    btree_set_from_contains nat_cmp_total s all sorted (places_sorted t 0 xs)
    (λ n. in_set s n ∙ same n ∙ sym (in_places t xs n) ∙ sym (in_set all n)) exact_unsigned
