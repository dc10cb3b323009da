-- Lists and sets of numbers.
--     in_push, in_old, in_new, not_in_push     a number at the end of a list
--     all_more, all_at                         a test that all numbers of a list pass
--     find_least, find_none                    the first number of a range that passes a test
--     in_insert, above_least                   a number in a set, and the least of a set
use Rattle.std.proofs.Common.{◌≡◌, ℕ, zero, suc, ◌+◌, ◌-◌, ◌<◌, ◌≤◌, Bool, true, false, not, ◌&&◌, ◌||◌, ◌==◌, cond, List, [], ◌∷◌, ◌++◌, length, get_or, Option, Some, None, refl, sym, ap, ◌∙◌, subst, arith, ◌⊎◌, inl, inr}
use Rattle.std.specs.List.{All, list_any, list_all, find, range_with_len}
use Rattle.std.specs.BTreeSet.{insert_key}
use Rattle.std.specs.Ordering.{nat_cmp, match_ordering, MatchOrdering, is_eq}
use Rattle.std.specs.declared.cmp.Ordering.{Ordering}
use Rattle.std.specs.declared.cmp.Ordering.TheVariants.{Less, Equal, Greater}
use Rattle.std.proofs.lemmas.Cmp.{ranked}
use Rattle.std.proofs.lemmas.Bool.{cases_Bool, or_cases, or_left, or_right, or_parts, or_from, and_parts, and_from, eqb-true, eqb-false, eq-eqb, ne_eqb, false≢true}
use Rattle.std.proofs.lemmas.List.Folds.{list_any-append, Any-from_list_any}
use Rattle.stage_order.specs.Order.{is_in}

pub either : {A B C : Type 0} → A ⊎ B → (A → C) → (B → C) → C
either (inl a) f g = f a
either (inr b) f g = g b

pub or_false : (a : Bool) → (a || false) ≡ a
or_false true = refl
or_false false = refl

pub in_push : (ns : List ℕ) (m n : ℕ) → is_in (ns ++ m ∷ []) n ≡ (is_in ns n || (m == n))
in_push ns m n = list_any-append (λ k. k == n) ns (m ∷ []) ∙ ap (λ (b : Bool). is_in ns n || b) (or_false (m == n))

pub in_old : (ns : List ℕ) (m n : ℕ) → is_in ns n ≡ true → is_in (ns ++ m ∷ []) n ≡ true
in_old ns m n h = in_push ns m n ∙ or_left (is_in ns n) (m == n) h

pub in_new : (ns : List ℕ) (m : ℕ) → is_in (ns ++ m ∷ []) m ≡ true
in_new ns m = in_push ns m m ∙ or_right (is_in ns m) (m == m) (eq-eqb m m refl)

pub not_in_push : (ns : List ℕ) (m n : ℕ) → is_in ns n ≡ false → (m ≡ n → ⊥) → is_in (ns ++ m ∷ []) n ≡ false
not_in_push ns m n h other = in_push ns m n ∙ or_from (is_in ns n) (m == n) h (ne_eqb m n other)

-- ---- tests

pub all_more : (p q : ℕ → Bool) → ((n : ℕ) → p n ≡ true → q n ≡ true) → (ns : List ℕ) → list_all p ns ≡ true → list_all q ns ≡ true
all_more p q more [] h = refl
all_more p q more (n ∷ ns) h =
    let both = and_parts (p n) (list_all p ns) h in
    and_from (q n) (list_all q ns) (more n both.0) (all_more p q more ns both.1)

pub all_at : (p : ℕ → Bool) (ns : List ℕ) (a : ℕ) → list_all p ns ≡ true → is_in ns a ≡ true → p a ≡ true
all_at p [] a h e = absurd (false≢true e)
all_at p (n ∷ ns) a h e =
    let both = and_parts (p n) (list_all p ns) h in
    either (or_cases (n == a) (is_in ns a) e)
    (λ same. subst (λ (k : ℕ). p k ≡ true) (eqb-true n a same) both.0)
    (λ later. all_at p ns a both.1 later)

-- ---- ranges

pub find_least : (p : ℕ → Bool) (n k s : ℕ) → p s ≡ true → k ≤ s → s < k + n → ((m : ℕ) → m < k + n → p m ≡ true → s ≤ m) → find p (range_with_len k n) ≡ Some s
find_least p zero k s here from below least = absurd (omega arith)
find_least p (suc n) k s here from below least =
    either (cases_Bool (p k))
    (λ met. let same : k ≡ s = omega (arith, least k (omega arith) met) in
    ap (λ (b : Bool). cond b (Some k) (find p (range_with_len (k + 1) n))) met ∙ ap (λ (j : ℕ). Some j) same)
    (λ unmet. let further : k < s = either (order k s from) (λ (h : k < s). h) (λ (same : k ≡ s). absurd (false≢true (sym unmet ∙ ap p same ∙ here))) in
    ap (λ (b : Bool). cond b (Some k) (find p (range_with_len (k + 1) n))) unmet
    ∙ find_least p n (k + 1) s here (omega arith) (omega arith) (λ m inside met. least m (omega arith) met))
  where
    order : (a b : ℕ) → a ≤ b → (a < b) ⊎ (a ≡ b)
    order a b h = grind arith

pub find_none : (p : ℕ → Bool) (n k : ℕ) → ((m : ℕ) → m < k + n → p m ≡ false) → find p (range_with_len k n) ≡ None
find_none p zero k none = refl
find_none p (suc n) k none =
    ap (λ (b : Bool). cond b (Some k) (find p (range_with_len (k + 1) n))) (none k (omega arith))
    ∙ find_none p n (k + 1) (λ m inside. none m (omega arith))

range_length : (n k : ℕ) → length (range_with_len k n) ≡ n
range_length zero k = refl
range_length (suc n) k = ap suc (range_length n (k + 1))

pub range_step : (n i : ℕ) → i < n → range_with_len i (n - i) ≡ i ∷ range_with_len (i + 1) (n - (i + 1))
range_step n i below = ap (range_with_len i) (one_more n i below)
  where
    one_more : (n i : ℕ) → i < n → n - i ≡ suc (n - (i + 1))
    one_more n i below = omega arith

pub range_end : (n i : ℕ) → n ≤ i → range_with_len i (n - i) ≡ []
range_end n i past = ap (range_with_len i) (nothing n i past)
  where
    nothing : (n i : ℕ) → n ≤ i → n - i ≡ 0
    nothing n i past = omega arith

pub in_range : (n k m : ℕ) → k ≤ m → m < k + n → is_in (range_with_len k n) m ≡ true
in_range zero k m from below = absurd (omega arith)
in_range (suc n) k m from below =
    either (cases_Bool (k == m))
    (λ same. or_left (k == m) (is_in (range_with_len (k + 1) n) m) same)
    (λ other. or_right (k == m) (is_in (range_with_len (k + 1) n) m)
    (in_range n (k + 1) m (grind (arith, eqb-false k m other)) (omega arith)))

-- ---- sets

swapped : (a b c : Bool) → (a || (b || c)) ≡ (b || (a || c))
swapped true true c = refl
swapped true false c = refl
swapped false true c = refl
swapped false false c = refl

absorbed : (a c : Bool) → (a || c) ≡ (a || (a || c))
absorbed true c = refl
absorbed false c = refl

insert_by : (k x : ℕ) (xs : List ℕ) (n : ℕ) (o : Ordering) → MatchOrdering o (k < x) (k ≡ x) (x < k) →
    is_in (insert_key nat_cmp xs k) n ≡ ((k == n) || is_in xs n) →
    is_in (match_ordering o (k ∷ x ∷ xs) (x ∷ xs) (x ∷ insert_key nat_cmp xs k)) n ≡ ((k == n) || is_in (x ∷ xs) n)
insert_by k x xs n Less means later = refl
insert_by k x xs n Equal same later = ap (λ (j : ℕ). is_in (j ∷ xs) n) (sym same) ∙ absorbed (k == n) (is_in xs n) ∙ ap (λ (j : ℕ). (k == n) || is_in (j ∷ xs) n) same
insert_by k x xs n Greater means later = ap (λ (b : Bool). (x == n) || b) later ∙ swapped (x == n) (k == n) (is_in xs n)

pub in_insert : (ks : List ℕ) (k n : ℕ) → is_in (insert_key nat_cmp ks k) n ≡ ((k == n) || is_in ks n)
in_insert [] k n = refl
in_insert (x ∷ xs) k n = insert_by k x xs n (nat_cmp k x) (ranked k x (nat_cmp k x) refl) (in_insert xs k n)

same_test : (n k : ℕ) (o : Ordering) → MatchOrdering o (n < k) (n ≡ k) (k < n) → is_eq o ≡ (k == n)
same_test n k Less less = sym (ne_eqb k n (λ e. omega arith))
same_test n k Equal same = sym (eq-eqb k n (sym same))
same_test n k Greater more = sym (ne_eqb k n (λ e. omega arith))

pub in_contains : (ks : List ℕ) (n : ℕ) → list_any (λ k. is_eq (nat_cmp n k)) ks ≡ is_in ks n
in_contains [] n = refl
in_contains (k ∷ ks) n = ap (λ (b : Bool). b || list_any (λ j. is_eq (nat_cmp n j)) ks) (same_test n k (nat_cmp n k) (ranked n k (nat_cmp n k) refl)) ∙ ap (λ (b : Bool). (k == n) || b) (in_contains ks n)

less_from : (a b : ℕ) (o : Ordering) → MatchOrdering o (a < b) (a ≡ b) (b < a) → o ≡ Less → a < b
less_from a b Less less e = less
less_from a b Equal same e = absurd (equal_less e)
  where
    equal_less : Equal ≡ Less → ⊥
    equal_less e = cc
less_from a b Greater more e = absurd (greater_less e)
  where
    greater_less : Greater ≡ Less → ⊥
    greater_less e = cc

-- each number of a list is greater than one
pub above_all : (k : ℕ) (ks : List ℕ) → All (λ q. nat_cmp k q ≡ Less) ks → (n : ℕ) → is_in ks n ≡ true → k < n
above_all k ks greater n h =
    let (i, x, inside, at, same) = Any-from_list_any (λ m. m == n) ks h in
    subst (λ (m : ℕ). k < m) (eqb-true x n same) (subst (λ (m : ℕ). k < m) at (less_from k (get_or ks i x) (nat_cmp k (get_or ks i x)) (ranked k (get_or ks i x) (nat_cmp k (get_or ks i x)) refl) (greater i x inside)))

pub nothing_from : (ks : List ℕ) → (0 < length ks → ⊥) → ks ≡ []
nothing_from [] none = refl
nothing_from (k ∷ ks) none = absurd (none (omega arith))
