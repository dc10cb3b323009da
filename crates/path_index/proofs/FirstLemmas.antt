-- The least number that passes a test.
--     first_same                              of a test that gives the same answers
--     first_joined                            of two tests that are together a third
--     first_unique                            there is one
--     first_position, some_inside, first_any       of the places of a list: the first place, and whether there is one
--     find_place, find_nowhere                         the first member
use Rattle.std.proofs.Common.{◌≡◌, ℕ, zero, suc, ◌+◌, ◌<◌, ◌≤◌, Bool, true, false, ◌||◌, cond, List, [], ◌∷◌, length, get_or, Option, Some, None, refl, sym, ap, ◌∙◌, subst, arith, nat_lt, Bor}
use Rattle.std.specs.List.{find, list_any, position_from}
use Rattle.std.specs.Option.{is_some, option_copied, IfSome, MatchOption}
use Rattle.std.proofs.lemmas.Bool.{cases_lt, and_parts, and_from, and_left, and_right, lt-ltb, le-ltb, ltb-true, false≢true}
use Rattle.std.proofs.lemmas.List.{get_or_default}
use Rattle.dvc_base.specs.Path.{Path}
use Rattle.path_index.specs.First.{IsFirst}
use Rattle.path_index.specs.Table.{path_at, is_at}
use Rattle.path_index.proofs.TestLemmas.{either}

pub first_same : (p q : ℕ → Bool) (first : Option ℕ) → ((n : ℕ) → p n ≡ q n) → IsFirst p first → IsFirst q first
first_same p q first same h = subst (λ (t : ℕ → Bool). IsFirst t first) (λ i n. same n i) h

pub first_unique : (t : ℕ → Bool) (a b : Option ℕ) → IsFirst t a → IsFirst t b → a ≡ b
first_unique t None None h k = refl
first_unique t None (Some y) h k = absurd (false≢true (sym (h y) ∙ k.0))
first_unique t (Some x) None h k = absurd (false≢true (sym (k x) ∙ h.0))
first_unique t (Some x) (Some y) h k =
    let upto : x ≤ y = h.1 y k.0 in
    let from : y ≤ x = k.1 x h.0 in
    let same : x ≡ y = omega arith in
    ap (λ (z : ℕ). Some z) same

-- of two tests that say together what a third says
pub first_joined : (p q t : ℕ → Bool) (a b first : Option ℕ) → ((n : ℕ) → (p n || q n) ≡ t n) → IsFirst p a → IsFirst q b →
    ((p q : ℕ → Bool) → IsFirst p a → IsFirst q b → IsFirst (λ n. p n || q n) first) → IsFirst t first
first_joined p q t a b first same h k earlier = first_same (λ n. p n || q n) t first same (earlier p q h k)

-- ---- the places of a list

-- the first place, m places behind k
abbrev Found : (Path → Bool) → ℕ → List Path → Option ℕ → Type 0
Found t k xs found = MatchOption found
    ((m : ℕ) → m < length xs → t (get_or xs m []) ≡ false)
    (λ a. (m : ℕ) × (a ≡ k + m) × (m < length xs) × (t (get_or xs m []) ≡ true) × ((j : ℕ) → j < m → t (get_or xs j []) ≡ false))

found_more : (t : Path → Bool) (k : ℕ) (x : Path) (xs : List Path) (found : Option ℕ) → t x ≡ false → Found t (k + 1) xs found → Found t k (x ∷ xs) found
found_more t k x xs None unmet none = missing
  where
    missing : (m : ℕ) → m < length (x ∷ xs) → t (get_or (x ∷ xs) m []) ≡ false
    missing zero h = unmet
    missing (suc m) h = none m (omega arith)
found_more t k x xs (Some a) unmet (m, is, inside, here, before) = (suc m, omega arith, omega arith, here, earlier)
  where
    earlier : (j : ℕ) → j < suc m → t (get_or (x ∷ xs) j []) ≡ false
    earlier zero h = unmet
    earlier (suc j) h = before j (omega arith)

found_by : (t : Path → Bool) (k : ℕ) (x : Path) (xs : List Path) (met : Bool) → t x ≡ met → Found t (k + 1) xs (position_from t (k + 1) xs) →
    Found t k (x ∷ xs) (cond met (Some k) (position_from t (k + 1) xs))
found_by t k x xs true met later = (0, omega arith, omega arith, met, λ j h. absurd (omega arith))
found_by t k x xs false unmet later = found_more t k x xs (position_from t (k + 1) xs) unmet later

found : (t : Path → Bool) (k : ℕ) (xs : List Path) → Found t k xs (position_from t k xs)
found t k [] = λ m h. absurd (omega arith)
found t k (x ∷ xs) = found_by t k x xs (t x) refl (found t (k + 1) xs)

first_from : (t : Path → Bool) (xs : List Path) (first : Option ℕ) → Found t 0 xs first → IsFirst (is_at t xs) first
first_from t xs None none = λ n. either (cases_lt n (length xs))
    (λ inside. and_right (nat_lt n (length xs)) (t (path_at xs n)) (none n inside))
    (λ past. and_left (nat_lt n (length xs)) (t (path_at xs n)) (le-ltb n (length xs) past))
first_from t xs (Some a) (m, is, inside, here, before) =
    let same : m ≡ a = omega arith in
    subst (λ (z : ℕ). IsFirst (is_at t xs) (Some z)) same (
      and_from (nat_lt m (length xs)) (t (path_at xs m)) (lt-ltb m (length xs) inside) here,
      λ n passes. either (cases_lt n m)
          (λ less. absurd (false≢true (sym (before n less) ∙ (and_parts (nat_lt n (length xs)) (t (path_at xs n)) passes).1)))
          (λ upto. upto),
    )

position_is : (t : Path → Bool) (xs : List Path) → IsFirst (is_at t xs) (position_from t 0 xs)
position_is t xs = first_from t xs (position_from t 0 xs) (found t 0 xs)

pub first_position : (t : Path → Bool) (xs : List Path) (first : Option ℕ) → IsFirst (is_at t xs) first → first ≡ position_from t 0 xs
first_position t xs first h = first_unique (is_at t xs) first (position_from t 0 xs) h (position_is t xs)

position_inside : (t : Path → Bool) (xs : List Path) (a : ℕ) → IsFirst (is_at t xs) (Some a) → a < length xs
position_inside t xs a h = ltb-true a (length xs) (and_parts (nat_lt a (length xs)) (t (path_at xs a)) h.0).0

position_any : (t : Path → Bool) (k : ℕ) (xs : List Path) → is_some (position_from t k xs) ≡ list_any t xs
position_any t k [] = refl
position_any t k (x ∷ xs) = elim (t x) as (λ b. is_some (cond b (Some k) (position_from t (k + 1) xs)) ≡ (b || list_any t xs)) [
  | true ↦ refl
  | false ↦ position_any t (k + 1) xs
]

pub first_any : (t : Path → Bool) (xs : List Path) (first : Option ℕ) → IsFirst (is_at t xs) first → is_some first ≡ list_any t xs
first_any t xs first h = ap (λ (o : Option ℕ). is_some o) (first_position t xs first h) ∙ position_any t 0 xs

pub some_inside : (t : Path → Bool) (xs : List Path) (first : Option ℕ) → IsFirst (is_at t xs) first → IfSome first (λ a. a < length xs)
some_inside t xs None h = tt
some_inside t xs (Some a) h = position_inside t xs a h

find_at : (t : Path → Bool) (xs : List Path) (m : ℕ) → m < length xs → t (get_or xs m []) ≡ true → ((j : ℕ) → j < m → t (get_or xs j []) ≡ false) → find t xs ≡ Some (get_or xs m [])
find_at t [] m h here before = absurd (omega arith)
find_at t (x ∷ xs) zero h here before = ap (λ (b : Bool). cond b (Some x) (find t xs)) here
find_at t (x ∷ xs) (suc m) h here before =
    ap (λ (b : Bool). cond b (Some x) (find t xs)) (before 0 (omega arith)) ∙ find_at t xs m (omega arith) here (λ j less. before (suc j) (omega arith))

find_missing : (t : Path → Bool) (xs : List Path) → ((m : ℕ) → m < length xs → t (get_or xs m []) ≡ false) → find t xs ≡ None
find_missing t [] none = refl
find_missing t (x ∷ xs) none = ap (λ (b : Bool). cond b (Some x) (find t xs)) (none 0 (omega arith)) ∙ find_missing t xs (λ m h. none (suc m) (omega arith))

find_found : (t : Path → Bool) (xs : List Path) (a : ℕ) (x : Path) → x ≡ get_or xs a x → Found t 0 xs (Some a) → find t xs ≡ Some x
find_found t xs a x reads (m, is, inside, here, before) =
    let same : m ≡ a = omega arith in
    find_at t xs m inside here before
    ∙ ap (λ (p : Path). Some p) (get_or_default xs m [] x inside ∙ ap (λ (k : ℕ). get_or xs k x) same ∙ sym reads)

-- what `get` reads at the first place
pub find_place : (t : Path → Bool) (xs : List Path) (a : ℕ) (got : Option (Bor Path)) → Some a ≡ position_from t 0 xs →
    is_some got ≡ nat_lt a (length xs) → IfSome got (λ x. x.now ≡ get_or xs a x.now) → option_copied got ≡ find t xs
find_place t xs a None e some reads = absurd (false≢true (some ∙ lt-ltb a (length xs) (some_inside t xs (Some a) (subst (IsFirst (is_at t xs)) (sym e) (position_is t xs)))))
find_place t xs a (Some x) e some reads = sym (find_found t xs a x.now reads (subst (Found t 0 xs) (sym e) (found t 0 xs)))

pub find_nowhere : (t : Path → Bool) (xs : List Path) → None ≡ position_from t 0 xs → find t xs ≡ None
find_nowhere t xs e = find_missing t xs (subst (Found t 0 xs) (sym e) (found t 0 xs))
