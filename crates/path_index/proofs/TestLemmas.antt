-- Tests of paths and of places.
--     either                   two cases
--     lt_more                  below the next number
--     cut_under                a path's own components are the first of those that are it or lie below it
--     is_around p k q          whether p lies in q, and q has less than k components
--     within_more              the paths around one that have one component more
--     all_overlap              the paths around one, and those that are it or lie in it
--     at_or                    one of two tests at a place
--     around_more              the places of the paths around one that have one component more
--     none_around              none has less than no components
--     below_start, below_more, below_all       the places of the paths that are one, lie in it or lie around it
use Rattle.std.proofs.Common.{◌≡◌, ℕ, zero, suc, ◌+◌, ◌≤◌, Bool, true, false, ◌&&◌, ◌||◌, List, [], ◌∷◌, length, take, refl, sym, ap, ◌∙◌, subst, arith, ◌⊎◌, inl, inr, nat_eq, nat_lt, bytes_eq}
use Rattle.std.specs.Cmp.Lexicographic.{slice_cmp, pointwise, lists_ties, texts_ties, nat_list_eq_equiv}
use Rattle.std.specs.Ordering.{nat_cmp, is_eq}
use Rattle.std.proofs.lemmas.Bool.{cases_lt, and_right, or_left, or_right, ne_eqb, le-ltb, lt-ltb}
use Rattle.std.proofs.lemmas.Bool.Decides.{nat_tests}
use Rattle.dvc_base.specs.Path.{Path, under, overlap, is_within}
use Rattle.dvc_base.proofs.PathLemmas.{under-refl, under-length, under-same_length}
use Rattle.path_index.specs.Table.{path_at, path_cmp, is_at, is_cut}

pub either : {A B C : Type 0} → A ⊎ B → (A → C) → (B → C) → C
either (inl a) f g = f a
either (inr b) f g = g b

-- ---- numbers

pub lt_more : (n k : ℕ) → nat_lt n (k + 1) ≡ (nat_lt n k || nat_eq n k)
lt_more n k = grind (arith, nat_tests)

eq_suc : (m n : ℕ) → nat_eq (suc m) (suc n) ≡ nat_eq m n
eq_suc m n = grind (arith, nat_tests)

-- ---- the first components of a path

pub path_ties : (p q : Path) → is_eq (path_cmp p q) ≡ pointwise bytes_eq p q
path_ties p q = sym (lists_ties (slice_cmp nat_cmp) texts_ties p q)

same_under : (p q : Path) → pointwise bytes_eq (take (length p) q) p ≡ under p q
same_under [] q = refl
same_under (c ∷ p) [] = refl
same_under (c ∷ p) (d ∷ q) = λ i. nat_list_eq_equiv.symm d c i && same_under p q i

pub cut_under : (p q : Path) → is_cut (length p) p q ≡ under p q
cut_under p q = path_ties (take (length p) q) p ∙ same_under p q

and_assoc : (a b c : Bool) → (a && (b && c)) ≡ ((a && b) && c)
and_assoc true b c = refl
and_assoc false b c = refl

same_at : (k : ℕ) (p q : Path) → k ≤ length p → pointwise bytes_eq (take (suc k) q) (take k p) ≡ (under q p && nat_eq (length q) k)
same_at zero p [] h = refl
same_at zero p (d ∷ q) h = sym (and_right (under (d ∷ q) p) (nat_eq (suc (length q)) 0) (ne_eqb (suc (length q)) 0 (λ e. absurd (omega arith))))
same_at (suc k) [] q h = absurd (omega arith)
same_at (suc k) (c ∷ p) [] h = sym (ne_eqb 0 (suc k) (λ e. absurd (omega arith)))
same_at (suc k) (c ∷ p) (d ∷ q) h =
    ap (λ (b : Bool). bytes_eq d c && b) (same_at k p q (omega arith))
    ∙ and_assoc (bytes_eq d c) (under q p) (nat_eq (length q) k)
    ∙ ap (λ (b : Bool). (bytes_eq d c && under q p) && b) (sym (eq_suc (length q) k))

cut_at : (k : ℕ) (p q : Path) → k ≤ length p → is_cut (k + 1) (take k p) q ≡ (under q p && nat_eq (length q) k)
cut_at k p q h = path_ties (take (k + 1) q) (take k p) ∙ ap (λ (m : ℕ). pointwise bytes_eq (take m q) (take k p)) (one_more k) ∙ same_at k p q h
  where
    one_more : (m : ℕ) → m + 1 ≡ suc m
    one_more m = omega arith

abbrev pub is_around : Path → ℕ → Path → Bool
is_around p k q = under q p && nat_lt (length q) k

and_or : (a b c : Bool) → (a && (b || c)) ≡ ((a && b) || (a && c))
and_or true b c = refl
and_or false b c = refl

pub within_more : (k : ℕ) (p q : Path) → k ≤ length p →
    (is_around p k q || is_cut (k + 1) (take k p) q) ≡ is_around p (k + 1) q
within_more k p q h =
    ap (λ (b : Bool). (under q p && nat_lt (length q) k) || b) (cut_at k p q h)
    ∙ sym (and_or (under q p) (nat_lt (length q) k) (nat_eq (length q) k))
    ∙ ap (λ (b : Bool). under q p && b) (sym (lt_more (length q) k))

pub within_none : (p q : Path) → is_around p 0 q ≡ false
within_none p q = and_right (under q p) (nat_lt (length q) 0) (le-ltb (length q) 0 (omega arith))

same_overlap : (p q : Path) (u : Bool) → under q p ≡ u → ((u && nat_lt (length q) (length p)) || under p q) ≡ (u || under p q)
same_overlap p q false e = refl
same_overlap p q true e = either (cases_lt (length q) (length p))
    (λ less. or_left (nat_lt (length q) (length p)) (under p q) (lt-ltb (length q) (length p) less))
    (λ more. let upto : length q ≤ length p = under-length q p e in
    let same : q ≡ p = under-same_length q p e (omega arith) in
    or_right (nat_lt (length q) (length p)) (under p q) (subst (λ (r : Path). under p r ≡ true) (sym same) (under-refl p)))

pub all_overlap : (p q : Path) → (is_around p (length p) q || under p q) ≡ overlap q p
all_overlap p q = same_overlap p q (under q p) refl

-- ---- places

pub at_or : (s t : Path → Bool) (paths : List Path) (n : ℕ) → (is_at s paths n || is_at t paths n) ≡ is_at (λ q. s q || t q) paths n
at_or s t paths n = sym (and_or (nat_lt n (length paths)) (s (path_at paths n)) (t (path_at paths n)))

pub around_more : (paths : List Path) (p : Path) (k n : ℕ) → k ≤ length p →
    (is_at (is_around p k) paths n || is_at (is_cut (k + 1) (take k p)) paths n) ≡ is_at (is_around p (k + 1)) paths n
around_more paths p k n h =
    at_or (is_around p k) (is_cut (k + 1) (take k p)) paths n
    ∙ ap (λ (b : Bool). nat_lt n (length paths) && b) (within_more k p (path_at paths n) h)

pub none_around : (paths : List Path) (p : Path) (n : ℕ) → is_at (is_around p 0) paths n ≡ false
none_around paths p n = and_right (nat_lt n (length paths)) (is_around p 0 (path_at paths n)) (within_none p (path_at paths n))

abbrev pub is_near : Path → ℕ → Path → Bool
is_near p k q = is_around p k q || under p q

pub below_start : (paths : List Path) (p : Path) (n : ℕ) → is_at (is_cut (length p) p) paths n ≡ is_at (is_near p 0) paths n
below_start paths p n =
    let q = path_at paths n in
    ap (λ (b : Bool). nat_lt n (length paths) && b) (cut_under p q ∙ sym (ap (λ (b : Bool). b || under p q) (within_none p q)))

or_last : (a b c : Bool) → ((a || b) || c) ≡ ((a || c) || b)
or_last true b c = refl
or_last false true true = refl
or_last false true false = refl
or_last false false true = refl
or_last false false false = refl

pub below_more : (paths : List Path) (p : Path) (k n : ℕ) → k ≤ length p →
    (is_at (is_near p k) paths n || is_at (is_cut (k + 1) (take k p)) paths n) ≡ is_at (is_near p (k + 1)) paths n
below_more paths p k n h =
    let q = path_at paths n in
    at_or (is_near p k) (is_cut (k + 1) (take k p)) paths n
    ∙ ap (λ (b : Bool). nat_lt n (length paths) && b)
    (or_last (is_around p k q) (under p q) (is_cut (k + 1) (take k p) q) ∙ ap (λ (b : Bool). b || under p q) (within_more k p q h))

pub below_all : (paths : List Path) (p : Path) (n : ℕ) → is_at (is_near p (length p)) paths n ≡ is_at (λ q. overlap q p) paths n
below_all paths p n = ap (λ (b : Bool). nat_lt n (length paths) && b) (all_overlap p (path_at paths n))

pub around_all : (paths : List Path) (p : Path) (n : ℕ) → (is_at (is_within p) paths n || is_at (is_cut (length p) p) paths n) ≡ is_at (λ q. overlap q p) paths n
around_all paths p n =
    ap (λ (b : Bool). is_at (is_within p) paths n || b) (ap (λ (b : Bool). nat_lt n (length paths) && b) (cut_under p (path_at paths n)))
    ∙ at_or (is_within p) (under p) paths n
    ∙ below_all paths p n
