-- What holds of any two members of a list, and of the members at some places.
--     AllPairs R xs              each member has R with those behind it
--     pairs_from                 from one relation to another
--     pairs_mapped, pairs_map    of what a function gives
--     pairs_parts, pairs_all     of two lists, one after the other
--     Between R xs ys            each member of the one list has R with those of the other
--     between_turned             and the other way round
--     pairs_in_order             of the members in order
--     pairs_flat, pairs_of_flat  of what a function gives as lists
--     each_flat, each_of_flat    what holds of each member of these
--     at_place                   what holds of each member, by its place
--     pair_at                    and of two of them
--     each_picked, pairs_picked  of the members at some places, each of which is named once
--     each_kept, pairs_kept      of the members that a test keeps
use Rattle.std.proofs.Common.{◌≡◌, ℕ, zero, suc, Bool, true, false, ◌==◌, cond, List, [], ◌∷◌, ◌++◌, map, Option, Some, None, refl, sym, ap, subst, inl, inr, slice_get}
use Rattle.std.specs.List.{AllByRecursion, filter, filter_map, flat_map, cons_option}
use Rattle.std.proofs.lemmas.Bool.{cases_Bool, cond-true, cond-false, both_ways, eq-eqb, or_left, or_right}
use Rattle.lock_files.specs.Order.{is_less, put_in, in_order}
use Rattle.stage_order.specs.Order.{is_in}
use Rattle.repro_laws.proofs.ListLemmas.{each_from, each_first, each_second, each_all, each_mapped, each_map, each_in_order}

pub none_is_some : {A : Type 0} (a : A) → None ≡ Some a → ⊥
none_is_some a e = cc

pub some_same : {A : Type 0} (a b : A) → Some a ≡ Some b → a ≡ b
some_same a b e = cc

module _ {A : Type 0} where
  abbrev pub AllPairs : (A → A → Type 0) → List A → Type 0
  AllPairs R [] = Unit {0}
  AllPairs R (x ∷ xs) = AllByRecursion (R x) xs × AllPairs R xs

  pub pairs_from : (R S : A → A → Type 0) (xs : List A) → ((x y : A) → R x y → S x y) → AllPairs R xs → AllPairs S xs
  pairs_from R S [] f h = tt
  pairs_from R S (x ∷ xs) f h = (each_from (R x) (S x) xs (f x) h.0, pairs_from R S xs f h.1)

  -- ---- two lists

  abbrev pub Between : (A → A → Type 0) → List A → List A → Type 0
  Between R xs ys = AllByRecursion (λ x. AllByRecursion (R x) ys) xs

  pub pairs_parts : (R : A → A → Type 0) (xs ys : List A) → AllPairs R (xs ++ ys) → AllPairs R xs × (Between R xs ys × AllPairs R ys)
  pairs_parts R [] ys h = (tt, (tt, h))
  pairs_parts R (x ∷ xs) ys h =
      let rest = pairs_parts R xs ys h.1 in
      ((each_first (R x) xs ys h.0, rest.0), ((each_second (R x) xs ys h.0, rest.1.0), rest.1.1))

  pub pairs_all : (R : A → A → Type 0) (xs ys : List A) → AllPairs R xs → Between R xs ys → AllPairs R ys → AllPairs R (xs ++ ys)
  pairs_all R [] ys h k l = l
  pairs_all R (x ∷ xs) ys h k l = (each_all (R x) xs ys h.0 k.0, pairs_all R xs ys h.1 k.1 l)

  -- ---- in order

  each_put : (key : A → List ℕ) (P : A → Type 0) (a : A) (bs : List A) → P a → AllByRecursion P bs → AllByRecursion P (put_in key a bs)
  each_put key P a [] here rest = (here, tt)
  each_put key P a (b ∷ bs) here rest =
      elim (cases_Bool (is_less (key b) (key a))) [
        | inl h ↦
            subst (AllByRecursion P) (sym (cond-true (is_less (key b) (key a)) (b ∷ put_in key a bs) (a ∷ b ∷ bs) h)) (rest.0, each_put key P a bs here rest.1)
        | inr h ↦
            subst (AllByRecursion P) (sym (cond-false (is_less (key b) (key a)) (b ∷ put_in key a bs) (a ∷ b ∷ bs) h)) (here, rest)
      ]

  pairs_put : (key : A → List ℕ) (R : A → A → Type 0) → ((x y : A) → R x y → R y x) → (a : A) (bs : List A) → AllByRecursion (R a) bs → AllPairs R bs → AllPairs R (put_in key a bs)
  pairs_put key R turn a [] here rest = (tt, tt)
  pairs_put key R turn a (b ∷ bs) here rest =
      elim (cases_Bool (is_less (key b) (key a))) [
        | inl h ↦
            subst (AllPairs R) (sym (cond-true (is_less (key b) (key a)) (b ∷ put_in key a bs) (a ∷ b ∷ bs) h))
            (each_put key (R b) a bs (turn a b here.0) rest.0, pairs_put key R turn a bs here.1 rest.1)
        | inr h ↦
            subst (AllPairs R) (sym (cond-false (is_less (key b) (key a)) (b ∷ put_in key a bs) (a ∷ b ∷ bs) h)) (here, rest)
      ]

  pub pairs_in_order : (key : A → List ℕ) (R : A → A → Type 0) → ((x y : A) → R x y → R y x) → (xs : List A) → AllPairs R xs → AllPairs R (in_order key xs)
  pairs_in_order key R turn [] h = tt
  pairs_in_order key R turn (x ∷ xs) h = pairs_put key R turn x (in_order key xs) (each_in_order key (R x) xs h.0) (pairs_in_order key R turn xs h.1)

-- ---- what a function gives

module _ {A B : Type 0} (f : A → B) where
  pub pairs_mapped : (R : B → B → Type 0) (xs : List A) → AllPairs R (map f xs) → AllPairs (λ x y. R (f x) (f y)) xs
  pairs_mapped R [] h = tt
  pairs_mapped R (x ∷ xs) h = (each_mapped f (R (f x)) xs h.0, pairs_mapped R xs h.1)

  pub pairs_map : (R : B → B → Type 0) (xs : List A) → AllPairs (λ x y. R (f x) (f y)) xs → AllPairs R (map f xs)
  pairs_map R [] h = tt
  pairs_map R (x ∷ xs) h = (each_map f (R (f x)) xs h.0, pairs_map R xs h.1)

module _ {A B : Type 0} (f : A → List B) where
  pub each_flat : (P : B → Type 0) (xs : List A) → AllByRecursion (λ x. AllByRecursion P (f x)) xs → AllByRecursion P (flat_map f xs)
  each_flat P [] h = tt
  each_flat P (x ∷ xs) h = each_all P (f x) (flat_map f xs) h.0 (each_flat P xs h.1)

  pub each_of_flat : (P : B → Type 0) (xs : List A) → AllByRecursion P (flat_map f xs) → AllByRecursion (λ x. AllByRecursion P (f x)) xs
  each_of_flat P [] h = tt
  each_of_flat P (x ∷ xs) h = (each_first P (f x) (flat_map f xs) h, each_of_flat P xs (each_second P (f x) (flat_map f xs) h))

  -- between one list and each of those that the function gives
  across : (R : B → B → Type 0) (ys : List B) (xs : List A) → AllByRecursion (λ x. Between R ys (f x)) xs → Between R ys (flat_map f xs)
  across R [] xs h = tt
  across R (y ∷ ys) xs h = (
    each_flat (R y) xs (each_from (λ x. Between R (y ∷ ys) (f x)) (λ x. AllByRecursion (R y) (f x)) xs (λ x k. k.0) h),
    across R ys xs (each_from (λ x. Between R (y ∷ ys) (f x)) (λ x. Between R ys (f x)) xs (λ x k. k.1) h),
  )

  nothing_across : (R : B → B → Type 0) (xs : List A) → AllByRecursion (λ x. Between R [] (f x)) xs
  nothing_across R [] = tt
  nothing_across R (x ∷ xs) = (tt, nothing_across R xs)

  one_across : (R : B → B → Type 0) (y : B) (ys : List B) (xs : List A) → AllByRecursion (λ x. AllByRecursion (R y) (f x)) xs → AllByRecursion (λ x. Between R ys (f x)) xs → AllByRecursion (λ x. Between R (y ∷ ys) (f x)) xs
  one_across R y ys [] h k = tt
  one_across R y ys (x ∷ xs) h k = ((h.0, k.0), one_across R y ys xs h.1 k.1)

  of_across : (R : B → B → Type 0) (ys : List B) (xs : List A) → Between R ys (flat_map f xs) → AllByRecursion (λ x. Between R ys (f x)) xs
  of_across R [] xs h = nothing_across R xs
  of_across R (y ∷ ys) xs h = one_across R y ys xs (each_of_flat (R y) xs h.0) (of_across R ys xs h.1)

  pub pairs_flat : (R : B → B → Type 0) (xs : List A) → AllByRecursion (λ x. AllPairs R (f x)) xs → AllPairs (λ x y. Between R (f x) (f y)) xs → AllPairs R (flat_map f xs)
  pairs_flat R [] h k = tt
  pairs_flat R (x ∷ xs) h k = pairs_all R (f x) (flat_map f xs) h.0 (across R (f x) xs k.0) (pairs_flat R xs h.1 k.1)

  pub pairs_of_flat : (R : B → B → Type 0) (xs : List A) → AllPairs R (flat_map f xs) → AllByRecursion (λ x. AllPairs R (f x)) xs × AllPairs (λ x y. Between R (f x) (f y)) xs
  pairs_of_flat R [] h = (tt, tt)
  pairs_of_flat R (x ∷ xs) h =
      let parts = pairs_parts R (f x) (flat_map f xs) h in
      let rest = pairs_of_flat R xs parts.1.1 in
      ((parts.0, rest.0), (of_across R (f x) xs parts.1.0, rest.1))

pub between_turned : {A : Type 0} (R : A → A → Type 0) → ((x y : A) → R x y → R y x) → (xs ys : List A) → Between R xs ys → Between R ys xs
between_turned R turn xs [] h = tt
between_turned R turn xs (y ∷ ys) h = (
  each_from (λ x. AllByRecursion (R x) (y ∷ ys)) (λ x. R y x) xs (λ x k. turn x y k.0) h,
  between_turned R turn xs ys (each_from (λ x. AllByRecursion (R x) (y ∷ ys)) (λ x. AllByRecursion (R x) ys) xs (λ x k. k.1) h),
)

-- ---- the members that a test keeps

module _ {A : Type 0} (test : A → Bool) where
  each_if : (P : A → Type 0) (b : Bool) (x : A) (rest : List A) → P x → AllByRecursion P rest → AllByRecursion P (cond b (x ∷ rest) rest)
  each_if P true x rest here later = (here, later)
  each_if P false x rest here later = later

  pub each_kept : (P : A → Type 0) (xs : List A) → AllByRecursion P xs → AllByRecursion P (filter test xs)
  each_kept P [] h = tt
  each_kept P (x ∷ xs) h = each_if P (test x) x (filter test xs) h.0 (each_kept P xs h.1)

  pairs_if : (R : A → A → Type 0) (b : Bool) (x : A) (rest : List A) → AllByRecursion (R x) rest → AllPairs R rest → AllPairs R (cond b (x ∷ rest) rest)
  pairs_if R true x rest here later = (here, later)
  pairs_if R false x rest here later = later

  pub pairs_kept : (R : A → A → Type 0) (xs : List A) → AllPairs R xs → AllPairs R (filter test xs)
  pairs_kept R [] h = tt
  pairs_kept R (x ∷ xs) h = pairs_if R (test x) x (filter test xs) (each_kept (R x) xs h.0) (pairs_kept R xs h.1)

-- ---- places

-- no place is named twice
abbrev pub AreOnce : List ℕ → Type 0
AreOnce [] = Unit {0}
AreOnce (n ∷ ns) = (is_in ns n ≡ false) × AreOnce ns

module _ {A : Type 0} where
  pub at_place : (P : A → Type 0) (xs : List A) (n : ℕ) (x : A) → AllByRecursion P xs → slice_get xs n ≡ Some x → P x
  at_place P [] n x all e = absurd (none_is_some x e)
  at_place P (y ∷ xs) zero x all e = subst P (some_same y x e) all.0
  at_place P (y ∷ xs) (suc n) x all e = at_place P xs n x all.1 e

  pub pair_at : (R : A → A → Type 0) → ((x y : A) → R x y → R y x) → (xs : List A) (m n : ℕ) (a b : A) → AllPairs R xs → slice_get xs m ≡ Some a → slice_get xs n ≡ Some b → (m ≡ n → ⊥) → R a b
  pair_at R turn [] m n a b h d e ne = absurd (none_is_some a d)
  pair_at R turn (x ∷ xs) zero zero a b h d e ne = absurd (ne refl)
  pair_at R turn (x ∷ xs) zero (suc n) a b h d e ne = subst (λ (y : A). R y b) (some_same x a d) (at_place (R x) xs n b h.0 e)
  pair_at R turn (x ∷ xs) (suc m) zero a b h d e ne = turn b a (subst (λ (y : A). R y a) (some_same x b e) (at_place (R x) xs m a h.0 d))
  pair_at R turn (x ∷ xs) (suc m) (suc n) a b h d e ne = pair_at R turn xs m n a b h.1 d e (λ same. ne (ap suc same))

  each_cons : (P : A → Type 0) (o : Option A) (rest : List A) → ((x : A) → o ≡ Some x → P x) → AllByRecursion P rest → AllByRecursion P (cons_option o rest)
  each_cons P None rest f h = h
  each_cons P (Some x) rest f h = (f x refl, h)

  pairs_cons : (R : A → A → Type 0) (o : Option A) (rest : List A) → ((x : A) → o ≡ Some x → AllByRecursion (R x) rest) → AllPairs R rest → AllPairs R (cons_option o rest)
  pairs_cons R None rest f h = h
  pairs_cons R (Some x) rest f h = (f x refl, h)

  pub each_picked : (P : A → Type 0) (xs : List A) (ns : List ℕ) → ((n : ℕ) (x : A) → is_in ns n ≡ true → slice_get xs n ≡ Some x → P x) → AllByRecursion P (filter_map (slice_get xs) ns)
  each_picked P xs [] f = tt
  each_picked P xs (n ∷ ns) f =
      each_cons P (slice_get xs n) (filter_map (slice_get xs) ns) (λ x e. f n x (or_left (n == n) (is_in ns n) (eq-eqb n n refl)) e)
      (each_picked P xs ns (λ m x inside e. f m x (later n m ns inside) e))
    where
      later : (n m : ℕ) (ns : List ℕ) → is_in ns m ≡ true → is_in (n ∷ ns) m ≡ true
      later n m ns inside = or_right (n == m) (is_in ns m) inside

  pub pairs_picked : (R : A → A → Type 0) → ((x y : A) → R x y → R y x) → (xs : List A) → AllPairs R xs → (ns : List ℕ) → AreOnce ns → AllPairs R (filter_map (slice_get xs) ns)
  pairs_picked R turn xs h [] once = tt
  pairs_picked R turn xs h (n ∷ ns) once =
      pairs_cons R (slice_get xs n) (filter_map (slice_get xs) ns)
      (λ x e. each_picked (R x) xs ns (λ m y inside d. pair_at R turn xs n m x y h e d (λ same. both_ways (is_in ns n) once.0 (subst (λ (k : ℕ). is_in ns k ≡ true) (sym same) inside))))
      (pairs_picked R turn xs h ns once.1)
