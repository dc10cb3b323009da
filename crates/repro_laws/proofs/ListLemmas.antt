-- What holds of each item of a list.
--     each_from, each_both      from what holds of each to something else
--     each_first, each_second, each_all     of two lists, one after the other
--     each_mapped, each_map     of the items that a function gives
--     each_false, none_true     of a test that passes nowhere
--     any_..                    of a test over two lists, one after the other
--     each_in_order             of the items in order
use Rattle.std.proofs.Common.{◌≡◌, ℕ, Bool, true, false, List, [], ◌∷◌, ◌++◌, map, refl, sym, ap, ◌∙◌, subst, inl, inr}
use Rattle.std.specs.List.{AllByRecursion, list_any}
use Rattle.std.proofs.lemmas.Bool.{false≢true, or_parts, or_from, or_left, or_right, or_cases, both_ways, cases_Bool, cond-true, cond-false}
use Rattle.lock_files.specs.Order.{is_less, put_in, in_order}

module _ {A : Type 0} where
  pub each_from : (P Q : A → Type 0) (xs : List A) → ((x : A) → P x → Q x) → AllByRecursion P xs → AllByRecursion Q xs
  each_from P Q [] f a = tt
  each_from P Q (x ∷ xs) f a = (f x a.0, each_from P Q xs f a.1)

  pub each_both : (P Q R : A → Type 0) (xs : List A) → ((x : A) → P x → Q x → R x) → AllByRecursion P xs → AllByRecursion Q xs → AllByRecursion R xs
  each_both P Q R [] f a b = tt
  each_both P Q R (x ∷ xs) f a b = (f x a.0 b.0, each_both P Q R xs f a.1 b.1)

  pub each_first : (P : A → Type 0) (xs ys : List A) → AllByRecursion P (xs ++ ys) → AllByRecursion P xs
  each_first P [] ys a = tt
  each_first P (x ∷ xs) ys a = (a.0, each_first P xs ys a.1)

  pub each_second : (P : A → Type 0) (xs ys : List A) → AllByRecursion P (xs ++ ys) → AllByRecursion P ys
  each_second P [] ys a = a
  each_second P (x ∷ xs) ys a = each_second P xs ys a.1

  pub each_all : (P : A → Type 0) (xs ys : List A) → AllByRecursion P xs → AllByRecursion P ys → AllByRecursion P (xs ++ ys)
  each_all P [] ys a b = b
  each_all P (x ∷ xs) ys a b = (a.0, each_all P xs ys a.1 b)

  pub each_mapped : {B : Type 0} (f : A → B) (P : B → Type 0) (xs : List A) → AllByRecursion P (map f xs) → AllByRecursion (λ x. P (f x)) xs
  each_mapped f P [] a = tt
  each_mapped f P (x ∷ xs) a = (a.0, each_mapped f P xs a.1)

  pub each_map : {B : Type 0} (f : A → B) (P : B → Type 0) (xs : List A) → AllByRecursion (λ x. P (f x)) xs → AllByRecursion P (map f xs)
  each_map f P [] a = tt
  each_map f P (x ∷ xs) a = (a.0, each_map f P xs a.1)

  pub each_false : (f : A → Bool) (xs : List A) → list_any f xs ≡ false → AllByRecursion (λ x. f x ≡ false) xs
  each_false f [] h = tt
  each_false f (x ∷ xs) h =
      let parts = or_parts (f x) (list_any f xs) h in
      (parts.0, each_false f xs parts.1)

  pub none_true : (f : A → Bool) (xs : List A) → AllByRecursion (λ x. f x ≡ false) xs → list_any f xs ≡ false
  none_true f [] a = refl
  none_true f (x ∷ xs) a = or_from (f x) (list_any f xs) a.0 (none_true f xs a.1)

  pub map_same : {B : Type 0} (f g : A → B) (xs : List A) → AllByRecursion (λ x. f x ≡ g x) xs → map f xs ≡ map g xs
  map_same f g [] a = refl
  map_same f g (x ∷ xs) a = ap (λ b. b ∷ map f xs) a.0 ∙ ap (λ bs. g x ∷ bs) (map_same f g xs a.1)

  -- ---- a test over two lists

  pub any_parts : (f : A → Bool) (xs ys : List A) → list_any f (xs ++ ys) ≡ false → (list_any f xs ≡ false) × (list_any f ys ≡ false)
  any_parts f [] ys h = (refl, h)
  any_parts f (x ∷ xs) ys h =
      let parts = or_parts (f x) (list_any f (xs ++ ys)) h in
      let rest = any_parts f xs ys parts.1 in
      (or_from (f x) (list_any f xs) parts.0 rest.0, rest.1)

  pub any_neither : (f : A → Bool) (xs ys : List A) → list_any f xs ≡ false → list_any f ys ≡ false → list_any f (xs ++ ys) ≡ false
  any_neither f [] ys a b = b
  any_neither f (x ∷ xs) ys a b =
      let parts = or_parts (f x) (list_any f xs) a in
      or_from (f x) (list_any f (xs ++ ys)) parts.0 (any_neither f xs ys parts.1 b)

  pub any_second : (f : A → Bool) (xs ys : List A) → list_any f ys ≡ true → list_any f (xs ++ ys) ≡ true
  any_second f [] ys h = h
  any_second f (x ∷ xs) ys h = or_right (f x) (list_any f (xs ++ ys)) (any_second f xs ys h)

  pub any_first : (f : A → Bool) (xs ys : List A) → list_any f xs ≡ true → list_any f (xs ++ ys) ≡ true
  any_first f [] ys h = absurd (false≢true h)
  any_first f (x ∷ xs) ys h =
      elim (or_cases (f x) (list_any f xs) h) [
        | inl here ↦ or_left (f x) (list_any f (xs ++ ys)) here
        | inr later ↦ or_right (f x) (list_any f (xs ++ ys)) (any_first f xs ys later)
      ]

  pub any_other : (f : A → Bool) (xs ys : List A) → list_any f (xs ++ ys) ≡ true → list_any f ys ≡ false → list_any f xs ≡ true
  any_other f [] ys h out = absurd (both_ways (list_any f ys) out h)
  any_other f (x ∷ xs) ys h out =
      elim (or_cases (f x) (list_any f (xs ++ ys)) h) [
        | inl here ↦ or_left (f x) (list_any f xs) here
        | inr later ↦ or_right (f x) (list_any f xs) (any_other f xs ys later out)
      ]

  -- ---- in order

  each_put : (key : A → List ℕ) (P : A → Type 0) (a : A) (bs : List A) → P a → AllByRecursion P bs → AllByRecursion P (put_in key a bs)
  each_put key P a [] here rest = (here, tt)
  each_put key P a (b ∷ bs) here rest =
      elim (cases_Bool (is_less (key b) (key a))) [
        | inl h ↦
            subst (AllByRecursion P) (sym (cond-true (is_less (key b) (key a)) (b ∷ put_in key a bs) (a ∷ b ∷ bs) h)) (rest.0, each_put key P a bs here rest.1)
        | inr h ↦
            subst (AllByRecursion P) (sym (cond-false (is_less (key b) (key a)) (b ∷ put_in key a bs) (a ∷ b ∷ bs) h)) (here, rest)
      ]

  pub each_in_order : (key : A → List ℕ) (P : A → Type 0) (xs : List A) → AllByRecursion P xs → AllByRecursion P (in_order key xs)
  each_in_order key P [] a = tt
  each_in_order key P (x ∷ xs) a = each_put key P x (in_order key xs) a.0 (each_in_order key P xs a.1)
