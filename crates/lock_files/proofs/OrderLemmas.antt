-- What a list in order has of the list.
--     all_in_order, each_in_order     what holds of each item
--     rising_of_distinct              distinct keys rise in order
use Rattle.std.proofs.Common.{◌≡◌, ℕ, Bool, true, false, not, ◌&&◌, ◌||◌, List, [], ◌∷◌, ◌++◌, map, inl, inr, refl, sym, ap, subst, ◌∙◌, bytes_eq}
use Rattle.std.specs.List.{list_all}
use Rattle.std.specs.declared.cmp.Ordering.{Ordering}
use Rattle.std.specs.declared.cmp.Ordering.TheVariants.{Less, Equal, Greater}
use Rattle.std.specs.Ordering.{nat_cmp, is_lt, ordering_reverse}
use Rattle.std.specs.Cmp.Lexicographic.{slice_cmp}
use Rattle.std.specs.FinMap.{nat_cmp-IsAntisymmetric, slice_cmp-IsAntisymmetric}
use Rattle.std.proofs.lemmas.Bool.{and_parts, and_from, cases_Bool, cond-true, cond-false, false≢true, or_parts, not-true, false_from_ne_true}
use Rattle.std.proofs.lemmas.Cmp.{nat_list_cmp_total}
use Rattle.std.proofs.lemmas.List.Folds.{list_any-append}
use Rattle.std.proofs.lemmas.Slice.Eq.{bytes_eq-Decides}
use Rattle.yaml_print.specs.Sound.{Each}
use Rattle.lock_files.specs.Order.{is_less, put_in, in_order, is_rising}
use Rattle.lock_files.specs.Refused.{is_among}
use Rattle.lock_files.specs.Form.{are_distinct}
use Rattle.lock_files.proofs.PathsBack.{less_chain}

module _ {A : Type 0} (key : A → List ℕ) where
  abbrev later : A → A → Bool
  later a b = is_less (key b) (key a)

  put_all : (p : A → Bool) (a : A) (bs : List A) → p a ≡ true → list_all p bs ≡ true → list_all p (put_in key a bs) ≡ true
  put_all p a [] here rest = and_from (p a) true here refl
  put_all p a (b ∷ bs) here rest =
      let both = and_parts (p b) (list_all p bs) rest in
      elim (cases_Bool (later a b)) [
        | inl h ↦
            ap (list_all p) (cond-true (later a b) (b ∷ put_in key a bs) (a ∷ b ∷ bs) h)
            ∙ and_from (p b) (list_all p (put_in key a bs)) both.0 (put_all p a bs here both.1)
        | inr h ↦
            ap (list_all p) (cond-false (later a b) (b ∷ put_in key a bs) (a ∷ b ∷ bs) h)
            ∙ and_from (p a) (list_all p (b ∷ bs)) here rest
      ]

  pub all_in_order : (p : A → Bool) (xs : List A) → list_all p xs ≡ true → list_all p (in_order key xs) ≡ true
  all_in_order p [] h = refl
  all_in_order p (a ∷ rest) h =
      let both = and_parts (p a) (list_all p rest) h in
      put_all p a (in_order key rest) both.0 (all_in_order p rest both.1)

  put_each : (P : A → Type 0) (a : A) (bs : List A) → P a → Each P bs → Each P (put_in key a bs)
  put_each P a [] here rest = (here, tt)
  put_each P a (b ∷ bs) here rest =
      elim (cases_Bool (later a b)) [
        | inl h ↦ subst (Each P) (sym (cond-true (later a b) (b ∷ put_in key a bs) (a ∷ b ∷ bs) h)) (rest.0, put_each P a bs here rest.1)
        | inr h ↦ subst (Each P) (sym (cond-false (later a b) (b ∷ put_in key a bs) (a ∷ b ∷ bs) h)) (here, rest)
      ]

  pub each_in_order : (P : A → Type 0) (xs : List A) → Each P xs → Each P (in_order key xs)
  each_in_order P [] h = tt
  each_in_order P (a ∷ rest) h = put_each P a (in_order key rest) h.0 (each_in_order P rest h.1)

-- ---- texts that rise

rising_cons : (t : List ℕ) (texts : List (List ℕ)) → list_all (is_less t) texts ≡ true → is_rising texts ≡ true → is_rising (t ∷ texts) ≡ true
rising_cons t [] h k = refl
rising_cons t (u ∷ texts) h k = and_from (is_less t u) (is_rising (u ∷ texts)) (and_parts (is_less t u) (list_all (is_less t) texts) h).0 k

all_above : (t u : List ℕ) (texts : List (List ℕ)) → is_less t u ≡ true → list_all (is_less u) texts ≡ true → list_all (is_less t) texts ≡ true
all_above t u [] h k = refl
all_above t u (x ∷ texts) h k =
    let both = and_parts (is_less u x) (list_all (is_less u) texts) k in
    and_from (is_less t x) (list_all (is_less t) texts) (less_chain t u x h both.0) (all_above t u texts h both.1)

rising_all : (t : List ℕ) (texts : List (List ℕ)) → is_rising (t ∷ texts) ≡ true → list_all (is_less t) texts ≡ true
rising_all t [] h = refl
rising_all t (u ∷ texts) h =
    let both = and_parts (is_less t u) (is_rising (u ∷ texts)) h in
    and_from (is_less t u) (list_all (is_less t) texts) both.0 (all_above t u texts both.0 (rising_all u texts both.1))

rising_tail : (t : List ℕ) (texts : List (List ℕ)) → is_rising (t ∷ texts) ≡ true → is_rising texts ≡ true
rising_tail t [] h = refl
rising_tail t (u ∷ texts) h = (and_parts (is_less t u) (is_rising (u ∷ texts)) h).1

tie : (r q : Ordering) → q ≡ ordering_reverse r → is_lt r ≡ false → is_lt q ≡ false → r ≡ Equal
tie Less q e h k = absurd (false≢true (sym h))
tie Equal q e h k = refl
tie Greater q e h k = absurd (false≢true (sym k ∙ ap is_lt e))

-- of two texts that differ one is less
less_or : (a b : List ℕ) → is_less b a ≡ false → bytes_eq b a ≡ false → is_less a b ≡ true
less_or a b h apart =
    elim (cases_Bool (is_less a b)) [
      | inl l ↦ l
      | inr l ↦
          let same : b ≡ a = slice_cmp-IsAntisymmetric nat_cmp-IsAntisymmetric b a (tie (slice_cmp nat_cmp b a) (slice_cmp nat_cmp a b) (nat_list_cmp_total.antisymm a b) h l) in
          absurd (false≢true (sym apart ∙ (bytes_eq-Decides b a).1 same))
    ]

all_of_map : {A B : Type 0} (f : A → B) (p : B → Bool) (xs : List A) → list_all p (map f xs) ≡ list_all (λ x. p (f x)) xs
all_of_map f p [] = refl
all_of_map f p (x ∷ xs) = ap (λ b. p (f x) && b) (all_of_map f p xs)

module _ {A : Type 0} (key : A → List ℕ) where
  put_rising : (a : A) (bs : List A) → list_all (λ b. not (bytes_eq (key b) (key a))) bs ≡ true → is_rising (map key bs) ≡ true → is_rising (map key (put_in key a bs)) ≡ true
  put_rising a [] apart up = refl
  put_rising a (b ∷ bs) apart up =
      let both = and_parts (not (bytes_eq (key b) (key a))) (list_all (λ x. not (bytes_eq (key x) (key a))) bs) apart in
      let above : list_all (λ x. is_less (key b) (key x)) bs ≡ true = sym (all_of_map key (is_less (key b)) bs) ∙ rising_all (key b) (map key bs) up in
      elim (cases_Bool (is_less (key b) (key a))) [
        | inl h ↦
            let more : list_all (is_less (key b)) (map key (put_in key a bs)) ≡ true =
            all_of_map key (is_less (key b)) (put_in key a bs) ∙ put_all key (λ x. is_less (key b) (key x)) a bs h above in
            ap (λ l. is_rising (map key l)) (cond-true (is_less (key b) (key a)) (b ∷ put_in key a bs) (a ∷ b ∷ bs) h)
            ∙ rising_cons (key b) (map key (put_in key a bs)) more (put_rising a bs both.1 (rising_tail (key b) (map key bs) up))
        | inr h ↦
            ap (λ l. is_rising (map key l)) (cond-false (is_less (key b) (key a)) (b ∷ put_in key a bs) (a ∷ b ∷ bs) h)
            ∙ and_from (is_less (key a) (key b)) (is_rising (key b ∷ map key bs)) (less_or (key a) (key b) h (not-true (bytes_eq (key b) (key a)) both.0)) up
      ]

  -- each item is apart from those before it
  tested_more : (p q : A → Bool) → ((x : A) → p x ≡ true → q x ≡ true) → (xs : List A) → list_all p xs ≡ true → list_all q xs ≡ true
  tested_more p q f [] h = refl
  tested_more p q f (x ∷ xs) h =
      let both = and_parts (p x) (list_all p xs) h in
      and_from (q x) (list_all q xs) (f x both.0) (tested_more p q f xs both.1)

  among_before : (q : List ℕ) (before : List (List ℕ)) (t : List ℕ) → is_among q (before ++ t ∷ []) ≡ false → (is_among q before ≡ false) × (bytes_eq t q ≡ false)
  among_before q before t h =
      let parts = or_parts (is_among q before) (bytes_eq t q || false) (sym (list_any-append (λ p. bytes_eq p q) before (t ∷ [])) ∙ h) in
      (parts.0, (or_parts (bytes_eq t q) false parts.1).0)

  apart_from : (before : List (List ℕ)) (xs : List A) → are_distinct before (map key xs) ≡ true → list_all (λ x. not (is_among (key x) before)) xs ≡ true
  apart_from before [] h = refl
  apart_from before (x ∷ xs) h =
      let both = and_parts (not (is_among (key x) before)) (are_distinct (before ++ key x ∷ []) (map key xs)) h in
      and_from (not (is_among (key x) before)) (list_all (λ y. not (is_among (key y) before)) xs) both.0
      (tested_more (λ y. not (is_among (key y) (before ++ key x ∷ []))) (λ y. not (is_among (key y) before))
      (λ y k. ap not (among_before (key y) before (key x) (not-true (is_among (key y) (before ++ key x ∷ [])) k)).0) xs
      (apart_from (before ++ key x ∷ []) xs both.1))

  swapped : (a b : List ℕ) → bytes_eq a b ≡ false → bytes_eq b a ≡ false
  swapped a b h = false_from_ne_true (bytes_eq b a) (λ e. false≢true (sym h ∙ (bytes_eq-Decides a b).1 (sym ((bytes_eq-Decides b a).0 e))))

  rising_by : (before : List (List ℕ)) (xs : List A) → are_distinct before (map key xs) ≡ true → is_rising (map key (in_order key xs)) ≡ true
  rising_by before [] h = refl
  rising_by before (x ∷ xs) h =
      let rest = (and_parts (not (is_among (key x) before)) (are_distinct (before ++ key x ∷ []) (map key xs)) h).1 in
      let apart = tested_more (λ y. not (is_among (key y) (before ++ key x ∷ []))) (λ y. not (bytes_eq (key y) (key x)))
      (λ y k. ap not (swapped (key x) (key y) (among_before (key y) before (key x) (not-true (is_among (key y) (before ++ key x ∷ [])) k)).1)) xs
      (apart_from (before ++ key x ∷ []) xs rest) in
      put_rising x (in_order key xs) (all_in_order key (λ y. not (bytes_eq (key y) (key x))) xs apart) (rising_by (before ++ key x ∷ []) xs rest)

  pub rising_of_distinct : (xs : List A) → are_distinct [] (map key xs) ≡ true → is_rising (map key (in_order key xs)) ≡ true
  rising_of_distinct xs h = rising_by [] xs h
