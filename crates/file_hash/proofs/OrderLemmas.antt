-- Lists in order.
--     order_of_sort      what a stable sort gives is the list in order
--     order_rises        a list in order rises
--     rising_in_order    a list that rises is in order already
--     order_each         what each item has, each has in order
--     order_back         and the other way round
use Rattle.std.proofs.Common.{◌≡◌, ◌<◌, ℕ, ◌+◌, suc, Bool, true, false, not, cond, List, [], ◌∷◌, length, get_or, map, filter, inl, inr, refl, sym, ap, subst, ◌∙◌, arith}
use Rattle.std.specs.List.{AllByRecursion}
use Rattle.std.specs.List.Sorted.{IsSortedBy, IsStableBy, ties}
use Rattle.std.specs.Cmp.{IsStrictWeakOrder}
use Rattle.std.proofs.lemmas.Bool.{false≢true, cases_Bool, cond-true, cond-false, and_parts, and_from}
use Rattle.std.proofs.lemmas.List.Sorted.{sorted_far}
use Rattle.file_hash.specs.Listing.{put_in, in_order}

-- ---- lists

occurs : {A : Type 0} (P : A → Type 0) (p : A → Bool) (ys : List A) (z : A) (zs : List A) → filter p ys ≡ z ∷ zs → AllByRecursion P ys → P z
occurs P p [] z zs e all = absurd (cc)
occurs P p (y ∷ ys) z zs e all =
    elim (cases_Bool (p y)) [
      | inl h ↦
          let whole : y ∷ filter p ys ≡ z ∷ zs = sym (cond-true (p y) (y ∷ filter p ys) (filter p ys) h) ∙ e in
          let same : y ≡ z = cc in
          subst P same all.0
      | inr h ↦ occurs P p ys z zs (sym (cond-false (p y) (y ∷ filter p ys) (filter p ys) h) ∙ e) all.1
    ]

-- two items of which a test passes at most one may change places before it
changed_places : {A : Type 0} (pa pb : Bool) (a b : A) (rest : List A) → (pa ≡ true → pb ≡ true → ⊥) → cond pb (b ∷ cond pa (a ∷ rest) rest) (cond pa (a ∷ rest) rest) ≡ cond pa (a ∷ cond pb (b ∷ rest) rest) (cond pb (b ∷ rest) rest)
changed_places true true a b rest h = absurd (h refl refl)
changed_places true false a b rest h = refl
changed_places false true a b rest h = refl
changed_places false false a b rest h = refl

same_tail : {A : Type 0} (p : Bool) (a : A) (xs ys : List A) → cond p (a ∷ xs) xs ≡ cond p (a ∷ ys) ys → xs ≡ ys
same_tail true a xs ys h = cc
same_tail false a xs ys h = h

false_of_not : (b : Bool) → not b ≡ true → b ≡ false
false_of_not true h = absurd (false≢true h)
false_of_not false h = refl

not_of_false : (b : Bool) → b ≡ false → not b ≡ true
not_of_false b h = ap not h

-- ---- by one test

module _ {A : Type 0} (less : A → A → Bool) (weak : IsStrictWeakOrder less) where
  abbrev tied : A → A → Bool
  tied a b = ties less a b

  tied_from : (a b : A) → less a b ≡ false → less b a ≡ false → tied a b ≡ true
  tied_from a b h k = and_from (not (less a b)) (not (less b a)) (not_of_false (less a b) h) (not_of_false (less b a) k)

  -- neither is less than the other
  tied_parts : (a b : A) → tied a b ≡ true → (less a b ≡ false) × (less b a ≡ false)
  tied_parts a b h =
      let parts = and_parts (not (less a b)) (not (less b a)) h in
      (false_of_not (less a b) parts.0, false_of_not (less b a) parts.1)

  itself : (a : A) → less a a ≡ false
  itself a =
      elim (cases_Bool (less a a)) [
        | inl h ↦ weak.one_way a a h
        | inr h ↦ h
      ]

  tied_itself : (a : A) → tied a a ≡ true
  tied_itself a = tied_from a a (itself a) (itself a)

  put_later : (a b : A) (bs : List A) → less b a ≡ true → put_in less a (b ∷ bs) ≡ b ∷ put_in less a bs
  put_later a b bs h = cond-true (less b a) (b ∷ put_in less a bs) (a ∷ b ∷ bs) h

  pub put_here : (a b : A) (bs : List A) → less b a ≡ false → put_in less a (b ∷ bs) ≡ a ∷ b ∷ bs
  put_here a b bs h = cond-false (less b a) (b ∷ put_in less a bs) (a ∷ b ∷ bs) h

  -- ---- lists in order rise

  abbrev pub Rises : List A → Type 0
  Rises [] = Unit {0}
  Rises (a ∷ rest) = AllByRecursion (λ b. less b a ≡ false) rest × Rises rest

  each_more : (P Q : A → Type 0) (xs : List A) → ((x : A) → P x → Q x) → AllByRecursion P xs → AllByRecursion Q xs
  each_more P Q [] f h = tt
  each_more P Q (x ∷ xs) f h = (f x h.0, each_more P Q xs f h.1)

  pub put_each : (P : A → Type 0) (a : A) (bs : List A) → P a → AllByRecursion P bs → AllByRecursion P (put_in less a bs)
  put_each P a [] here rest = (here, tt)
  put_each P a (b ∷ bs) here rest =
      elim (cases_Bool (less b a)) [
        | inl h ↦ subst (AllByRecursion P) (sym (put_later a b bs h)) (rest.0, put_each P a bs here rest.1)
        | inr h ↦ subst (AllByRecursion P) (sym (put_here a b bs h)) (here, rest)
      ]

  put_rises : (a : A) (bs : List A) → Rises bs → Rises (put_in less a bs)
  put_rises a [] h = (tt, tt)
  put_rises a (b ∷ bs) h =
      elim (cases_Bool (less b a)) [
        | inl below ↦
            subst Rises (sym (put_later a b bs below)) (put_each (λ c. less c b ≡ false) a bs (weak.one_way b a below) h.0, put_rises a bs h.1)
        | inr above ↦
            let later = each_more (λ c. less c b ≡ false) (λ c. less c a ≡ false) bs (λ c up. weak.chain c b a up above) h.0 in
            subst Rises (sym (put_here a b bs above)) ((above, later), h)
      ]

  pub order_rises : (xs : List A) → Rises (in_order less xs)
  order_rises [] = tt
  order_rises (a ∷ rest) = put_rises a (in_order less rest) (order_rises rest)

  each_at : (P : A → Type 0) (xs : List A) → ((j : ℕ) (d : A) → j < length xs → P (get_or xs j d)) → AllByRecursion P xs
  each_at P [] f = tt
  each_at P (x ∷ xs) f = (f 0 x (omega arith), each_at P xs (λ j d l. f (suc j) d (omega (arith, l))))

  tail_sorted : (x : A) (xs : List A) → IsSortedBy less (x ∷ xs) → IsSortedBy less xs
  tail_sorted x xs sorted k d low high =
      let next : suc k + 1 ≡ suc (k + 1) = omega arith in
      subst (λ (n : ℕ). less (get_or (x ∷ xs) n d) (get_or xs k d) ≡ false) next (sorted (suc k) d (omega arith) (omega (arith, high)))

  rises_of_sorted : (xs : List A) → IsSortedBy less xs → Rises xs
  rises_of_sorted [] sorted = tt
  rises_of_sorted (x ∷ xs) sorted = (
    each_at (λ b. less b x ≡ false) xs (λ j d l. sorted_far less weak (x ∷ xs) sorted 0 (suc j) d (omega arith) (omega (arith, l))),
    rises_of_sorted xs (tail_sorted x xs sorted),
  )

  -- ---- what ties stands in them as before

  not_both : (x a b : A) → less b a ≡ true → tied x a ≡ true → tied x b ≡ true → ⊥
  not_both x a b below ta tb =
      let up : less b a ≡ false = weak.chain b x a (tied_parts x b tb).1 (tied_parts x a ta).0 in
      false≢true (sym up ∙ below)

  put_ties : (x a : A) (bs : List A) → filter (tied x) (put_in less a bs) ≡ filter (tied x) (a ∷ bs)
  put_ties x a [] = refl
  put_ties x a (b ∷ bs) =
      elim (cases_Bool (less b a)) [
        | inl below ↦
            ap (filter (tied x)) (put_later a b bs below)
            ∙ ap (λ l. cond (tied x b) (b ∷ l) l) (put_ties x a bs)
            ∙ changed_places (tied x a) (tied x b) a b (filter (tied x) bs) (not_both x a b below)
        | inr above ↦ ap (filter (tied x)) (put_here a b bs above)
      ]

  order_ties : (x : A) (xs : List A) → filter (tied x) (in_order less xs) ≡ filter (tied x) xs
  order_ties x [] = refl
  order_ties x (a ∷ rest) =
      put_ties x a (in_order less rest) ∙ ap (λ l. cond (tied x a) (a ∷ l) l) (order_ties x rest)

  -- ---- such a list is the only one

  swapped : (x y : A) → tied x y ≡ false → tied y x ≡ false
  swapped x y h =
      elim (cases_Bool (tied y x)) [
        | inl k ↦ let parts = tied_parts y x k in absurd (false≢true (sym h ∙ tied_from x y parts.1 parts.0))
        | inr k ↦ k
      ]

  -- an item that isn't tied with the first of a list that has it isn't less than that one
  not_less : (x y : A) (xs ys : List A) → tied x y ≡ false → AllByRecursion (λ b. less b y ≡ false) ys → filter (tied x) (y ∷ ys) ≡ filter (tied x) (x ∷ xs) → less x y ≡ false
  not_less x y xs ys apart up same =
      let there : filter (tied x) ys ≡ x ∷ filter (tied x) xs =
      sym (cond-false (tied x y) (y ∷ filter (tied x) ys) (filter (tied x) ys) apart) ∙ same
      ∙ cond-true (tied x x) (x ∷ filter (tied x) xs) (filter (tied x) xs) (tied_itself x) in
      occurs (λ b. less b y ≡ false) (tied x) ys x (filter (tied x) xs) there up

  nothing_ties : (y : A) (ys : List A) → filter (tied y) (y ∷ ys) ≡ [] → ⊥
  nothing_ties y ys e =
      let whole : y ∷ filter (tied y) ys ≡ [] = sym (cond-true (tied y y) (y ∷ filter (tied y) ys) (filter (tied y) ys) (tied_itself y)) ∙ e in
      cc

  first_same : (x y : A) (xs ys : List A) → Rises (x ∷ xs) → Rises (y ∷ ys) → ((z : A) → filter (tied z) (y ∷ ys) ≡ filter (tied z) (x ∷ xs)) → y ≡ x
  first_same x y xs ys up down same =
      elim (cases_Bool (tied x y)) [
        | inl h ↦
            let heads : y ∷ filter (tied x) ys ≡ x ∷ filter (tied x) xs =
            sym (cond-true (tied x y) (y ∷ filter (tied x) ys) (filter (tied x) ys) h) ∙ same x
            ∙ cond-true (tied x x) (x ∷ filter (tied x) xs) (filter (tied x) xs) (tied_itself x) in
            cc
        | inr h ↦
            let one : less x y ≡ false = not_less x y xs ys h down.0 (same x) in
            let other : less y x ≡ false = not_less y x ys xs (swapped x y h) up.0 (sym (same y)) in
            absurd (false≢true (sym h ∙ tied_from x y one other))
      ]

  tails_same : (x y : A) (xs ys : List A) → y ≡ x → ((z : A) → filter (tied z) (y ∷ ys) ≡ filter (tied z) (x ∷ xs)) → (z : A) → filter (tied z) ys ≡ filter (tied z) xs
  tails_same x y xs ys first same z =
      same_tail (tied z x) x (filter (tied z) ys) (filter (tied z) xs)
      (subst (λ (h : A). cond (tied z h) (h ∷ filter (tied z) ys) (filter (tied z) ys) ≡ filter (tied z) (x ∷ xs)) first (same z))

  unique : (xs ys : List A) → Rises xs → Rises ys → ((z : A) → filter (tied z) ys ≡ filter (tied z) xs) → ys ≡ xs
  unique [] [] up down same = refl
  unique [] (y ∷ ys) up down same = absurd (nothing_ties y ys (same y))
  unique (x ∷ xs) [] up down same = absurd (nothing_ties x xs (sym (same x)))
  unique (x ∷ xs) (y ∷ ys) up down same =
      let first = first_same x y xs ys up down same in
      ap (λ (h : A). h ∷ ys) first ∙ ap (λ (t : List A). x ∷ t) (unique xs ys up.1 down.1 (tails_same x y xs ys first same))

  pub order_of_sort : (xs ys : List A) → IsSortedBy less ys → IsStableBy less xs ys → ys ≡ in_order less xs
  order_of_sort xs ys sorted stable =
      unique (in_order less xs) ys (order_rises xs) (rises_of_sorted ys sorted) (λ z. stable z ∙ sym (order_ties z xs))

  pub order_each : (P : A → Type 0) (xs : List A) → AllByRecursion P xs → AllByRecursion P (in_order less xs)
  order_each P [] h = tt
  order_each P (a ∷ rest) h = put_each P a (in_order less rest) h.0 (order_each P rest h.1)

  put_length : (a : A) (bs : List A) → length (put_in less a bs) ≡ length (a ∷ bs)
  put_length a [] = refl
  put_length a (b ∷ bs) =
      elim (less b a) as (λ c. length (cond c (b ∷ put_in less a bs) (a ∷ b ∷ bs)) ≡ length (a ∷ b ∷ bs)) [
        | true ↦ ap suc (put_length a bs)
        | false ↦ refl
      ]

  pub order_length : (xs : List A) → length (in_order less xs) ≡ length xs
  order_length [] = refl
  order_length (a ∷ rest) = put_length a (in_order less rest) ∙ ap suc (order_length rest)

  put_back : (P : A → Type 0) (a : A) (bs : List A) → AllByRecursion P (put_in less a bs) → P a × AllByRecursion P bs
  put_back P a [] h = (h.0, tt)
  put_back P a (b ∷ bs) h =
      elim (less b a) as (λ c. AllByRecursion P (cond c (b ∷ put_in less a bs) (a ∷ b ∷ bs)) → P a × AllByRecursion P (b ∷ bs)) [
        | true ↦ λ k. let rest = put_back P a bs k.1 in (rest.0, (k.0, rest.1))
        | false ↦ λ k. (k.0, k.1)
      ] h

  pub order_back : (P : A → Type 0) (xs : List A) → AllByRecursion P (in_order less xs) → AllByRecursion P xs
  order_back P [] h = tt
  order_back P (a ∷ rest) h = let parts = put_back P a (in_order less rest) h in (parts.0, order_back P rest parts.1)

  pub rising_in_order : (xs : List A) → Rises xs → in_order less xs ≡ xs
  rising_in_order [] h = refl
  rising_in_order (a ∷ []) h = refl
  rising_in_order (a ∷ b ∷ rest) h = ap (put_in less a) (rising_in_order (b ∷ rest) h.1) ∙ put_here a b rest h.0.0

-- ---- behind references

map_choice : {A B : Type 0} (f : A → B) (b : Bool) (xs ys : List A) → map f (cond b xs ys) ≡ cond b (map f xs) (map f ys)
map_choice f true xs ys = refl
map_choice f false xs ys = refl

map_put : {A B : Type 0} (f : A → B) (less : B → B → Bool) (a : A) (bs : List A) → map f (put_in (λ x y. less (f x) (f y)) a bs) ≡ put_in less (f a) (map f bs)
map_put f less a [] = refl
map_put f less a (b ∷ bs) =
    map_choice f (less (f b) (f a)) (b ∷ put_in (λ x y. less (f x) (f y)) a bs) (a ∷ b ∷ bs)
    ∙ ap (λ l. cond (less (f b) (f a)) (f b ∷ l) (f a ∷ f b ∷ map f bs)) (map_put f less a bs)

pub map_in_order : {A B : Type 0} (f : A → B) (less : B → B → Bool) (xs : List A) → map f (in_order (λ x y. less (f x) (f y)) xs) ≡ in_order less (map f xs)
map_in_order f less [] = refl
map_in_order f less (a ∷ rest) = map_put f less a (in_order (λ x y. less (f x) (f y)) rest) ∙ ap (put_in less (f a)) (map_in_order f less rest)
