-- Lists in order.
--     order_of_sort      what a stable sort gives is the list in order
--     map_in_order       the order of what stands behind references
--     rising_in_order    a list that rises is in order already
use Rattle.std.proofs.Common.{◌≡◌, ◌<◌, ℕ, ◌+◌, suc, Bool, true, false, not, cond, List, [], ◌∷◌, length, get_or, map, filter, inl, inr, refl, sym, ap, subst, ◌∙◌, arith}
use Rattle.std.specs.List.{AllByRecursion}
use Rattle.std.specs.List.Sorted.{IsSortedBy, IsStableBy, ties}
use Rattle.std.specs.Cmp.{IsStrictWeakOrder}
use Rattle.std.proofs.lemmas.Bool.{false≢true, cases_Bool, cond-true, cond-false, and_parts, and_from}
use Rattle.std.proofs.lemmas.Cmp.{nat_list_cmp_total}
use Rattle.std.proofs.lemmas.List.MinMax.{ranks_by}
use Rattle.std.proofs.lemmas.List.Sorted.{sorted_far}
use Rattle.lock_files.specs.Order.{is_less, put_in, in_order, is_rising}

-- ---- lists

occurs : {A : Type 0} (P : A → Type 0) (p : A → Bool) (ys : List A) (z : A) (zs : List A) → filter p ys ≡ z ∷ zs → AllByRecursion P ys → P z
occurs P p [] z zs e all = absurd (cc)
occurs P p (y ∷ ys) z zs e all =
    elim (cases_Bool (p y)) [
      | inl h ↦
          let whole : y ∷ filter p ys ≡ z ∷ zs = sym (cond-true (p y) (y ∷ filter p ys) (filter p ys) h) ∙ e in
          let same : y ≡ z = cc in
          subst P same all.0
      | inr h ↦ occurs P p ys z zs (sym (cond-false (p y) (y ∷ filter p ys) (filter p ys) h) ∙ e) all.1
    ]

-- two items of which a test passes at most one may change places before it
changed_places : {A : Type 0} (pa pb : Bool) (a b : A) (rest : List A) → (pa ≡ true → pb ≡ true → ⊥) → cond pb (b ∷ cond pa (a ∷ rest) rest) (cond pa (a ∷ rest) rest) ≡ cond pa (a ∷ cond pb (b ∷ rest) rest) (cond pb (b ∷ rest) rest)
changed_places true true a b rest h = absurd (h refl refl)
changed_places true false a b rest h = refl
changed_places false true a b rest h = refl
changed_places false false a b rest h = refl

same_tail : {A : Type 0} (p : Bool) (a : A) (xs ys : List A) → cond p (a ∷ xs) xs ≡ cond p (a ∷ ys) ys → xs ≡ ys
same_tail true a xs ys h = cc
same_tail false a xs ys h = h

false_of_not : (b : Bool) → not b ≡ true → b ≡ false
false_of_not true h = absurd (false≢true h)
false_of_not false h = refl

not_of_false : (b : Bool) → b ≡ false → not b ≡ true
not_of_false b h = ap not h

-- ---- an order by keys

module _ {A : Type 0} (key : A → List ℕ) where
  abbrev less : A → A → Bool
  less a b = is_less (key a) (key b)

  abbrev tied : A → A → Bool
  tied a b = ties less a b

  pub weak : IsStrictWeakOrder less
  weak = ranks_by nat_list_cmp_total key

  tied_from : (a b : A) → less a b ≡ false → less b a ≡ false → tied a b ≡ true
  tied_from a b h k = and_from (not (less a b)) (not (less b a)) (not_of_false (less a b) h) (not_of_false (less b a) k)

  -- neither is less than the other
  tied_parts : (a b : A) → tied a b ≡ true → (less a b ≡ false) × (less b a ≡ false)
  tied_parts a b h =
      let parts = and_parts (not (less a b)) (not (less b a)) h in
      (false_of_not (less a b) parts.0, false_of_not (less b a) parts.1)

  itself : (a : A) → less a a ≡ false
  itself a =
      elim (cases_Bool (less a a)) [
        | inl h ↦ weak.one_way a a h
        | inr h ↦ h
      ]

  tied_itself : (a : A) → tied a a ≡ true
  tied_itself a = tied_from a a (itself a) (itself a)

  put_later : (a b : A) (bs : List A) → less b a ≡ true → put_in key a (b ∷ bs) ≡ b ∷ put_in key a bs
  put_later a b bs h = cond-true (less b a) (b ∷ put_in key a bs) (a ∷ b ∷ bs) h

  pub put_here : (a b : A) (bs : List A) → less b a ≡ false → put_in key a (b ∷ bs) ≡ a ∷ b ∷ bs
  put_here a b bs h = cond-false (less b a) (b ∷ put_in key a bs) (a ∷ b ∷ bs) h

  -- ---- lists in order rise

  abbrev Rises : List A → Type 0
  Rises [] = Unit {0}
  Rises (a ∷ rest) = AllByRecursion (λ b. less b a ≡ false) rest × Rises rest

  each_more : (P Q : A → Type 0) (xs : List A) → ((x : A) → P x → Q x) → AllByRecursion P xs → AllByRecursion Q xs
  each_more P Q [] f h = tt
  each_more P Q (x ∷ xs) f h = (f x h.0, each_more P Q xs f h.1)

  put_each : (P : A → Type 0) (a : A) (bs : List A) → P a → AllByRecursion P bs → AllByRecursion P (put_in key a bs)
  put_each P a [] here rest = (here, tt)
  put_each P a (b ∷ bs) here rest =
      elim (cases_Bool (less b a)) [
        | inl h ↦ subst (AllByRecursion P) (sym (put_later a b bs h)) (rest.0, put_each P a bs here rest.1)
        | inr h ↦ subst (AllByRecursion P) (sym (put_here a b bs h)) (here, rest)
      ]

  put_rises : (a : A) (bs : List A) → Rises bs → Rises (put_in key a bs)
  put_rises a [] h = (tt, tt)
  put_rises a (b ∷ bs) h =
      elim (cases_Bool (less b a)) [
        | inl below ↦
            subst Rises (sym (put_later a b bs below)) (put_each (λ c. less c b ≡ false) a bs (weak.one_way b a below) h.0, put_rises a bs h.1)
        | inr above ↦
            let later = each_more (λ c. less c b ≡ false) (λ c. less c a ≡ false) bs (λ c up. weak.chain c b a up above) h.0 in
            subst Rises (sym (put_here a b bs above)) ((above, later), h)
      ]

  order_rises : (xs : List A) → Rises (in_order key xs)
  order_rises [] = tt
  order_rises (a ∷ rest) = put_rises a (in_order key rest) (order_rises rest)

  each_at : (P : A → Type 0) (xs : List A) → ((j : ℕ) (d : A) → j < length xs → P (get_or xs j d)) → AllByRecursion P xs
  each_at P [] f = tt
  each_at P (x ∷ xs) f = (f 0 x (omega arith), each_at P xs (λ j d l. f (suc j) d (omega (arith, l))))

  tail_sorted : (x : A) (xs : List A) → IsSortedBy less (x ∷ xs) → IsSortedBy less xs
  tail_sorted x xs sorted k d low high =
      let next : suc k + 1 ≡ suc (k + 1) = omega arith in
      subst (λ (n : ℕ). less (get_or (x ∷ xs) n d) (get_or xs k d) ≡ false) next (sorted (suc k) d (omega arith) (omega (arith, high)))

  rises_of_sorted : (xs : List A) → IsSortedBy less xs → Rises xs
  rises_of_sorted [] sorted = tt
  rises_of_sorted (x ∷ xs) sorted = (
    each_at (λ b. less b x ≡ false) xs (λ j d l. sorted_far less weak (x ∷ xs) sorted 0 (suc j) d (omega arith) (omega (arith, l))),
    rises_of_sorted xs (tail_sorted x xs sorted),
  )

  -- ---- what ties stands in them as before

  not_both : (x a b : A) → less b a ≡ true → tied x a ≡ true → tied x b ≡ true → ⊥
  not_both x a b below ta tb =
      let up : less b a ≡ false = weak.chain b x a (tied_parts x b tb).1 (tied_parts x a ta).0 in
      false≢true (sym up ∙ below)

  put_ties : (x a : A) (bs : List A) → filter (tied x) (put_in key a bs) ≡ filter (tied x) (a ∷ bs)
  put_ties x a [] = refl
  put_ties x a (b ∷ bs) =
      elim (cases_Bool (less b a)) [
        | inl below ↦
            ap (filter (tied x)) (put_later a b bs below)
            ∙ ap (λ l. cond (tied x b) (b ∷ l) l) (put_ties x a bs)
            ∙ changed_places (tied x a) (tied x b) a b (filter (tied x) bs) (not_both x a b below)
        | inr above ↦ ap (filter (tied x)) (put_here a b bs above)
      ]

  order_ties : (x : A) (xs : List A) → filter (tied x) (in_order key xs) ≡ filter (tied x) xs
  order_ties x [] = refl
  order_ties x (a ∷ rest) =
      put_ties x a (in_order key rest) ∙ ap (λ l. cond (tied x a) (a ∷ l) l) (order_ties x rest)

  -- ---- such a list is the only one

  swapped : (x y : A) → tied x y ≡ false → tied y x ≡ false
  swapped x y h =
      elim (cases_Bool (tied y x)) [
        | inl k ↦ let parts = tied_parts y x k in absurd (false≢true (sym h ∙ tied_from x y parts.1 parts.0))
        | inr k ↦ k
      ]

  -- an item that isn't tied with the first of a list that has it isn't less than that one
  not_less : (x y : A) (xs ys : List A) → tied x y ≡ false → AllByRecursion (λ b. less b y ≡ false) ys → filter (tied x) (y ∷ ys) ≡ filter (tied x) (x ∷ xs) → less x y ≡ false
  not_less x y xs ys apart up same =
      let there : filter (tied x) ys ≡ x ∷ filter (tied x) xs =
      sym (cond-false (tied x y) (y ∷ filter (tied x) ys) (filter (tied x) ys) apart) ∙ same
      ∙ cond-true (tied x x) (x ∷ filter (tied x) xs) (filter (tied x) xs) (tied_itself x) in
      occurs (λ b. less b y ≡ false) (tied x) ys x (filter (tied x) xs) there up

  nothing_ties : (y : A) (ys : List A) → filter (tied y) (y ∷ ys) ≡ [] → ⊥
  nothing_ties y ys e =
      let whole : y ∷ filter (tied y) ys ≡ [] = sym (cond-true (tied y y) (y ∷ filter (tied y) ys) (filter (tied y) ys) (tied_itself y)) ∙ e in
      cc

  first_same : (x y : A) (xs ys : List A) → Rises (x ∷ xs) → Rises (y ∷ ys) → ((z : A) → filter (tied z) (y ∷ ys) ≡ filter (tied z) (x ∷ xs)) → y ≡ x
  first_same x y xs ys up down same =
      elim (cases_Bool (tied x y)) [
        | inl h ↦
            let heads : y ∷ filter (tied x) ys ≡ x ∷ filter (tied x) xs =
            sym (cond-true (tied x y) (y ∷ filter (tied x) ys) (filter (tied x) ys) h) ∙ same x
            ∙ cond-true (tied x x) (x ∷ filter (tied x) xs) (filter (tied x) xs) (tied_itself x) in
            cc
        | inr h ↦
            let one : less x y ≡ false = not_less x y xs ys h down.0 (same x) in
            let other : less y x ≡ false = not_less y x ys xs (swapped x y h) up.0 (sym (same y)) in
            absurd (false≢true (sym h ∙ tied_from x y one other))
      ]

  tails_same : (x y : A) (xs ys : List A) → y ≡ x → ((z : A) → filter (tied z) (y ∷ ys) ≡ filter (tied z) (x ∷ xs)) → (z : A) → filter (tied z) ys ≡ filter (tied z) xs
  tails_same x y xs ys first same z =
      same_tail (tied z x) x (filter (tied z) ys) (filter (tied z) xs)
      (subst (λ (h : A). cond (tied z h) (h ∷ filter (tied z) ys) (filter (tied z) ys) ≡ filter (tied z) (x ∷ xs)) first (same z))

  unique : (xs ys : List A) → Rises xs → Rises ys → ((z : A) → filter (tied z) ys ≡ filter (tied z) xs) → ys ≡ xs
  unique [] [] up down same = refl
  unique [] (y ∷ ys) up down same = absurd (nothing_ties y ys (same y))
  unique (x ∷ xs) [] up down same = absurd (nothing_ties x xs (sym (same x)))
  unique (x ∷ xs) (y ∷ ys) up down same =
      let first = first_same x y xs ys up down same in
      ap (λ (h : A). h ∷ ys) first ∙ ap (λ (t : List A). x ∷ t) (unique xs ys up.1 down.1 (tails_same x y xs ys first same))

  pub order_of_sort : (xs ys : List A) → IsSortedBy less ys → IsStableBy less xs ys → ys ≡ in_order key xs
  order_of_sort xs ys sorted stable =
      unique (in_order key xs) ys (order_rises xs) (rises_of_sorted ys sorted) (λ z. stable z ∙ sym (order_ties z xs))

-- ---- behind references

map_choice : {A B : Type 0} (f : A → B) (b : Bool) (xs ys : List A) → map f (cond b xs ys) ≡ cond b (map f xs) (map f ys)
map_choice f true xs ys = refl
map_choice f false xs ys = refl

map_put : {A B : Type 0} (f : A → B) (key : B → List ℕ) (a : A) (bs : List A) → map f (put_in (λ x. key (f x)) a bs) ≡ put_in key (f a) (map f bs)
map_put f key a [] = refl
map_put f key a (b ∷ bs) =
    map_choice f (is_less (key (f b)) (key (f a))) (b ∷ put_in (λ x. key (f x)) a bs) (a ∷ b ∷ bs)
    ∙ ap (λ l. cond (is_less (key (f b)) (key (f a))) (f b ∷ l) (f a ∷ f b ∷ map f bs)) (map_put f key a bs)

pub map_in_order : {A B : Type 0} (f : A → B) (key : B → List ℕ) (xs : List A) → map f (in_order (λ x. key (f x)) xs) ≡ in_order key (map f xs)
map_in_order f key [] = refl
map_in_order f key (a ∷ rest) = map_put f key a (in_order (λ x. key (f x)) rest) ∙ ap (put_in key (f a)) (map_in_order f key rest)

-- ---- a list that rises

pub rising_in_order : {A : Type 0} (key : A → List ℕ) (xs : List A) → is_rising (map key xs) ≡ true → in_order key xs ≡ xs
rising_in_order key [] h = refl
rising_in_order key (a ∷ []) h = refl
rising_in_order key (a ∷ b ∷ rest) h =
    let parts = and_parts (is_less (key a) (key b)) (is_rising (key b ∷ map key rest)) h in
    ap (put_in key a) (rising_in_order key (b ∷ rest) parts.1)
    ∙ put_here key a b rest ((weak key).one_way a b parts.0)
