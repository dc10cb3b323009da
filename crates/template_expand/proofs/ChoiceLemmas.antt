-- Choices of a matrix by their places.
--     length_numbered, numbered_get      what is made of items and their places
--     item_at, pick_there                the same of items of `foreach`, and of an axis
--     length_choices                     each item of the first axis comes with all choices of the others
--     some_others, first_within          a place among the choices has an item of the first axis, and one among the others
--     choice_there                       the choice at a place
--     axes_from                          the axes that are left, one at a time
--     next_choice, choice_end            the choice at a place, an item at a time
--     counted_more                       a count that goes no further than a number
--     count_step                         the same, an axis at a time
--     parts_joined                       a part, and each further one behind a byte
use Rattle.std.proofs.Common.{◌≡◌, ◌∙◌, ℕ, zero, suc, ◌+◌, ◌*◌, ◌-◌, ◌/◌, ◌%◌, ◌^◌, ◌<◌, ◌≤◌, min, List, [], ◌∷◌, ◌++◌, map, take, drop, length, get_or, refl, sym, ap, subst, inl, inr, Some, arith, append_assoc, length-append}
use Rattle.std.specs.List.{flat_map, slice_get, join_with_byte}
use Rattle.std.proofs.lemmas.Bool.{cases_lt}
use Rattle.std.proofs.lemmas.Nat.{div_below, mod_below, div-add-mod'}
use Rattle.std.proofs.lemmas.List.{length-map, length-take-le, get_or-map, map-append, append-nil, drop_more, drop_all}
use Rattle.std.proofs.lemmas.List.Concat.{get_or-flat_map}
use Rattle.std.proofs.lemmas.List.Folds.{flat_map-map}
use Rattle.std.proofs.lemmas.Option.{get_or_from_slice_get, slice_get-get_or}
use Rattle.dvc_base.specs.declared.node.Node.{Node}
use Rattle.template_expand.specs.declared.made.Made.{Made}
use Rattle.template_expand.specs.declared.matrix.Axis.{Axis}
use Rattle.template_expand.specs.declared.matrix.Picked.{Picked}
use Rattle.template_expand.specs.Made.{Pick, numbered, item_made, list_made, pick_at, choices, choice_text}
use Rattle.template_expand.specs.Source.{picks_of, choices_of, pick_of, choice_of}

-- ---- items and their places

pub length_numbered : {A : Type 0} (f : ℕ → Node → A) (p : ℕ) (items : List Node) → length (numbered f p items) ≡ length items
length_numbered f p [] = refl
length_numbered f p (v ∷ items) = ap suc (length_numbered f (p + 1) items)

pub numbered_get : {A : Type 0} (f : ℕ → Node → A) (p i : ℕ) (items : List Node) (v : Node) → i < length items → slice_get (numbered f p items) i ≡ Some (f (p + i) (get_or items i v))
numbered_get f p i [] v within = absurd (omega (arith, within))
numbered_get f p zero (x ∷ items) v within = let here : p ≡ p + 0 = omega arith in ap (λ n. Some (f n x)) here
numbered_get f p (suc i) (x ∷ items) v within =
    let rest : i < length items = omega (arith, within) in
    let there : (p + 1) + i ≡ p + suc i = omega arith in
    numbered_get f (p + 1) i items v rest ∙ ap (λ n. Some (f n (get_or items i v))) there

pub item_at : (items : List Node) (k : ℕ) (v : Node) (made : Made) → k < length items → v ≡ get_or items k v → made ≡ item_made k v → slice_get (list_made items) k ≡ Some made
item_at items k v made within found same =
    let here : 0 + k ≡ k = omega arith in
    numbered_get item_made 0 k items v within
    ∙ ap Some (ap (λ n. item_made n (get_or items k v)) here ∙ ap (item_made k) (sym found) ∙ sym same)

pub pick_there : (axis : Axis) (k : ℕ) (v : Node) → k < length axis.items.now → slice_get (picks_of axis) k ≡ Some (pick_at axis.name.now k (get_or axis.items.now k v))
pick_there axis k v within =
    let here : 0 + k ≡ k = omega arith in
    numbered_get (pick_at axis.name.now) 0 k axis.items.now v within ∙ ap (λ n. Some (pick_at axis.name.now n (get_or axis.items.now k v))) here

-- ---- rows of one length

rows : {X A : Type 0} (f : X → List A) (n : ℕ) → ((x : X) → length (f x) ≡ n) → (xs : List X) → length (flat_map f xs) ≡ length xs * n
rows f n h [] = omega arith
rows f n h (x ∷ xs) = omega (arith, length-append (f x) (flat_map f xs), h x, rows f n h xs)

row_there : {X A : Type 0} (f : X → List A) (n : ℕ) → ((x : X) → length (f x) ≡ n) → (xs : List X) (i j : ℕ) (e : X) (d : A) → i < length xs → j < n
    → get_or (flat_map f xs) (i * n + j) d ≡ get_or (f (get_or xs i e)) j d
row_there f n h xs i j e d first rest =
    let front : i ≤ length xs = omega (arith, first) in
    let before : length (flat_map f (take i xs)) ≡ i * n = rows f n h (take i xs) ∙ ap (λ k. k * n) (length-take-le i xs front) in
    let within : j < length (f (get_or xs i e)) = omega (arith, h (get_or xs i e), rest) in
    ap (λ k. get_or (flat_map f xs) (k + j) d) (sym before) ∙ get_or-flat_map f xs i j e d first within

-- ---- choices

pub length_choices : (axis : List Pick) (axes : List (List Pick)) → length (choices (axis ∷ axes)) ≡ length axis * length (choices axes)
length_choices axis axes = rows (λ pick. map (λ choice. pick ∷ choice) (choices axes)) (length (choices axes)) (λ pick. length-map (choices axes) (λ choice. pick ∷ choice)) axis

pub axes_from : (axes : List Axis) (i : ℕ) (axis : Axis) → i < length axes → axis ≡ get_or axes i axis → drop i axes ≡ axis ∷ drop (i + 1) axes
axes_from axes i axis within is = drop_more axes i axis within ∙ ap (λ (a : Axis). a ∷ drop (i + 1) axes) (sym is)

factor_pos : (a n k : ℕ) → k < a * n → 0 < n
factor_pos a zero k h = absurd (omega (arith, h))
factor_pos a (suc n) k h = omega arith

pub some_others : (axis : Axis) (axes : List Axis) (k : ℕ) → k < length (choices_of (axis ∷ axes)) → 0 < length (choices_of axes)
some_others axis axes k h =
    let total : k < length (picks_of axis) * length (choices_of axes) = omega (arith, length_choices (picks_of axis) (map picks_of axes), h) in
    factor_pos (length (picks_of axis)) (length (choices_of axes)) k total

pub first_within : (axis : Axis) (axes : List Axis) (k : ℕ) → k < length (choices_of (axis ∷ axes)) → k / length (choices_of axes) < length (picks_of axis)
first_within axis axes k h =
    let total : k < length (picks_of axis) * length (choices_of axes) = omega (arith, length_choices (picks_of axis) (map picks_of axes), h) in
    div_below k (length (choices_of axes)) (length (picks_of axis)) (some_others axis axes k h) total

choice_there : (axis : List Pick) (axes : List (List Pick)) (k : ℕ) (pick : Pick) → k < length (choices (axis ∷ axes)) → get_or axis (k / length (choices axes)) pick ≡ pick
    → get_or (choices (axis ∷ axes)) k [] ≡ pick ∷ get_or (choices axes) (k % length (choices axes)) []
choice_there axis axes k pick h found =
    let n = length (choices axes) in
    let total : k < length axis * n = omega (arith, length_choices axis axes, h) in
    let some = factor_pos (length axis) n k total in
    let row : k / n < length axis = div_below k n (length axis) some total in
    let rest : k % n < n = mod_below k n some in
    ap (λ p. get_or (choices (axis ∷ axes)) p []) (sym (div-add-mod' k n))
    ∙ row_there (λ p. map (λ choice. p ∷ choice) (choices axes)) n (λ p. length-map (choices axes) (λ choice. p ∷ choice)) axis (k / n) (k % n) pick [] row rest
    ∙ get_or-map (λ choice. get_or axis (k / n) pick ∷ choice) (choices axes) (k % n) [] [] rest
    ∙ ap (λ p. p ∷ get_or (choices axes) (k % n) []) found

pub next_choice : (axis : Axis) (axes : List Axis) (made : List Picked) (picked : Picked) (whole : List Pick) (left first behind : ℕ) → left < length (choices_of (axis ∷ axes))
    → first ≡ left / length (choices_of axes) → behind ≡ left % length (choices_of axes) → slice_get (picks_of axis) first ≡ Some (pick_of picked)
    → whole ≡ choice_of made ++ get_or (choices_of (axis ∷ axes)) left []
    → whole ≡ choice_of (made ++ picked ∷ []) ++ get_or (choices_of axes) behind []
next_choice axis axes made picked whole left first behind within at after found so_far =
    let there : get_or (picks_of axis) (left / length (choices_of axes)) (pick_of picked) ≡ pick_of picked =
    ap (λ n. get_or (picks_of axis) n (pick_of picked)) (sym at) ∙ get_or_from_slice_get (picks_of axis) first (pick_of picked) (pick_of picked) found in
    so_far ∙ ap (λ c. choice_of made ++ c) (choice_there (picks_of axis) (map picks_of axes) left (pick_of picked) within there)
    ∙ ap (λ n. choice_of made ++ pick_of picked ∷ get_or (choices_of axes) n []) (sym after)
    ∙ sym (append_assoc (choice_of made) (pick_of picked ∷ []) (get_or (choices_of axes) behind []))
    ∙ ap (λ c. c ++ get_or (choices_of axes) behind []) (sym (map-append pick_of made (picked ∷ [])))

pub next_left : (axis : Axis) (axes : List Axis) (left behind : ℕ) → left < length (choices_of (axis ∷ axes)) → behind ≡ left % length (choices_of axes) → behind < length (choices_of axes)
next_left axis axes left behind within after = omega (arith, after, mod_below left (length (choices_of axes)) (some_others axis axes left within))

pub choice_end : (axes : List Axis) (choice : List Picked) (i place left : ℕ) → length axes ≤ i → place < length (choices_of axes)
    → get_or (choices_of axes) place [] ≡ choice_of choice ++ get_or (choices_of (drop i axes)) left [] → left < length (choices_of (drop i axes))
    → slice_get (choices_of axes) place ≡ Some (choice_of choice)
choice_end axes choice i place left past inside so_far within =
    let none : drop i axes ≡ [] = drop_all i axes past in
    let one : left < 1 = subst (λ (rest : List Axis). left < length (choices_of rest)) none within in
    let first : left ≡ 0 = omega (arith, one) in
    slice_get-get_or (choices_of axes) place [] inside
    ∙ ap Some (so_far ∙ ap (λ (rest : List Axis). choice_of choice ++ get_or (choices_of rest) left []) none
    ∙ ap (λ n. choice_of choice ++ get_or (choices_of []) n []) first ∙ append-nil (choice_of choice))

-- ---- counts

capped : (c n most : ℕ) → most < 2 ^ 64 → most < n * c → min most (min (n * c) (2 ^ 64 - 1)) ≡ most
capped c n most h more = omega (arith, h, more)

uncapped : (c n most : ℕ) → most < 2 ^ 64 → n * c ≤ most → min most (min (n * c) (2 ^ 64 - 1)) ≡ n * c
uncapped c n most h all = omega (arith, h, all)

past : (a most rest : ℕ) → most < a → min most (most * rest) ≡ min most (a * rest)
past a most zero h =
    let here : most * 0 ≡ a * 0 = omega arith in
    ap (min most) here
past a most (suc k) h =
    let here : most * suc k ≡ most + most * k = omega arith in
    let there : a * suc k ≡ a + a * k = omega arith in
    omega (arith, here, there, h)

pub counted_more : (c n rest most : ℕ) → most < 2 ^ 64 → min most (min most (min (n * c) (2 ^ 64 - 1)) * rest) ≡ min most (c * (n * rest))
counted_more c n rest most h =
    let same : (n * c) * rest ≡ c * (n * rest) = omega arith in
    elim (cases_lt most (n * c)) [
      | inl more ↦ ap (λ k. min most (k * rest)) (capped c n most h more) ∙ past (n * c) most rest more ∙ ap (min most) same
      | inr all ↦ ap (λ k. min most (k * rest)) (uncapped c n most h all) ∙ ap (min most) same
    ]

pub count_step : (axes : List Axis) (i : ℕ) (axis : Axis) (c n product count most total : ℕ) → most < 2 ^ 64 → i < length axes → axis ≡ get_or axes i axis
    → n ≡ length (picks_of axis) → product ≡ min (n * c) (2 ^ 64 - 1) → count ≡ min most product
    → min most (c * length (choices_of (drop i axes))) ≡ total → min most (count * length (choices_of (drop (i + 1) axes))) ≡ total
count_step axes i axis c n product count most total fits within is size times at so_far =
    let rest = length (choices_of (drop (i + 1) axes)) in
    let all : length (choices_of (drop i axes)) ≡ n * rest =
    ap (λ (rest : List Axis). length (choices_of rest)) (drop_more axes i axis within)
    ∙ ap (λ (a : Axis). length (choices_of (a ∷ drop (i + 1) axes))) (sym is)
    ∙ length_choices (picks_of axis) (map picks_of (drop (i + 1) axes))
    ∙ ap (λ k. k * rest) (sym size) in
    ap (λ k. min most (k * rest)) (at ∙ ap (min most) times) ∙ counted_more c n rest most fits ∙ ap (λ k. min most (c * k)) (sym all) ∙ so_far

-- ---- texts

pub joined_more : (c : ℕ) (x : List ℕ) (xs : List (List ℕ)) → join_with_byte c (x ∷ xs) ≡ x ++ flat_map (λ y. c ∷ y) xs
joined_more c x [] = sym (append-nil x)
joined_more c x (y ∷ xs) = ap (λ t. x ++ c ∷ t) (joined_more c y xs)

pub parts_joined : (first : Picked) (others : List Picked) → choice_text (pick_of first ∷ choice_of others) ≡ (pick_of first).part ++ flat_map (λ picked. 45 ∷ (pick_of picked).part) others
parts_joined first others =
    joined_more 45 (pick_of first).part (map (λ pick. pick.part) (choice_of others))
    ∙ ap (λ t. (pick_of first).part ++ t)
    (flat_map-map (λ (y : List ℕ). 45 ∷ y) (λ (pick : Pick). pick.part) (choice_of others) ∙ flat_map-map (λ (pick : Pick). 45 ∷ pick.part) pick_of others)
