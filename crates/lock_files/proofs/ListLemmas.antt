-- Lists that grow by an item.
use Rattle.std.proofs.Common.{◌≡◌, ℕ, ◌+◌, ◌<◌, List, [], ◌∷◌, ◌++◌, map, length, take, get_or, refl, sym, ap, ◌∙◌, append_assoc, slice_get, Some}
use Rattle.std.proofs.lemmas.Option.{slice_get_within, slice_get-get_or}
use Rattle.std.proofs.lemmas.List.{take_more}

pub map_push : {A B : Type 0} (f : A → B) (xs : List A) (x : A) → map f (xs ++ x ∷ []) ≡ map f xs ++ f x ∷ []
map_push f [] x = refl
map_push f (y ∷ xs) x = ap (λ l. f y ∷ l) (map_push f xs x)

-- what is made of one item more
pub map_step : {A B : Type 0} (f : A → B) (start : List B) (xs : List A) (i : ℕ) (d : A) → i < length xs → (start ++ map f (take i xs)) ++ f (get_or xs i d) ∷ [] ≡ start ++ map f (take (i + 1) xs)
map_step f start xs i d l =
    append_assoc start (map f (take i xs)) (f (get_or xs i d) ∷ [])
    ∙ ap (λ x. start ++ x) (sym (map_push f (take i xs) (get_or xs i d)))
    ∙ ap (λ x. start ++ map f x) (sym (take_more xs i d l))

-- a look-up that finds an item finds it at its place
pub item_at_place : {A : Type 0} (xs : List A) (i : ℕ) (x : A) → slice_get xs i ≡ Some x → (i < length xs) × (x ≡ get_or xs i x)
item_at_place xs i x h =
    let within = slice_get_within xs i x h in
    let same : Some x ≡ Some (get_or xs i x) = sym h ∙ slice_get-get_or xs i x within in
    (within, (cc))
