-- Two lists in order, side by side.
--     pairs order xs ys    the items that tie together, and each other one alone, the lesser first
use Rattle.std.specs.Prelude.{◌≡◌, ◌+◌, ◌<◌, List, [], ◌∷◌, map, Option, Some, None, option_copied, length}
use Rattle.std.specs.declared.cmp.Ordering.{Ordering}
use Rattle.std.specs.declared.cmp.Ordering.TheVariants.{Less, Equal, Greater}
use Rattle.change_check.specs.declared.sides.Sides.{Sides}
use Rattle.change_check.specs.declared.sides.Front.{Front}

abbrev pub by_order : {T : Type 0} → Ordering → T → T → T → T
by_order Less a b c = a
by_order Equal a b c = b
by_order Greater a b c = c

-- x first, and `after` gives what comes behind it
abbrev pub pairs_from : {A B : Type 0} → (A → B → Ordering) → A → (List B → List (Option A × Option B)) → List B → List (Option A × Option B)
pairs_from order x after [] = (Some x, None) ∷ after []
pairs_from order x after (y ∷ ys) =
    by_order (order x y)
    ((Some x, None) ∷ after (y ∷ ys))
    ((Some x, Some y) ∷ after ys)
    ((None, Some y) ∷ pairs_from order x after ys)

abbrev pub pairs : {A B : Type 0} → (A → B → Ordering) → List A → List B → List (Option A × Option B)
pairs order [] ys = map (λ y. (None, Some y)) ys
pairs order (x ∷ xs) ys = pairs_from order x (pairs order xs) ys

abbrev pub sides_of : {A B : Type 0} → Sides A B → Option A × Option B
sides_of s = (option_copied s.left, option_copied s.right)

-- the first pair of two lists, and what is left of them
pub record IsFront {A B : Type 0} (order : A → B → Ordering) (xs : List A) (ys : List B) (front : Front A B) : Type 0 where
  pub first : pairs order xs ys ≡ sides_of front.sides ∷ pairs order front.left.now front.right.now
  pub less : length front.left.now + length front.right.now < length xs + length ys
