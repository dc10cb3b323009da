-- Two lists side by side.
--     pairs_mapped      lists that are mapped, by an order of what they are mapped to
--     pairs_each        what holds of each item of the lists holds of the items side by side
use Rattle.std.proofs.Common.{◌≡◌, List, [], ◌∷◌, map, refl, ap, ◌∙◌}
use Rattle.std.specs.Prelude.{Option, Some, None, option_map, IfSome}
use Rattle.std.specs.declared.cmp.Ordering.{Ordering}
use Rattle.std.specs.declared.cmp.Ordering.TheVariants.{Less, Equal, Greater}
use Rattle.yaml_print.specs.Sound.{Each}
use Rattle.change_check.specs.Sides.{by_order, pairs_from, pairs}

-- ---- lists that are mapped

abbrev pub both : {A B C D : Type 0} → (A → C) → (B → D) → Option A × Option B → Option C × Option D
both f g p = (option_map f p.0, option_map g p.1)

ordered : {T U : Type 0} (h : T → U) (r : Ordering) (a b c : T) → h (by_order r a b c) ≡ by_order r (h a) (h b) (h c)
ordered h Less a b c = refl
ordered h Equal a b c = refl
ordered h Greater a b c = refl

module _ {A B C D : Type 0} (f : A → C) (g : B → D) (order : C → D → Ordering) where
  abbrev mapped_order : A → B → Ordering
  mapped_order a b = order (f a) (g b)

  alone_mapped : (ys : List B) → map (both {A = A} f g) (map (λ y. (None, Some y)) ys) ≡ map (λ y. (None, Some y)) (map g ys)
  alone_mapped [] = refl
  alone_mapped (y ∷ ys) = ap (λ (ps : List (Option C × Option D)). (None, Some (g y)) ∷ ps) (alone_mapped ys)

  from_mapped : (x : A) (after : List B → List (Option A × Option B)) (later : List D → List (Option C × Option D)) → ((ys : List B) → map (both f g) (after ys) ≡ later (map g ys)) → (ys : List B) → map (both f g) (pairs_from mapped_order x after ys) ≡ pairs_from order (f x) later (map g ys)
  from_mapped x after later same [] = ap (λ (ps : List (Option C × Option D)). (Some (f x), None) ∷ ps) (same [])
  from_mapped x after later same (y ∷ ys) =
      ordered (map (both f g)) (order (f x) (g y)) ((Some x, None) ∷ after (y ∷ ys)) ((Some x, Some y) ∷ after ys) ((None, Some y) ∷ pairs_from mapped_order x after ys)
      ∙ (λ i. by_order (order (f x) (g y)) ((Some (f x), None) ∷ same (y ∷ ys) i) ((Some (f x), Some (g y)) ∷ same ys i) ((None, Some (g y)) ∷ from_mapped x after later same ys i))

  pub pairs_mapped : (xs : List A) (ys : List B) → map (both f g) (pairs mapped_order xs ys) ≡ pairs order (map f xs) (map g ys)
  pairs_mapped [] ys = alone_mapped ys
  pairs_mapped (x ∷ xs) ys = from_mapped x (pairs mapped_order xs) (pairs order (map f xs)) (pairs_mapped xs) ys

-- ---- what holds of each item

module _ {A B : Type 0} (order : A → B → Ordering) (P : A → Type 0) (Q : B → Type 0) where
  abbrev Of : Option A × Option B → Type 0
  Of p = IfSome p.0 P × IfSome p.1 Q

  alone_each : (ys : List B) → Each Q ys → Each Of (map (λ y. (None, Some y)) ys)
  alone_each [] all = tt
  alone_each (y ∷ ys) all = ((tt, all.0), alone_each ys all.1)

  ordered_each : (r : Ordering) (a b c : List (Option A × Option B)) → Each Of a → Each Of b → Each Of c → Each Of (by_order r a b c)
  ordered_each Less a b c h k l = h
  ordered_each Equal a b c h k l = k
  ordered_each Greater a b c h k l = l

  from_each : (x : A) (after : List B → List (Option A × Option B)) → P x → ((ys : List B) → Each Q ys → Each Of (after ys)) → (ys : List B) → Each Q ys → Each Of (pairs_from order x after ys)
  from_each x after first rest [] all = ((first, tt), rest [] tt)
  from_each x after first rest (y ∷ ys) all =
      ordered_each (order x y) ((Some x, None) ∷ after (y ∷ ys)) ((Some x, Some y) ∷ after ys) ((None, Some y) ∷ pairs_from order x after ys)
      ((first, tt), rest (y ∷ ys) all) ((first, all.0), rest ys all.1) ((tt, all.0), from_each x after first rest ys all.1)

  pub pairs_each : (xs : List A) (ys : List B) → Each P xs → Each Q ys → Each Of (pairs order xs ys)
  pairs_each [] ys all others = alone_each ys others
  pairs_each (x ∷ xs) ys all others = from_each x (pairs order xs) all.0 (λ zs h. pairs_each xs zs all.1 h) ys others
