-- Tracked keys.
--     tracked_pairs     keys side by side, as they are looked at
--     can_compare       sound keys beside canonical ones can be compared
--     present_each      what holds of the values of parameter files holds of their keys
--     tracked_each      and of those together with lost ones
use Rattle.std.proofs.Common.{◌≡◌, ℕ, List, [], ◌∷◌, ◌++◌, map, refl, ap, subst, sym, ◌∙◌}
use Rattle.std.specs.List.{flat_map}
use Rattle.std.specs.Prelude.{Option, Some, None, option_map, option_copied, IfSome}
use Rattle.std.specs.Borrow.{Bor}
use Rattle.dvc_base.specs.declared.data.ParamFile.{ParamFile}
use Rattle.dvc_base.specs.declared.node.Node.{Node}
use Rattle.dvc_base.specs.declared.node.Pair.{Pair}
use Rattle.yaml_print.specs.Print.{value_of}
use Rattle.yaml_print.specs.Sound.{Each}
use Rattle.change_check.specs.Sides.{pairs, sides_of}
use Rattle.change_check.specs.Compare.{Tracked, key_order, present_key, present_in, present, lost_key, last_of, tracked}
use Rattle.change_check.specs.Keys.{tracked_of, tracked_sides, IsSoundKey, IsCanonicalKey, CanCompare}
use Rattle.change_check.specs.declared.diff.LostKey.{LostKey}
use Rattle.change_check.specs.declared.keys.TrackedKey.{TrackedKey}
use Rattle.change_check.specs.declared.sides.Sides.{Sides}
use Rattle.change_check.proofs.SidesLemmas.{both, pairs_mapped, pairs_each}

-- ---- keys side by side

behind : (key : Option (Bor TrackedKey)) → option_map (λ k. tracked_of k.now) key ≡ option_map tracked_of (option_copied key)
behind None = refl
behind (Some k) = refl

all_behind : (sides : List (Sides TrackedKey TrackedKey)) → map tracked_sides sides ≡ map (both tracked_of tracked_of) (map sides_of sides)
all_behind [] = refl
all_behind (s ∷ sides) = λ i. (behind s.left i, behind s.right i) ∷ all_behind sides i

pub tracked_pairs : (sides : List (Sides TrackedKey TrackedKey)) (xs ys : List TrackedKey) → map sides_of sides ≡ pairs (λ a b. key_order (tracked_of a) (tracked_of b)) xs ys → map tracked_sides sides ≡ pairs key_order (map tracked_of xs) (map tracked_of ys)
tracked_pairs sides xs ys e = all_behind sides ∙ ap (map (both tracked_of tracked_of)) e ∙ pairs_mapped tracked_of tracked_of key_order xs ys

-- ---- what can be compared

each_of_map : {A B : Type 0} (P : B → Type 0) (f : A → B) (xs : List A) → Each P (map f xs) → Each (λ x. P (f x)) xs
each_of_map P f [] all = tt
each_of_map P f (x ∷ xs) all = (all.0, each_of_map P f xs all.1)

pub can_compare : (sides : List (Sides TrackedKey TrackedKey)) (xs ys : List TrackedKey) → map sides_of sides ≡ pairs (λ a b. key_order (tracked_of a) (tracked_of b)) xs ys → Each IsSoundKey (map tracked_of xs) → Each IsCanonicalKey (map tracked_of ys) → Each (λ s. CanCompare (tracked_sides s)) sides
can_compare sides xs ys e sound canonical =
    each_of_map CanCompare tracked_sides sides
    (subst (Each CanCompare) (sym (tracked_pairs sides xs ys e)) (pairs_each key_order IsSoundKey IsCanonicalKey (map tracked_of xs) (map tracked_of ys) sound canonical))

-- ---- keys of parameter files

each_append : {A : Type 0} (P : A → Type 0) (xs ys : List A) → Each P xs → Each P ys → Each P (xs ++ ys)
each_append P [] ys all others = others
each_append P (x ∷ xs) ys all others = (all.0, each_append P xs ys all.1 others)

module _ (P : Node → Type 0) where
  abbrev Has : Tracked → Type 0
  Has k = IfSome k.value P

  in_each : (file : List ℕ) (ps : List Pair) → Each (λ p. P (value_of p)) ps → Each Has (map (present_key file) ps)
  in_each file [] all = tt
  in_each file (p ∷ ps) all = (all.0, in_each file ps all.1)

  pub present_each : (files : List ParamFile) → Each (λ f. Each (λ p. P (value_of p)) f.keys) files → Each Has (present files)
  present_each [] all = tt
  present_each (f ∷ files) all = each_append Has (present_in f) (present files) (in_each f.file f.keys all.0) (present_each files all.1)

  lost_each : (lost : List LostKey) → Each Has (map lost_key lost)
  lost_each [] = tt
  lost_each (k ∷ lost) = (tt, lost_each lost)

  last_each : (sides : List (Option Tracked × Option Tracked)) → Each (λ p. IfSome p.0 Has × IfSome p.1 Has) sides → Each Has (flat_map last_of sides)
  last_each [] all = tt
  last_each ((None, None) ∷ sides) all = last_each sides all.1
  last_each ((Some k, None) ∷ sides) all = (all.0.0, last_each sides all.1)
  last_each ((None, Some l) ∷ sides) all = (all.0.1, last_each sides all.1)
  last_each ((Some k, Some l) ∷ sides) all = (all.0.1, last_each sides all.1)

  pub tracked_each : (files : List ParamFile) (lost : List LostKey) → Each (λ f. Each (λ p. P (value_of p)) f.keys) files → Each Has (tracked files lost)
  tracked_each files lost all =
      last_each (pairs key_order (present files) (map lost_key lost))
      (pairs_each key_order Has Has (present files) (map lost_key lost) (present_each files all) (lost_each lost))
