-- A whole number whose size was cut at a limit is read or refused as the number itself.
use Rattle.std.proofs.Common.{◌≡◌, ℕ, ◌-◌, ◌^◌, ◌<◌, ◌≤◌, min, leb, ltb, Bool, true, false, cond, ◌⊎◌, inl, inr, refl, ap, sym, ◌∙◌, lit<, lit≤, arith}
use Rattle.std.proofs.lemmas.Bool.{cases_lt}
use Rattle.std.proofs.lemmas.Bool.Decides.{nat_tests}
use Rattle.dvc_base.specs.declared.node.Node.{Node}
use Rattle.yaml_text.specs.Outcome.{Text, Outcome}
use Rattle.yaml_scalars.specs.Kind.{fits_whole, whole}

same_if_small : (n m : ℕ) → n ≤ m → min n m ≡ n
same_if_small n m h = omega arith

no_fit : (below : Bool) (n : ℕ) → 2 ^ 128 - 1 ≤ n → fits_whole below n ≡ false
no_fit true n h = grind (arith, nat_tests)
no_fit false n h = grind (arith, nat_tests)

unfit : (left : ℕ) (t : Text) (below : Bool) (n k : ℕ) → fits_whole below n ≡ false → fits_whole below k ≡ false → whole left t below n ≡ whole left t below k
unfit left t below n k h g = cc

pub whole_cut : (left : ℕ) (t : Text) (below : Bool) (n : ℕ) → whole left t below (min n (2 ^ 128 - 1)) ≡ whole left t below n
whole_cut left t below n =
    elim (cases_lt n (2 ^ 128 - 1)) [
      | inl h ↦ ap (whole left t below) (same_if_small n (2 ^ 128 - 1) (omega arith))
      | inr h ↦ unfit left t below (min n (2 ^ 128 - 1)) n (no_fit below (min n (2 ^ 128 - 1)) (omega arith)) (no_fit below n h)
    ]
