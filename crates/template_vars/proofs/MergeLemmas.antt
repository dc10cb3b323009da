-- Merges, level by level.
--     clash_none, clash_deep      two mappings that meet where none is entered, and where some may be
--     merged_none, merged_deep    the same of what they merge to
use Rattle.std.proofs.Common.{◌≡◌, ℕ, zero, suc, ◌-◌, ◌<◌, List, Some, refl, ap, arith}
use Rattle.dvc_base.specs.declared.node.Pair.{Pair}
use Rattle.template_vars.specs.Merge.{clash_inside, clash, merged_inside, merged}

pub clash_none : (d : ℕ) (key : List ℕ) (a b : List Pair) → d ≡ 0 → clash_inside d key a b ≡ Some key
unfolding clash_inside
clash_none zero key a b h = refl
clash_none (suc d) key a b h = absurd (omega (arith, h))

pub clash_deep : (d : ℕ) (key : List ℕ) (a b : List Pair) → 0 < d → clash_inside d key a b ≡ clash (d - 1) a b
unfolding clash_inside
clash_deep zero key a b h = absurd (omega (arith, h))
clash_deep (suc d) key a b h = let e : d ≡ suc d - 1 = omega arith in ap (λ n. clash n a b) e

pub merged_none : (d : ℕ) (a b : List Pair) → d ≡ 0 → merged_inside d a b ≡ a
unfolding merged_inside
merged_none zero a b h = refl
merged_none (suc d) a b h = absurd (omega (arith, h))

pub merged_deep : (d : ℕ) (a b : List Pair) → 0 < d → merged_inside d a b ≡ merged (d - 1) a b
unfolding merged_inside
merged_deep zero a b h = absurd (omega (arith, h))
merged_deep (suc d) a b h = let e : d ≡ suc d - 1 = omega arith in ap (λ n. merged n a b) e
