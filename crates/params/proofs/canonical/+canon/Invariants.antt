use Rattle.std.proofs.Common.{◌≡◌, ℕ, map, take}
use Rattle.yaml_print.specs.Print.{value_of}
use Rattle.yaml_print.specs.Sound.{Each, IsSound}
use Rattle.params.specs.Canonical.{with_value, canonical}
use Rattle.params.proofs.canonical.+canon.Given as goal

-- the canonical items so far
abbrev pub invariant-canon_items-loop-item : goal.invariant-canon_items-loop-item
invariant-canon_items-loop-item l = (d : ℕ) → Each (IsSound d) l.items → l.made ≡ map (canonical d) (take l.item-index l.items)

-- the pairs so far
abbrev pub invariant-canon_pairs-loop-pair : goal.invariant-canon_pairs-loop-pair
invariant-canon_pairs-loop-pair l =
    (d : ℕ) → Each (λ p. IsSound d (value_of p)) l.pairs → l.made.items ≡ map (with_value (canonical d)) (take l.pair-index l.pairs)
