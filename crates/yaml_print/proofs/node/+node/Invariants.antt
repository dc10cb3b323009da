use Rattle.std.proofs.Common.{◌≡◌, ◌+◌, ◌*◌, ◌++◌, length}
use Rattle.std.specs.Str.{IsUtf8}
use Rattle.yaml_nodes.specs.Part.{key_of}
use Rattle.yaml_print.specs.Print as spec
use Rattle.yaml_print.specs.Print.{value_of}
use Rattle.yaml_print.specs.Sound.{Each, IsSound, AreTexts}
use Rattle.yaml_print.proofs.node.+node.Given as goal

abbrev pub decreases-node_at : goal.decreases-node_at
decreases-node_at l = 8 * l.depth

abbrev pub decreases-item : goal.decreases-item
decreases-item l = 8 * l.depth + 1

abbrev pub decreases-items_at : goal.decreases-items_at
decreases-items_at l = 8 * l.depth + 2

abbrev pub decreases-value : goal.decreases-value
decreases-value l = 8 * l.depth + 1

abbrev pub decreases-pair : goal.decreases-pair
decreases-pair l = 8 * l.depth + 2

abbrev pub decreases-pairs_at : goal.decreases-pairs_at
decreases-pairs_at l = 8 * l.depth + 3

abbrev pub decreases-layer : goal.decreases-layer
decreases-layer l = 8 * l.depth + 4

-- what is written, with what is to be written of the rows that are left
abbrev pub invariant-items_at-loop-rest : goal.invariant-items_at-loop-rest
invariant-items_at-loop-rest l =
    (l.out.items ++ spec.rows l.column (spec.item_text (spec.node_text l.depth) l.column) l.rest ≡ l.initial.out.items ++ spec.rows l.column (spec.item_text (spec.node_text l.depth) l.column) l.initial.rest)
    × Each (IsSound l.depth) l.rest
    × (Each (AreTexts l.depth) l.rest → Each (AreTexts l.depth) l.initial.rest)

abbrev pub decreases-items_at-loop-rest : goal.decreases-items_at-loop-rest
decreases-items_at-loop-rest l = length l.rest

abbrev pub invariant-pairs_at-loop-rest : goal.invariant-pairs_at-loop-rest
invariant-pairs_at-loop-rest l =
    (l.out.items ++ spec.rows l.column (spec.pair_text (spec.node_text l.depth) l.column) l.rest ≡ l.initial.out.items ++ spec.rows l.column (spec.pair_text (spec.node_text l.depth) l.column) l.initial.rest)
    × Each (λ p. IsSound l.depth (value_of p)) l.rest
    × (Each (λ p. IsUtf8 (key_of p)) l.rest → Each (λ p. IsUtf8 (key_of p)) l.initial.rest)
    × (Each (λ p. AreTexts l.depth (value_of p)) l.rest → Each (λ p. AreTexts l.depth (value_of p)) l.initial.rest)

abbrev pub decreases-pairs_at-loop-rest : goal.decreases-pairs_at-loop-rest
decreases-pairs_at-loop-rest l = length l.rest
