use Rattle.std.proofs.Common.{◌≡◌, ◌≤◌, ◌+◌, ◌*◌, length, Ok}
use Rattle.yaml_text.specs.Outcome.{◌>>=◌}
use Rattle.dvc_base.specs.declared.node.Node.TheVariants as nd
use Rattle.yaml_nodes.specs.Part.{steps}
use Rattle.yaml_nodes.specs.Block as spec
use Rattle.yaml_nodes.proofs.block.+block.Given as goal

abbrev pub decreases-block : goal.decreases-block
decreases-block l = 8 * l.depth

abbrev pub decreases-item_below : goal.decreases-item_below
decreases-item_below l = 8 * l.depth + 1

abbrev pub decreases-item : goal.decreases-item
decreases-item l = 8 * l.depth + 2

abbrev pub decreases-sequence_turn : goal.decreases-sequence_turn
decreases-sequence_turn l = 8 * l.depth + 3

abbrev pub decreases-sequence : goal.decreases-sequence
decreases-sequence l = 8 * l.depth + 4

abbrev pub decreases-value_below : goal.decreases-value_below
decreases-value_below l = 8 * l.depth + 1

abbrev pub decreases-value : goal.decreases-value
decreases-value l = 8 * l.depth + 2

abbrev pub decreases-with_value : goal.decreases-with_value
decreases-with_value l = 8 * l.depth + 3

abbrev pub decreases-mapping_turn : goal.decreases-mapping_turn
decreases-mapping_turn l = 8 * l.depth + 4

abbrev pub decreases-mapping : goal.decreases-mapping
decreases-mapping l = 8 * l.depth + 5

abbrev pub invariant-sequence-items : goal.invariant-sequence-items
invariant-sequence-items l =
    ((steps (spec.sequence_turn (spec.block l.depth) l.column) l.found l.rest >>= λ r. Ok (nd.Items r.0, r.1)) ≡ spec.sequence (spec.block l.depth) l.column l.text)
    × (length l.rest ≤ length l.text)

abbrev pub decreases-sequence-items : goal.decreases-sequence-items
decreases-sequence-items l = length l.rest

abbrev pub invariant-mapping-pairs : goal.invariant-mapping-pairs
invariant-mapping-pairs l =
    ((steps (spec.mapping_turn l.depth (spec.block l.depth) l.column) l.found l.rest >>= λ r. Ok (nd.Pairs r.0, r.1)) ≡ spec.mapping l.depth (spec.block l.depth) l.column l.text)
    × (length l.rest ≤ length l.text)

abbrev pub decreases-mapping-pairs : goal.decreases-mapping-pairs
decreases-mapping-pairs l = length l.rest
