use Rattle.std.proofs.Common.{◌≡◌, ◌≤◌, ◌+◌, ◌*◌, length, Ok}
use Rattle.yaml_text.specs.Outcome.{◌>>=◌}
use Rattle.dvc_base.specs.declared.node.Node.TheVariants as nd
use Rattle.yaml_nodes.specs.Part.{steps}
use Rattle.yaml_nodes.specs.Flow as spec
use Rattle.yaml_nodes.proofs.flow.+flow.Given as goal

abbrev pub decreases-flow_node : goal.decreases-flow_node
decreases-flow_node l = 8 * l.depth

abbrev pub decreases-value_at : goal.decreases-value_at
decreases-value_at l = 8 * l.depth + 1

abbrev pub decreases-flow_value : goal.decreases-flow_value
decreases-flow_value l = 8 * l.depth + 2

abbrev pub decreases-with_key : goal.decreases-with_key
decreases-with_key l = 8 * l.depth + 3

abbrev pub decreases-item_at : goal.decreases-item_at
decreases-item_at l = 8 * l.depth + 4

abbrev pub decreases-pair_at : goal.decreases-pair_at
decreases-pair_at l = 8 * l.depth + 4

abbrev pub decreases-item_turn : goal.decreases-item_turn
decreases-item_turn l = 8 * l.depth + 5

abbrev pub decreases-pair_turn : goal.decreases-pair_turn
decreases-pair_turn l = 8 * l.depth + 5

abbrev pub decreases-items : goal.decreases-items
decreases-items l = 8 * l.depth + 6

abbrev pub decreases-pairs : goal.decreases-pairs
decreases-pairs l = 8 * l.depth + 6

abbrev pub decreases-flow_form : goal.decreases-flow_form
decreases-flow_form l = 8 * l.depth + 7

abbrev pub invariant-items-items : goal.invariant-items-items
invariant-items-items l =
    ((steps (spec.item_turn (spec.flow_node l.depth)) l.found l.rest >>= λ r. Ok (nd.Items r.0, r.1)) ≡ spec.items (spec.flow_node l.depth) l.text)
    × (length l.rest ≤ length l.text)

abbrev pub decreases-items-items : goal.decreases-items-items
decreases-items-items l = length l.rest

abbrev pub invariant-pairs-pairs : goal.invariant-pairs-pairs
invariant-pairs-pairs l =
    ((steps (spec.pair_turn (spec.flow_node l.depth)) l.found l.rest >>= λ r. Ok (nd.Pairs r.0, r.1)) ≡ spec.pairs (spec.flow_node l.depth) l.text)
    × (length l.rest ≤ length l.text)

abbrev pub decreases-pairs-pairs : goal.decreases-pairs-pairs
decreases-pairs-pairs l = length l.rest
