use Rattle.std.proofs.Common.{◌≡◌, ◌+◌, ◌*◌, length}
use Rattle.std.specs.List.{list_all}
use Rattle.yaml_print.specs.Print.{value_of}
use Rattle.lock_files.specs.Mapping.{is_within}
use Rattle.params.proofs.depth.+within.Given as goal

abbrev pub decreases-is_within : goal.decreases-is_within
decreases-is_within l = 4 * l.depth

abbrev pub decreases-are_within : goal.decreases-are_within
decreases-are_within l = 4 * l.depth + 1

abbrev pub decreases-values_are_within : goal.decreases-values_are_within
decreases-values_are_within l = 4 * l.depth + 1

abbrev pub decreases-is_within_layer : goal.decreases-is_within_layer
decreases-is_within_layer l = 4 * l.depth + 2

-- it is so of all where it is so of those that are left
abbrev pub invariant-are_within-loop-nodes : goal.invariant-are_within-loop-nodes
invariant-are_within-loop-nodes l = list_all (is_within l.depth) l.nodes ≡ list_all (is_within l.depth) l.initial.nodes

abbrev pub decreases-are_within-loop-nodes : goal.decreases-are_within-loop-nodes
decreases-are_within-loop-nodes l = length l.nodes

abbrev pub invariant-values_are_within-loop-pairs : goal.invariant-values_are_within-loop-pairs
invariant-values_are_within-loop-pairs l =
    list_all (λ p. is_within l.depth (value_of p)) l.pairs ≡ list_all (λ p. is_within l.depth (value_of p)) l.initial.pairs

abbrev pub decreases-values_are_within-loop-pairs : goal.decreases-values_are_within-loop-pairs
decreases-values_are_within-loop-pairs l = length l.pairs
