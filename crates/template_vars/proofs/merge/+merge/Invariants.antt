use Rattle.std.proofs.Common.{◌≡◌, ◌+◌, ◌*◌, ◌++◌, map, take}
use Rattle.template_vars.specs.Merge.{pair_with, merged_inside}
use Rattle.template_vars.proofs.merge.+merge.Given as goal

abbrev pub decreases-merged : goal.decreases-merged
decreases-merged l = 5 * l.depth + 4

abbrev pub decreases-put_merged : goal.decreases-put_merged
decreases-put_merged l = 5 * l.depth + 3

abbrev pub decreases-value_with : goal.decreases-value_with
decreases-value_with l = 5 * l.depth + 2

abbrev pub decreases-mapping_with : goal.decreases-mapping_with
decreases-mapping_with l = 5 * l.depth + 1

abbrev pub decreases-merged_inside : goal.decreases-merged_inside
decreases-merged_inside l = 5 * l.depth

-- the pairs so far, with what is merged into them
abbrev pub invariant-put_merged-loop-pair : goal.invariant-put_merged-loop-pair
invariant-put_merged-loop-pair l = l.made ≡ l.initial.made ++ map (pair_with (merged_inside l.depth) l.second) (take l.pair-index l.first)
