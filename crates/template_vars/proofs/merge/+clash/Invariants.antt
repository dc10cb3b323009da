use Rattle.std.proofs.Common.{◌≡◌, ◌+◌, ◌*◌, length}
use Rattle.template_vars.specs.Merge.{clash}
use Rattle.template_vars.proofs.merge.+clash.Given as goal

abbrev pub decreases-clash : goal.decreases-clash
decreases-clash l = 4 * l.depth + 3

abbrev pub decreases-clash_with : goal.decreases-clash_with
decreases-clash_with l = 4 * l.depth + 2

abbrev pub decreases-clash_of : goal.decreases-clash_of
decreases-clash_of l = 4 * l.depth + 1

abbrev pub decreases-clash_inside : goal.decreases-clash_inside
decreases-clash_inside l = 4 * l.depth

-- the first clash is that of the pairs that are left
abbrev pub invariant-clash-loop-second : goal.invariant-clash-loop-second
invariant-clash-loop-second l = clash l.depth l.first l.second ≡ clash l.depth l.first l.initial.second

abbrev pub decreases-clash-loop-second : goal.decreases-clash-loop-second
decreases-clash-loop-second l = length l.second
