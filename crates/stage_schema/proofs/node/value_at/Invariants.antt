use Rattle.std.proofs.Common.{◌≡◌, length}
use Rattle.stage_schema.specs.Node.{value_at}
use Rattle.stage_schema.proofs.node.value_at.Given as goal

-- the value is that of the pairs that are left
abbrev pub invariant-loop-rest : goal.invariant-loop-rest
invariant-loop-rest l = value_at l.key l.pairs ≡ value_at l.key l.rest

abbrev pub decreases-loop-rest : goal.decreases-loop-rest
decreases-loop-rest l = length l.rest
