use Rattle.std.proofs.Common.{◌≡◌, length}
use Rattle.stage_schema.specs.Node.{has_part}
use Rattle.stage_schema.proofs.node.has_part.Given as goal

-- the part stands in the text where it stands in what is left of it
abbrev pub invariant-loop-rest : goal.invariant-loop-rest
invariant-loop-rest l = has_part l.part l.text ≡ has_part l.part l.rest

abbrev pub decreases-loop-rest : goal.decreases-loop-rest
decreases-loop-rest l = length l.rest
