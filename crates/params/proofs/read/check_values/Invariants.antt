use Rattle.std.proofs.Common.{◌≡◌, length}
use Rattle.params.specs.Read.{deep_key}
use Rattle.params.proofs.read.check_values.Given as goal

-- the refusal is due at a key of the pairs that are left
abbrev pub invariant-loop-rest : goal.invariant-loop-rest
invariant-loop-rest l = deep_key l.pairs ≡ deep_key l.rest

abbrev pub decreases-loop-rest : goal.decreases-loop-rest
decreases-loop-rest l = length l.rest
