use Rattle.std.proofs.Common.{◌≡◌, length}
use Rattle.lock_files.specs.Mapping.{value_at}
use Rattle.template_vars.proofs.merge.value_at.Given as goal

-- the value stands among the pairs that are left, or there is none
abbrev pub invariant-loop-rest : goal.invariant-loop-rest
invariant-loop-rest l = value_at l.key l.rest ≡ value_at l.key l.pairs

abbrev pub decreases-loop-rest : goal.decreases-loop-rest
decreases-loop-rest l = length l.rest
