use Rattle.std.proofs.Common.{◌≡◌, length}
use Rattle.lock_files.specs.Refused.{keys_refused}
use Rattle.lock_files.proofs.refused.check_keys.Given as goal

-- the first refusal is that of what is left
abbrev pub invariant-loop-pairs : goal.invariant-loop-pairs
invariant-loop-pairs l = keys_refused l.pairs ≡ keys_refused l.initial.pairs

abbrev pub decreases-loop-pairs : goal.decreases-loop-pairs
decreases-loop-pairs l = length l.pairs
