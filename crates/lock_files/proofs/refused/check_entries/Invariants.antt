use Rattle.std.proofs.Common.{◌≡◌, length}
use Rattle.lock_files.specs.Refused.{entries_refused}
use Rattle.lock_files.proofs.refused.check_entries.Given as goal

-- the first refusal is that of what is left
abbrev pub invariant-loop-stages : goal.invariant-loop-stages
invariant-loop-stages l = entries_refused l.stages ≡ entries_refused l.initial.stages

abbrev pub decreases-loop-stages : goal.decreases-loop-stages
decreases-loop-stages l = length l.stages
