use Rattle.std.proofs.Common.{◌≡◌, length}
use Rattle.lock_files.specs.Value.{with_stages}
use Rattle.lock_files.proofs.value.add_stages.Given as goal

-- the book with the stages that are left
abbrev pub invariant-loop-stages : goal.invariant-loop-stages
invariant-loop-stages l = with_stages l.book l.stages ≡ with_stages l.initial.book l.initial.stages

abbrev pub decreases-loop-stages : goal.decreases-loop-stages
decreases-loop-stages l = length l.stages
