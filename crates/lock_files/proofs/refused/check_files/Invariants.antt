use Rattle.std.proofs.Common.{◌≡◌, length}
use Rattle.lock_files.specs.Refused.{files_refused}
use Rattle.lock_files.proofs.refused.check_files.Given as goal

-- the first refusal is that of what is left
abbrev pub invariant-loop-files : goal.invariant-loop-files
invariant-loop-files l = files_refused l.files ≡ files_refused l.initial.files

abbrev pub decreases-loop-files : goal.decreases-loop-files
decreases-loop-files l = length l.files
