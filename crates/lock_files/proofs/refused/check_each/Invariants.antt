use Rattle.std.proofs.Common.{◌≡◌, length}
use Rattle.lock_files.specs.Refused.{items_refused}
use Rattle.lock_files.proofs.refused.check_each.Given as goal

-- the first refusal is that of the items that are left, behind those that were met
abbrev pub invariant-loop-items : goal.invariant-loop-items
invariant-loop-items l = items_refused l.key l.before l.items ≡ items_refused l.key l.initial.before l.initial.items

abbrev pub decreases-loop-items : goal.decreases-loop-items
decreases-loop-items l = length l.items
