use Rattle.std.proofs.Common.{◌≡◌, map, take}
use Rattle.lock_files.proofs.order.copies_of.Given as goal

-- those so far
abbrev pub invariant-loop-entry : goal.invariant-loop-entry
invariant-loop-entry l = l.copies ≡ map (λ e. e.now) (take l.entry-index l.entries)
