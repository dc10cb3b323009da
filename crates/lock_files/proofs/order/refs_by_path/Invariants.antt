use Rattle.std.proofs.Common.{◌≡◌, map, take}
use Rattle.lock_files.proofs.order.refs_by_path.Given as goal

-- the path entries so far
abbrev pub invariant-loop-entry : goal.invariant-loop-entry
invariant-loop-entry l = map (λ e. e.now) l.sorted.items ≡ take l.entry-index l.entries
