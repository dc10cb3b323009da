use Rattle.std.proofs.Common.{◌≡◌, ◌++◌, take}
use Rattle.lock_files.proofs.nodes.add_each.Given as goal

-- those so far are added
abbrev pub invariant-loop-pair : goal.invariant-loop-pair
invariant-loop-pair l = l.pairs ≡ l.initial.pairs ++ take l.pair-index l.more
