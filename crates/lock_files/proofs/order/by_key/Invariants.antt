use Rattle.std.proofs.Common.{◌≡◌, map, take}
use Rattle.lock_files.proofs.order.by_key.Given as goal

-- the pairs so far
abbrev pub invariant-loop-pair : goal.invariant-loop-pair
invariant-loop-pair l = map (λ p. p.now) l.sorted.items ≡ take l.pair-index l.pairs
