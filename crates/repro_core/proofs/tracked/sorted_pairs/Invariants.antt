use Rattle.std.proofs.Common.{◌≡◌, map, take}
use Rattle.repro_core.proofs.tracked.sorted_pairs.Given as goal

-- those so far
abbrev pub invariant-loop-pair : goal.invariant-loop-pair
invariant-loop-pair l = map (λ x. x.now) l.sorted.items ≡ take l.pair-index l.pairs
