use Rattle.std.proofs.Common.{◌≡◌, map, take}
use Rattle.repro_core.proofs.tracked.copied_pairs.Given as goal

-- those so far
abbrev pub invariant-loop-pair : goal.invariant-loop-pair
invariant-loop-pair l = l.copies ≡ map (λ x. x.now) (take l.pair-index l.pairs)
