use Rattle.std.proofs.Common.{◌≡◌, map, take}
use Rattle.change_check.specs.Same.{canonical_pair}
use Rattle.change_check.proofs.canonical.canonical_pairs.Given as goal

-- those so far
abbrev pub invariant-loop-pair : goal.invariant-loop-pair
invariant-loop-pair l = l.made ≡ map canonical_pair (take l.pair-index l.pairs)
