use Rattle.std.proofs.Common.{◌≡◌, map, Some}
use Rattle.params.proofs.LookupLemmas.{walk, part_at}
use Rattle.params.proofs.keys.lookup.Given as goal

-- the parts so far lead to the place
abbrev pub invariant-loop-part : goal.invariant-loop-part
invariant-loop-part l = walk part_at (map (λ part. part.now) l.yielded) l.fn.node ≡ Some l.place
