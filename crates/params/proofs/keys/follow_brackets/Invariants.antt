use Rattle.std.proofs.Common.{◌≡◌, map, Some}
use Rattle.params.specs.Lookup.{item_at}
use Rattle.params.proofs.LookupLemmas.{walk}
use Rattle.params.proofs.keys.follow_brackets.Given as goal

-- the brackets so far lead to the place
abbrev pub invariant-loop-bracket : goal.invariant-loop-bracket
invariant-loop-bracket l = walk item_at (map (λ bracket. bracket.now) l.yielded) l.fn.node ≡ Some l.place
