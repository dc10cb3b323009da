use Rattle.std.proofs.Common.{◌≡◌}
use Rattle.params.proofs.canonical.list_of.Given as goal

-- the pairs so far
abbrev pub invariant-loop-pair : goal.invariant-loop-pair
invariant-loop-pair l = l.list ≡ l.yielded
