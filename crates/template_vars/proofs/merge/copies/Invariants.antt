use Rattle.std.proofs.Common.{◌≡◌, take}
use Rattle.template_vars.proofs.merge.copies.Given as goal

abbrev pub invariant-loop-pair : goal.invariant-loop-pair
invariant-loop-pair l = l.made ≡ take l.pair-index l.pairs
