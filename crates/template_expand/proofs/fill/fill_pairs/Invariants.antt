use Rattle.std.proofs.Common.{◌≡◌, take, Ok}
use Rattle.template_expand.specs.Answer.{all_by}
use Rattle.template_expand.specs.Fill.{filled_pair}
use Rattle.template_expand.proofs.fill.fill_pairs.Given as goal

-- what was made of the pairs so far
abbrev pub invariant-loop-pair : goal.invariant-loop-pair
invariant-loop-pair l = all_by (filled_pair l.scope) (take l.pair-index l.pairs) ≡ Ok l.made
