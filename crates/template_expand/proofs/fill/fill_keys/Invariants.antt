use Rattle.std.proofs.Common.{◌≡◌, take, Ok}
use Rattle.template_expand.specs.Answer.{all_by}
use Rattle.template_expand.specs.Fill.{filled_node}
use Rattle.template_expand.proofs.fill.fill_keys.Given as goal

-- what was made of the keys so far
abbrev pub invariant-loop-key : goal.invariant-loop-key
invariant-loop-key l = all_by (filled_node l.scope) (take l.key-index l.keys) ≡ Ok l.made
