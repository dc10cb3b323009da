use Rattle.std.proofs.Common.{◌≡◌, take, Ok}
use Rattle.template_expand.specs.Answer.{all_by}
use Rattle.template_expand.specs.Fill.{filled_item}
use Rattle.template_expand.proofs.fill.fill_items.Given as goal

-- what was made of the items so far
abbrev pub invariant-loop-item : goal.invariant-loop-item
invariant-loop-item l = all_by (filled_item l.scope) (take l.item-index l.items) ≡ Ok l.made
