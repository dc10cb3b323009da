use Rattle.std.proofs.Common.{◌≡◌, take, Ok}
use Rattle.template_expand.specs.Vars.{with_items}
use Rattle.template_expand.proofs.vars.add_items.Given as goal

-- the variables with the items so far
abbrev pub invariant-loop-item : goal.invariant-loop-item
invariant-loop-item l = with_items l.files l.left_out l.initial.vars (take l.item-index l.items) ≡ Ok l.vars
