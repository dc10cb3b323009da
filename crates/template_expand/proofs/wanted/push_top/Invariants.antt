use Rattle.std.proofs.Common.{◌≡◌, take, Ok}
use Rattle.template_expand.specs.Answer.{folded_by}
use Rattle.template_expand.specs.Wanted.{with_top}
use Rattle.template_expand.proofs.wanted.push_top.Given as goal

-- the paths with those of the items so far
abbrev pub invariant-loop-item : goal.invariant-loop-item
invariant-loop-item l = folded_by with_top l.initial.paths (take l.item-index l.items) ≡ Ok l.paths
