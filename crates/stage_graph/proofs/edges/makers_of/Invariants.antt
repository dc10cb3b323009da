use Rattle.std.proofs.Common.{◌≡◌, ℕ, take}
use Rattle.std.specs.List.{list_any}
use Rattle.stage_order.specs.Order.{is_in}
use Rattle.stage_graph.specs.Makers.{is_maker}
use Rattle.stage_graph.proofs.edges.makers_of.Given as goal

-- the makers of the paths so far
abbrev pub invariant-loop-need : goal.invariant-loop-need
invariant-loop-need l = (n : ℕ) → is_in l.found.keys n ≡ list_any (λ need. is_maker l.made need n) (take l.need-index l.needed)
