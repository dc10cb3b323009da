use Rattle.std.proofs.Common.{◌≡◌, ◌||◌, ℕ, take}
use Rattle.stage_order.specs.Order.{is_in}
use Rattle.stage_graph.specs.Makers.{stages_at}
use Rattle.stage_graph.proofs.edges.add_stages.Given as goal

-- the stages of the places so far
abbrev pub invariant-loop-place : goal.invariant-loop-place
invariant-loop-place l = (n : ℕ) → is_in l.found.keys n ≡ (is_in l.initial.found.keys n || is_in (stages_at l.made (take l.place-index l.places)) n)
