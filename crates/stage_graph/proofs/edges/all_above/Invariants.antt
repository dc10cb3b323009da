use Rattle.std.proofs.Common.{◌≡◌, map, take}
use Rattle.path_index.specs.Overlap.{places}
use Rattle.stage_graph.specs.Paths.{is_above}
use Rattle.stage_graph.proofs.edges.all_above.Given as goal

-- the stages so far
abbrev pub invariant-loop-stage : goal.invariant-loop-stage
invariant-loop-stage l = l.above ≡ map (λ b. places (λ a. is_above a b) l.stages) (take l.stage-index l.stages)
