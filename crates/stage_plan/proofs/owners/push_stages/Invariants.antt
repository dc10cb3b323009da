use Rattle.std.proofs.Common.{◌≡◌, ◌++◌, take}
use Rattle.std.specs.List.{flat_map}
use Rattle.stage_graph.specs.Paths.{stage_outs}
use Rattle.stage_plan.proofs.owners.push_stages.Given as goal

-- the paths so far
abbrev pub invariant-loop-stage : goal.invariant-loop-stage
invariant-loop-stage l = l.owned ≡ l.initial.owned ++ flat_map stage_outs (take l.stage-index l.written)
