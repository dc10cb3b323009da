use Rattle.std.proofs.Common.{◌≡◌, ◌++◌, take}
use Rattle.std.specs.List.{flat_map}
use Rattle.stage_graph.specs.Paths.{stage_owners}
use Rattle.stage_graph.proofs.owner.push_stages.Given as goal

-- the owners so far
abbrev pub invariant-loop-stage : goal.invariant-loop-stage
invariant-loop-stage l = l.all ≡ l.initial.all ++ flat_map stage_owners (take l.stage-index l.stages)
