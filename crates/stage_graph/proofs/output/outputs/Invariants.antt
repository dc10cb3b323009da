use Rattle.std.proofs.Common.{◌≡◌, ◌++◌, drop}
use Rattle.stage_graph.specs.Paths.{outputs, outputs_from}
use Rattle.stage_graph.proofs.output.outputs.Given as goal

-- the outputs so far, and those of the stages that are left
abbrev pub invariant-loop-number : goal.invariant-loop-number
invariant-loop-number l = outputs l.stages ≡ l.all ++ outputs_from l.number (drop l.number l.stages)
