use Rattle.std.proofs.Common.{◌≡◌, take}
use Rattle.stage_graph.specs.Paths.{output_paths}
use Rattle.stage_graph.proofs.output.output_paths.Given as goal

-- the paths so far
abbrev pub invariant-loop-output : goal.invariant-loop-output
invariant-loop-output l = l.paths ≡ output_paths (take l.output-index l.outputs)
