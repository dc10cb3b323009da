use Rattle.std.proofs.Common.{◌≡◌, ◌++◌, take}
use Rattle.stage_graph.specs.Paths.{outputs_in}
use Rattle.stage_graph.proofs.output.push_outputs.Given as goal

-- the outputs so far
abbrev pub invariant-loop-out : goal.invariant-loop-out
invariant-loop-out l = l.all ≡ l.initial.all ++ outputs_in l.number l.dir (take l.out-index l.outs)
