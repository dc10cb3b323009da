use Rattle.std.proofs.Common.{◌≡◌, take}
use Rattle.stage_graph.specs.Cycle.{names_of}
use Rattle.stage_graph.proofs.cycle.names_of.Given as goal

-- the names so far
abbrev pub invariant-loop-number : goal.invariant-loop-number
invariant-loop-number l = l.names ≡ names_of l.stages (take l.number-index l.numbers)
