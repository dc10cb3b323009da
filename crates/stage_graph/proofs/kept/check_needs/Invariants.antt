use Rattle.std.proofs.Common.{◌≡◌, drop}
use Rattle.stage_graph.specs.Fault.{first_of}
use Rattle.stage_graph.specs.Kept.{near_fault}
use Rattle.stage_graph.specs.Paths.{needs}
use Rattle.stage_graph.proofs.kept.check_needs.Given as goal

-- the refusal that is due is that of what is left
abbrev pub invariant-loop-stage : goal.invariant-loop-stage
invariant-loop-stage l = first_of (λ s. first_of (near_fault l.tool) (needs s)) l.stages ≡ first_of (λ s. first_of (near_fault l.tool) (needs s)) (drop l.stage-index l.stages)
