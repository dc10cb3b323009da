use Rattle.std.proofs.Common.{◌≡◌, drop}
use Rattle.stage_graph.specs.Fault.{first_of}
use Rattle.stage_graph.specs.Kept.{dir_fault}
use Rattle.stage_graph.proofs.kept.check_dirs.Given as goal

-- the refusal that is due is that of what is left
abbrev pub invariant-loop-stage : goal.invariant-loop-stage
invariant-loop-stage l = first_of dir_fault l.stages ≡ first_of dir_fault (drop l.stage-index l.stages)
