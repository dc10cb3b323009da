use Rattle.std.proofs.Common.{◌≡◌, drop}
use Rattle.stage_graph.specs.Fault.{first_of}
use Rattle.stage_graph.specs.Texts.{need_texts}
use Rattle.stage_graph.proofs.text.check_all_needs.Given as goal

-- the refusal that is due is that of what is left
abbrev pub invariant-loop-stage : goal.invariant-loop-stage
invariant-loop-stage l = first_of need_texts l.stages ≡ first_of need_texts (drop l.stage-index l.stages)
