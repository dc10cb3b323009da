use Rattle.std.proofs.Common.{◌≡◌, drop}
use Rattle.stage_graph.specs.Fault.{first_of}
use Rattle.stage_graph.specs.Texts.{out_texts}
use Rattle.stage_graph.proofs.text.check_all_outs.Given as goal

-- the refusal that is due is that of what is left
abbrev pub invariant-loop-stage : goal.invariant-loop-stage
invariant-loop-stage l = first_of out_texts l.stages ≡ first_of out_texts (drop l.stage-index l.stages)
