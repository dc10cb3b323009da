use Rattle.std.proofs.Common.{◌≡◌, drop}
use Rattle.stage_graph.specs.Fault.{first_of}
use Rattle.stage_graph.specs.Texts.{text_fault}
use Rattle.stage_graph.proofs.text.check_outs.Given as goal

-- the refusal that is due is that of what is left
abbrev pub invariant-loop-out : goal.invariant-loop-out
invariant-loop-out l = first_of (λ out. text_fault l.dir out.path) l.outs ≡ first_of (λ out. text_fault l.dir out.path) (drop l.out-index l.outs)
