use Rattle.std.proofs.Common.{◌≡◌, drop}
use Rattle.stage_graph.specs.Fault.{first_of}
use Rattle.stage_graph.specs.Texts.{text_fault}
use Rattle.stage_graph.proofs.text.check_files.Given as goal

-- the refusal that is due is that of what is left
abbrev pub invariant-loop-want : goal.invariant-loop-want
invariant-loop-want l = first_of (λ want. text_fault l.dir want.file) l.wants ≡ first_of (λ want. text_fault l.dir want.file) (drop l.want-index l.wants)
