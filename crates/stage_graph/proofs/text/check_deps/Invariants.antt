use Rattle.std.proofs.Common.{◌≡◌, drop}
use Rattle.stage_graph.specs.Fault.{first_of}
use Rattle.stage_graph.specs.Texts.{text_fault}
use Rattle.stage_graph.proofs.text.check_deps.Given as goal

-- the refusal that is due is that of what is left
abbrev pub invariant-loop-dep : goal.invariant-loop-dep
invariant-loop-dep l = first_of (text_fault l.dir) l.deps ≡ first_of (text_fault l.dir) (drop l.dep-index l.deps)
