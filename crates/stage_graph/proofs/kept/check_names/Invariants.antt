use Rattle.std.proofs.Common.{◌≡◌, drop}
use Rattle.stage_graph.specs.Fault.{first_of}
use Rattle.stage_graph.specs.Kept.{name_fault}
use Rattle.stage_graph.proofs.kept.check_names.Given as goal

-- the refusal that is due is that of what is left
abbrev pub invariant-loop-path : goal.invariant-loop-path
invariant-loop-path l = first_of name_fault l.owned ≡ first_of name_fault (drop l.path-index l.owned)
