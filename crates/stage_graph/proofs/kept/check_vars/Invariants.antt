use Rattle.std.proofs.Common.{◌≡◌, drop}
use Rattle.stage_graph.specs.Fault.{first_of}
use Rattle.stage_graph.specs.Kept.{var_fault}
use Rattle.stage_graph.proofs.kept.check_vars.Given as goal

-- the refusal that is due is that of what is left
abbrev pub invariant-loop-file : goal.invariant-loop-file
invariant-loop-file l = first_of (var_fault l.tracks) l.vars ≡ first_of (var_fault l.tracks) (drop l.file-index l.vars)
