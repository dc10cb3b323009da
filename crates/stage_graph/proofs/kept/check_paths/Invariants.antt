use Rattle.std.proofs.Common.{◌≡◌, drop}
use Rattle.stage_graph.specs.Fault.{first_of}
use Rattle.stage_graph.specs.Kept.{near_fault}
use Rattle.stage_graph.proofs.kept.check_paths.Given as goal

-- the refusal that is due is that of what is left
abbrev pub invariant-loop-path : goal.invariant-loop-path
invariant-loop-path l = first_of (near_fault l.kept) l.paths ≡ first_of (near_fault l.kept) (drop l.path-index l.paths)
