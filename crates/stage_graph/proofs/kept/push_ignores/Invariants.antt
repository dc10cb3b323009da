use Rattle.std.proofs.Common.{◌≡◌, ◌++◌, take}
use Rattle.stage_graph.proofs.kept.push_ignores.Given as goal

-- the paths so far
abbrev pub invariant-loop-file : goal.invariant-loop-file
invariant-loop-file l = l.paths ≡ l.initial.paths ++ take l.file-index l.ignores
