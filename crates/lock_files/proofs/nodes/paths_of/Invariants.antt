use Rattle.std.proofs.Common.{◌≡◌, map, take}
use Rattle.lock_files.specs.Nodes.{path_of}
use Rattle.lock_files.proofs.nodes.paths_of.Given as goal

-- those so far
abbrev pub invariant-loop-entry : goal.invariant-loop-entry
invariant-loop-entry l = l.paths ≡ map path_of (take l.entry-index l.entries)
