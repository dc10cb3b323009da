use Rattle.std.proofs.Common.{◌≡◌, map, take}
use Rattle.lock_files.specs.Nodes.{path_node}
use Rattle.lock_files.proofs.nodes.path_nodes.Given as goal

-- those so far
abbrev pub invariant-loop-entry : goal.invariant-loop-entry
invariant-loop-entry l = l.nodes ≡ map path_node (take l.entry-index l.entries)
