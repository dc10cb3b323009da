use Rattle.std.proofs.Common.{◌≡◌, map, take}
use Rattle.lock_files.specs.Nodes.{out_node}
use Rattle.lock_files.proofs.nodes.out_nodes.Given as goal

-- those so far
abbrev pub invariant-loop-entry : goal.invariant-loop-entry
invariant-loop-entry l = l.nodes ≡ map out_node (take l.entry-index l.entries)
