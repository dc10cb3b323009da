use Rattle.std.proofs.Common.{◌≡◌, map, take}
use Rattle.lock_files.specs.Nodes.{text_node}
use Rattle.lock_files.proofs.nodes.text_nodes.Given as goal

-- those so far
abbrev pub invariant-loop-text : goal.invariant-loop-text
invariant-loop-text l = l.nodes ≡ map text_node (take l.text-index l.texts)
