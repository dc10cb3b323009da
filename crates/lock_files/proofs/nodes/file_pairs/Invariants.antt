use Rattle.std.proofs.Common.{◌≡◌, map, take}
use Rattle.lock_files.specs.Nodes.{file_pair}
use Rattle.lock_files.proofs.nodes.file_pairs.Given as goal

-- those so far
abbrev pub invariant-loop-file : goal.invariant-loop-file
invariant-loop-file l = l.pairs ≡ map file_pair (take l.file-index l.files)
