use Rattle.std.proofs.Common.{◌≡◌, map, take}
use Rattle.change_check.specs.Same.{canonical_file}
use Rattle.change_check.proofs.canonical.canonical_files.Given as goal

-- those so far
abbrev pub invariant-loop-file : goal.invariant-loop-file
invariant-loop-file l = l.made ≡ map canonical_file (take l.file-index l.files)
