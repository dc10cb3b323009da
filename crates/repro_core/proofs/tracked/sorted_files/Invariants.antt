use Rattle.std.proofs.Common.{◌≡◌, map, take}
use Rattle.repro_core.proofs.tracked.sorted_files.Given as goal

-- those so far
abbrev pub invariant-loop-file : goal.invariant-loop-file
invariant-loop-file l = map (λ x. x.now) l.sorted.items ≡ take l.file-index l.files
