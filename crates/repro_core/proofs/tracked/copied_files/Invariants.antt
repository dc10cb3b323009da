use Rattle.std.proofs.Common.{◌≡◌, map, take}
use Rattle.repro_core.proofs.tracked.copied_files.Given as goal

-- those so far
abbrev pub invariant-loop-file : goal.invariant-loop-file
invariant-loop-file l = l.copies ≡ map (λ x. x.now) (take l.file-index l.files)
