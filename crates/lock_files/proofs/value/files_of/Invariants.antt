use Rattle.std.proofs.Common.{◌≡◌, map, take}
use Rattle.lock_files.specs.Value.{param_file}
use Rattle.lock_files.proofs.value.files_of.Given as goal

-- those so far
abbrev pub invariant-loop-pair : goal.invariant-loop-pair
invariant-loop-pair l = l.files ≡ map param_file (map (λ p. p.now) (take l.pair-index l.pairs))
