use Rattle.std.proofs.Common.{◌≡◌, take}
use Rattle.std.specs.List.{filter}
use Rattle.lock_files.specs.Value.{is_other_key}
use Rattle.lock_files.proofs.value.others_in.Given as goal

-- those so far
abbrev pub invariant-loop-pair : goal.invariant-loop-pair
invariant-loop-pair l = l.others ≡ filter is_other_key (take l.pair-index l.pairs)
