use Rattle.std.proofs.Common.{◌≡◌, take}
use Rattle.std.specs.List.{filter_map}
use Rattle.lock_files.specs.Mapping.{text_in}
use Rattle.lock_files.proofs.value.texts_in.Given as goal

-- those so far
abbrev pub invariant-loop-item : goal.invariant-loop-item
invariant-loop-item l = l.texts ≡ filter_map text_in (take l.item-index l.items)
