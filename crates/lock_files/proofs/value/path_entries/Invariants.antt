use Rattle.std.proofs.Common.{◌≡◌, take}
use Rattle.std.specs.List.{filter_map}
use Rattle.lock_files.specs.Value.{item_in}
use Rattle.lock_files.proofs.value.path_entries.Given as goal

-- those so far
abbrev pub invariant-loop-item : goal.invariant-loop-item
invariant-loop-item l = l.entries ≡ filter_map item_in (take l.item-index l.items)
