use Rattle.std.proofs.Common.{◌≡◌, ◌++◌, take}
use Rattle.std.specs.List.{flat_map}
use Rattle.template_expand.specs.Wanted.{item_paths}
use Rattle.template_expand.proofs.wanted.push_items.Given as goal

-- the paths with those of the items so far
abbrev pub invariant-loop-item : goal.invariant-loop-item
invariant-loop-item l = l.paths ≡ l.initial.paths ++ flat_map item_paths (take l.item-index l.items)
