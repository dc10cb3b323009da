use Rattle.std.proofs.Common.{◌≡◌, map, take}
use Rattle.std.specs.List.{flat_map}
use Rattle.change_check.specs.Compare.{last_of}
use Rattle.change_check.specs.Keys.{tracked_of, tracked_sides}
use Rattle.change_check.proofs.keys.last_keys.Given as goal

-- those so far
abbrev pub invariant-loop-side : goal.invariant-loop-side
invariant-loop-side l = map tracked_of l.made.items ≡ flat_map last_of (map tracked_sides (take l.side-index l.sides))
