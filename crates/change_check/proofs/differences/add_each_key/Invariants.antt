use Rattle.std.proofs.Common.{◌≡◌, ◌++◌, map, take}
use Rattle.std.specs.List.{flat_map}
use Rattle.change_check.specs.Compare.{param_diff}
use Rattle.change_check.specs.Keys.{tracked_sides}
use Rattle.change_check.proofs.differences.add_each_key.Given as goal

-- those so far
abbrev pub invariant-loop-side : goal.invariant-loop-side
invariant-loop-side l = l.diffs ≡ l.fn.diffs ++ flat_map param_diff (map tracked_sides (take l.side-index l.sides))
