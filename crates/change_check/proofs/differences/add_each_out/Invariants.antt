use Rattle.std.proofs.Common.{◌≡◌, ◌++◌, map, take}
use Rattle.std.specs.List.{flat_map}
use Rattle.change_check.specs.Compare.{out_diff}
use Rattle.change_check.specs.Sides.{sides_of}
use Rattle.change_check.proofs.differences.add_each_out.Given as goal

-- those so far
abbrev pub invariant-loop-side : goal.invariant-loop-side
invariant-loop-side l = l.diffs ≡ l.fn.diffs ++ flat_map (out_diff l.absent) (map sides_of (take l.side-index l.sides))
