use Rattle.std.proofs.Common.{◌≡◌, ◌++◌, map, take}
use Rattle.change_check.specs.Compare.{present_key}
use Rattle.change_check.specs.Keys.{tracked_of}
use Rattle.change_check.proofs.keys.add_present.Given as goal

-- those so far
abbrev pub invariant-loop-pair : goal.invariant-loop-pair
invariant-loop-pair l = map tracked_of l.made.items ≡ map tracked_of l.fn.made.items ++ map (present_key l.file) (take l.pair-index l.pairs)
