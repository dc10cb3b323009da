use Rattle.std.proofs.Common.{◌≡◌, map, take}
use Rattle.change_check.specs.Compare.{lost_key}
use Rattle.change_check.specs.Keys.{tracked_of}
use Rattle.change_check.proofs.keys.lost_keys.Given as goal

-- those so far
abbrev pub invariant-loop-key : goal.invariant-loop-key
invariant-loop-key l = map tracked_of l.made.items ≡ map lost_key (take l.key-index l.lost)
