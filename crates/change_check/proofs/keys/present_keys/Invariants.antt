use Rattle.std.proofs.Common.{◌≡◌, map, take}
use Rattle.std.specs.List.{flat_map}
use Rattle.change_check.specs.Compare.{present_in}
use Rattle.change_check.specs.Keys.{tracked_of}
use Rattle.change_check.proofs.keys.present_keys.Given as goal

-- those so far
abbrev pub invariant-loop-file : goal.invariant-loop-file
invariant-loop-file l = map tracked_of l.made.items ≡ flat_map present_in (take l.file-index l.files)
