use Rattle.std.proofs.Common.{◌≡◌, ◌++◌, take}
use Rattle.std.specs.List.{AllByRecursion, flat_map}
use Rattle.file_hash.specs.Listing.{more_text}
use Rattle.file_hash.specs.Reading.{IsSound}
use Rattle.file_hash.proofs.print.put_members.Given as goal

-- the members so far
abbrev pub invariant-loop-member : goal.invariant-loop-member
invariant-loop-member l = record {
  written : l.out ≡ l.initial.out ++ flat_map more_text (take l.member-index l.rest);
  sound : AllByRecursion IsSound (take l.member-index l.rest);
}
