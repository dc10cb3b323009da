use Rattle.std.proofs.Common.{◌≡◌, ◌++◌}
use Rattle.std.specs.List.{flat_map}
use Rattle.std.specs.Str.{IsUtf8, chars}
use Rattle.file_hash.specs.Listing.{escaped}
use Rattle.file_hash.proofs.print.put_escaped.Given as goal

-- what is written, with what is to be written of the characters that are left
abbrev pub invariant-loop-character : goal.invariant-loop-character
invariant-loop-character l = record {
  spelt : IsUtf8 l.character-iterator.rest.now;
  written : l.out ++ flat_map escaped (chars l.character-iterator.rest.now) ≡ l.initial.out ++ flat_map escaped (chars l.text);
}
