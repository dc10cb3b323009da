-- Each character that is left is put in its turn.
use Rattle.std.proofs.lemmas.Str.{IsUtf8-past_char}
use Rattle.std.proofs.Common.{◌++◌}
use Rattle.std.specs.Str.{chars}
use Rattle.std.specs.List.{flat_map}
use Rattle.file_hash.specs.Listing.{escaped}
use Rattle.file_hash.proofs.TextLemmas.{escaped_step, escaped_end}
use Rattle.file_hash.proofs.print.put_escaped.Goals as goal

pub loop-character-preserved : goal.loop-character-preserved
loop-character-preserved c =
    let here = c.in-Some.ensures.steps.0 in
    let before = c.loop-character.invariant in
    let left = c.loop-character.character-iterator.rest.now in
    let rest = c.next.new.self.rest.now in
    record {
      spelt = IsUtf8-past_char left rest c.in-Some.character before.spelt here;
      written = escaped_step c.loop-character.out c.put_character.new.out (c.args.out.now ++ flat_map escaped (chars c.args.text.now)) left rest c.in-Some.character before.spelt here before.written c.in_ok-put_character.ensures.exact;
    }

pub returns : goal.returns
returns c =
    record { exact = escaped_end c.args.out.now c.loop-character.out c.loop-character.character-iterator.rest.now c.args.text.now c.utf8.text c.in-None.ensures.steps.0.0 c.loop-character.invariant.written; utf8 = c.utf8.text }
