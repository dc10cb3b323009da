-- A character above U+FFFF has two units.
use Rattle.std.proofs.Common.{◌+◌, ◌-◌, ◌/◌, ◌%◌, ◌++◌, ◌∙◌, ap, sym}
use Rattle.file_hash.specs.Listing.{unit_text}
use Rattle.file_hash.proofs.TextLemmas.{ok_then, put_two, escaped_high}
use Rattle.file_hash.proofs.print.put_character.Goals as goal

pub returns : goal.returns
returns c =
    let code = c.args.character in
    record { exact = ok_then c.put_unit-3.result (λ last. put_two c.args.out.now c.put_unit-2.new.out c.put_unit-3.new.out (unit_text (55296 + (code - 65536) / 1024)) (unit_text (56320 + (code - 65536) % 1024)) c.in_ok-put_unit.ensures.exact last ∙ ap (λ x. c.args.out.now ++ x) (sym (escaped_high code c.if-code-lt128.false c.if-code-lt65536.false))) c.put_unit-3.ensures.exact }
