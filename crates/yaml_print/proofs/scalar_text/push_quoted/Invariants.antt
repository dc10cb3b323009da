use Rattle.std.proofs.Common.{◌≡◌, ◌++◌}
use Rattle.std.specs.Str.{IsUtf8, chars}
use Rattle.yaml_print.specs.ScalarText as spec
use Rattle.yaml_print.proofs.scalar_text.push_quoted.Given as goal

-- what is written, with what is to be written of the characters that are left
abbrev pub invariant-loop-character : goal.invariant-loop-character
invariant-loop-character l =
    IsUtf8 l.character-iterator.rest.now
    × (l.out.items ++ spec.text_of_each (spec.between l.quote) (chars l.character-iterator.rest.now) ≡ l.initial.out.items ++ spec.text_of_each (spec.between l.quote) (chars l.text))
