use Rattle.std.proofs.Common.{◌∙◌, ap, ◌++◌}
use Rattle.std.specs.Str.{chars}
use Rattle.std.proofs.lemmas.Str.{IsUtf8-past_char}
use Rattle.yaml_print.specs.ScalarText as spec
use Rattle.yaml_print.proofs.QuoteLemmas.{coded_step, quotes_end}
use Rattle.yaml_print.proofs.scalar_text.push_quoted.Goals as goal

pub loop-character-preserved : goal.loop-character-preserved
loop-character-preserved c =
    let here = c.in-Some.ensures.steps.0 in
    let before = c.loop-character.invariant in (
      IsUtf8-past_char c.loop-character.character-iterator.rest.now c.next.new.self.rest.now c.in-Some.character before.0 here,
      coded_step (spec.between c.args.quote) c.loop-character.out.items c.push_between.new.out.items _ c.loop-character.character-iterator.rest.now c.next.new.self.rest.now c.in-Some.character before.0 here before.1 c.in_ok-push_between.ensures,
    )

pub returns : goal.returns
returns c =
    let all = spec.text_of_each (spec.between c.args.quote) (chars c.args.text.now) in
    c.in_ok-push-2.ensures.items
    ∙ quotes_end c.args.quote c.args.out.now.items c.loop-character.out.items c.loop-character.character-iterator.rest.now c.args.text.now
    c.in-None.ensures.steps.0.0
    (c.loop-character.invariant.1 ∙ ap (λ t. t ++ all) c.in_ok-push.ensures.items)
