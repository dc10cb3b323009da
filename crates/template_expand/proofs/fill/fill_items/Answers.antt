use Rattle.std.proofs.Common.{◌<◌, ◌∙◌, length, ap, sym, Ok, rules}
use Rattle.std.proofs.lemmas.Result.{err_from_is_err_and}
use Rattle.template_expand.specs.Fill.{filled_item}
use Rattle.template_expand.proofs.AnswerLemmas.{all_more, all_ends}
use Rattle.template_expand.proofs.fill.fill_items.Goals as goal

pub loop-item-preserved : goal.loop-item-preserved
loop-item-preserved c =
    let within : c.loop-item.item-index < length c.args.items.now = search rules in
    all_more (filled_item c.args.scope.now) c.args.items.now c.loop-item.item-index c.item-item.result c.loop-item.made c.in_ok-fill_item.field-0 within c.item-item.is
    c.loop-item.invariant c.in_ok-fill_item.ensures.answer
    ∙ ap Ok (sym c.in_ok-push.ensures.ok)

pub returns-in_err-fill_item : goal.returns-in_err-fill_item
returns-in_err-fill_item c =
    let within : c.loop-item.item-index < length c.args.items.now = search rules in
    let exit = err_from_is_err_and c.from_residual.result c.from_residual.ensures.1 in
    rw (exit.1, exit.2) (record {
      answer =
          all_ends (filled_item c.args.scope.now) c.args.items.now c.loop-item.item-index c.item-item.result c.loop-item.made c.in_err-fill_item.field-0.0 within c.item-item.is
          c.loop-item.invariant c.in_err-fill_item.ensures.answer;
    })
