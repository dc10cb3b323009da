use Rattle.std.proofs.Common.{◌<◌, length, rules}
use Rattle.std.proofs.lemmas.Result.{err_from_is_err_and}
use Rattle.template_expand.specs.Wanted.{with_top}
use Rattle.template_expand.proofs.AnswerLemmas.{folded_more, folded_ends}
use Rattle.template_expand.proofs.wanted.push_top.Goals as goal

pub loop-item-preserved : goal.loop-item-preserved
loop-item-preserved c =
    let within : c.loop-item.item-index < length c.args.items.now = search rules in
    folded_more with_top c.args.paths.now c.args.items.now c.loop-item.item-index c.item-item.result c.loop-item.paths c.push_top_item.new.paths within
    c.item-item.is c.loop-item.invariant c.in_ok-push_top_item.ensures.answer

pub returns-in_err-push_top_item : goal.returns-in_err-push_top_item
returns-in_err-push_top_item c =
    let within : c.loop-item.item-index < length c.args.items.now = search rules in
    let exit = err_from_is_err_and c.from_residual.result c.from_residual.ensures.1 in
    rw (exit.1, exit.2) (record {
      answer =
          folded_ends with_top c.args.paths.now c.args.items.now c.loop-item.item-index c.item-item.result c.loop-item.paths c.in_err-push_top_item.field-0.0 within
          c.item-item.is c.loop-item.invariant c.in_err-push_top_item.ensures.answer;
    })
