use Rattle.std.proofs.Common.{◌<◌, length, rules}
use Rattle.std.proofs.lemmas.Result.{err_from_is_err_and}
use Rattle.template_expand.specs.Vars.{with_item}
use Rattle.template_expand.proofs.AnswerLemmas.{folded_more, folded_ends}
use Rattle.template_expand.proofs.vars.add_items.Goals as goal

pub loop-item-preserved : goal.loop-item-preserved
loop-item-preserved c =
    let within : c.loop-item.item-index < length c.args.items.now = search rules in
    folded_more (with_item c.args.files.now c.args.left_out.now) c.args.vars.now c.args.items.now c.loop-item.item-index c.item-item.result c.loop-item.vars c.add_item.new.vars within
    c.item-item.is c.loop-item.invariant c.in_ok-add_item.ensures.answer

pub returns-in_err-add_item : goal.returns-in_err-add_item
returns-in_err-add_item c =
    let within : c.loop-item.item-index < length c.args.items.now = search rules in
    let exit = err_from_is_err_and c.from_residual.result c.from_residual.ensures.1 in
    rw (exit.1, exit.2) (record {
      answer =
          folded_ends (with_item c.args.files.now c.args.left_out.now) c.args.vars.now c.args.items.now c.loop-item.item-index c.item-item.result c.loop-item.vars
          c.in_err-add_item.field-0.0 within c.item-item.is c.loop-item.invariant c.in_err-add_item.ensures.answer;
    })
