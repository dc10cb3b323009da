use Rattle.std.proofs.Common.{◌<◌, ◌∙◌, length, ap, sym, Ok, rules}
use Rattle.std.proofs.lemmas.Result.{err_from_is_err_and}
use Rattle.template_expand.specs.Fill.{filled_node}
use Rattle.template_expand.proofs.AnswerLemmas.{all_more, all_ends}
use Rattle.template_expand.proofs.fill.fill_keys.Goals as goal

pub loop-key-preserved : goal.loop-key-preserved
loop-key-preserved c =
    let within : c.loop-key.key-index < length c.args.keys.now = search rules in
    all_more (filled_node c.args.scope.now) c.args.keys.now c.loop-key.key-index c.key-item.result c.loop-key.made c.in_ok-fill_node.field-0 within c.key-item.is
    c.loop-key.invariant c.in_ok-fill_node.ensures.answer
    ∙ ap Ok (sym c.in_ok-push.ensures.ok)

pub returns-in_err-fill_node : goal.returns-in_err-fill_node
returns-in_err-fill_node c =
    let within : c.loop-key.key-index < length c.args.keys.now = search rules in
    let exit = err_from_is_err_and c.from_residual.result c.from_residual.ensures.1 in
    rw (exit.1, exit.2) (record {
      answer =
          all_ends (filled_node c.args.scope.now) c.args.keys.now c.loop-key.key-index c.key-item.result c.loop-key.made c.in_err-fill_node.field-0.0 within c.key-item.is
          c.loop-key.invariant c.in_err-fill_node.ensures.answer;
    })
