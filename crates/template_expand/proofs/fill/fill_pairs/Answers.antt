use Rattle.std.proofs.Common.{◌<◌, ◌∙◌, length, ap, sym, Ok, rules}
use Rattle.std.proofs.lemmas.Result.{err_from_is_err_and}
use Rattle.template_expand.specs.Fill.{filled_pair}
use Rattle.template_expand.proofs.AnswerLemmas.{all_more, all_ends}
use Rattle.template_expand.proofs.fill.fill_pairs.Goals as goal

pub loop-pair-preserved : goal.loop-pair-preserved
loop-pair-preserved c =
    let within : c.loop-pair.pair-index < length c.args.pairs.now = search rules in
    all_more (filled_pair c.args.scope.now) c.args.pairs.now c.loop-pair.pair-index c.pair-item.result c.loop-pair.made c.in_ok-fill_pair.field-0 within c.pair-item.is
    c.loop-pair.invariant c.in_ok-fill_pair.ensures.answer
    ∙ ap Ok (sym c.in_ok-push.ensures.ok)

pub returns-in_err-fill_pair : goal.returns-in_err-fill_pair
returns-in_err-fill_pair c =
    let within : c.loop-pair.pair-index < length c.args.pairs.now = search rules in
    let exit = err_from_is_err_and c.from_residual.result c.from_residual.ensures.1 in
    rw (exit.1, exit.2) (record {
      answer =
          all_ends (filled_pair c.args.scope.now) c.args.pairs.now c.loop-pair.pair-index c.pair-item.result c.loop-pair.made c.in_err-fill_pair.field-0.0 within c.pair-item.is
          c.loop-pair.invariant c.in_err-fill_pair.ensures.answer;
    })
