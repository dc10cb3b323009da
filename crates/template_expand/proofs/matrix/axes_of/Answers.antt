use Rattle.std.proofs.Common.{◌<◌, ◌∙◌, [], ◌∷◌, length, map, ap, sym, Ok, rules}
use Rattle.std.proofs.lemmas.List.{map-append}
use Rattle.std.proofs.lemmas.Result.{err_from_is_err_and}
use Rattle.template_expand.specs.Made.{axis}
use Rattle.template_expand.specs.Source.{picks_of}
use Rattle.template_expand.proofs.AnswerLemmas.{all_more, all_ends}
use Rattle.template_expand.proofs.matrix.axes_of.Goals as goal

pub loop-pair-preserved : goal.loop-pair-preserved
loop-pair-preserved c =
    let within : c.loop-pair.pair-index < length c.args.pairs.now = search rules in
    all_more (axis c.args.name.now c.args.own.now) c.args.pairs.now c.loop-pair.pair-index c.pair-item.result (map picks_of c.loop-pair.axes) (picks_of c.in_ok-axis_of.field-0) within c.pair-item.is
    c.loop-pair.invariant c.in_ok-axis_of.ensures.answer
    ∙ ap Ok (sym (map-append picks_of c.loop-pair.axes (c.in_ok-axis_of.field-0 ∷ [])) ∙ ap (map picks_of) (sym c.in_ok-push.ensures.ok))

pub returns-in_err-axis_of : goal.returns-in_err-axis_of
returns-in_err-axis_of c =
    let within : c.loop-pair.pair-index < length c.args.pairs.now = search rules in
    let exit = err_from_is_err_and c.from_residual.result c.from_residual.ensures.1 in
    rw (exit.1, exit.2) (record {
      answer =
          all_ends (axis c.args.name.now c.args.own.now) c.args.pairs.now c.loop-pair.pair-index c.pair-item.result (map picks_of c.loop-pair.axes) c.in_err-axis_of.field-0.0 within c.pair-item.is
          c.loop-pair.invariant c.in_err-axis_of.ensures.answer;
    })
