use Rattle.std.proofs.Common.{◌<◌, ◌∙◌, length, ap, sym, Ok, rules}
use Rattle.std.proofs.lemmas.Result.{err_from_is_err_and}
use Rattle.template_expand.specs.Fill.{filled_path}
use Rattle.template_expand.proofs.AnswerLemmas.{all_more, all_ends}
use Rattle.template_expand.proofs.fill.fill_paths.Goals as goal

pub loop-path-preserved : goal.loop-path-preserved
loop-path-preserved c =
    let within : c.loop-path.path-index < length c.args.paths.now = search rules in
    all_more (filled_path c.args.scope.now) c.args.paths.now c.loop-path.path-index c.path-item.result c.loop-path.made c.in_ok-fill_path.field-0 within c.path-item.is
    c.loop-path.invariant c.in_ok-fill_path.ensures.answer
    ∙ ap Ok (sym c.in_ok-push.ensures.ok)

pub returns-in_err-fill_path : goal.returns-in_err-fill_path
returns-in_err-fill_path c =
    let within : c.loop-path.path-index < length c.args.paths.now = search rules in
    let exit = err_from_is_err_and c.from_residual.result c.from_residual.ensures.1 in
    rw (exit.1, exit.2) (record {
      answer =
          all_ends (filled_path c.args.scope.now) c.args.paths.now c.loop-path.path-index c.path-item.result c.loop-path.made c.in_err-fill_path.field-0.0 within c.path-item.is
          c.loop-path.invariant c.in_err-fill_path.ensures.answer;
    })
