use Rattle.std.proofs.Common.{◌<◌, length, rules}
use Rattle.std.proofs.lemmas.Result.{err_from_is_err_and}
use Rattle.template_expand.specs.Expansion.{with_written}
use Rattle.template_expand.proofs.AnswerLemmas.{folded_more, folded_ends}
use Rattle.template_expand.proofs.walk.put_all.Goals as goal

pub loop-stage-preserved : goal.loop-stage-preserved
loop-stage-preserved c =
    let within : c.loop-stage.stage-index < length c.args.written.now = search rules in
    folded_more (with_written c.args.walk.now.limit c.args.walk.now.files.now c.args.walk.now.top.now) c.args.stages.now c.args.written.now c.loop-stage.stage-index c.stage-item.result
    c.loop-stage.stages c.put_written.new.stages within c.stage-item.is c.loop-stage.invariant c.in_ok-put_written.ensures.answer

pub returns-in_err-put_written : goal.returns-in_err-put_written
returns-in_err-put_written c =
    let within : c.loop-stage.stage-index < length c.args.written.now = search rules in
    let exit = err_from_is_err_and c.from_residual.result c.from_residual.ensures.1 in
    rw (exit.1, exit.2) (record {
      answer =
          folded_ends (with_written c.args.walk.now.limit c.args.walk.now.files.now c.args.walk.now.top.now) c.args.stages.now c.args.written.now c.loop-stage.stage-index c.stage-item.result
          c.loop-stage.stages c.in_err-put_written.field-0.0 within c.stage-item.is c.loop-stage.invariant c.in_err-put_written.ensures.answer;
    })
