use Rattle.std.proofs.Common.{◌<◌, length, sym, arith}
use Rattle.std.proofs.lemmas.Result.{err_from_is_err_and}
use Rattle.std.proofs.lemmas.Option.{get_or_from_slice_get}
use Rattle.template_expand.specs.Expansion.{with_made}
use Rattle.template_expand.specs.Source.{made_in}
use Rattle.template_expand.proofs.AnswerLemmas.{folded_more, folded_ends}
use Rattle.template_expand.proofs.WalkLemmas.{made_one}
use Rattle.template_expand.proofs.walk.put_mades.Goals as goal

pub returns-in_err-put_made : goal.returns-in_err-put_made
returns-in_err-put_made c =
    let step = with_made c.args.limit c.args.written.now.name.now c.args.written.now.vars.now c.args.written.now.body.now in
    let within : c.loop-place.place < length (made_in c.args.source.now) = omega (arith, c.count_to-count.ensures.exact, c.loop-place-test.true) in
    let is = sym (get_or_from_slice_get (made_in c.args.source.now) c.loop-place.place c.in_ok-made.made c.in_ok-made.made c.in_ok-made.ensures.exact) in
    let exit = err_from_is_err_and c.from_residual-in_err-put_made.result c.from_residual-in_err-put_made.ensures.1 in
    rw (exit.1, exit.2) (record {
      answer =
          folded_ends step c.args.stages.now (made_in c.args.source.now) c.loop-place.place c.in_ok-made.made c.loop-place.stages c.in_err-put_made.field-0.0 within is
          c.loop-place.invariant.made c.in_err-put_made.ensures.answer;
    })

pub loop-place-preserved : goal.loop-place-preserved
loop-place-preserved c =
    let step = with_made c.args.limit c.args.written.now.name.now c.args.written.now.vars.now c.args.written.now.body.now in
    let within : c.loop-place.place < length (made_in c.args.source.now) = omega (arith, c.count_to-count.ensures.exact, c.loop-place-test.true) in
    let is = sym (get_or_from_slice_get (made_in c.args.source.now) c.loop-place.place c.in_ok-made.made c.in_ok-made.made c.in_ok-made.ensures.exact) in
    let more =
    made_one c.args.limit c.args.written.now.name.now c.args.written.now.vars.now c.args.written.now.body.now c.loop-place.stages c.in_ok-made.made c.put_made.new.stages c.in_ok-put_made.ensures.answer in
    record {
      made =
          folded_more step c.args.stages.now (made_in c.args.source.now) c.loop-place.place c.in_ok-made.made c.loop-place.stages c.put_made.new.stages within is
          c.loop-place.invariant.made c.in_ok-put_made.ensures.answer;
      each = omega (arith, more.0, c.loop-place.invariant.each);
      few = λ some. omega (arith, more.0, more.1);
    }
