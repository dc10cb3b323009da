-- What is told of one of the outputs is told of them.
use Rattle.std.proofs.Common.{List, Some, subst}
use Rattle.std.proofs.lemmas.Result.{err_from_is_err_and}
use Rattle.repro_laws.specs.declared.stage.Out.{Out}
use Rattle.repro_core.specs.Ways.{TellsMade}
use Rattle.repro_core.proofs.RoadsLemmas.{made_at}
use Rattle.repro_core.proofs.job.look_at_made.Goals as goal

pub returns-in_err-look_at_out-clause-told : goal.returns-in_err-look_at_out-clause-told
returns-in_err-look_at_out-clause-told g c =
    let name = c.args.stage.now.name in
    let fault = c.in_err-look_at_out.field-0.0 in
    let exit = err_from_is_err_and c.from_residual.result c.from_residual.ensures.1 in
    let told = made_at name c.as_slice-out-items.result.now c.loop-out.out-index c.out-item.result (Some fault) c.loop-out-test.true c.out-item.is c.in_err-look_at_out.ensures.told in
    rw (exit.1, exit.2) (subst (λ (os : List Out). TellsMade name os (Some fault)) c.as_slice-out-items.ensures.same told)
