-- Want of memory at the start changes nothing.
use Rattle.std.proofs.Common.{refl, Some}
use Rattle.std.proofs.lemmas.Result.{err_from_is_err_and}
use Rattle.dvc_base.specs.declared.fault.Fault.TheVariants.{NoMemory}
use Rattle.repro_laws.specs.declared.stage.Choice.TheVariants.{Run}
use Rattle.repro_core.specs.Turning.{Turned}
use Rattle.repro_core.proofs.OneStageLemmas.{turned_free}
use Rattle.repro_core.proofs.OptionLemmas.{if_some}
use Rattle.repro_core.proofs.run.run_and_record.Goals as goal

pub returns-in_err-prepared-clause-turned : goal.returns-in_err-prepared-clause-turned
returns-in_err-prepared-clause-turned g c told =
    let s = c.args.stage.now in
    let lock = c.args.lock.now in
    let old = g.W.Ground.history c.args.world.now in
    let exit = err_from_is_err_and c.from_residual.result c.from_residual.ensures.1 in
    rw (exit.1, exit.2) (if_some old.present.aside.fixed.effect (λ effect. Turned c.args.flags effect s Run lock lock (Some NoMemory) old old) (λ effect known. turned_free c.args.flags effect s Run lock NoMemory old old refl (c.requires.lock told) refl))
