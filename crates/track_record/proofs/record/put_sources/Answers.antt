-- The folder of the file couldn't be told.
use Rattle.std.proofs.Common.{refl}
use Rattle.std.proofs.lemmas.Result.{err_from_is_err_and}
use Rattle.dvc_base.specs.declared.fault.Fault.TheVariants.{NoMemory}
use Rattle.repro_core.proofs.StoredLemmas.{passes_untouched}
use Rattle.track_record.proofs.TellLemmas.{tells_free}
use Rattle.track_record.proofs.record.put_sources.Goals as goal

pub returns-in_err-dir-clause-moments : goal.returns-in_err-dir-clause-moments
returns-in_err-dir-clause-moments g c told =
    passes_untouched (g.F.Ground.history c.args.files.now) (g.F.Ground.history c.args.files.now) refl

pub returns-in_err-dir-clause-told : goal.returns-in_err-dir-clause-told
returns-in_err-dir-clause-told g c =
    let exit = err_from_is_err_and c.from_residual.result c.from_residual.ensures.1 in
    rw (exit.1, exit.2) (tells_free _ NoMemory refl)
