-- Want of memory comes before anything is touched.
use Rattle.std.proofs.Common.{refl}
use Rattle.repro_core.proofs.StoredLemmas.{passes_untouched}
use Rattle.track_record.proofs.source.put_entry.Goals as goal

pub returns-in_err-at-clause-moments : goal.returns-in_err-at-clause-moments
returns-in_err-at-clause-moments g c told =
    passes_untouched (g.F.Ground.history c.args.files.now) (g.F.Ground.history c.args.files.now) refl
