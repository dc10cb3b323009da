-- Want of memory comes before anything is touched.
use Rattle.world_api.specs.Writes.{InWrite}
use Rattle.world_api.proofs.HistoryLemmas.{passes_none}
use Rattle.world_api.proofs.WriteLemmas.{write_itself}
use Rattle.track_record.proofs.EntryLemmas.{text_with}
use Rattle.track_record.proofs.record.publish.Goals as goal

pub returns-in_err-text-clause-moments : goal.returns-in_err-text-clause-moments
returns-in_err-text-clause-moments g c told =
    let old = g.F.Ground.history c.args.files.now in
    let x = c.args.track.now in
    let text = text_with x c.args.outs in
    passes_none (InWrite x.file text old.present) old (write_itself x.file text old.present)
