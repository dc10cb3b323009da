-- The lane is begun, and an empty file.
use Rattle.world_api.proofs.WriteLemmas.{passes_begin}
use Rattle.file_bytes.proofs.write.begin_write.Goals as goal

pub returns-clause-moments : goal.returns-clause-moments
returns-clause-moments g c told =
    passes_begin 0 (g.F.Ground.history c.args.files.now) (g.F.Ground.history c.begin.new.self) (c.begin.ensures.moments told)
