use Rattle.object_cache.proofs.CopyLemmas.{read_moments}
use Rattle.object_cache.proofs.put.fill.Goals as goal

pub returns-in_err-kind-clause-moments : goal.returns-in_err-kind-clause-moments
returns-in_err-kind-clause-moments g c told =
    read_moments (g.F.Ground.history c.args.files.now) (g.F.Ground.history c.kind.new.self) (c.kind.ensures.unchanged told)
