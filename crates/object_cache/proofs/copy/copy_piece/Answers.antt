-- A read changes nothing, and an append just the lane.
use Rattle.object_cache.proofs.CopyLemmas.{read_moments, append_moments}
use Rattle.object_cache.proofs.copy.copy_piece.Goals as goal

pub returns-in_err-count-clause-moments : goal.returns-in_err-count-clause-moments
returns-in_err-count-clause-moments g c told =
    read_moments (g.F.Ground.history c.args.files.now) (g.F.Ground.history c.read_at.new.self) (c.read_at.ensures.unchanged told)

pub returns-in_err-append-clause-moments : goal.returns-in_err-append-clause-moments
returns-in_err-append-clause-moments g c told =
    append_moments (g.F.Ground.history c.args.files.now) (g.F.Ground.history c.read_at.new.self) (g.F.Ground.history c.append.new.self) (c.read_at.ensures.unchanged told) (c.append.ensures.moments told)

pub returns-clause-moments : goal.returns-clause-moments
returns-clause-moments g c told =
    append_moments (g.F.Ground.history c.args.files.now) (g.F.Ground.history c.read_at.new.self) (g.F.Ground.history c.append.new.self) (c.read_at.ensures.unchanged told) (c.append.ensures.moments told)
