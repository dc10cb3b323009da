-- A name alone changes nothing.
use Rattle.repro_core.proofs.StoredLemmas.{passes_untouched}
use Rattle.repro_core.proofs.put.put_output.Goals as goal

pub returns-clause-moments : goal.returns-clause-moments
returns-clause-moments g c told =
    passes_untouched (g.F.Ground.history c.args.files.now) (g.F.Ground.history c.name_output.new.files) (c.name_output.ensures.unchanged told)
