use Rattle.std.proofs.Common.{[], ◌∷◌}
use Rattle.object_cache.proofs.StoreLemmas.{passes_stored_none}
use Rattle.object_cache.proofs.put.store_text.Goals as goal

pub returns-in-Ok-None-clause-moments : goal.returns-in-Ok-None-clause-moments
returns-in-Ok-None-clause-moments g c told = passes_stored_none (c.args.name.now ∷ []) (g.F.Ground.history c.args.files.now) (g.F.Ground.history c.place_for.new.files) (c.place_for.ensures.unchanged told)

pub returns-in-Err-clause-moments : goal.returns-in-Err-clause-moments
returns-in-Err-clause-moments g c told = passes_stored_none (c.args.name.now ∷ []) (g.F.Ground.history c.args.files.now) (g.F.Ground.history c.place_for.new.files) (c.place_for.ensures.unchanged told)
