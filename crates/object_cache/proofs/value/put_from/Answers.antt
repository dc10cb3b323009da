use Rattle.world_api.specs.Tree.{value_at}
use Rattle.world_api.specs.Outside.{tree_of}
use Rattle.object_cache.specs.Objects.{object_names}
use Rattle.object_cache.proofs.StoreLemmas.{passes_stored_none}
use Rattle.object_cache.proofs.value.put_from.Goals as goal

pub returns-in_err-kind-clause-moments : goal.returns-in_err-kind-clause-moments
returns-in_err-kind-clause-moments g c told =
    let a = g.F.Ground.history c.args.files.now in
    passes_stored_none (object_names (value_at (tree_of a) c.args.at.now)) a (g.F.Ground.history c.kind.new.self) (c.kind.ensures.unchanged told)
