use Rattle.std.proofs.Common.{subst}
use Rattle.dvc_base.specs.Path.{Path}
use Rattle.world_api.specs.Calls.{parent}
use Rattle.object_cache.specs.Due.{IsOnRoad}
use Rattle.object_cache.proofs.PutLemmas.{told_on_road}
use Rattle.object_cache.proofs.put.is_free.Goals as goal

pub returns-in-Err-clause-told : goal.returns-in-Err-clause-told
returns-in-Err-clause-told g c =
    told_on_road c.args.name.now c.in-Err.fault (subst (λ (p : Path). IsOnRoad (parent p) c.in-Err.fault) c.requires c.in-Err.ensures.told)
