use Rattle.std.proofs.Common.{◌≡◌, codes, Ok}
use Rattle.dvc_base.specs.Path.{Path}
use Rattle.dvc_base.specs.Join.{join}
use Rattle.world_api.specs.Calls.{parent}
use Rattle.repro_core.proofs.JoinLemmas.{ok_weaker, above_is}
use Rattle.repro_core.proofs.paths.above.Goals as goal

pub returns : goal.returns
returns c =
    let at = c.args.at.now in
    record { exact = ok_weaker c.join.result (λ (path : Path). join at (codes "..") ≡ Ok path) (λ (path : Path). path ≡ parent at) (λ path e. above_is at path c.requires e) c.join.ensures.read }
