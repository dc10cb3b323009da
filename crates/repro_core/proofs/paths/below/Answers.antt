use Rattle.std.proofs.Common.{◌≡◌, ◌∷◌, [], ◌++◌, Ok}
use Rattle.dvc_base.specs.Path.{Path}
use Rattle.dvc_base.specs.Join.{join}
use Rattle.repro_core.proofs.JoinLemmas.{ok_weaker, below_is}
use Rattle.repro_core.proofs.paths.below.Goals as goal

pub returns : goal.returns
returns c =
    let at = c.args.at.now in
    let part = c.args.part.now in
    record { exact = ok_weaker c.join.result (λ (path : Path). join at part ≡ Ok path) (λ (path : Path). path ≡ at ++ part ∷ []) (λ path e. below_is at part path c.requires e) c.join.ensures.read }
