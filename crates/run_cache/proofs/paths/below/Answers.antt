use Rattle.std.proofs.Common.{◌≡◌, ◌∷◌, [], ◌++◌, ap, sym, ◌∙◌, Ok}
use Rattle.dvc_base.specs.Path.{Path}
use Rattle.dvc_base.specs.Join.{join}
use Rattle.run_cache.proofs.PathLemmas.{ok_weaker, below_is}
use Rattle.run_cache.proofs.paths.below.Goals as goal

pub returns : goal.returns
returns c =
    let p = c.args.folder.now in
    let digits = c.args.digits.now in
    let text : c.as_str.result.now ≡ digits = c.as_str.ensures.same ∙ c.in_ok-name.ensures.same in
    record {
      exact = ok_weaker c.join.result (λ (path : Path). join p c.as_str.result.now ≡ Ok path) (λ (path : Path). path ≡ p ++ digits ∷ [])
          (λ path e. below_is p digits path c.requires.some c.requires.digits (ap (join p) (sym text) ∙ e)) c.join.ensures.read;
    }
