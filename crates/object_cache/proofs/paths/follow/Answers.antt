use Rattle.std.proofs.Common.{◌≡◌, ◌++◌, Ok, sym, ap, ◌∙◌}
use Rattle.dvc_base.specs.Path.{Path}
use Rattle.dvc_base.specs.Join.{join}
use Rattle.object_cache.proofs.JoinLemmas.{ok_weaker, follow_is}
use Rattle.object_cache.proofs.paths.follow.Goals as goal

pub returns : goal.returns
returns c =
    let at = c.args.at.now in
    let q = c.args.path.now in
    record { exact = ok_weaker c.join.result (λ (path : Path). join at c.text.result.now ≡ Ok path) (λ (path : Path). path ≡ at ++ q) (λ path e. follow_is at q path c.parts.ensures.normal c.parts.ensures.short (ap (join at) (sym c.text.ensures.by_parts) ∙ e)) c.join.ensures.read }
