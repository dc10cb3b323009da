-- The text of a lane's path is read as that path.
use Rattle.std.proofs.Common.{◌≡◌, ◌∙◌, arith, subst, IfOk}
use Rattle.dvc_base.specs.Path.{Path}
use Rattle.world_api.proofs.LaneLemmas.{path_from-lane}
use Rattle.world_api.proofs.layout.lane_path.Goals as goal

pub returns : goal.returns
returns c = record {
  named =
      subst (λ (p : Path). IfOk c.path_of.result (λ path. path ≡ p))
      (path_from-lane c.args.lane c.as_str.result.now (omega arith) (c.as_str.ensures.value ∙ c.in_ok-text.ensures.ok))
      c.path_of.ensures.named;
}
