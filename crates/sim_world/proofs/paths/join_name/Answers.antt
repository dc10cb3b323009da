use Rattle.std.proofs.Common.{◌≡◌, ◌∙◌, ◌++◌, ◌∷◌, [], sym, ap, Ok}
use Rattle.std.proofs.lemmas.Result.{IfOk-weaker}
use Rattle.dvc_base.specs.Path.{Path}
use Rattle.dvc_base.specs.Join.{join}
use Rattle.sim_world.proofs.PathLemmas.{join_name_so}
use Rattle.sim_world.proofs.paths.join_name.Goals as goal

pub returns : goal.returns
returns c = record {
  joined =
      IfOk-weaker c.read_from.result (λ (p : Path). join c.args.at.now c.as_str.result.now ≡ Ok p) (λ (p : Path). p ≡ c.args.at.now ++ c.args.name.now ∷ [])
      (λ p e. join_name_so c.args.at.now c.args.name.now p c.requires (ap (join c.args.at.now) (sym c.as_str.ensures.same) ∙ e)) c.read_from.ensures.read;
}
