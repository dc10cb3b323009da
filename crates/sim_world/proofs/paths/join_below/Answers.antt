use Rattle.std.proofs.Common.{◌∙◌, sym, ap}
use Rattle.dvc_base.specs.Join.{join}
use Rattle.sim_world.proofs.PathLemmas.{join_so}
use Rattle.sim_world.proofs.paths.join_below.Goals as goal

pub returns-clause-joined : goal.returns-clause-joined
returns-clause-joined c = join_so c.args.at.now c.args.below.now _ c.parts.ensures.normal (sym (ap (join c.args.at.now) c.text.ensures.by_parts) ∙ c.in_ok-path.ensures.read)
