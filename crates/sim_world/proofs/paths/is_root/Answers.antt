use Rattle.std.proofs.Common.{◌∙◌, ◌==◌, ap, length}
use Rattle.dvc_base.specs.Path.{Path}
use Rattle.sim_world.proofs.PathLemmas.{root_length}
use Rattle.sim_world.proofs.paths.is_root.Goals as goal

pub returns : goal.returns
returns c = record {
  empty = c.is_empty.ensures ∙ ap (λ (x : Path). length x == 0) c.parts.ensures.same ∙ root_length c.args.at.now;
  fits = record { normal = c.parts.ensures.normal; short = c.parts.ensures.short };
}
