use Rattle.std.proofs.Common.{◌∙◌, ap, sym, not, ◌&&◌}
use Rattle.std.specs.List.{list_all}
use Rattle.std.specs.FinMap.{entries}
use Rattle.dvc_base.specs.Path.{overlap}
use Rattle.sim_world.proofs.FileMapLemmas.{apart_pairs}
use Rattle.sim_world.proofs.file_map.FileMap.is_free.Goals as goal

pub returns : goal.returns
returns c = record {
  told =
      c.is_apart.ensures.told ∙ apart_pairs c.args.at.now c.members.result.now
      ∙ ap (list_all (λ e. not (overlap c.args.at.now e.0))) c.members.ensures.all
      ∙ sym (ap (λ b. not b && list_all (λ e. not (overlap c.args.at.now e.0)) (entries c.args.self.now)) (sym c.is_root.ensures.empty ∙ c.if-is_root.false));
}
