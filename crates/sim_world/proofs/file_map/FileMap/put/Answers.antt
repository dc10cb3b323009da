use Rattle.std.proofs.Common.{◌∙◌, ap}
use Rattle.sim_world.specs.FileMap.{is_free}
use Rattle.sim_world.proofs.FileMapLemmas.{files-put-by}
use Rattle.sim_world.proofs.file_map.FileMap.put.Goals as goal

pub invariant_of-self : goal.invariant_of-self
invariant_of-self c =
    files-put-by c.put.result _ _ c.args.at c.args.bytes c.self.invariant (record { normal = c.parts.ensures.normal; short = c.parts.ensures.short }) (ap (λ m. is_free m c.args.at) c.self.view_is ∙ c.requires) c.put.ensures.ok c.put.ensures.err
