use Rattle.std.proofs.Common.{◌∙◌, ◌++◌, ap, sym, arith, length, take}
use Rattle.std.proofs.lemmas.List.{append-nil}
use Rattle.dvc_base.specs.Path.{Path}
use Rattle.dvc_base.proofs.PathLemmas.{under-length}
use Rattle.sim_world.proofs.paths.path_within.Goals as goal

pub loop-index-init : goal.loop-index-init
loop-index-init c =
    let at = c.args.at.now in
    let parts = c.parts-parts.result.now in
    record {
      start = omega (arith, ap length c.parts-index.ensures.same);
      within = omega (arith, ap length c.parts-index.ensures.same, ap length c.parts-parts.ensures.same, under-length at c.args.path.now c.requires);
      made =
          ap (λ (x : Path). take (length at) parts ++ x) c.root-rest.ensures.root ∙ append-nil (take (length at) parts)
          ∙ ap (λ (x : Path). take (length x) parts) (sym c.parts-index.ensures.same);
    }
