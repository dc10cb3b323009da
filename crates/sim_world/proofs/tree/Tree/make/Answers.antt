use Rattle.std.proofs.Common.{◌∙◌, sym}
use Rattle.sim_world.proofs.FolderLemmas.{made-tree, has_place-parts}
use Rattle.sim_world.proofs.tree.Tree.make.Goals as goal

pub invariant_of-self : goal.invariant_of-self
invariant_of-self c =
    let has = has_place-parts c.args.self.now c.args.at.now (sym c.in_ok-has_place.ensures.told ∙ c.if-not-branch.false) in
    let here = rw (← c.self.view_is) at has.1 in
    made-tree c.put_folder.result _ _ c.args.at.now c.self.invariant c.check_path.ensures.fits has.0 here c.put_folder.ensures.ok c.put_folder.ensures.err
