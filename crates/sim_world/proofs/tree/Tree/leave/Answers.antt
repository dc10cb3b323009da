use Rattle.std.proofs.Common.{◌∙◌, sym}
use Rattle.sim_world.proofs.FolderLemmas.{left-tree, has_place-parts}
use Rattle.sim_world.proofs.tree.Tree.leave.Goals as goal

pub invariant_of-self : goal.invariant_of-self
invariant_of-self c =
    let has = has_place-parts c.args.self.now c.args.at.now (sym c.in_ok-has_place.ensures.told ∙ c.if-not-branch.false) in
    let here = rw (← c.self.view_is) at has.1 in
    rw (c.in_ok-place.ensures.ok, c.remove_below.ensures.without, c.in_ok-nodes.ensures.same)
    (left-tree c.args.at.now c.args.value.now _ c.self.invariant c.check_path.ensures.fits c.in_ok-place.ensures.fits c.check.ensures.good has.0 here)
