use Rattle.std.proofs.Common.{◌∙◌, sym}
use Rattle.sim_world.proofs.EditLemmas.{put-tree}
use Rattle.sim_world.proofs.FolderLemmas.{root_not}
use Rattle.sim_world.proofs.tree.Tree.edit.Goals as goal

pub invariant_of-self : goal.invariant_of-self
invariant_of-self c =
    rw (c.in_ok-put_value.ensures.ok, c.remove_below.ensures.without, c.in_ok-nodes.ensures.same)
    (put-tree c.args.at.now c.args.value.now _ c.self.invariant c.is_root.ensures.fits c.in_ok-put_value.ensures.fits c.check.ensures.good (root_not c.args.at.now (sym c.is_root.ensures.empty ∙ c.if-is_root.false)))
