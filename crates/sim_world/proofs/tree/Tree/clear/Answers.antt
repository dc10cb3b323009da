use Rattle.world_api.proofs.TreeLemmas.{tree-without}
use Rattle.sim_world.proofs.tree.Tree.clear.Goals as goal

pub invariant_of-self : goal.invariant_of-self
invariant_of-self c = rw c.remove_below.ensures.without (tree-without _ c.args.at.now c.self.invariant)
