use Rattle.world_api.proofs.TreeLemmas.{tree-empty}
use Rattle.sim_world.proofs.tree.Tree.new.Goals as goal

pub invariant_of-result : goal.invariant_of-result
invariant_of-result c = rw c.new.ensures.empty tree-empty
