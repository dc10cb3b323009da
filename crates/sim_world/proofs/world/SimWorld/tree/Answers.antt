use Rattle.std.proofs.Common.{sym, ◌∙◌}
use Rattle.sim_world.proofs.LogLemmas.{present_tree}
use Rattle.sim_world.proofs.world.SimWorld.tree.Goals as goal

pub returns : goal.returns
returns g c = record { told = c.args.self.now.tree_is ∙ sym (present_tree _ c.args.self.now.opening c.args.self.now.log.items) }
