use Rattle.sim_world.proofs.LogLemmas.{tree_kept, trees_kept, jobs_kept, history_made}
use Rattle.sim_world.proofs.world.SimWorld.make.Goals as goal

pub invariant_of-self : goal.invariant_of-self
invariant_of-self g c =
    let was = c.args.self.now in
    let made = c.record_change.ensures in
    record {
      trees = trees_kept c.record_change.result was.opening was.tree c.record_change.new.tree was.log.items c.record_change.new.log.items c.args.change was.tree_is was.trees made.trees made.log_ok made.log_err made.tree_ok;
      tree_is = tree_kept c.record_change.result was.opening was.tree c.record_change.new.tree was.log.items c.record_change.new.log.items c.args.change was.tree_is made.log_ok made.log_err made.tree_ok made.tree_err;
      jobs_are = jobs_kept c.record_change.result was.jobs c.record_change.new.jobs was.log.items c.record_change.new.log.items c.args.change was.jobs_are made.log_ok made.log_err made.jobs_ok made.jobs_err;
    }

pub returns-clause-made : goal.returns-clause-made
returns-clause-made g c =
    let made = c.record_change.ensures in
    history_made c.record_change.result _ c.args.self.now.opening c.args.self.now.log.items c.record_change.new.log.items c.args.change made.log_ok made.log_err
