use Rattle.sim_world.proofs.RunLemmas.{values_step}
use Rattle.sim_world.proofs.shell.values_of.Goals as goal

pub loop-text-preserved : goal.loop-text-preserved
loop-text-preserved c =
    values_step c.args.tree.now c.args.dir.now c.args.texts.now c.loop-text.text-index c.text-item.result c.loop-text.values c.push_value.new.values c.loop-text-test.true c.text-item.is c.loop-text.invariant c.in_ok-push_value.ensures.pushed
