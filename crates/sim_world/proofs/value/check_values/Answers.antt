use Rattle.sim_world.specs.Good.{IsGood}
use Rattle.sim_world.specs.declared.value.PathValue.{PathValue}
use Rattle.sim_world.proofs.ListLemmas.{all_more, all_whole}
use Rattle.sim_world.proofs.value.check_values.Goals as goal

pub returns : goal.returns
returns c = record { good = rw (← c.as_slice-entry-items.ensures.same) (all_whole (λ (e : PathValue). IsGood e.value) c.as_slice-entry-items.result.now c.loop-entry.entry-index c.loop-entry-test.false c.loop-entry.invariant) }

pub loop-entry-preserved : goal.loop-entry-preserved
loop-entry-preserved c =
    all_more (λ (e : PathValue). IsGood e.value) c.as_slice-entry-items.result.now c.loop-entry.entry-index c.entry-item.result c.loop-entry-test.true c.entry-item.is c.loop-entry.invariant c.check.ensures.good
