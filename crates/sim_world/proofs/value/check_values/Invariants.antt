use Rattle.std.proofs.Common.{take}
use Rattle.sim_world.specs.Good.{AreGood}
use Rattle.sim_world.proofs.value.check_values.Given as goal

abbrev pub invariant-loop-entry : goal.invariant-loop-entry
invariant-loop-entry l = AreGood (take l.entry-index l.entry-items)
