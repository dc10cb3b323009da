use Rattle.std.proofs.Common.{◌≡◌, drop}
use Rattle.sim_world.specs.Answer.{found}
use Rattle.sim_world.proofs.value.find_value.Given as goal

abbrev pub invariant-loop-entry : goal.invariant-loop-entry
invariant-loop-entry l = found l.values l.path ≡ found (drop l.entry-index l.entry-items) l.path
