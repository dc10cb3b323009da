use Rattle.std.proofs.Common.{◌≡◌, ◌++◌, take}
use Rattle.sim_world.proofs.pipe.push_all.Given as goal

abbrev pub invariant-loop-entry : goal.invariant-loop-entry
invariant-loop-entry l = l.values ≡ l.initial.values ++ take l.entry-index l.more
