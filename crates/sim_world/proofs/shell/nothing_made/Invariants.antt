use Rattle.std.proofs.Common.{◌≡◌, take}
use Rattle.sim_world.specs.Answer.{unmade}
use Rattle.sim_world.proofs.shell.nothing_made.Given as goal

abbrev pub invariant-loop-out : goal.invariant-loop-out
invariant-loop-out l = l.outs ≡ unmade (take l.out-index l.out-items)
