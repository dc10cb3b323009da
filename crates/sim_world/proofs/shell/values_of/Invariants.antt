use Rattle.std.proofs.Common.{◌≡◌, take}
use Rattle.world_api.specs.Effect.{given_values}
use Rattle.sim_world.specs.Answer.{plain_values}
use Rattle.sim_world.proofs.shell.values_of.Given as goal

abbrev pub invariant-loop-text : goal.invariant-loop-text
invariant-loop-text l = l.values ≡ plain_values (given_values l.tree l.dir (take l.text-index l.texts))
