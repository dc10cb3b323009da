use Rattle.std.proofs.Common.{◌≡◌, take, map}
use Rattle.sim_world.specs.declared.value.Value.TheVariants.{File}
use Rattle.sim_world.proofs.pipe.filled.Given as goal

abbrev pub invariant-loop-out : goal.invariant-loop-out
invariant-loop-out l = l.values ≡ map (λ out. record { path = out; value = File l.bytes }) (take l.out-index l.outs)
