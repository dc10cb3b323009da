use Rattle.std.proofs.Common.{◌≡◌, ◌<◌, ◌^◌, drop}
use Rattle.sim_world.specs.Pipe.{number_from}
use Rattle.sim_world.proofs.pipe.number_from.Given as goal

abbrev pub invariant-loop-digit : goal.invariant-loop-digit
invariant-loop-digit l = record {
  small : l.number < 2 ^ 31;
  rest : number_from l.start l.digits ≡ number_from l.number (drop l.digit-index l.digits);
}
