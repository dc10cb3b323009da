use Rattle.std.proofs.Common.{◌≡◌, false, take, bytes_eq}
use Rattle.std.specs.List.{list_any}
use Rattle.sim_world.proofs.pipe.is_out.Given as goal

abbrev pub invariant-loop-out : goal.invariant-loop-out
invariant-loop-out l = list_any (λ out. bytes_eq out l.path) (take l.out-index l.out-items) ≡ false
