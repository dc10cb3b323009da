use Rattle.std.proofs.Common.{◌≡◌, ◌∷◌, map, take}
use Rattle.repro_core.specs.Steps.{above_out}
use Rattle.repro_core.proofs.prepared.roads_of.Given as goal

abbrev pub invariant-loop-out : goal.invariant-loop-out
invariant-loop-out l = l.roads ≡ l.stage.dir ∷ map above_out (take l.out-index l.out-items)
