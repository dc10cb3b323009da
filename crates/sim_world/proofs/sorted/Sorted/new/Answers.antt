use Rattle.sim_world.proofs.SortedLemmas.{map_none}
use Rattle.sim_world.proofs.sorted.Sorted.new.Goals as goal

pub returns : goal.returns
returns g c = record { empty = rw c.new.ensures.items map_none }
