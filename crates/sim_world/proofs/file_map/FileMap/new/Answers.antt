use Rattle.sim_world.proofs.FileMapLemmas.{files-none}
use Rattle.sim_world.proofs.file_map.FileMap.new.Goals as goal

pub invariant_of-result : goal.invariant_of-result
invariant_of-result c = rw c.new.ensures.empty files-none
