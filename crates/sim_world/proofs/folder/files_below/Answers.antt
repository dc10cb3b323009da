use Rattle.sim_world.proofs.FileMapLemmas.{files-below}
use Rattle.sim_world.proofs.folder.files_below.Goals as goal

pub of-requires : goal.of-requires
of-requires c = rw (c.in_ok-files.ensures.told, c.members.ensures.all) (files-below c.args.tree.now c.args.at.now c.check.ensures.tree c.requires)
