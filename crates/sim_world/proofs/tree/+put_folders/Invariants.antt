use Rattle.sim_world.proofs.tree.+put_folders.Given as goal

abbrev pub decreases-put_folders : goal.decreases-put_folders
decreases-put_folders l = l.count
