-- The folders of the job stand in every tree.
use Rattle.world_suite.proofs.jobs.run.Goals as goal

pub run-requires-clause-folders : goal.run-requires-clause-folders
run-requires-clause-folders g c told = c.in_ok-job.ensures.folders (g.W.Ground.history c.clear_outs.new.world).present.tree
