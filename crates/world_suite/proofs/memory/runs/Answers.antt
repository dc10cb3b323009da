-- The folders of the job stand in every tree.
use Rattle.world_suite.proofs.memory.runs.Goals as goal

pub run-requires-clause-folders : goal.run-requires-clause-folders
run-requires-clause-folders g c = c.in_ok-job.ensures.folders _
