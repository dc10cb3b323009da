-- What a change makes of the tree and of the jobs alone.
use Rattle.std.specs.Prelude.{List, [], ◌∷◌, ◌++◌}
use Rattle.world_api.specs.Tree.{Tree}
use Rattle.world_api.specs.declared.job.Job.{Job}
use Rattle.world_api.specs.Layout.{lane_path}
use Rattle.sim_world.specs.Edits.{without, edited_tree, left_tree, made_tree, published_tree}
use Rattle.sim_world.specs.declared.change.Change.{Change}
use Rattle.sim_world.specs.declared.change.Change.TheVariants.{Edited, Cleared, Started, Left, Ran, FolderMade, Written, Settled, Published, Met}

abbrev pub tree_changed : Change → Tree → Tree
tree_changed (Edited at value) t = edited_tree at value t
tree_changed (Cleared at) t = without at t
tree_changed (Started job) t = t
tree_changed (Left at value) t = left_tree at value t
tree_changed (Ran job) t = t
tree_changed (FolderMade at) t = made_tree at t
tree_changed (Written lane value) t = left_tree (lane_path lane) value t
tree_changed (Settled lane) t = t
tree_changed (Published lane at value) t = published_tree (lane_path lane) at value t
tree_changed (Met at) t = t

abbrev pub jobs_changed : Change → List Job → List Job
jobs_changed (Ran job) jobs = jobs ++ job ∷ []
jobs_changed _ jobs = jobs

abbrev pub tree_after : Tree → List Change → Tree
tree_after t [] = t
tree_after t (c ∷ cs) = tree_after (tree_changed c t) cs

abbrev pub jobs_after : List Job → List Change → List Job
jobs_after jobs [] = jobs
jobs_after jobs (c ∷ cs) = jobs_after (jobs_changed c jobs) cs
