-- Words for what a call says of the outside, which every crate above uses.
--     tree_of h, jobs_of h                what stands at present, and the jobs that have run
--     IsUntouched tells old new           a world that tells has changed nothing
--     WithEffect tells h P                P of the effect of commands, where a world tells one
--     PassesFrom step old new             each moment of a call, by what it makes of the call's start
--     HasTrees h                          the parent of each member is a folder, at each moment
--     IsHonest tells told found           two sizes differ, and never over a world that tells its tree
use Rattle.std.specs.Prelude.{◌≡◌, ◌≢◌, ℕ, Bool, List, IfSome, IsTrue}
use Rattle.std.specs.List.{AllByRecursion}
use Rattle.world_api.specs.Tree.{Tree, IsTree}
use Rattle.world_api.specs.Effect.{Effect}
use Rattle.world_api.specs.History.{Moment, History, Passes}
use Rattle.world_api.specs.declared.job.Job.{Job}

abbrev pub tree_of : History → Tree
tree_of h = h.present.tree

abbrev pub jobs_of : History → List Job
jobs_of h = h.present.aside.fixed.ran

abbrev pub IsUntouched : Bool → History → History → Type 0
IsUntouched tells old new = IsTrue tells → new ≡ old

abbrev pub WithEffect : Bool → History → (Effect → Type 0) → Type 0
WithEffect tells h P = IsTrue tells → IfSome h.present.aside.fixed.effect P

-- each moment of a call is one that the call may make of the old present
abbrev pub PassesFrom : (Moment → Moment → Type 0) → History → History → Type 0
PassesFrom step old new = Passes (step old.present) old new

-- each moment that is told has a tree
abbrev pub HasTrees : History → Type 0
HasTrees h = IsTree (tree_of h) × AllByRecursion (λ (m : Moment). IsTree m.tree) h.past

abbrev pub IsHonest : Bool → ℕ → ℕ → Type 0
IsHonest tells told found = (told ≢ found) × (IsTrue tells → ⊥)
