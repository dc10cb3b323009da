-- The changes of a run.
--     MakesAll r cs old new     Ok made all of the changes, and Err a front of them
use Rattle.std.specs.Prelude.{◌≡◌, ◌⊎◌, ℤ, pos, List, [], ◌∷◌, ◌++◌, map, Result, Ok, Err, if◌then◌else◌}
use Rattle.std.specs.Ordering.{int_eq}
use Rattle.world_api.specs.Effect.{path_from, invocation_of}
use Rattle.world_api.specs.History.{History}
use Rattle.world_api.specs.Outside.{tree_of}
use Rattle.world_api.specs.declared.job.Exit.{Exit}
use Rattle.world_api.specs.declared.job.Job.{Job}
use Rattle.sim_world.specs.Answer.{answered, found, given_by, unmade}
use Rattle.sim_world.specs.Call.{Makes}
use Rattle.sim_world.specs.Change.{replay, IsFront}
use Rattle.sim_world.specs.Good.{AreGood}
use Rattle.sim_world.specs.Step.{Step}
use Rattle.sim_world.specs.declared.rule.Given.{Given}
use Rattle.sim_world.specs.declared.rule.Made.{Made}
use Rattle.sim_world.specs.declared.change.Change.{Change}
use Rattle.sim_world.specs.declared.change.Change.TheVariants.{Started, Left, Ran}

-- each output gets what was made for it
abbrev pub left_outs : Job → Made → List Change
left_outs job made = map (λ out. Left (path_from job.dir out) (found made.outs out)) job.outs

-- with another code than 0 the outputs stay as they were
abbrev pub out_changes : Job → ℤ → Made → List Change
out_changes job code made = if int_eq code (pos 0) then left_outs job made else []

abbrev pub run_changes : Job → ℤ → Made → List Change
run_changes job code made = Started job ∷ (out_changes job code made ++ Ran job ∷ [])

-- all of the changes were made, or some of them and the next one was refused
abbrev pub MakesAll : {T E : Type 0} → Result T E → List Change → History → History → Type 0
MakesAll r cs old new = Makes r (λ h. replay h cs) (IsFront cs) old new

-- the rule answers a job's commands with the code, and makes these values, which are as the code makes them
abbrev pub Answers : (Given → Made → Step) → Job → History → ℤ → Made → Type 0
Answers effect job h code made =
    (answered effect (given_by (invocation_of job (tree_of h))) job.commands (record { outs = unmade job.outs }) ≡ record { code = code; made = made })
    × AreGood made.outs

-- after an exit all was changed that the rule's answer changes; else nothing, or a front of that
abbrev pub RunsBy : {E : Type 0} → (Given → Made → Step) → Job → Result Exit E → History → History → Type 0
RunsBy effect job (Ok exit) old new =
    (made : Made) × Answers effect job old exit.code made × (new ≡ replay old (run_changes job exit.code made))
RunsBy effect job (Err why) old new =
    (new ≡ old) ⊎ ((code : ℤ) × (made : Made) × Answers effect job old code made × IsFront (run_changes job code made) old new)
