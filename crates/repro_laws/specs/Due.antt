-- What is due of a list of stages where something is remembered.
--     Standing                          what stands, what the cache holds and what the lock remembers
--     due flags effect stages st        the choices along the order, each with its job: up to a stage of which something can't be
--                                       seen, or a run that is refused
--     fault_of flags effect stages st   the refusal that is due, if there is one
--     report, jobs                      the lines of what is due, and the jobs that it has run
-- A turn leaves the values that it makes: a run those of the effect, a restore those of the cache. After a skip and a run the objects
-- of the cached outputs are there. After a run and a restore the lock has the stage's entry.
use Rattle.std.specs.Prelude.{ℕ, List, [], ◌∷◌, ◌++◌, Option, Some, None, is_some, option_map, Result, Ok, Err, codes, if◌then◌else◌}
use Rattle.std.specs.List.{flat_map}
use Rattle.dvc_base.specs.Path.{Path}
use Rattle.dvc_base.specs.declared.data.ParamFile.{ParamFile}
use Rattle.dvc_base.specs.declared.fault.Fault.{Fault}
use Rattle.world_api.specs.Tree.{Tree, Value, value_at}
use Rattle.world_api.specs.Effect.{Effect}
use Rattle.world_api.specs.declared.job.Job.{Job}
use Rattle.file_hash.specs.Naming.{named_of}
use Rattle.lock_files.specs.declared.entry.Entry.{Entry}
use Rattle.lock_files.specs.declared.entry.PathEntry.{PathEntry}
use Rattle.lock_files.specs.Book.{Lock, set}
use Rattle.change_check.specs.Same.{told_of, is_named}
use Rattle.repro_laws.specs.Stage.{params_at, job_with, stage_outs}
use Rattle.repro_laws.specs.Anew.{without, put_value, anew_step}
use Rattle.repro_laws.specs.Entries.{seen_at, entry_at}
use Rattle.repro_laws.specs.Stored.{Objects, Stored, stored_in, held_value, with_objects}
use Rattle.repro_laws.specs.Choices.{choice_of}
use Rattle.repro_laws.specs.Refusals.{first_fault, see_fault, run_fault}
use Rattle.repro_laws.specs.declared.stage.Out.{Out}
use Rattle.repro_laws.specs.declared.stage.Stage.{Stage}
use Rattle.repro_laws.specs.declared.stage.Flags.{Flags}
use Rattle.repro_laws.specs.declared.stage.Choice.{Choice}
use Rattle.repro_laws.specs.declared.stage.Choice.TheVariants.{Skip, Restore, Run}

pub record Standing : Type 0 where
  pub tree : Tree
  pub stored : Stored
  pub lock : Lock

abbrev pub standing_of : Tree → Lock → Standing
standing_of t lock = record { tree = t; stored = stored_in t; lock = lock }

-- a stage's turn that is due
pub record Due : Type 0 where
  pub stage : Stage
  pub choice : Choice
  pub job : Job

abbrev pub choice_at : Flags → Stage → List ParamFile → Standing → Choice × Option Entry
choice_at flags s ps st = choice_of flags s (seen_at s ps st.tree) st.stored st.lock

-- ---- what a turn leaves

abbrev pub with_outs : Tree → List Out → Objects → Objects
with_outs t [] objects = objects
with_outs t (o ∷ os) objects = with_outs t os (if o.cached then with_objects (value_at t o.path) objects else objects)

abbrev pub with_stored : Stage → Tree → Stored → Stored
with_stored s t stored = record stored { objects = with_outs t s.made stored.objects }

abbrev pub with_entry : Lock → List ℕ → Option Entry → Lock
with_entry lock name None = lock
with_entry lock name (Some entry) = set lock name entry

abbrev pub after_skip : Stage → Standing → Standing
after_skip s st = record st { stored = with_stored s st.tree st.stored }

abbrev pub after_run : Stage → List ParamFile → Standing → Tree → Standing
after_run s ps st t = record {
  tree = t;
  stored = with_stored s t st.stored;
  lock = with_entry st.lock s.name (entry_at s ps t);
}

-- a run makes the outputs anew; none where it is refused
abbrev pub run_next : Effect → Stage → List ParamFile → Standing → Option Standing
run_next effect s ps st =
    if is_some (run_fault effect s ps st.tree) then None
    else option_map (after_run s ps st) (anew_step effect s (without st.tree (stage_outs s)))

abbrev pub with_value : Tree → Path → Option Value → Tree
with_value t p None = t
with_value t p (Some v) = put_value (without t (p ∷ [])) p v

-- an output that has the entry's name stays, and any other comes from the cache
abbrev pub with_restored : Objects → List Out → List PathEntry → Tree → Tree
with_restored objects (o ∷ os) (e ∷ es) t =
    with_restored objects os es
    (if is_named (told_of e) (named_of (value_at t o.path)) then t else with_value t o.path (held_value objects e.name))
with_restored objects _ _ t = t

abbrev pub after_restore : Stage → List ParamFile → Standing → Tree → Standing
after_restore s ps st t = record st { tree = t; lock = with_entry st.lock s.name (entry_at s ps t) }

abbrev pub restore_next : Stage → List ParamFile → Standing → Option Entry → Option Standing
restore_next s ps st None = None
restore_next s ps st (Some e) = Some (after_restore s ps st (with_restored st.stored.objects s.made e.outs st.tree))

abbrev pub standing_next : Effect → Stage → List ParamFile → Choice × Option Entry → Standing → Option Standing
standing_next effect s ps (Skip, from) st = Some (after_skip s st)
standing_next effect s ps (Restore, from) st = restore_next s ps st from
standing_next effect s ps (Run, from) st = run_next effect s ps st

-- ---- what is due

abbrev pub params_or_none : Result (List ParamFile) Fault → List ParamFile
params_or_none (Ok ps) = ps
params_or_none (Err fault) = []

abbrev pub params_in : Stage → Standing → List ParamFile
params_in s st = params_or_none (params_at s st.tree)

abbrev pub chosen_in : Flags → Stage → Standing → Choice × Option Entry
chosen_in flags s st = choice_at flags s (params_in s st) st

abbrev pub next_in : Flags → Effect → Stage → Standing → Option Standing
next_in flags effect s st = standing_next effect s (params_in s st) (chosen_in flags s st) st

-- what is due of the stages that follow one, where it leaves them
abbrev pub following : {A : Type 0} → (Standing → A) → A → Option Standing → A
following rest none None = none
following rest none (Some st) = rest st

abbrev pub due_in : Flags → Stage → Standing → Due
due_in flags s st = record { stage = s; choice = (chosen_in flags s st).0; job = job_with s (params_in s st) }

abbrev pub due : Flags → Effect → List Stage → Standing → List Due
due flags effect [] st = []
due flags effect (s ∷ ss) st =
    if is_some (see_fault s st.tree) then []
    else due_in flags s st ∷ following (due flags effect ss) [] (next_in flags effect s st)

-- only a run can be refused once it is chosen
abbrev pub choice_fault : Effect → Stage → List ParamFile → Choice → Tree → Option Fault
choice_fault effect s ps Run t = run_fault effect s ps t
choice_fault effect s ps _ t = None

abbrev pub turn_fault : Flags → Effect → Stage → Standing → Option Fault
turn_fault flags effect s st =
    first_fault (see_fault s st.tree) (choice_fault effect s (params_in s st) (chosen_in flags s st).0 st.tree)

abbrev pub fault_of : Flags → Effect → List Stage → Standing → Option Fault
fault_of flags effect [] st = None
fault_of flags effect (s ∷ ss) st =
    first_fault (turn_fault flags effect s st) (following (fault_of flags effect ss) None (next_in flags effect s st))

-- ---- lines and jobs

-- a line for each command
abbrev pub command_lines : List (List ℕ) → List ℕ
command_lines [] = []
command_lines (command ∷ commands) = codes "> " ++ command ++ codes "\n" ++ command_lines commands

abbrev pub lines_of : Stage → Choice → List ℕ
lines_of s Skip = codes "Stage '" ++ s.name ++ codes "' didn't change, skipping\n"
lines_of s Restore = codes "Stage '" ++ s.name ++ codes "' is cached - skipping run, checking out outputs\n"
lines_of s Run = codes "Running stage '" ++ s.name ++ codes "':\n" ++ command_lines s.commands

abbrev pub report : List Due → List ℕ
report ds = flat_map (λ d. lines_of d.stage d.choice) ds

abbrev pub jobs_of_choice : Choice → Job → List Job
jobs_of_choice Run job = job ∷ []
jobs_of_choice _ job = []

abbrev pub jobs_of : Due → List Job
jobs_of d = jobs_of_choice d.choice d.job

abbrev pub jobs : List Due → List Job
jobs ds = flat_map jobs_of ds
