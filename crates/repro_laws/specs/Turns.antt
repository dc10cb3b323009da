-- What turns leave of a tree and its lock.
--     Turn own flags effect d m n      the choice that is made there, and what it leaves
--     Turns own flags effect ds m n    turns one after another
--     Left own effect s m n            what each turn leaves, whatever it chose: by this alone its outputs are made anew
-- `own` are the paths that the tool keeps for itself; turns may change what stands there as well.
use Rattle.std.specs.Prelude.{◌≡◌, ◌≢◌, ◌⊎◌, ℕ, Bool, true, false, ◌||◌, List, [], ◌∷◌, map, Option, Some, None, Ok, ⊤}
use Rattle.std.specs.List.{AllByRecursion, list_any}
use Rattle.dvc_base.specs.Path.{Path, under}
use Rattle.dvc_base.specs.Name.{ObjectName}
use Rattle.dvc_base.specs.declared.data.ParamFile.{ParamFile}
use Rattle.world_api.specs.Tree.{Tree, IsTree, folder, item_at, value_at}
use Rattle.world_api.specs.Effect.{Effect, gives, invocation_of, is_in_any}
use Rattle.world_api.specs.Calls.{parent}
use Rattle.file_hash.specs.Naming.{named_of}
use Rattle.lock_files.specs.declared.entry.Entry.{Entry}
use Rattle.lock_files.specs.declared.entry.PathEntry.{PathEntry}
use Rattle.lock_files.specs.Book.{Lock, set}
use Rattle.object_cache.specs.Objects.{object_at, is_stored}
use Rattle.change_check.specs.Same.{told_of}
use Rattle.repro_laws.specs.Stage.{params_at, job_with, stage_outs}
use Rattle.repro_laws.specs.Entries.{entry_at, IsMade}
use Rattle.repro_laws.specs.Lock.{HasEntry, others_of}
use Rattle.repro_laws.specs.Refusals.{see_fault, run_fault}
use Rattle.repro_laws.specs.Due.{Due, standing_of, choice_at}
use Rattle.repro_laws.specs.declared.stage.Out.{Out}
use Rattle.repro_laws.specs.declared.stage.Stage.{Stage}
use Rattle.repro_laws.specs.declared.stage.Flags.{Flags}
use Rattle.repro_laws.specs.declared.stage.Choice.{Choice}
use Rattle.repro_laws.specs.declared.stage.Choice.TheVariants.{Skip, Restore, Run}

pub record State : Type 0 where
  pub tree : Tree
  pub lock : Lock

abbrev pub state : Tree → Lock → State
state t l = record { tree = t; lock = l }

-- ---- paths that stay

-- a folder that a turn of the stage may make: its own and those above, and those above its outputs
abbrev pub is_way : Stage → Path → Bool
is_way s p = under p s.dir || list_any (λ out. under p (parent out)) (stage_outs s)

-- as it was, or a folder where nothing stood
abbrev pub IsLeftAt : (Path → Bool) → Tree → Tree → Path → Type 0
IsLeftAt way t u p =
    (item_at u p ≡ item_at t p) ⊎ ((way p ≡ true) × ((item_at t p ≡ None) × (item_at u p ≡ Some folder)))

-- each path that is neither the tool's own nor at or below an output
abbrev pub OthersStay : (Path → Bool) → Stage → Tree → Tree → Type 0
OthersStay own s t u =
    (p : Path) → is_in_any (stage_outs s) p ≡ false → own p ≡ false → IsLeftAt (is_way s) t u p

-- ---- what each choice leaves

pub record Skips (own : Path → Bool) (s : Stage) (m n : State) : Type 0 where
  pub lock : n.lock ≡ m.lock
  pub others : (p : Path) → own p ≡ false → item_at n.tree p ≡ item_at m.tree p

-- each output has the name that its entry in a list has
abbrev pub Fit : Tree → List Out → List PathEntry → Type 0
Fit t [] [] = ⊤
Fit t (o ∷ os) (e ∷ es) = (named_of (value_at t o.path) ≡ Some (told_of e)) × Fit t os es
Fit t _ _ = ⊥

pub record Restores (own : Path → Bool) (s : Stage) (ps : List ParamFile) (from : Entry) (m n : State) : Type 0 where
  pub entry : Entry
  pub fit : Fit n.tree s.made from.outs
  pub present : entry_at s ps n.tree ≡ Some entry
  pub lock : n.lock ≡ set m.lock s.name entry
  pub others : OthersStay own s m.tree n.tree

-- a run that isn't refused leaves the effect's values at the outputs, its folder, and the lock with the stage's entry
pub record Runs (own : Path → Bool) (effect : Effect) (s : Stage) (ps : List ParamFile) (m n : State) : Type 0 where
  pub entry : Entry
  pub fault : run_fault effect s ps m.tree ≡ None
  -- what lies in an output is the commands'
  pub dir : is_in_any (stage_outs s) s.dir ≡ false → item_at n.tree s.dir ≡ Some folder
  pub values : effect (invocation_of (job_with s ps) m.tree) ≡ gives (map (value_at n.tree) (stage_outs s))
  pub present : entry_at s ps n.tree ≡ Some entry
  pub lock : n.lock ≡ set m.lock s.name entry
  pub others : OthersStay own s m.tree n.tree

abbrev pub Leaves : (Path → Bool) → Effect → Stage → List ParamFile → Choice → Option Entry → State → State → Type 0
Leaves own effect s ps Skip from m n = Skips own s m n
Leaves own effect s ps Restore None m n = ⊥
Leaves own effect s ps Restore (Some e) m n = Restores own s ps e m n
Leaves own effect s ps Run from m n = Runs own effect s ps m n

-- ---- turns

-- each cached output is whole in the cache
abbrev pub AreStored : Tree → List Out → Type 0
AreStored t outs = AllByRecursion (λ o. o.cached ≡ true → is_stored t (value_at t o.path) ≡ true) outs

pub record Turn (own : Path → Bool) (flags : Flags) (effect : Effect) (d : Due) (m n : State) : Type 0 where
  pub params : List ParamFile
  pub from : Option Entry
  pub read : params_at d.stage m.tree ≡ Ok params
  pub seen : see_fault d.stage m.tree ≡ None
  pub chosen : choice_at flags d.stage params (standing_of m.tree m.lock) ≡ (d.choice, from)
  pub job : d.job ≡ job_with d.stage params
  pub left : Leaves own effect d.stage params d.choice from m n
  pub stands : IsTree n.tree
  -- a restore takes its outputs from the cache, or leaves them as they stand
  pub stored : d.choice ≢ Restore → AreStored n.tree d.stage.made
  -- no whole object is lost
  pub kept : (name : ObjectName) (bytes : List ℕ) → object_at m.tree name ≡ Some bytes → object_at n.tree name ≡ Some bytes

abbrev pub Turns : (Path → Bool) → Flags → Effect → List Due → State → State → Type 0
Turns own flags effect [] m n = n ≡ m
Turns own flags effect (d ∷ ds) m n = (k : State) × Turn own flags effect d m k × Turns own flags effect ds k n

abbrev pub stages_of : List Due → List Stage
stages_of ds = map (λ d. d.stage) ds

-- ---- whatever was chosen

pub record Left (own : Path → Bool) (effect : Effect) (s : Stage) (m n : State) : Type 0 where
  -- what the stage reads stood there before its turn: a folder that the turn makes is no dependency
  pub seen : see_fault s m.tree ≡ None
  pub made : IsMade effect s n.tree
  pub entry : HasEntry n.lock n.tree s
  pub other_entries : others_of (s.name ∷ []) n.lock ≡ others_of (s.name ∷ []) m.lock
  pub others : OthersStay own s m.tree n.tree
  pub stands : IsTree n.tree

abbrev pub Lefts : (Path → Bool) → Effect → List Stage → State → State → Type 0
Lefts own effect [] m n = n ≡ m
Lefts own effect (s ∷ ss) m n = (k : State) × Left own effect s m k × Lefts own effect ss k n
