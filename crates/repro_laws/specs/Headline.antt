-- The headline of stages with a lock: after any mix of skips and runs the outputs and the lock are those of running every stage anew.
--     IsOwn own                      an area that the tool may keep for itself
--     IsPlanned own stages           what stages in their order have to be, in every tree
--     Covers book t s                the values that a stage reads and writes are the book's
--     LeavesAnew                     outputs, lock and other paths are as after running every stage anew
--     Headline, Front                the laws: of all stages, and of a front of them that has had its turns
use Rattle.std.specs.Prelude.{◌≡◌, Bool, true, false, not, ◌&&◌, ◌||◌, List, [], ◌∷◌, ◌++◌, map, Some, None, Ok}
use Rattle.std.specs.List.{AllByRecursion, flat_map, list_any}
use Rattle.dvc_base.specs.Path.{Path, under, overlap, is_within}
use Rattle.dvc_base.specs.declared.data.ParamFile.{ParamFile}
use Rattle.world_api.specs.Tree.{Tree, IsTree, value_at}
use Rattle.world_api.specs.Effect.{Effect, is_in_any}
use Rattle.world_api.specs.History.{Book}
use Rattle.world_api.specs.Calls.{are_apart}
use Rattle.lock_files.specs.Book.{Lock}
use Rattle.repro_laws.specs.Stage.{read_paths, stage_outs, params_at, IsStage}
use Rattle.repro_laws.specs.Anew.{anew}
use Rattle.repro_laws.specs.Book.{IsCovered}
use Rattle.repro_laws.specs.Lock.{is_among, others_of, IsTruthful, HasEntry}
use Rattle.repro_laws.specs.Due.{Due, standing_of, choice_at, due, fault_of}
use Rattle.repro_laws.specs.Turns.{State, Turns, stages_of, is_way, IsLeftAt}
use Rattle.repro_laws.specs.declared.stage.Stage.{Stage}
use Rattle.repro_laws.specs.declared.stage.Flags.{Flags}
use Rattle.repro_laws.specs.declared.stage.Choice.TheVariants.{Skip}

-- ---- plans

-- the tool's own paths: what lies below one of them is one as well, and the root is none
pub record IsOwn (own : Path → Bool) : Type 0 where
  pub below : (q p : Path) → own q ≡ true → under q p ≡ true → own p ≡ true
  pub root : own [] ≡ false

-- nothing that a stage reads overlaps an output of it, or of a later one
abbrev pub is_ordered : List Stage → Bool
is_ordered [] = true
is_ordered (s ∷ ss) =
    not (list_any (λ p. list_any (overlap p) (flat_map stage_outs (s ∷ ss))) (read_paths s)) && is_ordered ss

-- no two stages share a name
abbrev pub have_names : List Stage → Bool
have_names [] = true
have_names (s ∷ ss) = not (is_among (map (λ x. x.name) ss) s.name) && have_names ss

-- none of the tool's own stands at the path or below it
abbrev pub IsApart : (Path → Bool) → Path → Type 0
IsApart own p = (q : Path) → under p q ≡ true → own q ≡ false

pub record IsKept (own : Path → Bool) (s : Stage) : Type 0 where
  pub dir : own s.dir ≡ false
  pub reads : AllByRecursion (IsApart own) (read_paths s)
  pub outs : AllByRecursion (IsApart own) (stage_outs s)

-- it is told of each dependency whether it lies inside an output of one of the stages
abbrev pub AreMarked : List Stage → Stage → Type 0
AreMarked stages s = AllByRecursion (λ d. d.inside ≡ list_any (is_within d.path) (flat_map stage_outs stages)) s.deps

pub record IsPlanned (own : Path → Bool) (stages : List Stage) : Type 0 where
  pub each : AllByRecursion IsStage stages
  pub names : have_names stages ≡ true
  pub order : is_ordered stages ≡ true
  pub apart : are_apart (flat_map stage_outs stages) ≡ true
  pub kept : AllByRecursion (IsKept own) stages
  pub marked : AllByRecursion (AreMarked stages) stages

-- ---- what was met

pub record Covers (book : Book) (t : Tree) (s : Stage) : Type 0 where
  pub reads : AllByRecursion (λ p. IsCovered book (value_at t p)) (read_paths s)
  pub outs : AllByRecursion (λ p. IsCovered book (value_at t p)) (stage_outs s)

-- the book has what the stages read and wrote whose turns have ended
abbrev pub IsMet : Book → List Stage → State → Type 0
IsMet book stages n = AllByRecursion (λ s. HasEntry n.lock n.tree s → Covers book n.tree s) stages

-- ---- the headline

abbrev pub is_any_way : List Stage → Path → Bool
is_any_way stages p = list_any (λ s. is_way s p) stages

pub record LeavesAnew (own : Path → Bool) (effect : Effect) (stages : List Stage) (old new : State) : Type 0 where
  pub tree : Tree
  pub anew : anew effect stages old.tree ≡ Some tree
  pub outputs : AllByRecursion (λ out. value_at new.tree out ≡ value_at tree out) (flat_map stage_outs stages)
  pub entries : AllByRecursion (HasEntry new.lock tree) stages
  pub other_entries : others_of (map (λ s. s.name) stages) new.lock ≡ others_of (map (λ s. s.name) stages) old.lock
  pub others : (p : Path) → is_in_any (flat_map stage_outs stages) p ≡ false → own p ≡ false → IsLeftAt (is_any_way stages) old.tree new.tree p

-- after the turns of all stages
pub record IsHeadline (own : Path → Bool) (flags : Flags) (book : Book) (effect : Effect) (ds : List Due) (old new : State) : Type 0 where
  pub anew : LeavesAnew own effect (stages_of ds) old new
  pub truthful : IsTruthful book effect new.lock
  pub due : ds ≡ due flags effect (stages_of ds) (standing_of old.tree old.lock)
  pub fault : fault_of flags effect (stages_of ds) (standing_of old.tree old.lock) ≡ None

-- what the laws ask of the turns
pub record IsGiven (own : Path → Bool) (flags : Flags) (book : Book) (effect : Effect) (ds : List Due) (others : List Stage) (old new : State) : Type 0 where
  pub area : IsOwn own
  pub planned : IsPlanned own (stages_of ds ++ others)
  pub stands : IsTree old.tree
  pub truthful : IsTruthful book effect old.lock
  pub turns : Turns own flags effect ds old new
  pub met : IsMet book (stages_of ds) new
  -- nothing is restored yet
  pub no_restore : flags.run_cache ≡ false

abbrev pub Headline : Type 0
Headline =
    (own : Path → Bool) (flags : Flags) (book : Book) (effect : Effect) (ds : List Due) (old new : State)
    → IsGiven own flags book effect ds [] old new
    → IsHeadline own flags book effect ds old new

-- a front of the stages has had its turns: what is due of all is what was met, and then what is due of the others where things
-- stand
pub record IsFront (own : Path → Bool) (flags : Flags) (book : Book) (effect : Effect) (ds : List Due) (others : List Stage) (old new : State) : Type 0 where
  pub due : due flags effect (stages_of ds ++ others) (standing_of old.tree old.lock) ≡ ds ++ due flags effect others (standing_of new.tree new.lock)
  pub fault : fault_of flags effect (stages_of ds ++ others) (standing_of old.tree old.lock) ≡ fault_of flags effect others (standing_of new.tree new.lock)
  pub truthful : IsTruthful book effect new.lock

abbrev pub Front : Type 0
Front =
    (own : Path → Bool) (flags : Flags) (book : Book) (effect : Effect) (ds : List Due) (others : List Stage) (old new : State)
    → IsGiven own flags book effect ds others old new
    → IsFront own flags book effect ds others old new

-- a skip is chosen exactly where nothing is forced, the stage doesn't always count as changed, and the lock has its present entry
abbrev pub SkipIsExact : Type 0
SkipIsExact =
    (flags : Flags) (s : Stage) (ps : List ParamFile) (t : Tree) (lock : Lock)
    → IsStage s
    → params_at s t ≡ Ok ps
    → ((choice_at flags s ps (standing_of t lock)).0 ≡ Skip → ((flags.force || s.always) ≡ false) × HasEntry lock t s)
    × ((flags.force || s.always) ≡ false → HasEntry lock t s → (choice_at flags s ps (standing_of t lock)).0 ≡ Skip)
