-- What a walk over a workspace has met, step by step.
--     Walks es old new      a walk has gone over these entries of a tree, and passed no limit
--     Passes es old         the entries pass the limit, where a walk has met this before
--     IsMet m               what was met is of the kind that is looked for, over any world
--     IsVisit ..            one name of a folder: what stands there was met, and a folder is answered
use Rattle.std.specs.Prelude.{◌≡◌, ℕ, ◌+◌, ◌<◌, ◌≤◌, true, List, [], ◌∷◌, ◌++◌, length, Option, Some, None, ⊤}
use Rattle.std.specs.List.{AllByRecursion}
use Rattle.dvc_base.specs.Path.{Path, joined}
use Rattle.dvc_base.specs.Limits.{limit_of}
use Rattle.dvc_base.specs.declared.limits.What.{What}
use Rattle.dvc_base.specs.declared.limits.What.TheVariants as w
use Rattle.world_api.specs.Tree.{Item, folder, file}
use Rattle.dvc_base.specs.declared.fault.Fault.{Fault}
use Rattle.dvc_base.specs.declared.fault.Fault.TheVariants as f
use Rattle.file_hash.specs.Listing.{in_order}
use Rattle.workspace_files.specs.Walk.{is_left_out, is_ignore_path, is_track_path, is_before, paths_with, seen_in}
use Rattle.workspace_files.specs.declared.search.Found.{Found}
use Rattle.workspace_files.specs.declared.walk.Met.{Met}
use Rattle.workspace_files.specs.declared.walk.WalkFault.{WalkFault}
use Rattle.workspace_files.specs.declared.walk.WalkFault.TheVariants.{LongPath, ManyPaths, Failed, NoMemory}

pub record Walks (es : List (Path × Item)) (old new : Met) : Type 0 where
  pub within : new.seen ≤ limit_of w.Paths
  pub seen : new.seen ≡ old.seen + seen_in es
  pub ignores : new.ignores ≡ old.ignores ++ paths_with is_ignore_path es
  pub tracks : new.tracks ≡ old.tracks ++ paths_with is_track_path es

abbrev pub Passes : List (Path × Item) → Met → Type 0
Passes es old = limit_of w.Paths < old.seen + seen_in es

-- a walk that began with these is refused where the entries pass the limit
abbrev pub IsRefusal : List (Path × Item) → Met → WalkFault → Type 0
IsRefusal es old LongPath = ⊥
IsRefusal es old ManyPaths = Passes es old
IsRefusal es old fault = ⊤

-- a failure that has nothing to do with paths
abbrev pub IsFree : WalkFault → Type 0
IsFree LongPath = ⊥
IsFree ManyPaths = ⊥
IsFree fault = ⊤

pub record IsMet (m : Met) : Type 0 where
  pub within : m.seen ≤ limit_of w.Paths
  pub few : length m.tracks ≤ m.seen
  pub ignores : AllByRecursion (λ p. is_ignore_path p ≡ true) m.ignores
  pub tracks : AllByRecursion (λ p. is_track_path p ≡ true) m.tracks

-- before a walk
abbrev pub nothing_met : Met
nothing_met = record { ignores = []; tracks = []; seen = 0 }

-- ---- one name

-- the entry at a path, where something stands there
abbrev pub entry_at : Path → Option Item → List (Path × Item)
entry_at q None = []
entry_at q (Some item) = (q, item) ∷ []

-- a path that no workspace has
abbrev pub IsLong : Path → Type 0
IsLong q = limit_of w.Path < length (joined q)

-- a folder that isn't answered is one that is left out
abbrev pub IsNext : Path → Option Item → Option Path → Type 0
IsNext q item (Some inner) = item ≡ Some folder
IsNext q (Some folder) None = is_left_out q ≡ true
IsNext q item None = ⊤

pub record IsVisit (q : Path) (item : Option Item) (old new : Met) (inner : Option Path) : Type 0 where
  pub walked : Walks (entry_at q item) old new
  pub next : IsNext q item inner

abbrev pub IsVisitFault : Path → Option Item → Met → WalkFault → Type 0
IsVisitFault q item old LongPath = IsLong q
IsVisitFault q item old ManyPaths = Passes (entry_at q item) old
IsVisitFault q item old fault = ⊤

-- a path, and why it isn't had
abbrev pub IsLongFault : Path → WalkFault → Type 0
IsLongFault q LongPath = IsLong q
IsLongFault q fault = fault ≡ NoMemory

-- one path more is seen
pub record IsCounted (old new : Met) : Type 0 where
  pub within : new.seen ≤ limit_of w.Paths
  pub seen : new.seen ≡ old.seen + 1
  pub ignores : new.ignores ≡ old.ignores
  pub tracks : new.tracks ≡ old.tracks

abbrev pub IsCountFault : Met → WalkFault → Type 0
IsCountFault old ManyPaths = limit_of w.Paths ≤ old.seen
IsCountFault old fault = ⊥

-- a file is met, whatever it holds
pub record IsAdded (q : Path) (old new : Met) : Type 0 where
  pub walked : (bytes : List ℕ) → Walks ((q, file bytes) ∷ []) old new

abbrev pub IsAddFault : Met → WalkFault → Type 0
IsAddFault old NoMemory = ⊤
IsAddFault old fault = IsCountFault old fault

-- the folder that is to be walked is the one that was visited
abbrev pub IsInner : Path → Path → Type 0
IsInner q inner = (inner ≡ q) × (length q ≤ 1024)

-- ---- what is answered

abbrev pub found_of : Met → Found
found_of m = record { ignores = in_order is_before m.ignores; tracks = in_order is_before m.tracks }

abbrev pub too_large : What → Fault
too_large what = f.TooLarge what (limit_of what)

abbrev pub fault_of : WalkFault → Fault
fault_of LongPath = too_large w.Path
fault_of ManyPaths = too_large w.Paths
fault_of Failed = f.WorldFault
fault_of NoMemory = f.NoMemory
