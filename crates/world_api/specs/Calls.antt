-- What each call of the traits does, relative to its start.
use Rattle.std.specs.Prelude.{◌≡◌, ◌≢◌, ◌⊎◌, ℕ, ℤ, pos, ◌-◌, ◌≤◌, Bool, true, false, ◌&&◌, not, List, [], ◌∷◌, ◌++◌, length, take, drop, map, Option, Some, None, IfSome, Result, Ok, Err, is_ok, ◌==◌, ⊤}
use Rattle.std.specs.List.{list_all, AllByRecursion}
use Rattle.std.specs.Ordering.{nat_cmp, is_lt}
use Rattle.std.specs.Cmp.Lexicographic.{slice_cmp}
use Rattle.dvc_base.specs.Path.{Path, under, overlap}
use Rattle.dvc_base.specs.Normal.{IsNormal}
use Rattle.dvc_base.specs.Join.{join}
use Rattle.world_api.specs.Tree.{Tree, Item, folder, file, Value, item_at, value_at}
use Rattle.world_api.specs.Effect.{Outcome, fails, gives, out_paths, invocation_of, is_in_any}
use Rattle.world_api.specs.History.{Moment, IsFirm, Stays, itself, ran_too, KeepsPaths, Keeps}
use Rattle.world_api.specs.declared.files.Kind.{Kind}
use Rattle.world_api.specs.declared.files.Kind.TheVariants.{Missing, File, Folder}
use Rattle.world_api.specs.declared.job.Job.{Job}

-- what `kind` answers of what stands there
abbrev pub kind_of : Option Item → Kind
kind_of None = Missing
kind_of (Some folder) = Folder
kind_of (Some (file bytes)) = File (length bytes)

-- a file stands at the path
abbrev pub IsFileAt : Tree → Path → Type 0
IsFileAt t p = (bytes : List ℕ) × (item_at t p ≡ Some (file bytes))

-- count bytes of a file, from an offset on, were put at the front of a buffer: none only at the end
pub record IsRead (bytes : List ℕ) (from : ℕ) (old new : List ℕ) (count : ℕ) : Type 0 where
  pub there : count ≤ length bytes - from
  pub put : new ≡ take count (drop from bytes) ++ drop count old
  pub none : count ≡ 0 → (length bytes ≤ from) ⊎ (length old ≡ 0)

-- the same, of whatever stands at the path
abbrev pub ReadsFrom : Option Item → ℕ → List ℕ → List ℕ → ℕ → Type 0
ReadsFrom (Some (file bytes)) from old new count = IsRead bytes from old new count
ReadsFrom _ from old new count = ⊤

-- names of members: each may be a component, and they rise in the order of their bytes
abbrev pub are_rising : List (List ℕ) → Bool
are_rising [] = true
are_rising (a ∷ []) = true
are_rising (a ∷ b ∷ cs) = is_lt (slice_cmp nat_cmp a b) && are_rising (b ∷ cs)

pub record AreNames (names : List (List ℕ)) : Type 0 where
  pub each : IsNormal names
  pub rise : are_rising names ≡ true

-- after a clear: nothing stands at or below the path, and that is on the disk
pub record IsCleared (at : Path) (n : Moment) : Type 0 where
  pub gone : (p : Path) → under at p ≡ true → item_at n.tree p ≡ None
  pub settled : IsFirm at n

-- during a clear: each path at or below is old or missing, and all else is as before
pub record InClear (at : Path) (m n : Moment) : Type 0 where
  pub old_or_missing : (p : Path) → under at p ≡ true → (item_at n.tree p ≡ item_at m.tree p) ⊎ (item_at n.tree p ≡ None)
  pub firm : (p : Path) → under at p ≡ true → m.loose p ≡ false → n.loose p ≡ false
  pub others : Keeps (under at) m n

-- a text that names a path from the folder
abbrev pub is_path : Path → List ℕ → Bool
is_path dir text = is_ok (join dir text)

-- a path that isn't the root and overlaps none of the others
abbrev pub is_apart : Path → List Path → Bool
is_apart p [] = not (length p == 0)
is_apart p (q ∷ qs) = not (overlap p q) && is_apart p qs

-- no output is the root, and no two of them overlap
abbrev pub are_apart : List Path → Bool
are_apart [] = true
are_apart (p ∷ ps) = is_apart p ps && are_apart ps

-- what a job's texts must be for it to be run: paths from its folder, the outputs apart
abbrev pub is_runnable : Job → Bool
is_runnable job = list_all (is_path job.dir) job.deps && list_all (is_path job.dir) job.outs && are_apart (out_paths job)

-- the folder above a path
abbrev pub parent : Path → Path
parent p = take (length p - 1) p

-- what must stand for a job to be run: its folder, and the folder above each output
pub record HasFolders (job : Job) (t : Tree) : Type 0 where
  pub dir : item_at t job.dir ≡ Some folder
  pub above : AllByRecursion (λ out. item_at t (parent out) ≡ Some folder) (out_paths job)

-- what a run's code and the values that it left have to do with the effect
abbrev pub Meets : Outcome → ℤ → List Value → Type 0
Meets (fails code) exit values = (code ≢ pos 0) × (exit ≡ code)
Meets (gives wanted) exit values = (exit ≡ pos 0) × (values ≡ wanted)

-- the outputs may be lost in a stop
abbrev pub HasLooseOuts : Job → Moment → Type 0
HasLooseOuts job n = (p : Path) → is_in_any (out_paths job) p ≡ true → n.loose p ≡ true

abbrev pub nowhere : Path → Bool
nowhere p = false

-- after a run: the job is among those that ran, and its outputs are loose, and the effect's
pub record IsRun (job : Job) (exit : ℤ) (m n : Moment) : Type 0 where
  pub ran : Stays (ran_too job) m.aside n.aside
  pub loose : HasLooseOuts job n
  pub outcome : IfSome m.aside.fixed.effect (λ effect.
      Meets (effect (invocation_of job m.tree)) exit (map (value_at n.tree) (out_paths job)))

-- during a run: nothing was touched yet, or the outputs are loose and hold anything; all else is as before
pub record InRun (job : Job) (m n : Moment) : Type 0 where
  pub others : KeepsPaths (is_in_any (out_paths job)) m n
  pub outs : KeepsPaths nowhere m n ⊎ HasLooseOuts job n
  pub aside : Stays itself m.aside n.aside ⊎ Stays (ran_too job) m.aside n.aside

-- bytes that were put: all of them after Ok, else a front of them
abbrev pub Takes : {T E : Type 0} → List ℕ → List ℕ → List ℕ → Result T E → Type 0
Takes old bytes new (Ok done) = new ≡ old ++ bytes
Takes old bytes new (Err why) = (front : List ℕ) × (back : List ℕ) × (bytes ≡ front ++ back) × (new ≡ old ++ front)
