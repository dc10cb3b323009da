-- What a world tells: its present, its past moments, and a count of its failures.
--     Moment              the tree, which of its paths are loose, and what stands beside the tree
--     Book                contents that were met, each under its digest
--     Passes P old new    each moment from the old present to the new one has P
--     IsCaused, HasCause  a failure is blamed on the world only where the count rose
-- A stop at a moment leaves a tree that agrees with it at each path that isn't loose.
use Rattle.std.specs.Prelude.{◌≡◌, ◌⊎◌, ℕ, ◌+◌, ◌-◌, ◌^◌, ◌≤◌, min, Bool, true, false, List, [], ◌∷◌, ◌++◌, Option, Some, Result, IsErr}
use Rattle.std.specs.List.{AllByRecursion}
use Rattle.std.specs.Borrow.{GName}
use Rattle.dvc_base.specs.Path.{Path, under}
use Rattle.world_api.specs.Tree.{Tree, item_at}
use Rattle.world_api.specs.Effect.{Effect}
use Rattle.world_api.specs.declared.job.Job.{Job}

-- what calls change by themselves alone: the jobs that were run, and the effect of commands, which nothing changes
pub record Fixed : Type 0 where
  pub ran : List Job
  pub effect : Option Effect

-- the contents that were met, by their digests
abbrev pub Book : Type 0
Book = List ℕ → Option (List ℕ)

-- what is told beside the tree
pub record Aside : Type 0 where
  pub fixed : Fixed
  pub book : Book

pub record Moment : Type 0 where
  pub tree : Tree
  pub loose : Path → Bool
  pub aside : Aside

-- a stop may spoil what stands at or below the path
abbrev pub IsLoose : Path → Moment → Type 0
IsLoose q n = (p : Path) → under q p ≡ true → n.loose p ≡ true

-- a stop leaves what stands at or below the path
abbrev pub IsFirm : Path → Moment → Type 0
IsFirm q n = (p : Path) → under q p ≡ true → n.loose p ≡ false

-- the past has the newest moment first. `under` is the past of a world that this one looks through
pub record History : Type 0 where
  pub present : Moment
  pub past : List Moment
  pub under : List Moment

-- failures so far, and the objects below that count them; none in a plain world
pub record Faults : Type 0 where
  pub origin : List GName
  pub count : ℕ

-- each entry of the first book is in the second
abbrev pub Grows : Book → Book → Type 0
Grows a b = (digest bytes : List ℕ) → a digest ≡ Some bytes → b digest ≡ Some bytes

-- what stands beside the tree, after a change of it. A book may grow at any time
pub record Stays (change : Fixed → Fixed) (a b : Aside) : Type 0 where
  pub fixed : b.fixed ≡ change a.fixed
  pub book : Grows a.book b.book

abbrev pub itself : Fixed → Fixed
itself f = f

abbrev pub ran_too : Job → Fixed → Fixed
ran_too job f = record f { ran = f.ran ++ job ∷ [] }

-- nothing has changed outside an area
pub record KeepsPaths (area : Path → Bool) (m n : Moment) : Type 0 where
  pub items : (p : Path) → area p ≡ false → item_at n.tree p ≡ item_at m.tree p
  pub loose : (p : Path) → area p ≡ false → n.loose p ≡ m.loose p

pub record Keeps (area : Path → Bool) (m n : Moment) : Type 0 where
  pub paths : KeepsPaths area m n
  pub aside : Stays itself m.aside n.aside

-- each moment from the old present on has P, the new present among them. Where anything has changed, the old present is
-- the first of the moments since
pub record Passes (P : Moment → Type 0) (old new : History) : Type 0 where
  pub since : List Moment
  pub grown : new.past ≡ since ++ old.past
  pub start : (new ≡ old) ⊎ ((more : List Moment) × (since ≡ more ++ old.present ∷ []))
  pub each : AllByRecursion P since
  pub under : (more : List Moment) × (new.under ≡ more ++ old.under)
  pub now : P new.present

-- a count has risen, or stands at its end
abbrev pub Rose : ℕ → ℕ → Type 0
Rose before now = min (before + 1) (2 ^ 64 - 1) ≤ now

-- the count never falls, and has risen where the world is blamed
pub record IsCaused (before now : Faults) (blamed : Type 0) : Type 0 where
  pub same : now.origin ≡ before.origin
  pub later : before.count ≤ now.count
  pub cause : blamed → Rose before.count now.count

abbrev pub HasCause : {T E : Type 0} → Faults → Faults → Result T E → Type 0
HasCause before now result = IsCaused before now (IsErr result)
