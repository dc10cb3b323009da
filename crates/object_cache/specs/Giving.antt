-- What may be touched while one file is put at a path from a lane, in each moment.
--     IsGivingWay p m n       a folder at the path gives way
--     InGive at given m n     the path is as it was, or gives way, or is a new file with the bytes given
use Rattle.std.specs.Prelude.{◌≡◌, ◌⊎◌, ℕ, Bool, true, false, ◌||◌, List, Option, Some, None}
use Rattle.dvc_base.specs.Path.{Path, under}
use Rattle.world_api.specs.Tree.{item_at}
use Rattle.world_api.specs.History.{Moment, Keeps}
use Rattle.world_api.specs.Layout.{dvc_path}
use Rattle.world_api.specs.Writes.{IsMade, IsSameUnder, IsNewFile, IsFolderAt, in_scratch}

-- a folder gives way: what lay at or below the path is as it was, or gone
pub record IsGivingWay (p : Path) (m n : Moment) : Type 0 where
  pub stood : IsFolderAt m.tree p
  pub gone : (q : Path) → under p q ≡ true → (item_at n.tree q ≡ item_at m.tree q) ⊎ (item_at n.tree q ≡ None)
  pub firm : (q : Path) → under p q ≡ true → m.loose q ≡ false → n.loose q ≡ false

abbrev pub IsGivenFile : Path → Option (List ℕ) → Moment → Type 0
IsGivenFile at None n = ⊥
IsGivenFile at (Some bytes) n = IsNewFile at bytes n

-- what is at, below or above the path, the lanes, and the folder above them
abbrev pub in_give : Path → Path → Bool
in_give at p = in_scratch p || (under at p || under p at)

-- the folders above the path, and that of the lanes, were made where they were missing; all else is as it was
pub record InGive (at : Path) (given : Option (List ℕ)) (m n : Moment) : Type 0 where
  pub path : IsSameUnder at m n ⊎ (IsGivenFile at given n ⊎ IsGivingWay at m n)
  pub road : (q : Path) → under q at ≡ true → under at q ≡ false → IsMade q m n
  pub dvc : IsMade dvc_path m n
  pub others : Keeps (in_give at) m n
