-- What the writing calls do, relative to their start. A lane is a file below `.dvc/tmp`, in which new bytes stand until they are published at their path.
--     InBegin, InAppend, InSettle, InPublish             each moment of a call
--     IsBegun, IsAppended, IsSettled, IsPublished        what Ok leaves
--     InMakeFolder                                       each moment while a folder and those above it are made
--     InScratch                                          while nothing has been published
--     InWrite                                            while a file's bytes are put in place of what stood there
-- A lane holds anything after a call on it that failed, so no clause speaks of it there.
use Rattle.std.specs.Prelude.{◌≡◌, ◌≢◌, ◌⊎◌, ℕ, Bool, true, false, ◌&&◌, ◌||◌, List, [], ◌++◌, Some, None}
use Rattle.dvc_base.specs.Path.{Path, under}
use Rattle.world_api.specs.Tree.{Tree, folder, file, item_at}
use Rattle.world_api.specs.History.{Moment, IsLoose, IsFirm, Keeps}
use Rattle.world_api.specs.Calls.{IsFileAt, parent}
pub use Rattle.world_api.specs.Layout.{dvc_path, tmp_path, lane_path}

-- just the path q
abbrev pub is_at : Path → Path → Bool
is_at q p = under q p && under p q

-- ---- states of a path

-- as it was
pub record IsSameAt (q : Path) (m n : Moment) : Type 0 where
  pub item : item_at n.tree q ≡ item_at m.tree q
  pub loose : n.loose q ≡ m.loose q

pub record IsSameUnder (q : Path) (m n : Moment) : Type 0 where
  pub items : (p : Path) → under q p ≡ true → item_at n.tree p ≡ item_at m.tree p
  pub loose : (p : Path) → under q p ≡ true → n.loose p ≡ m.loose p

-- a folder that is on the disk
pub record IsNewFolder (q : Path) (n : Moment) : Type 0 where
  pub stands : item_at n.tree q ≡ Some folder
  pub firm : n.loose q ≡ false

-- a file of these bytes that is on the disk whole
pub record IsNewFile (q : Path) (bytes : List ℕ) (n : Moment) : Type 0 where
  pub stands : item_at n.tree q ≡ Some (file bytes)
  pub firm : IsFirm q n

-- as it was, or a folder where nothing stood
abbrev pub IsMade : Path → Moment → Moment → Type 0
IsMade q m n = IsSameAt q m n ⊎ ((item_at m.tree q ≡ None) × IsNewFolder q n)

-- as it was, or a folder in place of a file or of nothing, or nothing in place of a file
abbrev pub IsRemade : Path → Moment → Moment → Type 0
IsRemade q m n = IsSameAt q m n ⊎ ((item_at m.tree q ≢ Some folder) × ((item_at n.tree q ≡ None) ⊎ IsNewFolder q n))

-- ---- conditions

abbrev pub IsNoFileAt : Tree → Path → Type 0
IsNoFileAt t q = (bytes : List ℕ) → item_at t q ≢ Some (file bytes)

-- a file may be put at the path
pub record HasRoom (at : Path) (t : Tree) : Type 0 where
  pub above : item_at t (parent at) ≡ Some folder
  pub no_folder : item_at t at ≢ Some folder

-- a lane that may be published
pub record IsFirmLane (lane : ℕ) (m : Moment) : Type 0 where
  pub stands : IsFileAt m.tree (lane_path lane)
  pub firm : IsFirm (lane_path lane) m

-- ---- the calls

abbrev pub in_begin : ℕ → Path → Bool
in_begin lane p = is_at dvc_path p || is_at tmp_path p || under (lane_path lane) p

pub record InBegin (lane : ℕ) (m n : Moment) : Type 0 where
  pub dvc : IsMade dvc_path m n
  pub tmp : IsRemade tmp_path m n
  pub others : Keeps (in_begin lane) m n

pub record IsBegun (lane : ℕ) (n : Moment) : Type 0 where
  pub empty : item_at n.tree (lane_path lane) ≡ Some (file [])
  pub loose : IsLoose (lane_path lane) n

pub record InAppend (lane : ℕ) (m n : Moment) : Type 0 where
  pub others : Keeps (under (lane_path lane)) m n

pub record IsAppended (lane : ℕ) (bytes : List ℕ) (m n : Moment) : Type 0 where
  pub grown : (old : List ℕ) → item_at m.tree (lane_path lane) ≡ Some (file old)
      → item_at n.tree (lane_path lane) ≡ Some (file (old ++ bytes))
  pub loose : IsLoose (lane_path lane) n

pub record InSettle (lane : ℕ) (m n : Moment) : Type 0 where
  pub others : Keeps (under (lane_path lane)) m n

pub record IsSettled (lane : ℕ) (m n : Moment) : Type 0 where
  pub same : item_at n.tree (lane_path lane) ≡ item_at m.tree (lane_path lane)
  pub firm : IsFirm (lane_path lane) n

-- the lane's bytes stand at the path
abbrev pub IsMoved : ℕ → Path → Moment → Moment → Type 0
IsMoved lane at m n = (bytes : List ℕ) → item_at m.tree (lane_path lane) ≡ Some (file bytes) → IsNewFile at bytes n

abbrev pub in_publish : ℕ → Path → Path → Bool
in_publish lane at p = under (lane_path lane) p || under at p

pub record InPublish (lane : ℕ) (at : Path) (m n : Moment) : Type 0 where
  pub path : IsSameUnder at m n ⊎ IsMoved lane at m n
  pub others : Keeps (in_publish lane at) m n

pub record IsPublished (lane : ℕ) (at : Path) (m n : Moment) : Type 0 where
  pub moved : IsMoved lane at m n
  pub gone : (p : Path) → under (lane_path lane) p ≡ true → item_at n.tree p ≡ None

-- ---- folders

-- no file stands at the path or above it
abbrev pub HasRoad : Path → Tree → Type 0
HasRoad at t = (q : Path) → under q at ≡ true → IsNoFileAt t q

abbrev pub IsFolderAt : Tree → Path → Type 0
IsFolderAt t at = item_at t at ≡ Some folder

-- the path and each one above it are as they were, or are folders where nothing stood
pub record InMakeFolder (at : Path) (m n : Moment) : Type 0 where
  pub road : (q : Path) → under q at ≡ true → IsMade q m n
  pub others : Keeps (λ q. under q at) m n

-- ---- calls in a row

-- what is at or below the folder of the lanes, and the folder above it
abbrev pub in_scratch : Path → Bool
in_scratch p = is_at dvc_path p || under tmp_path p

-- nothing but lanes was written, and the folders above them were made
pub record InScratch (m n : Moment) : Type 0 where
  pub dvc : IsMade dvc_path m n
  pub others : Keeps in_scratch m n

abbrev pub in_write : Path → Path → Bool
in_write at p = under at p || in_scratch p

-- the path is as it was, or has these bytes and is on the disk whole
pub record InWrite (at : Path) (bytes : List ℕ) (m n : Moment) : Type 0 where
  pub path : IsSameUnder at m n ⊎ IsNewFile at bytes n
  pub dvc : IsMade dvc_path m n
  pub others : Keeps (in_write at) m n

-- a path that is neither `.dvc` nor a lane's
pub record IsNoScratch (at : Path) : Type 0 where
  pub no_dvc : at ≢ dvc_path
  pub no_tmp : under tmp_path at ≡ false

-- what must stand for bytes to be written at the path
pub record CanWrite (at : Path) (t : Tree) : Type 0 where
  pub room : HasRoom at t
  pub no_file : IsNoFileAt t dvc_path
