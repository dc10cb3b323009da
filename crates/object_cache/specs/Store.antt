-- What a call that stores or gives objects may touch, in each of its moments.
--     IsKeptPlace p m n           at an object's place: as it was, or a new object, whole and on the disk, or a folder that gives way
--     IsStoredPlace names p m n   the same, and as it was where it is the place of none of the names
--     InStore names m n           while objects of these names are stored: whole objects stay, those at other places too, and all
--                                 else but the cache's own folders and the lanes
use Rattle.std.specs.Prelude.{◌≡◌, ◌⊎◌, ◌+◌, ℕ, Bool, true, false, ◌&&◌, ◌||◌, List, [], ◌∷◌, ◌++◌, length, nat_le, codes, Some, ◌==◌}
use Rattle.std.specs.List.{list_any}
use Rattle.dvc_base.specs.Path.{Path, under, overlap}
use Rattle.world_api.specs.Layout.{tmp_path}
use Rattle.dvc_base.specs.Name.{ObjectName}
use Rattle.world_api.specs.History.{Moment, Keeps}
use Rattle.world_api.specs.Writes.{is_at, IsMade, IsSameUnder, IsNewFile, in_scratch}
use Rattle.object_cache.specs.Objects.{cache_path, object_path, has_name, object_at}
use Rattle.object_cache.specs.Giving.{IsGivingWay}

-- `.dvc/cache/files/md5`
abbrev pub shelf_path : Path
shelf_path = cache_path ++ codes "files" ∷ codes "md5" ∷ []

-- `.dvc/cache/files`
abbrev pub files_path : Path
files_path = cache_path ++ codes "files" ∷ []

-- a path that may be stored: apart from the lanes and from the objects
pub record IsOutside (at : Path) : Type 0 where
  pub no_lane : overlap at tmp_path ≡ false
  pub no_object : overlap at files_path ≡ false

-- the folder of the shelf, each one above it, and those in which objects stand
abbrev pub is_cache_folder : Path → Bool
is_cache_folder p = under p shelf_path || (under shelf_path p && (length p == length shelf_path + 1))

-- at or below an object's place
abbrev pub in_objects : Path → Bool
in_objects p = under shelf_path p && nat_le (length shelf_path + 2) (length p)

abbrev pub in_store : Path → Bool
in_store p = in_scratch p || is_cache_folder p || in_objects p

pub record IsNewObject (p : Path) (n : Moment) : Type 0 where
  pub name : ObjectName
  pub bytes : List ℕ
  pub place : p ≡ object_path name
  pub named : has_name name bytes ≡ true
  pub file : IsNewFile p bytes n

abbrev pub IsKeptPlace : Path → Moment → Moment → Type 0
IsKeptPlace p m n = IsSameUnder p m n ⊎ (IsNewObject p n ⊎ IsGivingWay p m n)

-- the object of one of the names stands at the path
abbrev pub is_place_of_any : List ObjectName → Path → Bool
is_place_of_any names p = list_any (λ name. is_at (object_path name) p) names

abbrev pub IsStoredPlace : List ObjectName → Path → Moment → Moment → Type 0
IsStoredPlace names p m n = IsSameUnder p m n ⊎ ((is_place_of_any names p ≡ true) × IsKeptPlace p m n)

pub record InStore (names : List ObjectName) (m n : Moment) : Type 0 where
  pub folders : (p : Path) → is_cache_folder p ≡ true → IsMade p m n
  pub places : (a b : List ℕ) → IsStoredPlace names (shelf_path ++ a ∷ b ∷ []) m n
  pub whole : (name : ObjectName) (bytes : List ℕ) → object_at m.tree name ≡ Some bytes → object_at n.tree name ≡ Some bytes
  pub others : Keeps in_store m n
