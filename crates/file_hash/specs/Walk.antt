-- The walk over a folder, by which its files are found before any is read.
--     below p es              the entries of a tree below a path
--     walk_limit n size es    the first limit that a walk over entries passes
--     found_in at es          the files among the entries, by their paths from the folder and their sizes
--     Walks at es old new     a walk has gone over these entries, and passed no limit
--     Finds inner old new     it has found files below a path, none below another
--     AreNamed t at fs ms     each file's member has the name of the bytes that stand there
use Rattle.std.specs.Prelude.{◌≡◌, ◌⊎◌, ℕ, ◌+◌, ◌≤◌, ◌<◌, Bool, true, List, [], ◌∷◌, ◌++◌, length, drop, map, Option, Some, None, IsTrue, ⊤}
use Rattle.std.specs.List.{AllByRecursion, filter, list_any, list_all}
use Rattle.std.specs.Option.{option_or}
use Rattle.dvc_base.specs.Path.{Path, joined, under, is_within}
use Rattle.dvc_base.specs.Normal.{IsNormal}
use Rattle.dvc_base.specs.Limits.{limit_of}
use Rattle.dvc_base.specs.declared.limits.What.TheVariants as w
use Rattle.dvc_base.specs.declared.limits.What.{What}
use Rattle.world_api.specs.Tree.{Tree, Item, folder, file, item_at}
use Rattle.world_api.specs.Calls.{are_apart}
use Rattle.world_api.specs.Outside.{IsHonest}
use Rattle.file_bytes.specs.Reading.{IsTold}
use Rattle.file_hash.specs.Listing.{member_with, path_at, is_file_name, listing_of, listing_text}
use Rattle.file_hash.specs.Files.{size_of}
use Rattle.file_hash.specs.Naming.{if_over, file_limit, files_at, files_limit}
use Rattle.file_hash.specs.declared.listing.Member.{Member}
use Rattle.file_hash.specs.declared.name.Listed.{Listed}
use Rattle.file_hash.specs.declared.walk.Found.{Found}
use Rattle.file_hash.specs.declared.walk.Met.{Met}
use Rattle.file_hash.specs.declared.walk.Seen.{Seen}
use Rattle.file_hash.specs.declared.walk.Seen.TheVariants.{Nothing, File, Folder}
use Rattle.file_hash.specs.declared.fault.HashFault.{HashFault}
use Rattle.file_hash.specs.declared.fault.HashFault.TheVariants.{Missing, Changed, TooLarge, Failed, NoMemory}

-- the entries below a path, in the order of their paths
abbrev pub below : Path → List (Path × Item) → List (Path × Item)
below p es = filter (λ e. is_within e.0 p) es

-- the first limit that a walk over entries passes, which has met n files of this size together
abbrev pub walk_limit : ℕ → ℕ → List (Path × Item) → Option What
walk_limit n size [] = None
walk_limit n size ((path, folder) ∷ es) = walk_limit n size es
walk_limit n size ((path, file bytes) ∷ es) = option_or (file_limit n size (length bytes)) (walk_limit (n + 1) (size + length bytes) es)

abbrev pub found_one : Path → Path × Item → List Found
found_one at (path, folder) = []
found_one at (path, file bytes) = record { path = drop (length at) path; size = length bytes } ∷ []

abbrev pub found_in : Path → List (Path × Item) → List Found
found_in at [] = []
found_in at (e ∷ es) = found_one at e ++ found_in at es

abbrev pub sizes : List Found → ℕ
sizes [] = 0
sizes (f ∷ fs) = f.size + sizes fs

pub record Walks (at : Path) (es : List (Path × Item)) (old new : Met) : Type 0 where
  pub none : walk_limit (length old.found) old.size es ≡ None
  pub found : new.found ≡ old.found ++ found_in at es
  pub size : new.size ≡ old.size + sizes (found_in at es)

-- a walk that began with these is refused by the first limit that it passes
abbrev pub IsRefusal : Met → List (Path × Item) → HashFault → Type 0
IsRefusal old es (TooLarge what limit) = walk_limit (length old.found) old.size es ≡ Some what
IsRefusal old es fault = ⊤

-- what may refuse a walk over any world
abbrev pub IsWalkFault : HashFault → Type 0
IsWalkFault (TooLarge what limit) = limit ≡ limit_of what
IsWalkFault (Changed path told found) = ⊥
IsWalkFault Missing = ⊥
IsWalkFault fault = ⊤

abbrev pub path_in : Found → Path
path_in f = f.path

pub record Finds (inner : Path) (old new : Met) : Type 0 where
  pub more : List Found
  pub grown : new.found ≡ old.found ++ more
  pub inside : AllByRecursion (λ f. under inner f.path ≡ true) more
  pub apart : are_apart (map path_in more) ≡ true

-- the same for the members of these names alone
pub record FindsAmong (inner : Path) (names : List (List ℕ)) (old new : Met) : Type 0 where
  pub more : List Found
  pub grown : new.found ≡ old.found ++ more
  pub inside : AllByRecursion (λ f. list_any (λ c. under (inner ++ c ∷ []) f.path) names ≡ true) more
  pub apart : are_apart (map path_in more) ≡ true

-- before a walk
abbrev pub nothing_met : Met
nothing_met = record { found = []; size = 0 }

-- ---- one name

-- what was seen stands at the path
abbrev pub IsSeenAt : Path → Seen → Type 0
IsSeenAt path Nothing = ⊤
IsSeenAt path (File p size) = p ≡ path
IsSeenAt path (Folder p) = (p ≡ path) × (length path ≤ 1024)

abbrev pub IsSeen : Option Item → Seen → Type 0
IsSeen item Nothing = item ≡ None
IsSeen item (File p size) = IsTold item size
IsSeen item (Folder p) = item ≡ Some folder

-- a path that no workspace has
abbrev pub IsLong : Path → HashFault → Type 0
IsLong path fault = (fault ≡ NoMemory) ⊎ ((fault ≡ TooLarge w.Path (limit_of w.Path)) × (limit_of w.Path < length (joined path)))

abbrev pub IsLook : Path → HashFault → Type 0
IsLook path fault = (fault ≡ Failed) ⊎ IsLong path fault

pub record IsAdded (old : Met) (path : Path) (more : ℕ) (new : Met) : Type 0 where
  pub none : file_limit (length old.found) old.size more ≡ None
  pub found : new.found ≡ old.found ++ record { path = path; size = more } ∷ []
  pub size : new.size ≡ old.size + more

abbrev pub IsAddFault : Met → ℕ → HashFault → Type 0
IsAddFault old size (TooLarge what limit) = (file_limit (length old.found) old.size size ≡ Some what) × (limit ≡ limit_of what)
IsAddFault old size NoMemory = ⊤
IsAddFault old size fault = ⊥

-- ---- the names of what was found

abbrev pub AreTold : Tree → Path → List Found → Type 0
AreTold t at fs = AllByRecursion (λ f. IsTold (item_at t (at ++ f.path)) f.size) fs

abbrev pub IsNamed : Tree → Path → Found → Member → Type 0
IsNamed t at f m = (bytes : List ℕ) → item_at t (at ++ f.path) ≡ Some (file bytes) → m ≡ member_with (f.path, bytes)

abbrev pub AreNamed : Tree → Path → List Found → List Member → Type 0
AreNamed t at [] [] = ⊤
AreNamed t at [] (m ∷ ms) = ⊥
AreNamed t at (f ∷ fs) [] = ⊥
AreNamed t at (f ∷ fs) (m ∷ ms) = IsNamed t at f m × AreNamed t at fs ms

-- the members of these files, over any world: at their paths, with names of files
pub record IsMade (fs : List Found) (ms : List Member) : Type 0 where
  pub paths : map path_at ms ≡ map path_in fs
  pub normal : AllByRecursion (λ m. IsNormal m.path) ms
  pub files : list_all (λ m. is_file_name m.name) ms ≡ true

-- what may refuse the naming of files that were found
abbrev pub IsMemberFault : Bool → Path → HashFault → Type 0
IsMemberFault tells at (TooLarge what limit) = (limit ≡ limit_of what) × (IsTrue tells → ⊥)
IsMemberFault tells at (Changed path told found) = (under at path ≡ true) × IsHonest tells told found
IsMemberFault tells at Missing = ⊥
IsMemberFault tells at fault = ⊤

-- ---- what was listed

-- a text that is too long
abbrev pub IsTextFault : List Member → HashFault → Type 0
IsTextFault list (TooLarge what limit) = (if_over w.Listing (length (listing_text list)) ≡ Some what) × (limit ≡ limit_of what)
IsTextFault list NoMemory = ⊤
IsTextFault list fault = ⊥

-- the listing of the folder at a path, with its text and the size of its files
pub record IsListed (t : Tree) (at : Path) (listed : Listed) : Type 0 where
  pub none : files_limit (files_at t at) ≡ None
  pub list : listed.list ≡ listing_of (files_at t at)
  pub size : listed.size ≡ size_of (files_at t at)

-- a refusal of listing a folder is by the limit that is due
abbrev pub IsListFault : Tree → Path → HashFault → Type 0
IsListFault t at (TooLarge what limit) = (files_limit (files_at t at) ≡ Some what) × (limit ≡ limit_of what)
IsListFault t at (Changed path told found) = ⊥
IsListFault t at Missing = ⊥
IsListFault t at fault = ⊤
