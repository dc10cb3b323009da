-- What a call on the cache is due to answer.
--     fault_of result            the fault of a result, if there is one
--     IsDue got due              the answer is the one that is due, or a free one: want of memory, or a counted failure
--     first_file t p             the first file at or above a path, from above down
--     size_fault item            a file has more bytes than a file may have
--     place_fault t name         an object is looked at, and a place for it where it isn't whole
--     give_fault t name at       an object is given out
--     whole_fault t name         a value is looked at
--     listing_fault t name       the listing of a folder is read
--     put_fault t at             the value at a path is stored
-- And over any world, whether it tells its tree or not:
--     IsHasFault name fault      what may refuse a look at an object
--     IsPlaceFault name fault    what a refusal of a look at an object tells of
--     IsPutFault tells at fault  what a refusal to store the value at a path tells of
--     IsToldAt at fault          which paths and limits a refusal to store the value at a path tells
use Rattle.std.specs.Prelude.{◌≡◌, ◌⊎◌, ℕ, Bool, true, false, List, [], ◌∷◌, ◌++◌, length, map, nat_lt, Option, Some, None, is_some, Result, Ok, Err, IsTrue, if◌then◌else◌, ⊤}
use Rattle.dvc_base.specs.Path.{Path, under}
use Rattle.dvc_base.specs.Name.{ObjectName}
use Rattle.dvc_base.specs.Limits.{limit_of}
use Rattle.dvc_base.specs.declared.limits.What.TheVariants.{FileSize, Members, Listing}
use Rattle.world_api.specs.Tree.{Tree, Item, file, item_at, value_at}
use Rattle.world_api.specs.Calls.{parent}
use Rattle.world_api.specs.Outside.{IsHonest}
use Rattle.file_hash.specs.Naming.{naming_of}
use Rattle.file_hash.specs.declared.listing.Member.{Member}
use Rattle.file_hash.specs.declared.named.Named.{Named}
use Rattle.file_hash.specs.declared.fault.HashFault.{HashFault}
use Rattle.file_hash.specs.declared.fault.HashFault.TheVariants as h
use Rattle.object_cache.specs.Objects.{object_path, object_at, listing_in, member_name, object_names}
use Rattle.object_cache.specs.Store.{is_cache_folder}
use Rattle.object_cache.specs.declared.fault.CacheFault.{CacheFault}
use Rattle.object_cache.specs.declared.fault.CacheFault.TheVariants.{Absent, Missing, Changed, TooLarge, NotFolder, Failed, NoMemory}

abbrev pub is_free : CacheFault → Bool
is_free Failed = true
is_free NoMemory = true
is_free _ = false

abbrev pub IsFree : CacheFault → Type 0
IsFree fault = IsTrue (is_free fault)

abbrev pub fault_of : {T : Type 0} → Result T CacheFault → Option CacheFault
fault_of (Ok done) = None
fault_of (Err fault) = Some fault

abbrev pub IsDue : Option CacheFault → Option CacheFault → Type 0
IsDue None due = due ≡ None
IsDue (Some fault) due = IsFree fault ⊎ (due ≡ Some fault)

-- a change of size is told by two sizes that differ, and never over a world that tells its tree
abbrev pub HasHonestSizes : Bool → CacheFault → Type 0
HasHonestSizes tells (Changed path told found) = IsHonest tells told found
HasHonestSizes tells _ = ⊤

-- a fault that has nothing to do with the files
abbrev pub IsListingFault : CacheFault → Type 0
IsListingFault (Absent name) = ⊤
IsListingFault (TooLarge what limit) = ⊤
IsListingFault NoMemory = ⊤
IsListingFault _ = ⊥

-- the first fault that applies
abbrev pub or_then : Option CacheFault → Option CacheFault → Option CacheFault
or_then (Some fault) next = Some fault
or_then None next = next

-- ---- files in the way of folders

abbrev pub is_file : Option Item → Bool
is_file (Some (file bytes)) = true
is_file _ = false

abbrev pub first_file_from : Tree → Path → Path → Option Path
first_file_from t p [] = None
first_file_from t p (c ∷ cs) = if is_file (item_at t (p ++ c ∷ [])) then Some (p ++ c ∷ []) else first_file_from t (p ++ c ∷ []) cs

abbrev pub first_file : Tree → Path → Option Path
first_file t p = first_file_from t [] p

abbrev pub not_folder_at : Option Path → Option CacheFault
not_folder_at (Some path) = Some (NotFolder path)
not_folder_at None = None

abbrev pub not_folder : Tree → Path → Option CacheFault
not_folder t p = not_folder_at (first_file t p)

-- ---- objects

abbrev pub size_fault : Option Item → Option CacheFault
size_fault (Some (file bytes)) = if nat_lt (limit_of FileSize) (length bytes) then Some (TooLarge FileSize (limit_of FileSize)) else None
size_fault _ = None

-- why it isn't told whether the object is whole
abbrev pub has_fault : Tree → ObjectName → Option CacheFault
has_fault t name = size_fault (item_at t (object_path name))

abbrev pub absent_if : Option (List ℕ) → ObjectName → Option CacheFault
absent_if (Some bytes) name = None
absent_if None name = Some (Absent name)

abbrev pub absent_unless : Bool → ObjectName → Option CacheFault
absent_unless true name = None
absent_unless false name = Some (Absent name)

-- why the bytes of the object can't be had
abbrev pub object_fault : Tree → ObjectName → Option CacheFault
object_fault t name = or_then (has_fault t name) (absent_if (object_at t name) name)

abbrev pub give_fault : Tree → ObjectName → Path → Option CacheFault
give_fault t name at = or_then (object_fault t name) (not_folder t (parent at))

abbrev pub place_if : Option (List ℕ) → Tree → ObjectName → Option CacheFault
place_if (Some bytes) t name = None
place_if None t name = not_folder t (parent (object_path name))

-- why the object has no place: one that is whole needs none
abbrev pub place_fault : Tree → ObjectName → Option CacheFault
place_fault t name = or_then (has_fault t name) (place_if (object_at t name) t name)

-- what is due at each place stays so
abbrev pub KeepsPlaces : Tree → Tree → Type 0
KeepsPlaces t u = (name : ObjectName) → place_fault u name ≡ place_fault t name

-- a refusal that isn't free leaves what is due at each place as it was
abbrev pub IsLeft : Tree → Tree → CacheFault → Type 0
IsLeft t u fault = is_free fault ≡ false → KeepsPlaces t u

-- the object isn't whole, and nothing is in the way of its place
pub record HasPlace (t : Tree) (name : ObjectName) : Type 0 where
  pub missing : object_at t name ≡ None
  pub small : has_fault t name ≡ None
  pub road : not_folder t (parent (object_path name)) ≡ None

-- ---- values

-- a listing's object is too long to be read
abbrev pub text_fault : Option Item → Option CacheFault
text_fault (Some (file bytes)) = if nat_lt (limit_of Listing) (length bytes) then Some (TooLarge Listing (limit_of Listing)) else None
text_fault _ = None

abbrev pub count_fault : List Member → Option CacheFault
count_fault ms = if nat_lt (limit_of Members) (length ms) then Some (TooLarge Members (limit_of Members)) else None

abbrev pub members_fault : ObjectName → Option (List Member) → Option CacheFault
members_fault name None = Some (Absent name)
members_fault name (Some ms) = count_fault ms

-- why the bytes of a listing's object can't be had
abbrev pub object_text_fault : Tree → ObjectName → Option CacheFault
object_text_fault t name = or_then (text_fault (item_at t (object_path name))) (absent_if (object_at t name) name)

abbrev pub listing_fault : Tree → ObjectName → Option CacheFault
listing_fault t name = or_then (text_fault (item_at t (object_path name))) (members_fault name (listing_in t name))

-- object by object, up to the first that isn't whole
abbrev pub names_fault : Tree → List ObjectName → Option CacheFault
names_fault t [] = None
names_fault t (n ∷ ns) = or_then (has_fault t n) (if is_some (object_at t n) then names_fault t ns else None)

-- a listing that can't be had is no fault
abbrev pub listed_fault : Tree → Option (List Member) → Option CacheFault
listed_fault t None = None
listed_fault t (Some ms) = or_then (count_fault ms) (names_fault t (map member_name ms))

abbrev pub whole_fault : Tree → ObjectName → Option CacheFault
whole_fault t name =
    if name.dir then or_then (text_fault (item_at t (object_path name))) (listed_fault t (listing_in t name)) else has_fault t name

abbrev pub hash_fault : HashFault → CacheFault
hash_fault h.Missing = Missing
hash_fault (h.Changed path told found) = Changed path told found
hash_fault (h.TooLarge what limit) = TooLarge what limit
hash_fault h.Failed = Failed
hash_fault h.NoMemory = NoMemory

abbrev pub naming_fault : Result Named HashFault → Option CacheFault
naming_fault (Ok named) = None
naming_fault (Err why) = Some (hash_fault why)

-- object by object, in the order in which they are put
abbrev pub places_fault : Tree → List ObjectName → Option CacheFault
places_fault t [] = None
places_fault t (n ∷ ns) = or_then (place_fault t n) (places_fault t ns)

abbrev pub put_fault : Tree → Path → Option CacheFault
put_fault t at = or_then (naming_fault (naming_of (value_at t at))) (places_fault t (object_names (value_at t at)))

-- ---- over any world

-- why it isn't told whether an object is whole
abbrev pub IsHasFault : ObjectName → CacheFault → Type 0
IsHasFault name (Changed path told found) = path ≡ object_path name
IsHasFault name (TooLarge what limit) = limit ≡ limit_of what
IsHasFault name Failed = ⊤
IsHasFault name NoMemory = ⊤
IsHasFault name _ = ⊥

-- what a refusal of a look at an object tells of: the object's place, or a limit
abbrev pub IsPlaceFault : ObjectName → CacheFault → Type 0
IsPlaceFault name (Changed path told found) = path ≡ object_path name
IsPlaceFault name (TooLarge what limit) = limit ≡ limit_of what
IsPlaceFault name _ = ⊤

-- what a refusal of a put tells of: a path at or below the one that is put, a limit, or a folder of the cache
abbrev pub IsPutFault : Bool → Path → CacheFault → Type 0
IsPutFault tells at (Changed path told found) = (under at path ≡ true) × IsHonest tells told found
IsPutFault tells at (TooLarge what limit) = limit ≡ limit_of what
IsPutFault tells at (NotFolder path) = is_cache_folder path ≡ true
IsPutFault tells at _ = ⊤

-- what is no folder has to be one of the cache's, and no file of the value changed
abbrev pub IsToldInCache : CacheFault → Type 0
IsToldInCache (Changed path told found) = ⊥
IsToldInCache (TooLarge what limit) = limit ≡ limit_of what
IsToldInCache (NotFolder path) = is_cache_folder path ≡ true
IsToldInCache fault = ⊤

-- the same, or a file of the value changed: at the path or below it
abbrev pub IsToldAt : Path → CacheFault → Type 0
IsToldAt at (Changed path told found) = under at path ≡ true
IsToldAt at fault = IsToldInCache fault

-- a file that is copied tells no other path
abbrev pub IsToldOf : Path → CacheFault → Type 0
IsToldOf at (Changed path told found) = path ≡ at
IsToldOf at (TooLarge what limit) = ⊥
IsToldOf at (NotFolder path) = ⊥
IsToldOf at fault = ⊤

-- nothing but a file on the way is told
abbrev pub IsOnRoad : Path → CacheFault → Type 0
IsOnRoad p (NotFolder path) = under path p ≡ true
IsOnRoad p fault = IsFree fault
