-- What the cache holds, as far as a choice looks at it.
--     stored_in t              whole objects, and the records of earlier runs
--     is_held objects name     the objects of the value that a name stands for are all there
--     held_value               that value
--     with_objects v           the objects of a value are put beside those that are there
use Rattle.std.specs.Prelude.{ℕ, Bool, false, ◌&&◌, List, [], ◌∷◌, map, bytes_eq, Option, Some, None, is_some, option_map, option_and_then, if◌then◌else◌}
use Rattle.std.specs.List.{list_all}
use Rattle.std.specs.FinMap.{entries, from_entries}
use Rattle.dvc_base.specs.Path.{Path}
use Rattle.dvc_base.specs.Name.{ObjectName}
use Rattle.world_api.specs.Tree.{Tree, Value, nothing, content, members}
use Rattle.file_hash.specs.Naming.{name_of_bytes, name_of_listing}
use Rattle.file_hash.specs.Listing.{listing_of, listing_text}
use Rattle.file_hash.specs.Reading.{read_listing}
use Rattle.file_hash.specs.declared.listing.Member.{Member}
use Rattle.lock_files.specs.declared.entry.Entry.{Entry}
use Rattle.object_cache.specs.Objects.{object_at}
use Rattle.change_check.specs.Same.{same_truth}
use Rattle.change_check.specs.declared.seen.Seen.{Seen}

-- the bytes of each object that is whole
abbrev pub Objects : Type 0
Objects = ObjectName → Option (List ℕ)

-- `runs` has the records of a stage of which this is seen, the first one first
pub record Stored : Type 0 where
  pub objects : Objects
  pub runs : Seen → List Entry

-- no run is recorded yet
abbrev pub stored_in : Tree → Stored
stored_in t = record { objects = object_at t; runs = λ seen. [] }

-- ---- values

abbrev pub listing_held : Objects → ObjectName → Option (List Member)
listing_held objects name = option_and_then read_listing (objects name)

abbrev pub are_held : Objects → Option (List Member) → Bool
are_held objects None = false
are_held objects (Some ms) = list_all (λ m. is_some (objects m.name)) ms

abbrev pub is_held : Objects → ObjectName → Bool
is_held objects name =
    if name.dir then are_held objects (listing_held objects name) else is_some (objects name)

abbrev pub bytes_or_none : Option (List ℕ) → List ℕ
bytes_or_none None = []
bytes_or_none (Some bytes) = bytes

abbrev pub member_held : Objects → Member → Path × List ℕ
member_held objects m = (m.path, bytes_or_none (objects m.name))

abbrev pub files_held : Objects → List Member → Value
files_held objects ms = members (from_entries (map (member_held objects) ms))

-- the value that a name stands for, where its objects are all there
abbrev pub held_value : Objects → ObjectName → Option Value
held_value objects name =
    if name.dir then option_map (files_held objects) (listing_held objects name) else option_map content (objects name)

-- ---- new objects

abbrev pub is_one_name : ObjectName → ObjectName → Bool
is_one_name a b = bytes_eq a.digits b.digits && same_truth a.dir b.dir

-- an object that is there already stays
abbrev pub with_object : ObjectName → List ℕ → Objects → Objects
with_object own bytes objects name =
    if is_some (objects name) then objects name else if is_one_name own name then Some bytes else None

abbrev pub with_members : List (Path × List ℕ) → Objects → Objects
with_members [] objects = objects
with_members (e ∷ es) objects = with_members es (with_object (name_of_bytes e.1) e.1 objects)

abbrev pub with_listing : List ℕ → Objects → Objects
with_listing text objects = with_object (name_of_listing text) text objects

abbrev pub with_objects : Value → Objects → Objects
with_objects nothing objects = objects
with_objects (content bytes) objects = with_object (name_of_bytes bytes) bytes objects
with_objects (members m) objects = with_listing (listing_text (listing_of m)) (with_members (entries m) objects)
