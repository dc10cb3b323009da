-- Objects of the cache: contents, each in a file whose place is made of the content's MD5.
--     object_path name        where the object of a name stands
--     has_name name bytes     whether the bytes have the name
--     object_at t name        the bytes of an object that is whole; one that isn't counts as absent
--     listing_in t name       the members that a folder's object tells, where that is whole and can be read
--     is_whole t name         the object of the name is whole, and for a folder each member's object
--     is_stored t v           the same of a value's own objects
use Rattle.std.specs.Prelude.{ℕ, Bool, false, List, [], ◌∷◌, ◌++◌, map, bytes_eq, codes, Option, Some, None, is_some, option_and_then, if◌then◌else◌}
use Rattle.std.specs.List.{list_all}
use Rattle.md5.specs.Md5.{md5}
use Rattle.hex.specs.Hex.{encode_lower}
use Rattle.dvc_base.specs.Path.{Path}
use Rattle.dvc_base.specs.Name.{ObjectName, place_of}
use Rattle.world_api.specs.Tree.{Tree, Item, file, Value, nothing, content, members, item_at}
use Rattle.file_hash.specs.Listing.{name_of_bytes, listing_of, listing_text}
use Rattle.file_hash.specs.Naming.{name_of_listing}
use Rattle.file_hash.specs.Reading.{read_listing}
use Rattle.file_hash.specs.declared.listing.Member.{Member}

-- `.dvc/cache`
abbrev pub cache_path : Path
cache_path = codes ".dvc" ∷ codes "cache" ∷ []

abbrev pub object_path : ObjectName → Path
object_path name = cache_path ++ place_of name

abbrev pub has_name : ObjectName → List ℕ → Bool
has_name name bytes = bytes_eq (encode_lower (md5 bytes)) name.digits

abbrev pub whole_in : ObjectName → Option Item → Option (List ℕ)
whole_in name (Some (file bytes)) = if has_name name bytes then Some bytes else None
whole_in name _ = None

abbrev pub object_at : Tree → ObjectName → Option (List ℕ)
object_at t name = whole_in name (item_at t (object_path name))

-- ---- values

abbrev pub are_whole : Tree → List ObjectName → Bool
are_whole t names = list_all (λ name. is_some (object_at t name)) names

abbrev pub listing_in : Tree → ObjectName → Option (List Member)
listing_in t name = option_and_then read_listing (object_at t name)

abbrev pub member_name : Member → ObjectName
member_name m = m.name

abbrev pub members_whole : Tree → Option (List Member) → Bool
members_whole t None = false
members_whole t (Some ms) = are_whole t (map member_name ms)

abbrev pub is_whole : Tree → ObjectName → Bool
is_whole t name = if name.dir then members_whole t (listing_in t name) else is_some (object_at t name)

abbrev pub listing_names : List Member → List ObjectName
listing_names ms = map member_name ms ++ name_of_listing (listing_text ms) ∷ []

-- a file's own object; a folder's members' objects and its listing
abbrev pub object_names : Value → List ObjectName
object_names nothing = []
object_names (content bytes) = name_of_bytes bytes ∷ []
object_names (members m) = listing_names (listing_of m)

abbrev pub is_stored : Tree → Value → Bool
is_stored t v = are_whole t (object_names v)
