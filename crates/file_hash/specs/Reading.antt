-- Listings as they are read: any array of JSON whose items name members of one folder.
--     member_in d           the member that an item of the array is
--     members_in items      the members of all items, or none where one is no member
--     members_of_text text  the members of a text, in its own order
--     read_listing text     the listing of a text, in the order of the texts of paths
--     IsUnread o why        why a reading gave nothing: memory ran out, or there is nothing to be read
use Rattle.std.specs.Prelude.{◌≡◌, ◌⊎◌, ◌<◌, ℕ, Bool, true, false, ◌&&◌, not, ◌==◌, if◌then◌else◌, List, [], ◌∷◌, length, map, bytes_eq, codes, Option, Some, None, option_map, option_and_then, Result, Ok, Err}
use Rattle.std.specs.List.{AllByRecursion}
use Rattle.std.specs.Ordering.{is_lt}
use Rattle.std.specs.Str.{IsUtf8, is_utf8}
use Rattle.serde_json.specs.Data.{Data, Items, no_items, item}
use Rattle.serde_json.specs.Read.{read}
use Rattle.serde_json.specs.Find.{get, as_str, as_array}
use Rattle.dvc_base.specs.Path.{Path, path_text}
use Rattle.dvc_base.specs.Normal.{IsNormal}
use Rattle.dvc_base.specs.Join.{join}
use Rattle.dvc_base.specs.Name.{ObjectName, name_with}
use Rattle.dvc_base.specs.declared.path.PathFault.{PathFault}
use Rattle.world_api.specs.Tree.{path_cmp, IsRelPath}
use Rattle.world_api.specs.Calls.{are_apart}
use Rattle.file_hash.specs.Listing.{in_order, is_before, path_at, is_file_name}
use Rattle.file_hash.specs.declared.listing.Member.{Member}
use Rattle.file_hash.specs.declared.fault.ListingFault.{ListingFault}
use Rattle.file_hash.specs.declared.fault.ListingFault.TheVariants.{Bad, NoMemory}

-- a name of 32 lower-case digits
abbrev pub name_of_digits : List ℕ → Option ObjectName
name_of_digits s = if length s == 32 then name_with s false else None

-- a path that is not the root, and whose own text this is
abbrev pub is_own : Path → List ℕ → Bool
is_own p s = not (length p == 0) && bytes_eq (path_text p) s

abbrev pub path_if_own : List ℕ → Result Path PathFault → Option Path
path_if_own s (Ok p) = if is_own p s then Some p else None
path_if_own s (Err why) = None

abbrev pub path_of_text : List ℕ → Option Path
path_of_text s = path_if_own s (join [] s)

abbrev pub member_by : Option ObjectName → Option Path → Option Member
member_by (Some name) (Some path) = Some (record { path = path; name = name })
member_by _ _ = None

abbrev pub text_in : List ℕ → Data → Option (List ℕ)
text_in key d = option_and_then as_str (get key d)

abbrev pub member_in : Data → Option Member
member_in d =
    member_by (option_and_then name_of_digits (text_in (codes "md5") d)) (option_and_then path_of_text (text_in (codes "relpath") d))

abbrev pub members_in : Items → Option (List Member)
members_in no_items = Some []
members_in (item d ds) = option_and_then (λ m. option_map (λ ms. m ∷ ms) (members_in ds)) (member_in d)

-- the members in order, where no two overlap
abbrev pub if_apart : List Member → Option (List Member)
if_apart ms = if are_apart (map path_at ms) then Some (in_order is_before ms) else None

abbrev pub array_in : Data → Option (List Member)
array_in d = option_and_then members_in (as_array d)

-- the members of a text, in its own order
abbrev pub members_of_text : List ℕ → Option (List Member)
members_of_text text = if is_utf8 text then option_and_then array_in (read text) else None

abbrev pub read_listing : List ℕ → Option (List Member)
read_listing text = option_and_then if_apart (members_of_text text)

-- ---- what a reading says of its result

-- memory ran out, or there is nothing to be read
abbrev pub IsUnread : {A : Type 0} → Option A → ListingFault → Type 0
IsUnread o why = (why ≡ NoMemory) ⊎ ((why ≡ Bad) × (o ≡ None))

pub record IsMember (m : Member) : Type 0 where
  pub rootless : 0 < length m.path
  pub normal : IsNormal m.path
  pub file : is_file_name m.name ≡ true

abbrev pub AreMembers : List Member → Type 0
AreMembers ms = AllByRecursion IsMember ms

-- in the order of the components of paths
abbrev pub is_earlier : Member → Member → Bool
is_earlier a b = is_lt (path_cmp a.path b.path)

-- what each member has whose path is one of the workspace's
pub record IsSound (m : Member) : Type 0 where
  pub rel : IsRelPath m.path
  pub utf8 : IsUtf8 (path_text m.path)
