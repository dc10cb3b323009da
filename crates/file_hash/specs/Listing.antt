-- Listings: the members of a folder with their names, and the text that they are written as.
--     in_order less xs     the items in the order of a test; items that tie stay as they stand
--     is_before a b        the text of a's path comes before that of b's, by its bytes
--     listing_of m         the members of a folder's files, each with the name of its bytes
--     listing_text ms      the text of these members
--     IsListing ms         they rise by the texts of their paths, overlap nowhere, and have names of files
use Rattle.std.specs.Prelude.{◌≡◌, ℕ, ◌+◌, ◌-◌, ◌/◌, ◌%◌, Bool, true, false, ◌&&◌, not, if◌then◌else◌, nat_lt, List, [], ◌∷◌, ◌++◌, map, codes}
use Rattle.std.specs.List.{flat_map, list_all}
use Rattle.std.specs.Char.{digit_char}
use Rattle.std.specs.Str.{chars, is_utf8}
use Rattle.std.specs.Ordering.{nat_cmp, is_lt}
use Rattle.std.specs.Cmp.Lexicographic.{slice_cmp}
use Rattle.std.specs.FinMap.{FinMap, entries}
use Rattle.json.specs.Print.{escape_byte, escape}
use Rattle.md5.specs.Md5.{md5}
use Rattle.hex.specs.Hex.{encode_lower}
use Rattle.dvc_base.specs.Path.{Path, path_text}
use Rattle.dvc_base.specs.Name.{ObjectName, are_digits}
use Rattle.world_api.specs.Tree.{path_cmp}
use Rattle.world_api.specs.Calls.{are_rising, are_apart}
use Rattle.file_hash.specs.declared.listing.Member.{Member}

-- ---- lists in order

-- an item put before the first that isn't less
abbrev pub put_in : {A : Type 0} → (A → A → Bool) → A → List A → List A
put_in less a [] = a ∷ []
put_in less a (b ∷ bs) = if less b a then b ∷ put_in less a bs else a ∷ b ∷ bs

abbrev pub in_order : {A : Type 0} → (A → A → Bool) → List A → List A
in_order less [] = []
in_order less (a ∷ rest) = put_in less a (in_order less rest)

abbrev pub path_at : Member → Path
path_at m = m.path

abbrev pub text_at : Member → List ℕ
text_at m = path_text m.path

abbrev pub is_before : Member → Member → Bool
is_before a b = is_lt (slice_cmp nat_cmp (text_at a) (text_at b))

-- ---- the members of a folder

abbrev pub name_of_bytes : List ℕ → ObjectName
name_of_bytes bytes = record { digits = encode_lower (md5 bytes); dir = false }

abbrev pub member_with : Path × List ℕ → Member
member_with e = record { path = e.0; name = name_of_bytes e.1 }

abbrev pub listing_of : FinMap path_cmp (List ℕ) → List Member
listing_of m = in_order is_before (map member_with (entries m))

-- the name of a file: 32 digits, of no folder's listing
abbrev pub is_file_name : ObjectName → Bool
is_file_name name = are_digits name.digits && not name.dir

pub record IsListing (ms : List Member) : Type 0 where
  pub rising : are_rising (map text_at ms) ≡ true
  pub apart : are_apart (map path_at ms) ≡ true
  pub files : list_all (λ m. is_file_name m.name) ms ≡ true

-- ---- the text

-- a unit of UTF-16, in four digits
abbrev pub unit_text : ℕ → List ℕ
unit_text u = 92 ∷ 117 ∷ digit_char (u / 4096) ∷ digit_char (u / 256 % 16) ∷ digit_char (u / 16 % 16) ∷ digit_char (u % 16) ∷ []

-- a character in a text: up to U+007F as JSON's shortest escapes have it, above by its units
unfoldable pub escaped : ℕ → List ℕ
escaped c =
    if nat_lt c 128 then escape_byte c
    else if nat_lt c 65536 then unit_text c
    else unit_text (55296 + (c - 65536) / 1024) ++ unit_text (56320 + (c - 65536) % 1024)

-- a path's text is UTF-8; bytes that aren't would stand as they are
unfoldable pub escaped_text : List ℕ → List ℕ
escaped_text t = if is_utf8 t then flat_map escaped (chars t) else escape t

abbrev pub member_text : Member → List ℕ
member_text m = codes "{\"md5\": \"" ++ m.name.digits ++ codes "\", \"relpath\": \"" ++ escaped_text (text_at m) ++ codes "\"}"

-- what stands behind the first member
abbrev pub more_text : Member → List ℕ
more_text m = codes ", " ++ member_text m

unfoldable pub listing_text : List Member → List ℕ
listing_text [] = codes "[]"
listing_text (m ∷ ms) = codes "[" ++ member_text m ++ flat_map more_text ms ++ codes "]"
