-- Names of objects: 32 lower-case hexadecimal digits, and whether the object is a folder's listing.
--     name_text name      the text of a name: its digits, and `.dir` behind those of a listing
--     name_in text        the name that has this text, if there is one
--     place_of name       where the object stands, below `.dvc/cache` or a remote
use Rattle.std.specs.Prelude.{ℕ, Bool, true, false, ◌&&◌, ◌||◌, List, [], ◌∷◌, ◌++◌, length, take, drop, Option, Some, None, nat_le, ◌==◌, bytes_eq, codes, if◌then◌else◌}
use Rattle.std.specs.List.{list_all}
use Rattle.dvc_base.specs.Path.{Path}

pub record ObjectName : Type 0 where
  pub digits : List ℕ
  pub dir : Bool

-- a lower-case hexadecimal digit
abbrev pub is_digit : ℕ → Bool
is_digit byte = (nat_le 48 byte && nat_le byte 57) || (nat_le 97 byte && nat_le byte 102)

-- the digits of a name
abbrev pub are_digits : List ℕ → Bool
are_digits text = (length text == 32) && list_all is_digit text

-- what stands behind the digits
abbrev pub ending_of : Bool → List ℕ
ending_of true = codes ".dir"
ending_of false = []

abbrev pub name_text : ObjectName → List ℕ
name_text name = name.digits ++ ending_of name.dir

-- the name of these digits, if they are some
abbrev pub name_with : List ℕ → Bool → Option ObjectName
name_with digits dir = if list_all is_digit digits then Some (record { digits = digits; dir = dir }) else None

abbrev pub name_in : List ℕ → Option ObjectName
name_in text =
    if length text == 32 then name_with text false
    else if (length text == 36) && bytes_eq (drop 32 text) (codes ".dir") then name_with (take 32 text) true
    else None

abbrev pub place_of : ObjectName → Path
place_of name =
    codes "files" ∷ codes "md5" ∷ take 2 name.digits ∷ (drop 2 name.digits ++ ending_of name.dir) ∷ []
