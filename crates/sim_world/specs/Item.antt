-- What stands at a path, as the tree keeps it, and how it is stored as a model's value.
use Rattle.std.specs.Prelude.{ℕ, List, Option, Some, None, ◌≡◌, refl}
use Rattle.std.specs.Coded.{Coded, code_by, coded_ℕ, coded_list, coded_option}
use Rattle.world_api.specs.Tree.{Item, folder, file}

abbrev pub item_from : Option (List ℕ) → Item
item_from None = folder
item_from (Some bytes) = file bytes

abbrev pub item_bytes : Item → Option (List ℕ)
item_bytes folder = None
item_bytes (file bytes) = Some bytes

abbrev item_back : (i : Item) → item_from (item_bytes i) ≡ i
item_back folder = refl
item_back (file bytes) = refl

abbrev pub item_code : Coded Item
item_code = code_by (Option (List ℕ)) (coded_option (coded_list coded_ℕ)) item_bytes item_from item_back

-- the bytes of the file that stands there, if one does
abbrev pub bytes_of : Option Item → Option (List ℕ)
bytes_of None = None
bytes_of (Some i) = item_bytes i
