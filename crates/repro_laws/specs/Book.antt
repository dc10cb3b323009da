-- Values that are the book's: contents that were met, each under its MD5.
--     IsIn book bytes       the content that the book has under the MD5 of these bytes is just these bytes
--     IsBooks book v        a file's content is the book's; a folder's listing and the content of each file
--     IsCovered book v      nothing stands there, or the value is the book's
-- A book has one content under each digest. That two contents never share an MD5 is nowhere assumed.
use Rattle.std.specs.Prelude.{◌≡◌, ℕ, List, Some, ⊤}
use Rattle.std.specs.FinMap.{get}
use Rattle.md5.specs.Md5.{md5}
use Rattle.dvc_base.specs.Path.{Path}
use Rattle.world_api.specs.Tree.{Value, nothing, content, members}
use Rattle.world_api.specs.History.{Book}
use Rattle.file_hash.specs.Files.{IsFileMap}
use Rattle.file_hash.specs.Listing.{listing_of, listing_text}

abbrev pub IsIn : Book → List ℕ → Type 0
IsIn book bytes = book (md5 bytes) ≡ Some bytes

abbrev pub IsBooks : Book → Value → Type 0
IsBooks book nothing = ⊥
IsBooks book (content bytes) = IsIn book bytes
IsBooks book (members m) =
    IsFileMap m × (IsIn book (listing_text (listing_of m)) × ((p : Path) (bytes : List ℕ) → get m p ≡ Some bytes → IsIn book bytes))

abbrev pub IsCovered : Book → Value → Type 0
IsCovered book nothing = ⊤
IsCovered book v = IsBooks book v
