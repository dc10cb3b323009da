-- The text by which a folder's files are named.
--     listing_text_of m      each file's path with the MD5 of its bytes, in the order of the paths' texts
use Rattle.std.specs.Prelude.{ℕ, List}
use Rattle.std.specs.FinMap.{FinMap}
use Rattle.world_api.specs.Tree.{path_cmp}
use Rattle.file_hash.specs.Listing.{listing_of, listing_text}

unfoldable pub listing_text_of : FinMap path_cmp (List ℕ) → List ℕ
listing_text_of m = listing_text (listing_of m)
