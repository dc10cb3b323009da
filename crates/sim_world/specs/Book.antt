-- The book of a world in memory: the contents that it met, the first under each digest.
--     contents_of v        what a value brings: a file's bytes; of a folder the text of its listing, and the bytes of its files
--     met_all xs book      the contents xs are met, one after another
--     book_of t            the book of a world that begins with the tree
use Rattle.std.specs.Prelude.{ℕ, List, [], ◌∷◌, bytes_eq, Option, Some, None, if◌then◌else◌}
use Rattle.std.specs.List.{flat_map}
use Rattle.std.specs.FinMap.{entries, values}
use Rattle.md5.specs.Md5.{md5}
use Rattle.world_api.specs.Tree.{Tree, Item, folder, file, Value as Told, nothing, content, members}
use Rattle.world_api.specs.History.{Aside, Book}
use Rattle.sim_world.specs.Listing.{listing_text_of}

abbrev pub or_else : Option (List ℕ) → Option (List ℕ) → Option (List ℕ)
or_else (Some bytes) other = Some bytes
or_else None other = other

-- an entry that stands under the content's digest stays
unfoldable pub met : List ℕ → Book → Book
met bytes book digest = or_else (book digest) (if bytes_eq (md5 bytes) digest then Some bytes else None)

abbrev pub met_all : List (List ℕ) → Book → Book
met_all [] book = book
met_all (x ∷ xs) book = met_all xs (met x book)

abbrev pub contents_of : Told → List (List ℕ)
contents_of nothing = []
contents_of (content bytes) = bytes ∷ []
contents_of (members m) = listing_text_of m ∷ values m

-- the values are met
abbrev pub with_met : List Told → Aside → Aside
with_met vs a = record a { book = met_all (flat_map contents_of vs) a.book }

-- the bytes of the files
abbrev pub file_bytes : Item → List (List ℕ)
file_bytes folder = []
file_bytes (file bytes) = bytes ∷ []

abbrev pub files_in : Tree → List (List ℕ)
files_in t = flat_map (λ e. file_bytes e.1) (entries t)

abbrev pub book_of : Tree → Book
book_of t = met_all (files_in t) (λ digest. None)
