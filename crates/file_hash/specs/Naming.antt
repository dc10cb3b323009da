-- The names of values, and what naming answers.
--     named_of value            a value's name, size and number of files; none where there is nothing
--     files_limit files         the first limit that naming a folder of these files passes
--     naming_of value           what naming a value answers
--     listing_due files         what listing a folder of these files answers
--     listed_due files          the same, with the listing's text and the size of the files
--     file_naming_of item       what naming a single file answers
--     IsGoodName named          32 digits, and a number of files exactly for a folder
use Rattle.std.specs.Prelude.{◌≡◌, ℕ, ◌+◌, Bool, true, false, List, [], ◌∷◌, length, if◌then◌else◌, nat_lt, Option, Some, None, is_some, Result, Ok, Err, IsTrue, ⊤}
use Rattle.std.specs.Option.{option_or}
use Rattle.std.specs.FinMap.{FinMap, entries, from_entries}
use Rattle.md5.specs.Md5.{md5}
use Rattle.hex.specs.Hex.{encode_lower}
use Rattle.dvc_base.specs.Path.{Path, under}
use Rattle.dvc_base.specs.Name.{ObjectName, are_digits}
use Rattle.dvc_base.specs.Limits.{limit_of}
use Rattle.dvc_base.specs.declared.limits.What.{What}
use Rattle.dvc_base.specs.declared.limits.What.TheVariants as w
use Rattle.world_api.specs.Tree.{Tree, Item, folder, file, Value, nothing, content, members, path_cmp, members_of}
use Rattle.world_api.specs.Outside.{IsHonest}
pub use Rattle.file_hash.specs.Listing.{name_of_bytes}
use Rattle.file_hash.specs.Listing.{listing_of, listing_text}
use Rattle.file_hash.specs.Files.{size_of, count_of}
use Rattle.file_hash.specs.declared.listing.Member.{Member}
use Rattle.file_hash.specs.declared.name.Listed.{Listed}
use Rattle.file_hash.specs.declared.named.Named.{Named}
use Rattle.file_hash.specs.declared.fault.HashFault.{HashFault}
use Rattle.file_hash.specs.declared.fault.HashFault.TheVariants.{Missing, Changed, TooLarge, Failed, NoMemory}
use Rattle.file_hash.specs.declared.fault.FileFault.{FileFault}
use Rattle.file_hash.specs.declared.fault.FileFault.TheVariants as f

-- ---- names

abbrev pub named_bytes : List ℕ → Named
named_bytes bytes = record { name = name_of_bytes bytes; size = length bytes; nfiles = None }

-- the MD5 of a listing's text, in lower-case digits
abbrev pub name_of_listing : List ℕ → ObjectName
name_of_listing text = record { digits = encode_lower (md5 text); dir = true }

abbrev pub named_files : FinMap path_cmp (List ℕ) → Named
named_files files =
    record { name = name_of_listing (listing_text (listing_of files)); size = size_of files; nfiles = Some (count_of files) }

abbrev pub named_of : Value → Option Named
named_of nothing = None
named_of (content bytes) = Some (named_bytes bytes)
named_of (members files) = Some (named_files files)

pub record IsGoodName (named : Named) : Type 0 where
  pub digits : IsTrue (are_digits named.name.digits)
  pub nfiles : is_some named.nfiles ≡ named.name.dir

-- ---- limits

abbrev pub is_over : What → ℕ → Bool
is_over what count = nat_lt (limit_of what) count

abbrev pub if_over : What → ℕ → Option What
if_over what count = if is_over what count then Some what else None

-- another file of so many bytes, behind n files of this size together
abbrev pub file_limit : ℕ → ℕ → ℕ → Option What
file_limit n size more = if is_over w.FileSize (size + more) then Some w.FileSize else if_over w.Members (n + 1)

-- the first limit that files pass, in the order of their paths, behind n files of this size together
abbrev pub first_limit : ℕ → ℕ → List (Path × List ℕ) → Option What
first_limit n size [] = None
first_limit n size (e ∷ es) = option_or (file_limit n size (length e.1)) (first_limit (n + 1) (size + length e.1) es)

-- the first limit that naming a folder of these files passes: that of its listing comes last
abbrev pub files_limit : FinMap path_cmp (List ℕ) → Option What
files_limit files = option_or (first_limit 0 0 (entries files)) (if_over w.Listing (length (listing_text (listing_of files))))

-- ---- what is answered

abbrev pub unless_over : {A : Type 0} → Option What → A → Result A HashFault
unless_over None answer = Ok answer
unless_over (Some what) answer = Err (TooLarge what (limit_of what))

abbrev pub naming_of : Value → Result Named HashFault
naming_of nothing = Err Missing
naming_of (content bytes) = unless_over (if_over w.FileSize (length bytes)) (named_bytes bytes)
naming_of (members files) = unless_over (files_limit files) (named_files files)

abbrev pub listing_due : FinMap path_cmp (List ℕ) → Result (List Member) HashFault
listing_due files = unless_over (files_limit files) (listing_of files)

abbrev pub listed_of : FinMap path_cmp (List ℕ) → Listed
listed_of files =
    record { list = listing_of files; text = listing_text (listing_of files); size = size_of files }

abbrev pub listed_due : FinMap path_cmp (List ℕ) → Result Listed HashFault
listed_due files = unless_over (files_limit files) (listed_of files)

-- the files below a path
abbrev pub files_at : Tree → Path → FinMap path_cmp (List ℕ)
files_at t p = from_entries (members_of p (entries t))

-- an answer is the one that is due, or a free one: want of memory, or a failure that the world has counted
abbrev pub IsDue : {A : Type 0} → Result A HashFault → Result A HashFault → Type 0
IsDue (Err NoMemory) due = ⊤
IsDue (Err Failed) due = ⊤
IsDue answer due = answer ≡ due

-- a file is said to have changed at the path or below it, by two sizes that differ, and never where the tree is told
abbrev pub IsChangeAt : Bool → Path → HashFault → Type 0
IsChangeAt tells at (Changed path told found) = (under at path ≡ true) × IsHonest tells told found
IsChangeAt tells at (TooLarge what limit) = limit ≡ limit_of what
IsChangeAt tells at fault = ⊤

-- ---- a single file

abbrev pub file_within : Option What → List ℕ → Result Named FileFault
file_within None bytes = Ok (named_bytes bytes)
file_within (Some what) bytes = Err (f.TooLarge what (limit_of what))

abbrev pub file_naming_of : Option Item → Result Named FileFault
file_naming_of None = Err f.Missing
file_naming_of (Some folder) = Err f.Missing
file_naming_of (Some (file bytes)) = file_within (if_over w.FileSize (length bytes)) bytes

abbrev pub IsFileDue : Result Named FileFault → Result Named FileFault → Type 0
IsFileDue (Err f.Failed) due = ⊤
IsFileDue answer due = answer ≡ due

abbrev pub IsFileChange : Bool → FileFault → Type 0
IsFileChange tells (f.Changed told found) = IsHonest tells told found
IsFileChange tells (f.TooLarge what limit) = limit ≡ limit_of what
IsFileChange tells fault = ⊤

-- 32 digits, of no folder's listing, and no number of files
pub record IsFileName (named : Named) : Type 0 where
  pub digits : IsTrue (are_digits named.name.digits)
  pub dir : named.name.dir ≡ false
  pub nfiles : named.nfiles ≡ None
