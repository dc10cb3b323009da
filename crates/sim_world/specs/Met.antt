-- The contents that a world in memory met, and what its book has of them.
--     values_of c t             the values that a change meets, where the tree t stands before it
--     values_met t cs           those of all changes, in order
--     contents_met t cs         the bytes of the files of the opening tree, and then what these values bring
--     first_under d xs          the first content whose MD5 is the digest
--     IsIn book x, IsBooks book v      the content, and all that the value brings, is the book's
--     NoneShare xs              no two contents share an MD5
use Rattle.std.specs.Prelude.{◌≡◌, ◌⊎◌, ℕ, List, [], ◌∷◌, ◌++◌, bytes_eq, Option, Some, false, ⊤}
use Rattle.std.specs.List.{AllByRecursion, find, flat_map}
use Rattle.std.specs.FinMap.{values}
use Rattle.md5.specs.Md5.{md5}
use Rattle.dvc_base.specs.Path.{Path, under}
use Rattle.world_api.specs.Tree.{Tree, file, item_at, Value as Told, nothing, content, members, value_at}
use Rattle.world_api.specs.Effect.{Effect}
use Rattle.world_api.specs.History.{Book}
use Rattle.world_api.specs.Layout.{tmp_path}
use Rattle.sim_world.specs.Answer.{told}
use Rattle.sim_world.specs.Applied.{tree_changed}
use Rattle.sim_world.specs.Book.{contents_of, files_in}
use Rattle.sim_world.specs.Change.{dep_values, history_of}
use Rattle.sim_world.specs.Listing.{listing_text_of}
use Rattle.sim_world.specs.declared.change.Change.{Change}
use Rattle.sim_world.specs.declared.change.Change.TheVariants.{Edited, Cleared, Started, Left, Ran, FolderMade, Written, Settled, Published, Met}

-- what stands in a lane isn't met before it is published
abbrev pub values_of : Change → Tree → List Told
values_of (Edited at value) t = told value ∷ []
values_of (Cleared at) t = []
values_of (Started job) t = dep_values job t
values_of (Left at value) t = told value ∷ []
values_of (Ran job) t = []
values_of (FolderMade at) t = []
values_of (Written lane value) t = []
values_of (Settled lane) t = []
values_of (Published lane at value) t = told value ∷ []
values_of (Met at) t = value_at t at ∷ []

abbrev pub values_met : Tree → List Change → List Told
values_met t [] = []
values_met t (c ∷ cs) = values_of c t ++ values_met (tree_changed c t) cs

abbrev pub contents_met : Tree → List Change → List (List ℕ)
contents_met t cs = files_in t ++ flat_map contents_of (values_met t cs)

abbrev pub first_under : List ℕ → List (List ℕ) → Option (List ℕ)
first_under digest xs = find (λ x. bytes_eq (md5 x) digest) xs

abbrev pub IsIn : Book → List ℕ → Type 0
IsIn book bytes = book (md5 bytes) ≡ Some bytes

-- of a folder the text of its listing, and the bytes of each of its files
abbrev pub IsBooks : Book → Told → Type 0
IsBooks book nothing = ⊤
IsBooks book (content bytes) = IsIn book bytes
IsBooks book (members m) = IsIn book (listing_text_of m) × AllByRecursion (IsIn book) (values m)

-- one of the list
abbrev pub IsOneOf : {X : Type 0} → List X → X → Type 0
IsOneOf [] x = ⊥
IsOneOf (y ∷ ys) x = (y ≡ x) ⊎ IsOneOf ys x

abbrev pub NoneShare : List (List ℕ) → Type 0
NoneShare xs = (x y : List ℕ) → IsOneOf xs x → IsOneOf xs y → md5 x ≡ md5 y → x ≡ y

-- each file but those of lanes is the book's, and so is each of these values
pub record Covers (t : Tree) (vs : List Told) (book : Book) : Type 0 where
  pub files : (p : Path) (bytes : List ℕ) → under tmp_path p ≡ false → item_at t p ≡ Some (file bytes) → IsIn book bytes
  pub values : (v : Told) → IsOneOf vs v → IsBooks book v

-- ---- laws

abbrev pub BookIsOfMet : Type 0
BookIsOfMet =
    (effect : Effect) (t : Tree) (cs : List Change) (digest : List ℕ)
    → (history_of effect t cs).present.aside.book digest ≡ first_under digest (contents_met t cs)

abbrev pub BookCovers : Type 0
BookCovers =
    (effect : Effect) (t : Tree) (cs : List Change) → NoneShare (contents_met t cs)
    → Covers (history_of effect t cs).present.tree (values_met t cs) (history_of effect t cs).present.aside.book
