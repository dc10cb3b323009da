-- Reading a file from its start.
--     IsTold item size                  a file of this size stands there
--     HoldsFile H item                  what takes the pieces has taken just the bytes of the file
--     HoldsFront tells item most H n    it has taken n bytes: all of the file, or as many as are wanted at the most
--     IsChange tells size why           a change of size is told with the size that was told before, and another one
-- H are the bytes that were taken. Clauses on the file hold where the world tells its tree, and those on numbers over
-- each world.
use Rattle.std.specs.Prelude.{◌≡◌, ◌⊎◌, ℕ, ◌-◌, ◌≤◌, Bool, List, ◌++◌, length, take, drop, Option, Some, IsTrue, ⊤}
use Rattle.world_api.specs.Tree.{Item, file}
use Rattle.world_api.specs.Outside.{IsHonest}
use Rattle.file_bytes.specs.declared.fault.ReadFault.{ReadFault}
use Rattle.file_bytes.specs.declared.fault.ReadFault.TheVariants.{Changed, Failed, NoMemory}

abbrev pub IsTold : Option Item → ℕ → Type 0
IsTold item size = (bytes : List ℕ) × ((item ≡ Some (file bytes)) × (length bytes ≡ size))

pub record HoldsFile (H : List ℕ → Type 0) (item : Option Item) : Type 0 where
  pub bytes : List ℕ
  pub held : H bytes
  pub whole : item ≡ Some (file bytes)

-- so many bytes were taken
pub record HasTaken (H : List ℕ → Type 0) (count : ℕ) : Type 0 where
  pub bytes : List ℕ
  pub held : H bytes
  pub size : length bytes ≡ count

-- the first bytes of a file: all that it has, or as many as are wanted at the most
abbrev pub IsFront : Option Item → ℕ → List ℕ → Type 0
IsFront (Some (file all)) most bytes = bytes ≡ take most all
IsFront _ most bytes = ⊤

pub record HoldsFront (tells : Bool) (item : Option Item) (most : ℕ) (H : List ℕ → Type 0) (count : ℕ) : Type 0 where
  pub bytes : List ℕ
  pub held : H bytes
  pub size : length bytes ≡ count
  pub front : IsTrue tells → IsFront item most bytes

-- the bytes of a file that follow from an offset on; none only at its end, or where none are wanted
abbrev pub IsNext : Option Item → ℕ → ℕ → List ℕ → Type 0
IsNext (Some (file all)) from wanted more =
    (more ≡ take (length more) (drop from all)) × (length more ≤ length all - from)
    × (length more ≡ 0 → (length all ≤ from) ⊎ (wanted ≡ 0))
IsNext _ from wanted more = ⊤

-- what held some bytes has taken count more
pub record HasAdded (tells : Bool) (item : Option Item) (from wanted : ℕ) (H : List ℕ → Type 0) (bytes : List ℕ) (count : ℕ) : Type 0 where
  pub more : List ℕ
  pub held : H (bytes ++ more)
  pub size : length more ≡ count
  pub next : IsTrue tells → IsNext item from wanted more

-- ---- refusals

abbrev pub IsChange : Bool → ℕ → ReadFault → Type 0
IsChange tells size (Changed told found) = (told ≡ size) × IsHonest tells told found
IsChange tells size Failed = ⊤
IsChange tells size NoMemory = ⊤

-- the size that was found is the number of bytes that were taken
abbrev pub IsChangeAfter : Bool → (List ℕ → Type 0) → ℕ → ReadFault → Type 0
IsChangeAfter tells H size (Changed told found) = (told ≡ size) × IsHonest tells told found × HasTaken H found
IsChangeAfter tells H size Failed = ⊤
IsChangeAfter tells H size NoMemory = ⊤

-- a failure that has nothing to do with sizes
abbrev pub IsFree : ReadFault → Type 0
IsFree (Changed told found) = ⊥
IsFree Failed = ⊤
IsFree NoMemory = ⊤
