-- What is said of a lock.
--     others_of names lock      what stands under other names, in order
--     IsTruthful                each entry is true
--     HasEntry lock t s         the lock has the entry that the stage has in the tree
use Rattle.std.specs.Prelude.{◌≡◌, ℕ, Bool, List, [], ◌∷◌, Some, bytes_eq, if◌then◌else◌}
use Rattle.std.specs.List.{list_any}
use Rattle.world_api.specs.Tree.{Tree}
use Rattle.world_api.specs.Effect.{Effect}
use Rattle.world_api.specs.History.{Book}
use Rattle.lock_files.specs.declared.entry.Entry.{Entry}
use Rattle.lock_files.specs.Book.{Lock, entry_of}
use Rattle.repro_laws.specs.Entries.{IsPresent, IsTrueEntry}
use Rattle.repro_laws.specs.declared.stage.Stage.{Stage}

-- whether a name is among the names
abbrev pub is_among : List (List ℕ) → List ℕ → Bool
is_among names name = list_any (λ n. bytes_eq n name) names

abbrev pub others_of : List (List ℕ) → Lock → Lock
others_of names [] = []
others_of names (e ∷ es) = if is_among names e.0 then others_of names es else e ∷ others_of names es

abbrev pub IsTruthful : Book → Effect → Lock → Type 0
IsTruthful book effect lock = (name : List ℕ) (e : Entry) → entry_of lock name ≡ Some e → IsTrueEntry book effect e

pub record HasEntry (lock : Lock) (t : Tree) (s : Stage) : Type 0 where
  pub entry : Entry
  pub there : entry_of lock s.name ≡ Some entry
  pub present : IsPresent entry s t
