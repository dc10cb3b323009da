-- The lock: names of stages with their entries, in order.
--     entry_of lock name      the entry under a name
--     set lock name entry     the lock with this entry under the name: in place, or at the end
--     is_lock lock            no name stands twice
use Rattle.std.specs.Prelude.{ℕ, Bool, true, not, ◌&&◌, List, [], ◌∷◌, Option, Some, None, is_some, bytes_eq, if◌then◌else◌}
use Rattle.lock_files.specs.declared.entry.Entry.{Entry}

abbrev pub Lock : Type 0
Lock = List (List ℕ × Entry)

abbrev pub entry_of : Lock → List ℕ → Option Entry
entry_of [] name = None
entry_of (e ∷ es) name = if bytes_eq e.0 name then Some e.1 else entry_of es name

abbrev pub set : Lock → List ℕ → Entry → Lock
set [] name entry = (name, entry) ∷ []
set (e ∷ es) name entry = if bytes_eq e.0 name then (name, entry) ∷ es else e ∷ set es name entry

abbrev pub is_lock : Lock → Bool
is_lock [] = true
is_lock (e ∷ es) = not (is_some (entry_of es e.0)) && is_lock es
