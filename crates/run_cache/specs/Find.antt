-- The record that a key finds.
--     found_at t key          the first that can be read, in the order of the names' bytes
--     find_fault t key        why it can't be told: before it, or in its place, stands a file with too many bytes
--     IsFindFault key fault   what a refusal tells of, over any world
--     IsReadFault p fault     the same of a refusal to read one file
--     IsOfKey key e           an entry in form, of the key
--     IsFindable e t          the entry's record can be read, and its key finds one
use Rattle.std.specs.Prelude.{◌≡◌, ℕ, true, List, [], ◌∷◌, ◌++◌, length, nat_lt, Option, Some, None, is_some, if◌then◌else◌, ⊤}
use Rattle.std.specs.Option.{option_or}
use Rattle.dvc_base.specs.Path.{Path, under}
use Rattle.dvc_base.specs.RunKey.{RunKey, are_key_digits}
use Rattle.dvc_base.specs.Limits.{limit_of}
use Rattle.dvc_base.specs.declared.limits.What.TheVariants.{YamlText}
use Rattle.world_api.specs.Tree.{Tree, Item, file, item_at, names_in}
use Rattle.lock_files.specs.declared.entry.Entry.{Entry}
use Rattle.lock_files.specs.Form.{IsEntry}
use Rattle.object_cache.specs.Due.{IsFree, or_then}
use Rattle.object_cache.specs.declared.fault.CacheFault.{CacheFault}
use Rattle.object_cache.specs.declared.fault.CacheFault.TheVariants.{Changed, TooLarge, Failed, NoMemory}
use Rattle.run_cache.specs.Records.{canonical_entry, record_text, digits_of, key_of, key_folder, record_at}

-- the record of the first name that has one
abbrev pub first_record : Tree → RunKey → List (List ℕ) → Option Entry
first_record t key [] = None
first_record t key (name ∷ names) = option_or (record_at t key name) (first_record t key names)

-- over all names in the key's folder
abbrev pub found_at : Tree → RunKey → Option Entry
found_at t key = first_record t key (names_in t (key_folder key))

-- ---- refusals

-- more bytes than a text may have
abbrev pub text_fault : Option Item → Option CacheFault
text_fault (Some (file bytes)) = if nat_lt (limit_of YamlText) (length bytes) then Some (TooLarge YamlText (limit_of YamlText)) else None
text_fault _ = None

-- what has no name of a record is never looked at
abbrev pub record_fault : Tree → RunKey → List ℕ → Option CacheFault
record_fault t key name = if are_key_digits name then text_fault (item_at t (key_folder key ++ name ∷ [])) else None

-- name by name, up to the first record that can be read
abbrev pub records_fault : Tree → RunKey → List (List ℕ) → Option CacheFault
records_fault t key [] = None
records_fault t key (name ∷ names) =
    or_then (record_fault t key name) (if is_some (record_at t key name) then None else records_fault t key names)

-- over all names in the key's folder
abbrev pub find_fault : Tree → RunKey → Option CacheFault
find_fault t key = records_fault t key (names_in t (key_folder key))

-- a text is too long, or a file below the key's folder has changed
abbrev pub IsFindFault : RunKey → CacheFault → Type 0
IsFindFault key (Changed path told found) = under (key_folder key) path ≡ true
IsFindFault key (TooLarge what limit) = (what ≡ YamlText) × (limit ≡ limit_of YamlText)
IsFindFault key Failed = ⊤
IsFindFault key NoMemory = ⊤
IsFindFault key _ = ⊥

-- the file has changed, or nothing is told of it
abbrev pub IsReadFault : Path → CacheFault → Type 0
IsReadFault p (Changed path told found) = path ≡ p
IsReadFault p fault = IsFree fault

pub record IsOfKey (key : RunKey) (e : Entry) : Type 0 where
  pub form : IsEntry e
  pub same : key_of e ≡ key

pub record IsFindable (e : Entry) (t : Tree) : Type 0 where
  pub readable : record_at t (key_of e) (digits_of (record_text e)) ≡ Some (canonical_entry e)
  pub found : is_some (found_at t (key_of e)) ≡ true
