-- Run records: what is remembered of a run, each in a file whose place is made of two SHA-256.
--     canonical_entry e        the entry with the canonical node of each parameter
--     record_text e            the text that is kept of an entry
--     key_of e                 what a run is found by: its commands, what it read, and the paths that it wrote
--     record_path e            where the record of an entry stands
--     record_at t key name     the entry of a record that can be read; any other file counts as none
use Rattle.std.specs.Prelude.{ℕ, Bool, List, [], ◌∷◌, ◌++◌, map, take, bytes_eq, codes, Option, Some, None, Result, Ok, Err, if◌then◌else◌}
use Rattle.sha2.specs.Sha256.{sha256}
use Rattle.hex.specs.Hex.{encode_lower}
use Rattle.dvc_base.specs.Path.{Path}
use Rattle.dvc_base.specs.RunKey.{RunKey}
use Rattle.dvc_base.specs.declared.data.ParamFile.{ParamFile}
use Rattle.dvc_base.specs.declared.node.Pair.{Pair}
use Rattle.world_api.specs.Tree.{Tree, Item, file, item_at}
use Rattle.yaml_print.specs.Print.{print_text}
use Rattle.lock_files.specs.declared.entry.Entry.{Entry}
use Rattle.lock_files.specs.declared.fault.LockFault.{LockFault}
use Rattle.lock_files.specs.Nodes.{entry_node, key_node}
use Rattle.lock_files.specs.Read.{entry_read}
use Rattle.params.specs.Canonical.{canonical, with_value}
use Rattle.object_cache.specs.Objects.{cache_path}

-- ---- texts

-- 59 collections may stand in one another in a parameter
abbrev pub canonical_pair : Pair → Pair
canonical_pair = with_value (canonical 59)

-- each key of the file with the canonical node of its value
abbrev pub canonical_file : ParamFile → ParamFile
canonical_file f = record { file = f.file; keys = map canonical_pair f.keys }

abbrev pub canonical_entry : Entry → Entry
canonical_entry e = record { commands = e.commands; deps = e.deps; params = map canonical_file e.params; outs = e.outs }

-- printed as a lock has it
abbrev pub record_text : Entry → List ℕ
record_text e = print_text (entry_node (canonical_entry e))

-- the SHA-256 of bytes, in 64 lower-case digits
abbrev pub digits_of : List ℕ → List ℕ
digits_of bytes = encode_lower (sha256 bytes)

-- of an entry with canonical parameters
abbrev pub key_of_canonical : Entry → RunKey
key_of_canonical e = record { digits = digits_of (print_text (key_node e)) }

abbrev pub key_of : Entry → RunKey
key_of e = key_of_canonical (canonical_entry e)

-- ---- places

-- `.dvc/cache/runs`
abbrev pub runs_path : Path
runs_path = cache_path ++ codes "runs" ∷ []

-- the folder of the records of one key
abbrev pub key_folder : RunKey → Path
key_folder key = runs_path ++ take 2 key.digits ∷ key.digits ∷ []

-- the place of a record, by its key and its text
abbrev pub place_of : RunKey → List ℕ → Path
place_of key text = key_folder key ++ digits_of text ∷ []

abbrev pub record_path : Entry → Path
record_path e = place_of (key_of e) (record_text e)

-- ---- readable records

-- bytes whose SHA-256 is the name
abbrev pub has_name : List ℕ → List ℕ → Bool
has_name name bytes = bytes_eq (digits_of bytes) name

-- an entry of the key
abbrev pub has_key : RunKey → Entry → Bool
has_key key e = bytes_eq (key_of e).digits key.digits

-- what was read, where it is an entry of the key
abbrev pub entry_with_key : RunKey → Result Entry LockFault → Option Entry
entry_with_key key (Ok e) = if has_key key e then Some e else None
entry_with_key key (Err fault) = None

-- the entry that the bytes are the record of, under a key and a name
abbrev pub record_in_bytes : RunKey → List ℕ → List ℕ → Option Entry
record_in_bytes key name bytes = if has_name name bytes then entry_with_key key (entry_read bytes) else None

-- a folder is no record
abbrev pub record_in : RunKey → List ℕ → Option Item → Option Entry
record_in key name (Some (file bytes)) = record_in_bytes key name bytes
record_in key name _ = None

abbrev pub record_at : Tree → RunKey → List ℕ → Option Entry
record_at t key name = record_in key name (item_at t (key_folder key ++ name ∷ []))
