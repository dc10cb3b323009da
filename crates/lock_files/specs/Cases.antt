-- Worked cases: nodes of locks, track files and entries, beside what is refused of them and what they say.
use Rattle.std.specs.Prelude.{◌≡◌, ℕ, ◌-◌, ◌^◌, pos, negsuc, true, false, List, [], ◌∷◌, codes, Some, None}
use Rattle.dvc_base.specs.Name.{ObjectName}
use Rattle.dvc_base.specs.declared.node.Node.{Node}
use Rattle.dvc_base.specs.declared.node.Node.TheVariants as nd
use Rattle.dvc_base.specs.declared.node.Pair.{Pair}
use Rattle.lock_files.specs.declared.entry.PathEntry.{PathEntry}
use Rattle.lock_files.specs.declared.fault.LockFault.TheVariants.{Schema, Unsupported, Legacy}
use Rattle.lock_files.specs.Refused.{Refusal, path_entry_refused, item_refused, items_refused, parts_refused, entry_refused, track_refused, lock_refused}
use Rattle.lock_files.specs.Value.{path_entry_in, entry_of, track_in, lock_in}
use Rattle.lock_files.specs.Nodes.{pair, text_pair, number_pair, hash_pair, path_node, entry_pairs, commands_pair}

-- ---- what the cases are made of

abbrev pub digits : List ℕ
digits = codes "900150983cd24fb0d6963f7d28e17f72"

abbrev pub folder_digits : List ℕ
folder_digits = codes "900150983cd24fb0d6963f7d28e17f72.dir"

abbrev pub of_file : ObjectName
of_file = record { digits = digits; dir = false }

abbrev pub of_folder : ObjectName
of_folder = record { digits = digits; dir = true }

abbrev pub file : PathEntry
file = record { path = codes "data"; name = of_file; size = 3; nfiles = None }

-- the pairs of a good file and of a good folder. A pair before them hides theirs with the same key
abbrev pub file_pairs : List Pair
file_pairs = text_pair (codes "path") (codes "data") ∷ hash_pair ∷ text_pair (codes "md5") digits ∷ number_pair (codes "size") 3 ∷ []

abbrev pub folder_pairs : List Pair
folder_pairs = text_pair (codes "md5") folder_digits ∷ number_pair (codes "nfiles") 2 ∷ file_pairs

abbrev pub no_hash : List Pair
no_hash = text_pair (codes "path") (codes "data") ∷ text_pair (codes "md5") digits ∷ number_pair (codes "size") 3 ∷ []

abbrev pub is_refused : List Pair → Refusal
is_refused ps = path_entry_refused [] ps

-- ---- path entries

pub record PathEntryCases : Type 0 where
  pub a_file : path_entry_in file_pairs ≡ Some file
  pub a_folder : path_entry_in folder_pairs ≡ Some (record file { name = of_folder; nfiles = Some 2 })
  pub good_file : is_refused file_pairs ≡ None
  pub good_folder : is_refused folder_pairs ≡ None
  -- a digest that YAML takes for a number is its text as written
  pub unquoted : path_entry_in (pair (codes "md5") (nd.Whole (pos 12345678901234567890123456789012) (codes "12345678901234567890123456789012")) ∷ file_pairs)
      ≡ Some (record file { name = record { digits = codes "12345678901234567890123456789012"; dir = false } })
  pub exponent : path_entry_in (pair (codes "md5") (nd.Decimal (codes "1234567890123456789012345678e012")) ∷ file_pairs)
      ≡ Some (record file { name = record { digits = codes "1234567890123456789012345678e012"; dir = false } })
  -- keys that nothing is asked of
  pub is_exec : is_refused (pair (codes "isexec") (nd.Bool true) ∷ file_pairs) ≡ None
  pub no_persist : is_refused (pair (codes "persist") (nd.Bool false) ∷ file_pairs) ≡ None
  pub push : is_refused (pair (codes "push") (nd.Bool true) ∷ file_pairs) ≡ None
  pub persist_text : is_refused (text_pair (codes "persist") (codes "true") ∷ file_pairs) ≡ None
  -- the edges of sizes
  pub largest : path_entry_in (number_pair (codes "size") (2 ^ 64 - 1) ∷ file_pairs) ≡ Some (record file { size = 2 ^ 64 - 1 })

pub record RefusedPathEntryCases : Type 0 where
  pub legacy : is_refused no_hash ≡ Some Legacy
  pub sha256 : is_refused (text_pair (codes "hash") (codes "sha256") ∷ file_pairs) ≡ Some (Unsupported (codes "hash"))
  pub null_hash : is_refused (pair (codes "hash") nd.Null ∷ file_pairs) ≡ Some (Unsupported (codes "hash"))
  pub cache : is_refused (pair (codes "cache") (nd.Bool true) ∷ file_pairs) ≡ Some (Unsupported (codes "cache"))
  pub remote : is_refused (text_pair (codes "remote") (codes "r") ∷ file_pairs) ≡ Some (Unsupported (codes "remote"))
  pub persist : is_refused (pair (codes "persist") (nd.Bool true) ∷ file_pairs) ≡ Some (Unsupported (codes "persist"))
  pub no_push : is_refused (pair (codes "push") (nd.Bool false) ∷ file_pairs) ≡ Some (Unsupported (codes "push"))
  pub no_path : is_refused (hash_pair ∷ text_pair (codes "md5") digits ∷ number_pair (codes "size") 3 ∷ []) ≡ Some (Schema (codes "path"))
  pub number_path : is_refused (number_pair (codes "path") 7 ∷ file_pairs) ≡ Some (Schema (codes "path"))
  pub upper_digits : is_refused (text_pair (codes "md5") (codes "900150983CD24FB0D6963F7D28E17F72") ∷ file_pairs) ≡ Some (Schema (codes "md5"))
  pub few_digits : is_refused (text_pair (codes "md5") (codes "900150983cd24fb0d6963f7d28e17f7") ∷ file_pairs) ≡ Some (Schema (codes "md5"))
  pub null_digits : is_refused (pair (codes "md5") nd.Null ∷ file_pairs) ≡ Some (Schema (codes "md5"))
  pub text_size : is_refused (text_pair (codes "size") (codes "3") ∷ file_pairs) ≡ Some (Schema (codes "size"))
  pub below_zero : is_refused (pair (codes "size") (nd.Whole (negsuc 0) (codes "-1")) ∷ file_pairs) ≡ Some (Schema (codes "size"))
  pub too_large : is_refused (number_pair (codes "size") (2 ^ 64) ∷ file_pairs) ≡ Some (Schema (codes "size"))
  pub count_of_a_file : is_refused (number_pair (codes "nfiles") 2 ∷ file_pairs) ≡ Some (Schema (codes "nfiles"))
  pub null_count_of_a_file : is_refused (pair (codes "nfiles") nd.Null ∷ file_pairs) ≡ Some (Schema (codes "nfiles"))
  pub folder_without_count : is_refused (text_pair (codes "md5") folder_digits ∷ file_pairs) ≡ Some (Schema (codes "nfiles"))
  -- the age is looked at first, then what is asked for, then what is ill-formed
  pub legacy_first : is_refused (pair (codes "cache") (nd.Bool true) ∷ no_hash) ≡ Some Legacy
  pub asked_first : is_refused (pair (codes "path") nd.Null ∷ pair (codes "push") (nd.Bool false) ∷ file_pairs) ≡ Some (Unsupported (codes "push"))
  -- a path that stands twice is refused before its digest
  pub twice : items_refused (codes "deps") [] (path_node file ∷ nd.Pairs (pair (codes "md5") nd.Null ∷ file_pairs) ∷ []) ≡ Some (Schema (codes "path"))
  pub item_without_pairs : item_refused (codes "outs") [] (nd.Text (codes "data")) ≡ Some (Schema (codes "outs"))

-- ---- entries

abbrev pub command : Pair
command = commands_pair (codes "cp a b" ∷ [])

abbrev pub b_then_a : Node
b_then_a = nd.Items (path_node (record file { path = codes "b" }) ∷ path_node (record file { path = codes "a" }) ∷ [])

abbrev pub a_then_b : List PathEntry
a_then_b = record file { path = codes "a" } ∷ record file { path = codes "b" } ∷ []

abbrev pub null_param : List Pair
null_param = pair (codes "k") nd.Null ∷ []

pub record EntryCases : Type 0 where
  pub one_command : entry_of (command ∷ []) ≡ record { commands = codes "cp a b" ∷ []; deps = []; params = []; outs = [] }
  pub any_order : entry_of (pair (codes "outs") b_then_a ∷ command ∷ [])
      ≡ record { commands = codes "cp a b" ∷ []; deps = []; params = []; outs = a_then_b }
  pub null_parameter : entry_of (pair (codes "params") (nd.Pairs (pair (codes "p.yaml") (nd.Pairs null_param) ∷ [])) ∷ command ∷ [])
      ≡ record { commands = codes "cp a b" ∷ []; deps = []; params = record { file = codes "p.yaml"; keys = null_param } ∷ []; outs = [] }
  pub empty_parts : parts_refused (command ∷ pair (codes "deps") (nd.Items []) ∷ pair (codes "params") (nd.Pairs []) ∷ []) ≡ None
  -- what is empty isn't written, and several commands are a list
  pub written : entry_pairs (record { commands = codes "a" ∷ codes "b" ∷ []; deps = []; params = []; outs = [] })
      ≡ pair (codes "cmd") (nd.Items (nd.Text (codes "a") ∷ nd.Text (codes "b") ∷ [])) ∷ []

pub record RefusedEntryCases : Type 0 where
  pub no_command : parts_refused [] ≡ Some (Schema (codes "cmd"))
  pub no_commands : parts_refused (pair (codes "cmd") (nd.Items []) ∷ []) ≡ Some (Schema (codes "cmd"))
  pub null_among_commands : parts_refused (pair (codes "cmd") (nd.Items (nd.Text (codes "a") ∷ nd.Null ∷ [])) ∷ []) ≡ Some (Schema (codes "cmd"))
  pub null_deps : parts_refused (command ∷ pair (codes "deps") nd.Null ∷ []) ≡ Some (Schema (codes "deps"))
  pub null_params : parts_refused (command ∷ pair (codes "params") nd.Null ∷ []) ≡ Some (Schema (codes "params"))
  pub null_file : parts_refused (command ∷ pair (codes "params") (nd.Pairs (pair (codes "p.yaml") nd.Null ∷ [])) ∷ []) ≡ Some (Schema (codes "p.yaml"))
  -- the outputs are looked at before the parameters, in whatever order they are written
  pub outs_first : parts_refused (pair (codes "params") nd.Null ∷ pair (codes "outs") nd.Null ∷ command ∷ []) ≡ Some (Schema (codes "outs"))
  -- an entry that is no mapping is refused by its stage's name
  pub no_mapping : entry_refused (codes "train") nd.Null ≡ Some (Schema (codes "train"))

-- ---- track files and locks

abbrev pub one_out : Pair
one_out = pair (codes "outs") (nd.Items (nd.Pairs file_pairs ∷ []))

pub record TrackCases : Type 0 where
  pub kept : track_in (nd.Pairs (text_pair (codes "desc") (codes "d") ∷ one_out ∷ pair (codes "meta") nd.Null ∷ []))
      ≡ record { outs = file ∷ []; rest = text_pair (codes "desc") (codes "d") ∷ pair (codes "meta") nd.Null ∷ [] }
  pub no_outs : track_refused (nd.Pairs []) ≡ Some (Schema (codes "outs"))
  pub empty_outs : track_refused (nd.Pairs (pair (codes "outs") (nd.Items []) ∷ [])) ≡ Some (Schema (codes "outs"))
  pub deps : track_refused (nd.Pairs (pair (codes "deps") nd.Null ∷ one_out ∷ [])) ≡ Some (Unsupported (codes "deps"))
  pub wdir : track_refused (nd.Pairs (text_pair (codes "wdir") (codes "..") ∷ one_out ∷ [])) ≡ Some (Unsupported (codes "wdir"))
  pub null_track : track_refused nd.Null ≡ Some (Schema [])

abbrev pub stages : Node → Pair
stages v = pair (codes "stages") v

abbrev pub schema : Pair
schema = text_pair (codes "schema") (codes "2.0")

pub record LockCases : Type 0 where
  pub null_lock : lock_refused nd.Null ≡ None
  pub empty_lock : lock_in nd.Null ≡ []
  pub null_stages : lock_refused (nd.Pairs (schema ∷ stages nd.Null ∷ [])) ≡ None
  pub unquoted_schema : lock_refused (nd.Pairs (pair (codes "schema") (nd.Decimal (codes "2.0")) ∷ stages nd.Null ∷ [])) ≡ None
  pub no_schema : lock_refused (nd.Pairs (stages nd.Null ∷ [])) ≡ Some Legacy
  pub other_schema : lock_refused (nd.Pairs (pair (codes "schema") (nd.Decimal (codes "2.1")) ∷ stages nd.Null ∷ [])) ≡ Some (Schema (codes "schema"))
  pub no_stages : lock_refused (nd.Pairs (schema ∷ [])) ≡ Some (Schema (codes "stages"))
  pub text_stages : lock_refused (nd.Pairs (schema ∷ stages (nd.Text (codes "s")) ∷ [])) ≡ Some (Schema (codes "stages"))
  pub other_keys : lock_refused (nd.Pairs (pair (codes "meta") nd.Null ∷ schema ∷ stages nd.Null ∷ [])) ≡ None
  pub root : lock_refused (nd.Items []) ≡ Some (Schema [])
  -- of two stages that are refused the first one in the text
  pub first_stage : lock_refused (nd.Pairs (schema ∷ stages (nd.Pairs (pair (codes "b") nd.Null ∷ pair (codes "a") nd.Null ∷ [])) ∷ [])) ≡ Some (Schema (codes "b"))
  pub one_stage : lock_in (nd.Pairs (schema ∷ stages (nd.Pairs (pair (codes "s") (nd.Pairs (command ∷ [])) ∷ [])) ∷ []))
      ≡ (codes "s", record { commands = codes "cp a b" ∷ []; deps = []; params = []; outs = [] }) ∷ []
