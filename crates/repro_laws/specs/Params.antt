-- The parameters that a stage tracks.
--     tracked_at t ws       each file with its tracked keys and their values, or the first refusal, as the files are written
--     files_in_order got    the files in the order of their texts
--     AreParams ps          parameters as an entry has them
use Rattle.std.specs.Prelude.{ℕ, List, [], ◌∷◌, map, Option, Some, None, Result, Ok, Err, IsTrue, if◌then◌else◌}
use Rattle.dvc_base.specs.Path.{Path}
use Rattle.dvc_base.specs.Limits.{limit_of}
use Rattle.dvc_base.specs.declared.limits.What.TheVariants as w
use Rattle.dvc_base.specs.declared.fault.Fault.{Fault}
use Rattle.dvc_base.specs.declared.fault.Fault.TheVariants as f
use Rattle.dvc_base.specs.declared.data.ParamFile.{ParamFile}
use Rattle.dvc_base.specs.declared.node.Node.{Node}
use Rattle.dvc_base.specs.declared.node.Pair.{Pair, roll-Pair}
use Rattle.yaml_nodes.specs.Part.{key_of}
use Rattle.lock_files.specs.Mapping.{pairs_in}
use Rattle.yaml_print.specs.Sound.{Each}
use Rattle.lock_files.specs.Order.{in_order, is_rising}
use Rattle.lock_files.specs.Form.{IsKeyed, file_at}
use Rattle.world_api.specs.Tree.{Tree, item_at}
use Rattle.params.specs.Lookup.{lookup}
use Rattle.params.specs.Read.{params_at}
use Rattle.params.specs.declared.fault.ParamsFault.{ParamsFault}
use Rattle.params.specs.declared.fault.ParamsFault.TheVariants as p
use Rattle.repro_laws.specs.declared.stage.Tracked.{Tracked}

-- ---- the values of keys

abbrev pub found_value : Path → List ℕ → Option Node → Result Pair Fault
found_value file key None = Err (f.NoKey file key)
found_value file key (Some value) = Ok (roll-Pair (record { key = key; value = value }))

abbrev pub key_value : Path → Node → List ℕ → Result Pair Fault
key_value file root key = found_value file key (lookup key root)

abbrev pub with_first : {A : Type 0} → Result A Fault → Result (List A) Fault → Result (List A) Fault
with_first (Err fault) rest = Err fault
with_first (Ok x) (Err fault) = Err fault
with_first (Ok x) (Ok xs) = Ok (x ∷ xs)

abbrev pub key_values : Path → Node → List (List ℕ) → Result (List Pair) Fault
key_values file root [] = Ok []
key_values file root (key ∷ keys) = with_first (key_value file root key) (key_values file root keys)

abbrev pub pairs_or_none : Option (List Pair) → List Pair
pairs_or_none None = []
pairs_or_none (Some ps) = ps

-- ---- files

abbrev pub params_answer : Path → ParamsFault → Fault
params_answer file p.NoFile = f.NoFile file
params_answer file (p.Yaml why) = f.Yaml file why
params_answer file (p.Schema key) = f.Schema file key
params_answer file (p.Changed told found) = f.Changed file told found
params_answer file p.TooLarge = f.TooLarge w.YamlText (limit_of w.YamlText)
params_answer file p.Failed = f.WorldFault
params_answer file p.NoMemory = f.NoMemory

abbrev pub file_with : List ℕ → Result (List Pair) Fault → Result ParamFile Fault
file_with text (Ok keys) = Ok (record { file = text; keys = in_order key_of keys })
file_with text (Err fault) = Err fault

-- the tracked keys of a file that was read; a whole file tracks each of its own keys
abbrev pub file_keys : Tracked → Node → Result ParamFile Fault
file_keys w root =
    file_with w.text (if w.all then Ok (pairs_or_none (pairs_in root)) else key_values w.path root w.keys)

abbrev pub file_read : Tracked → Result Node ParamsFault → Result ParamFile Fault
file_read w (Ok root) = file_keys w root
file_read w (Err why) = Err (params_answer w.path why)

abbrev pub tracked_at : Tree → List Tracked → Result (List ParamFile) Fault
tracked_at t [] = Ok []
tracked_at t (w ∷ ws) = with_first (file_read w (params_at (item_at t w.path))) (tracked_at t ws)

abbrev pub files_in_order : Result (List ParamFile) Fault → Result (List ParamFile) Fault
files_in_order (Ok ps) = Ok (in_order file_at ps)
files_in_order (Err fault) = Err fault

-- files and keys in order, each value one that can be printed there
pub record AreParams (ps : List ParamFile) : Type 0 where
  pub files : IsTrue (is_rising (map file_at ps))
  pub keys : Each (λ f. IsKeyed f.keys) ps
