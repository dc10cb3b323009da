-- What a file of parameters holds.
--     params_in text      the node of a text, or why it holds no parameters
--     params_at item      that of what stands at a path
--     IsRead got due      what was read is what is due, but for want of memory and the world's failures
-- A value stands under five collections in `dvc.lock`, where 64 may stand in one another, so 59 may stand in a parameter's value.
use Rattle.std.specs.Prelude.{◌≡◌, ◌⊎◌, ℕ, Bool, true, false, List, [], ◌∷◌, length, nat_lt, Option, Some, None, Result, Ok, Err, IsTrue, ⊤, option_map, if◌then◌else◌}
use Rattle.dvc_base.specs.Limits.{limit_of}
use Rattle.dvc_base.specs.declared.limits.What.TheVariants.{YamlText}
use Rattle.dvc_base.specs.declared.node.Node.{Node, out-Node}
use Rattle.dvc_base.specs.declared.node.Node.TheOpen.{Node-F}
use Rattle.dvc_base.specs.declared.node.Node.TheVariants as nd
use Rattle.dvc_base.specs.declared.node.Pair.{Pair}
use Rattle.dvc_base.specs.declared.node.YamlFault.{YamlFault}
use Rattle.world_api.specs.Tree.{Item, folder, file}
use Rattle.world_api.specs.Outside.{IsHonest}
use Rattle.yaml_nodes.specs.Document.{parse}
use Rattle.yaml_nodes.specs.Part.{key_of}
use Rattle.yaml_print.specs.ScalarText.{Layer}
use Rattle.yaml_print.specs.Print.{value_of}
use Rattle.lock_files.specs.Mapping.{is_within}
use Rattle.params.specs.declared.fault.ParamsFault.{ParamsFault}
use Rattle.params.specs.declared.fault.ParamsFault.TheVariants as f

-- the first key under which more collections stand in one another
abbrev pub deep_key : List Pair → Option (List ℕ)
deep_key [] = None
deep_key (pair ∷ pairs) = if is_within 59 (value_of pair) then deep_key pairs else Some (key_of pair)

-- the key at which a root is refused
abbrev pub refused_key : Layer → Option (List ℕ)
refused_key Node-F.Null = None
refused_key (Node-F.Pairs pairs) = deep_key pairs
refused_key _ = Some []

-- Null has no pairs
abbrev pub pairs_or_none : Layer → Node → Node
pairs_or_none Node-F.Null root = nd.Pairs []
pairs_or_none _ root = root

abbrev pub params_by : Option (List ℕ) → Node → Result Node ParamsFault
params_by None root = Ok (pairs_or_none (out-Node root) root)
params_by (Some key) root = Err (f.Schema key)

abbrev pub params_of : Node → Result Node ParamsFault
params_of root = params_by (refused_key (out-Node root)) root

abbrev pub params_or : Result Node YamlFault → Result Node ParamsFault
params_or (Ok root) = params_of root
params_or (Err fault) = Err (f.Yaml fault)

abbrev pub params_in : List ℕ → Result Node ParamsFault
params_in text = params_or (parse text)

abbrev pub params_at : Option Item → Result Node ParamsFault
params_at None = Err f.NoFile
params_at (Some folder) = Err f.NoFile
params_at (Some (file text)) = if nat_lt (limit_of YamlText) (length text) then Err f.TooLarge else params_in text

abbrev pub is_free : ParamsFault → Bool
is_free f.Failed = true
is_free f.NoMemory = true
is_free _ = false

abbrev pub IsRead : Result Node ParamsFault → Result Node ParamsFault → Type 0
IsRead (Ok node) due = due ≡ Ok node
IsRead (Err fault) due = IsTrue (is_free fault) ⊎ (due ≡ Err fault)

-- an answer to a look for a refused key: Ok where there is none
abbrev pub Looks : {T : Type 0} → Result T ParamsFault → Option (List ℕ) → Type 0
Looks (Ok _) due = due ≡ None
Looks (Err fault) due = (fault ≡ f.NoMemory) ⊎ (option_map f.Schema due ≡ Some fault)

-- ---- refusals that have nothing to do with what stands there

-- a change is told with two sizes that differ, and never where the world tells its tree
abbrev pub IsChangeFrom : Bool → ParamsFault → Type 0
IsChangeFrom tells (f.Changed told found) = IsHonest tells told found
IsChangeFrom tells _ = ⊤

-- the size that was told before is the one that a change tells
abbrev pub IsToldAs : ℕ → ParamsFault → Type 0
IsToldAs size (f.Changed told found) = told ≡ size
IsToldAs size _ = ⊤

-- the answers to reading bytes
abbrev pub IsFreeFault : Bool → ParamsFault → Type 0
IsFreeFault tells (f.Changed told found) = IsHonest tells told found
IsFreeFault tells fault = IsTrue (is_free fault)

-- no file is looked at, so none has changed or failed
abbrev pub IsSteady : ParamsFault → Type 0
IsSteady (f.Changed told found) = ⊥
IsSteady f.Failed = ⊥
IsSteady _ = ⊤
