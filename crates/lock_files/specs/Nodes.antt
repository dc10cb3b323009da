-- The node of a value, whose text is what is printed of it.
--     entry_node e     `cmd`, `deps`, `params`, `outs`, each left out where it is empty
--     key_node e       the same with the paths of `outs` alone: what the outputs were made of
--     track_node t     `outs`, and the other pairs in their order
--     lock_node book   `schema` and `stages`, these in the book's order
use Rattle.std.specs.Prelude.{ℕ, pos, List, [], ◌∷◌, ◌++◌, map, Option, Some, None, codes}
use Rattle.std.specs.Fmt.{decimal}
use Rattle.dvc_base.specs.Name.{ObjectName, name_text}
use Rattle.dvc_base.specs.declared.data.ParamFile.{ParamFile}
use Rattle.dvc_base.specs.declared.node.Node.{Node}
use Rattle.dvc_base.specs.declared.node.Node.TheVariants as nd
use Rattle.dvc_base.specs.declared.node.Pair.{Pair, roll-Pair}
use Rattle.lock_files.specs.declared.entry.PathEntry.{PathEntry}
use Rattle.lock_files.specs.declared.entry.Entry.{Entry}
use Rattle.lock_files.specs.declared.entry.Track.{Track}
use Rattle.lock_files.specs.Book.{Lock}

-- ---- pairs

abbrev pub pair : List ℕ → Node → Pair
pair key v = roll-Pair (record { key = key; value = v })

abbrev pub text_pair : List ℕ → List ℕ → Pair
text_pair key t = pair key (nd.Text t)

abbrev pub number_node : ℕ → Node
number_node n = nd.Whole (pos n) (decimal n)

abbrev pub number_pair : List ℕ → ℕ → Pair
number_pair key n = pair key (number_node n)

-- ---- path entries

abbrev pub count_pairs : Option ℕ → List Pair
count_pairs None = []
count_pairs (Some n) = number_pair (codes "nfiles") n ∷ []

abbrev pub name_pair : ObjectName → Pair
name_pair name = text_pair (codes "md5") (name_text name)

abbrev pub hash_pair : Pair
hash_pair = text_pair (codes "hash") (codes "md5")

-- in a lock
abbrev pub path_pairs : PathEntry → List Pair
path_pairs e =
    text_pair (codes "path") e.path ∷ hash_pair ∷ name_pair e.name ∷ number_pair (codes "size") e.size ∷ count_pairs e.nfiles

abbrev pub path_node : PathEntry → Node
path_node e = nd.Pairs (path_pairs e)

-- in a track file
abbrev pub out_pairs : PathEntry → List Pair
out_pairs e =
    name_pair e.name ∷ number_pair (codes "size") e.size ∷ count_pairs e.nfiles ++ hash_pair ∷ text_pair (codes "path") e.path ∷ []

abbrev pub out_node : PathEntry → Node
out_node e = nd.Pairs (out_pairs e)

-- ---- entries

abbrev pub text_node : List ℕ → Node
text_node t = nd.Text t

abbrev pub texts_node : List (List ℕ) → Node
texts_node texts = nd.Items (map text_node texts)

-- one command is a text, several are a list
abbrev pub commands_node : List (List ℕ) → Node
commands_node [] = texts_node []
commands_node (command ∷ []) = nd.Text command
commands_node (first ∷ second ∷ rest) = texts_node (first ∷ second ∷ rest)

abbrev pub commands_pair : List (List ℕ) → Pair
commands_pair commands = pair (codes "cmd") (commands_node commands)

abbrev pub list_pair : List ℕ → List PathEntry → Pair
list_pair key es = pair key (nd.Items (map path_node es))

-- a list under its key; nothing of an empty one
abbrev pub paths_part : List ℕ → List PathEntry → List Pair
paths_part key [] = []
paths_part key (e ∷ es) = list_pair key (e ∷ es) ∷ []

abbrev pub file_pair : ParamFile → Pair
file_pair f = pair f.file (nd.Pairs f.keys)

abbrev pub files_pair : List ParamFile → Pair
files_pair fs = pair (codes "params") (nd.Pairs (map file_pair fs))

abbrev pub params_part : List ParamFile → List Pair
params_part [] = []
params_part (f ∷ fs) = files_pair (f ∷ fs) ∷ []

abbrev pub entry_pairs : Entry → List Pair
entry_pairs e =
    commands_pair e.commands
    ∷ paths_part (codes "deps") e.deps ++ params_part e.params ++ paths_part (codes "outs") e.outs

abbrev pub entry_node : Entry → Node
entry_node e = nd.Pairs (entry_pairs e)

-- ---- what outputs were made of

-- a list of texts under its key; nothing of an empty one
abbrev pub texts_part : List ℕ → List (List ℕ) → List Pair
texts_part key [] = []
texts_part key (t ∷ ts) = pair key (texts_node (t ∷ ts)) ∷ []

abbrev pub path_of : PathEntry → List ℕ
path_of e = e.path

abbrev pub key_pairs : Entry → List Pair
key_pairs e =
    commands_pair e.commands
    ∷ paths_part (codes "deps") e.deps ++ params_part e.params ++ texts_part (codes "outs") (map path_of e.outs)

abbrev pub key_node : Entry → Node
key_node e = nd.Pairs (key_pairs e)

-- ---- track files

abbrev pub outs_pair : List PathEntry → Pair
outs_pair outs = pair (codes "outs") (nd.Items (map out_node outs))

abbrev pub track_pairs : Track → List Pair
track_pairs t = outs_pair t.outs ∷ t.rest

abbrev pub track_node : Track → Node
track_node t = nd.Pairs (track_pairs t)

-- ---- locks

abbrev pub stage_pair : List ℕ × Entry → Pair
stage_pair s = pair s.0 (entry_node s.1)

abbrev pub stages_node : Lock → Node
stages_node book = nd.Pairs (map stage_pair book)

abbrev pub lock_pairs : Lock → List Pair
lock_pairs book = text_pair (codes "schema") (codes "2.0") ∷ pair (codes "stages") (stages_node book) ∷ []

abbrev pub lock_node : Lock → Node
lock_node book = nd.Pairs (lock_pairs book)
