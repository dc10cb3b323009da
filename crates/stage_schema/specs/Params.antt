-- The parameters that a stage tracks.
--     with_text texts text    the texts, with a further one at their end unless it is among them
--     wants_of items          what the items of `params` ask for, joined for each file
use Rattle.std.specs.Prelude.{ℕ, Bool, true, false, ◌||◌, List, [], ◌∷◌, ◌++◌, map, fold, bytes_eq, codes, if◌then◌else◌}
use Rattle.std.specs.List.{list_any, flat_map, position_or_len}
use Rattle.dvc_base.specs.declared.node.Node.{Node, out-Node}
use Rattle.dvc_base.specs.declared.node.Node.TheOpen.{Node-F}
use Rattle.dvc_base.specs.declared.node.Pair.{Pair}
use Rattle.stage_schema.specs.Node.{Layer, key_of, value_of, text_of, items_of, is_null}
use Rattle.stage_schema.specs.declared.stage.ParamWant.{ParamWant}

abbrev pub with_text : List (List ℕ) → List ℕ → List (List ℕ)
with_text texts text = if list_any (bytes_eq text) texts then texts else texts ++ text ∷ []

-- each text once, at its first place
abbrev pub each_once : List (List ℕ) → List (List ℕ)
each_once texts = fold with_text [] texts

abbrev pub texts_of : List Node → List (List ℕ)
texts_of items = map (λ item. text_of (out-Node item)) items

-- ---- what an item asks for

abbrev pub file_want : Pair → ParamWant
file_want p = record { file = key_of p; keys = texts_of (items_of (value_of p)); all = is_null (value_of p) }

-- a text alone is a key of `params.yaml`
abbrev pub item_wants : Layer → List ParamWant
item_wants (Node-F.Text key) = record { file = codes "params.yaml"; keys = key ∷ []; all = false } ∷ []
item_wants (Node-F.Pairs files) = map file_want files
item_wants _ = []

-- ---- joined for each file

-- a file of which nothing is asked yet
abbrev pub no_want : List ℕ → ParamWant
no_want file = record { file = file; keys = []; all = false }

-- each key once; where the whole file is tracked no key counts
abbrev pub joined : ParamWant → ParamWant → ParamWant
joined a b =
    if a.all || b.all then record a { keys = []; all = true }
    else record a { keys = fold with_text a.keys b.keys }

-- the place of a file among those of which something is asked; a new one is the last
abbrev pub place_of : List ParamWant → List ℕ → ℕ
place_of wants file = position_or_len (λ want. bytes_eq file want.file) wants

abbrev pub with_file : List ParamWant → List ℕ → List ParamWant
with_file wants file = if list_any (λ want. bytes_eq file want.file) wants then wants else wants ++ no_want file ∷ []

-- joined to what is asked of its file, or put last
abbrev pub with_want : List ParamWant → ParamWant → List ParamWant
with_want [] want = joined (no_want want.file) want ∷ []
with_want (have ∷ wants) want =
    if bytes_eq want.file have.file then joined have want ∷ wants else have ∷ with_want wants want

abbrev pub wants_of : List Node → List ParamWant
wants_of items = fold with_want [] (flat_map (λ item. item_wants (out-Node item)) items)
