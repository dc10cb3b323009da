-- An item of `vars` that is a text: `file`, or `file:key1,key2`.
--     file_in item      the file, up to the first `:`
--     keys_in item      the text of the keys behind it; none where the whole file is wanted
--     keys_of text      the keys between its commas
--     chosen keys ps    the pairs of a file's mapping with these keys, in the order of the keys, or NoKey with the first key that
--                       is missing. A key that stands twice counts once
use Rattle.std.specs.Prelude.{ℕ, Bool, ◌==◌, if◌then◌else◌, List, [], ◌∷◌, ◌++◌, Option, Some, None, Result, Ok, Err}
use Rattle.std.specs.List.{list_any, slice_split, before_first, after_first}
use Rattle.dvc_base.specs.declared.node.Node.{Node}
use Rattle.dvc_base.specs.declared.node.Pair.{Pair}
use Rattle.lock_files.specs.Mapping.{value_at, has}
use Rattle.lock_files.specs.Nodes.{pair}
use Rattle.template_vars.specs.declared.fault.TemplateFault.{TemplateFault}
use Rattle.template_vars.specs.declared.fault.TemplateFault.TheVariants.{NoKey}

abbrev pub is_colon : ℕ → Bool
is_colon b = b == 58

abbrev pub is_comma : ℕ → Bool
is_comma b = b == 44

abbrev pub file_in : List ℕ → List ℕ
file_in item = before_first is_colon item

abbrev pub keys_in : List ℕ → Option (List ℕ)
keys_in item = if list_any is_colon item then Some (after_first is_colon item) else None

abbrev pub keys_of : List ℕ → List (List ℕ)
keys_of text = slice_split is_comma text

-- the keys of what is left, if anything is
abbrev pub keys_left : Option (List ℕ) → List (List ℕ)
keys_left None = []
keys_left (Some text) = keys_of text

-- ---- the pairs of these keys

abbrev pub with_value : List Pair → List ℕ → Option Node → Result (List Pair) TemplateFault
with_value made key None = Err (NoKey key)
with_value made key (Some v) = Ok (made ++ pair key v ∷ [])

-- the pairs that are chosen so far, and the one of this key
abbrev pub with_key : List Pair → List Pair → List ℕ → Result (List Pair) TemplateFault
with_key pairs made key = if has key made then Ok made else with_value made key (value_at key pairs)

abbrev pub and_then : (List Pair → Result (List Pair) TemplateFault) → Result (List Pair) TemplateFault → Result (List Pair) TemplateFault
and_then f (Err fault) = Err fault
and_then f (Ok made) = f made

abbrev pub with_keys : List Pair → List (List ℕ) → List Pair → Result (List Pair) TemplateFault
with_keys pairs [] made = Ok made
with_keys pairs (key ∷ keys) made = and_then (with_keys pairs keys) (with_key pairs made key)

abbrev pub chosen : List ℕ → List Pair → Result (List Pair) TemplateFault
chosen text pairs = with_keys pairs (keys_of text) []
