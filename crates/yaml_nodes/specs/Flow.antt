-- Flow forms (7.4): `[` items `]` and `{` pairs `}`, with white space, line breaks and comments between their parts.
--     between_parts t       the text from the next part on
--     flow_node depth t     the flow form or scalar that begins here, with at most `depth` collections in one another
use Rattle.std.specs.Prelude.{ℕ, zero, suc, Bool, true, false, not, ◌&&◌, ◌||◌, if◌then◌else◌, ◌==◌, List, [], ◌∷◌, ◌++◌, length, take, drop, bytes_eq, codes, Ok, Err}
use Rattle.dvc_base.specs.declared.node.Node.{Node}
use Rattle.dvc_base.specs.declared.node.Node.TheVariants as nd
use Rattle.dvc_base.specs.declared.node.Pair.{Pair}
use Rattle.yaml_text.specs.declared.refusal.Refusal.TheVariants.{Duplicate}
use Rattle.yaml_text.specs.Characters.{line_feed, hash, comma, colon, open_bracket, close_bracket, close_brace}
use Rattle.yaml_text.specs.Outcome.{Text, Outcome, Step, ◌>>=◌, syntax}
use Rattle.yaml_text.specs.Line.{is_white, is_bad, past_white, is_marker}
use Rattle.yaml_scalars.specs.Turns.{Turn}
use Rattle.yaml_scalars.specs.Plain.{is_colon, begins_plain, plain_len}
use Rattle.yaml_scalars.specs.Quoted.{quoted}
use Rattle.yaml_nodes.specs.Part.{steps, first, is_quote, begins_form, too_deep, is_on_one_line, plain_node, quoted_node, has_key, with_pair}

-- `may`: a comment may begin here; `inside`: t lies in a comment
abbrev pub parts_from : Bool → Bool → Text → Outcome Text
parts_from may inside [] = Ok []
parts_from may inside (b ∷ t) =
    if b == line_feed then (if is_marker t then syntax t else parts_from true false t)
    else if inside then (if is_bad b then syntax (b ∷ t) else parts_from true true t)
    else if is_white b then parts_from true false t
    else if may && b == hash then parts_from true true t
    else Ok (b ∷ t)

unfoldable pub between_parts : Text → Outcome Text
between_parts t = parts_from false false t

unfoldable pub flow_scalar : Text → Step Node
flow_scalar t =
    if is_quote t then quoted_node t (drop 1 t)
    else if begins_plain true t then plain_node true 0 t
    else syntax t

-- ---- items. `node` reads what stands in them

-- whether the item at t, behind which `rest` is left, is the key of a pair with its `:` at `next`
unfoldable pub is_pair : Text → Text → Text → Bool
is_pair t rest next =
    if is_quote t then first next == colon
    else if begins_form t then false
    else is_colon true next && is_on_one_line t rest

-- behind an item: t is at the item, `rest` behind it, and the last argument at the next part
abbrev pub behind_item : List Node → Text → Text → Text → Outcome (Turn (List Node))
behind_item found t rest next =
    if first next == comma then Ok (false, (found, drop 1 next))
    else if first next == close_bracket then Ok (true, (found, drop 1 next))
    else if is_pair t rest next then syntax t
    else syntax next

abbrev pub item_at : (Text → Step Node) → List Node → Text → Outcome (Turn (List Node))
item_at node found t =
    if first t == close_bracket then Ok (true, (found, drop 1 t))
    else (node t >>= λ r. between_parts r.1 >>= λ next. behind_item (found ++ r.0 ∷ []) t r.1 next)

unfoldable pub item_turn : (Text → Step Node) → List Node → Text → Outcome (Turn (List Node))
item_turn node found t = between_parts t >>= item_at node found

unfoldable pub items : (Text → Step Node) → Text → Step Node
items node t = steps (item_turn node) [] t >>= λ r. Ok (nd.Items r.0, r.1)

-- ---- pairs

-- a character that no text may have
abbrev pub begins_bad : Text → Bool
begins_bad [] = false
begins_bad (b ∷ t) = is_bad b

-- the text behind a plain key and white space
abbrev pub behind_plain_key : Text → Text
behind_plain_key t = past_white (drop (plain_len true false t) t)

-- a plain key stays on one line, and ends at no bad character
abbrev pub plain_key : Text → Step Text
plain_key t =
    if begins_bad (behind_plain_key t) then syntax (behind_plain_key t)
    else Ok (take (plain_len true false t) t, drop (plain_len true false t) t)

unfoldable pub flow_key : Text → Step Text
flow_key t =
    if is_quote t then quoted (first t) true (drop 1 t)
    else if begins_plain true t then plain_key t
    else syntax t

abbrev pub is_merge : Text → Text → Bool
is_merge t key = not (is_quote t) && bytes_eq key (codes "<<")

-- the key's text, where it may stand behind the keys of these pairs
unfoldable pub new_key : List Pair → Text → Text → Outcome Text
new_key found t key = if is_merge t key then syntax t else if has_key key found then Err (Duplicate (length t)) else Ok key

-- after a quoted key the `:` needs no space
abbrev pub is_key_colon : Text → Text → Bool
is_key_colon t next = if is_quote t then first next == colon else is_colon true next

abbrev pub value_at : (Text → Step Node) → Text → Step Node
value_at node t = if first t == comma || first t == close_brace then Ok (nd.Null, t) else node t

-- behind a key: its value, and what is left from the next part on
unfoldable pub flow_value : (Text → Step Node) → Text → Text → Step Node
flow_value node t next =
    if is_key_colon t next
    then (between_parts (drop 1 next) >>= value_at node >>= λ r. between_parts r.1 >>= λ after. Ok (r.0, after))
    else Ok (nd.Null, next)

abbrev pub behind_pair : List Pair → Text → Outcome (Turn (List Pair))
behind_pair found next =
    if first next == comma then Ok (false, (found, drop 1 next))
    else if first next == close_brace then Ok (true, (found, drop 1 next))
    else syntax next

-- a pair: its key, its value, and what stands behind it
abbrev pub with_key : (Text → Step Node) → List Pair → Text → Text × Text → Outcome (Turn (List Pair))
with_key node found t key =
    new_key found t key.0 >>= λ name.
    between_parts key.1 >>= λ next.
    flow_value node t next >>= λ value.
    behind_pair (with_pair found name value.0) value.1

abbrev pub pair_at : (Text → Step Node) → List Pair → Text → Outcome (Turn (List Pair))
pair_at node found t = if first t == close_brace then Ok (true, (found, drop 1 t)) else (flow_key t >>= with_key node found t)

unfoldable pub pair_turn : (Text → Step Node) → List Pair → Text → Outcome (Turn (List Pair))
pair_turn node found t = between_parts t >>= pair_at node found

unfoldable pub pairs : (Text → Step Node) → Text → Step Node
pairs node t = steps (pair_turn node) [] t >>= λ r. Ok (nd.Pairs r.0, r.1)

-- ---- nodes

unfoldable pub flow_form : (Text → Step Node) → Text → Step Node
flow_form node t = if first t == open_bracket then items node (drop 1 t) else pairs node (drop 1 t)

unfoldable pub flow_node : ℕ → Text → Step Node
flow_node zero t = if begins_form t then too_deep t else flow_scalar t
flow_node (suc depth) t = if begins_form t then flow_form (flow_node depth) t else flow_scalar t
