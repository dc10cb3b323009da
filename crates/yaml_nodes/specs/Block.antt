-- Nodes of block style (8.2). A node begins at its first byte, at `column`; what is left behind it begins the next line
-- that isn't blank.
--     inline depth least t         a scalar or flow form; its further lines have at least the indentation `least`
--     block depth least column t   the node that begins here, with at most `depth` collections in one another
use Rattle.std.specs.Prelude.{ℕ, zero, suc, ◌+◌, Bool, true, false, ◌&&◌, ◌||◌, if◌then◌else◌, ◌==◌, nat_lt, List, [], ◌∷◌, ◌++◌, length, take, drop, Ok, Err}
use Rattle.dvc_base.specs.declared.node.Node.{Node}
use Rattle.dvc_base.specs.declared.node.Node.TheVariants as nd
use Rattle.dvc_base.specs.declared.node.Pair.{Pair}
use Rattle.yaml_text.specs.Characters.{tab, dash, greater_than, bar}
use Rattle.yaml_text.specs.Outcome.{Text, Outcome, Step, ◌>>=◌, syntax}
use Rattle.yaml_text.specs.Line.{spaces, past_spaces, past_white, is_rest_empty, rest_of_line, next_line}
use Rattle.yaml_scalars.specs.Turns.{Turn}
use Rattle.yaml_scalars.specs.Plain.{is_gap, is_colon, begins_plain, plain_len}
use Rattle.yaml_scalars.specs.Quoted.{quoted}
use Rattle.yaml_scalars.specs.Lines.{lines}
use Rattle.yaml_nodes.specs.Part.{steps, first, is_quote, begins_form, too_deep, is_on_one_line, plain_node, quoted_node, with_pair}
use Rattle.yaml_nodes.specs.Flow.{flow_node, new_key}

-- ---- scalars and flow forms

-- behind a node only a comment may follow on its line
abbrev pub line_end : Node × Text → Step Node
line_end r = rest_of_line false r.1 >>= next_line >>= λ next. Ok (r.0, next)

abbrev pub lines_node : ℕ → Text → Step Node
lines_node least t = lines (first t == greater_than) least (drop 1 t) >>= λ r. next_line r.1 >>= λ next. Ok (nd.Text r.0, next)

unfoldable pub inline : ℕ → ℕ → Text → Step Node
inline depth least t =
    if begins_form t then flow_node depth t >>= line_end
    else if is_quote t then quoted_node t (drop 1 t) >>= line_end
    else if first t == bar || first t == greater_than then lines_node least t
    else if begins_plain false t then plain_node false least t >>= line_end
    else syntax t

-- ---- what a line begins with

-- a dash and a space, or a dash at the line's end
abbrev pub begins_item : Text → Bool
begins_item t = first t == dash && is_gap (drop 1 t)

-- the text behind a plain scalar's part on this line
abbrev pub behind_plain : Text → Text
behind_plain t = past_white (drop (plain_len false false t) t)

-- a key, with its `:`
unfoldable pub begins_key : Text → Outcome Bool
begins_key t =
    if is_quote t then (quoted (first t) true (drop 1 t) >>= λ r. Ok (is_colon false (past_spaces r.1) && is_on_one_line t r.1))
    else Ok (begins_plain false t && is_colon false (behind_plain t))

-- ---- sequences. `inner` reads the nodes that stand in them

-- an item on the lines below its dash
abbrev pub item_below : (ℕ → ℕ → Text → Step Node) → ℕ → Text → Step Node
item_below inner column t = if nat_lt column (spaces t) then inner (column + 1) (spaces t) (past_spaces t) else Ok (nd.Null, t)

-- what follows the dash on its line, or the lines below
unfoldable pub item : (ℕ → ℕ → Text → Step Node) → ℕ → Text → Step Node
item inner column t =
    if is_rest_empty t then (rest_of_line false t >>= next_line >>= item_below inner column)
    else if first (past_spaces t) == tab then syntax (past_spaces t)
    else inner (column + 1) (column + 1 + spaces t) (past_spaces t)

-- at the next line: whether the dash of another item stands there at this column, as the end of a turn
abbrev pub next_item : ℕ → Text → Bool × Text
next_item column t = if spaces t == column && begins_item (past_spaces t) then (false, past_spaces t) else (true, t)

abbrev pub with_found : {S : Type 0} → S → Bool × Text → Turn S
with_found found next = (next.0, (found, next.1))

unfoldable pub sequence_turn : (ℕ → ℕ → Text → Step Node) → ℕ → List Node → Text → Outcome (Turn (List Node))
sequence_turn inner column found t = item inner column (drop 1 t) >>= λ r. Ok (with_found (found ++ r.0 ∷ []) (next_item column r.1))

unfoldable pub sequence : (ℕ → ℕ → Text → Step Node) → ℕ → Text → Step Node
sequence inner column t = steps (sequence_turn inner column) [] t >>= λ r. Ok (nd.Items r.0, r.1)

-- ---- mappings

abbrev pub behind_key : Bool → Text → Text → Step Text
behind_key is_end key t = if is_end then Ok (key, drop 1 t) else syntax t

-- a key on one line, and the text behind its `:`
unfoldable pub block_key : Text → Step Text
block_key t =
    if is_quote t then (quoted (first t) false (drop 1 t) >>= λ r. behind_key (is_colon false (past_spaces r.1)) r.0 (past_spaces r.1))
    else if begins_plain false t then behind_key (is_colon false (behind_plain t)) (take (plain_len false false t) t) (behind_plain t)
    else syntax t

-- a value on the lines below its key; a sequence may stand at the key's own column
abbrev pub value_below : (ℕ → ℕ → Text → Step Node) → ℕ → Text → Step Node
value_below inner column t =
    if nat_lt column (spaces t) || (spaces t == column && begins_item (past_spaces t)) then inner (column + 1) (spaces t) (past_spaces t)
    else Ok (nd.Null, t)

-- a value, behind the `:`
unfoldable pub value : ℕ → (ℕ → ℕ → Text → Step Node) → ℕ → Text → Step Node
value depth inner column t =
    if is_rest_empty t then (rest_of_line false t >>= next_line >>= value_below inner column)
    else inline depth (column + 1) (past_white t)

-- at the next line: another pair where it has the same indentation
abbrev pub next_pair : ℕ → Text → Bool × Text
next_pair column t = if nat_lt 0 (length t) && spaces t == column then (false, past_spaces t) else (true, t)

abbrev pub with_value : ℕ → (ℕ → ℕ → Text → Step Node) → ℕ → List Pair → Text → Text × Text → Outcome (Turn (List Pair))
with_value depth inner column found t key =
    new_key found t key.0 >>= λ name. value depth inner column key.1 >>= λ r. Ok (with_found (with_pair found name r.0) (next_pair column r.1))

unfoldable pub mapping_turn : ℕ → (ℕ → ℕ → Text → Step Node) → ℕ → List Pair → Text → Outcome (Turn (List Pair))
mapping_turn depth inner column found t = block_key t >>= with_value depth inner column found t

unfoldable pub mapping : ℕ → (ℕ → ℕ → Text → Step Node) → ℕ → Text → Step Node
mapping depth inner column t = steps (mapping_turn depth inner column) [] t >>= λ r. Ok (nd.Pairs r.0, r.1)

-- ---- nodes

-- where no collection may begin
abbrev pub block_at_limit : ℕ → ℕ → Text → Step Node
block_at_limit depth least t =
    if begins_item t then too_deep t
    else (begins_key t >>= λ is_key. if is_key then too_deep t else inline depth least t)

unfoldable pub block : ℕ → ℕ → ℕ → Text → Step Node
block zero least column t = block_at_limit zero least t
block (suc depth) least column t =
    if begins_item t then sequence (block depth) column t
    else (begins_key t >>= λ is_key. if is_key then mapping depth (block depth) column t else inline (suc depth) least t)
