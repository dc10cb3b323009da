-- Plain scalars (7.3.3). `flow` tells that the scalar stands in a flow form.
--     begins_plain flow t        a plain scalar begins here
--     plain_len flow false t     how long its part on this line is, without white space at its end
--     goes_on flow least start   the scalar's part on the line at `start`, or nothing where the scalar ended before it;
--                                in block style `least` is the least indentation of such a line
--     plain flow least t         the scalar's text, its lines folded (6.5), and what is left behind it
use Rattle.std.specs.Prelude.{ℕ, zero, suc, ◌+◌, Bool, true, false, not, ◌&&◌, ◌||◌, if◌then◌else◌, ◌==◌, nat_lt, List, [], ◌∷◌, ◌++◌, length, take, drop, slice_index, Option, Some, None, Ok}
use Rattle.yaml_text.specs.Characters.{line_feed, space, exclamation_mark, double_quote, hash, percent, ampersand, single_quote, asterisk, comma, dash, colon, greater_than, question_mark, at_sign, open_bracket, close_bracket, backquote, open_brace, bar, close_brace}
use Rattle.yaml_text.specs.Outcome.{Text, Outcome, Step, ◌>>=◌, syntax}
use Rattle.yaml_text.specs.Line.{is_white, is_bad, spaces, past_spaces, past_white, is_marker, check_line, blank_lines, breaks}
use Rattle.yaml_scalars.specs.Turns.{Turn, all_turns}

-- `,` `[` `]` `{` `}`
abbrev pub is_flow_sign : ℕ → Bool
is_flow_sign b = b == comma || b == open_bracket || b == close_bracket || b == open_brace || b == close_brace

-- what may follow a `:` that parts a key from its value
abbrev pub may_follow_colon : Bool → Text → Bool
may_follow_colon flow [] = true
may_follow_colon flow (b ∷ t) = is_white b || b == line_feed || (flow && is_flow_sign b)

abbrev pub is_colon : Bool → Text → Bool
is_colon flow [] = false
is_colon flow (b ∷ t) = b == colon && may_follow_colon flow t

-- `white` tells that white space stands before b
abbrev pub ends_before : Bool → Bool → ℕ → Text → Bool
ends_before flow white b t =
    b == line_feed || is_bad b || (white && b == hash) || (b == colon && may_follow_colon flow t) || (flow && is_flow_sign b)

-- one more, where there is any
abbrev pub and_more : ℕ → ℕ
and_more zero = zero
and_more (suc n) = suc (suc n)

abbrev pub plain_len : Bool → Bool → Text → ℕ
plain_len flow white [] = 0
plain_len flow white (b ∷ t) =
    if ends_before flow white b t then 0
    else if is_white b then and_more (plain_len flow true t)
    else suc (plain_len flow false t)

-- ` , [ ] { } # & * ! | > ' " % @ and the backquote
abbrev pub is_reserved : ℕ → Bool
is_reserved b =
    is_flow_sign b || b == hash || b == ampersand || b == asterisk || b == exclamation_mark || b == bar || b == greater_than
    || b == single_quote || b == double_quote || b == percent || b == at_sign || b == backquote

-- a space or the line's end
abbrev pub is_gap : Text → Bool
is_gap [] = true
is_gap (b ∷ t) = b == space || b == line_feed

abbrev pub begins_plain : Bool → Text → Bool
begins_plain flow [] = false
begins_plain flow (b ∷ t) =
    not (is_reserved b || is_white b || ((b == dash || b == question_mark || b == colon) && is_gap t) || ends_before flow false b t)

-- ---- the lines after the first

-- at the end of the text, or at a comment
abbrev pub is_end_or_comment : Text → Bool
is_end_or_comment [] = true
is_end_or_comment (b ∷ t) = b == hash

abbrev pub part_in_flow : Text → Text → Outcome (Option Text)
part_in_flow start t = if is_marker start then syntax start else Ok (if plain_len true false t == 0 then None else Some t)

-- A key in a line that goes on with the scalar is refused.
abbrev pub part_of_block : Text → Outcome (Option Text)
part_of_block t = if is_colon false (past_white (drop (plain_len false false t) t)) then syntax t else Ok (Some t)

abbrev pub part_in_block : ℕ → Text → Outcome (Option Text)
part_in_block least start = if nat_lt (spaces start) least then Ok None else (check_line start >>= λ s. part_of_block (past_spaces s))

unfoldable pub goes_on : Bool → ℕ → Text → Outcome (Option Text)
goes_on flow least start =
    if is_end_or_comment (past_white start) then Ok None
    else if flow then part_in_flow start (past_white start)
    else part_in_block least start

-- behind k blank lines
abbrev pub with_part : Bool → Text → Text → ℕ → Option Text → Turn Text
with_part flow found t k None = (true, (found, t))
with_part flow found t k (Some u) = (false, (found ++ breaks k ++ take (plain_len flow false u) u, drop (plain_len flow false u) u))

abbrev pub next_part : Bool → ℕ → Text → Text → ℕ × Text → Outcome (Turn Text)
next_part flow least found t lines = goes_on flow least lines.1 >>= λ part. Ok (with_part flow found t lines.0 part)

-- what follows the part on a line: t is left behind the part, and the last argument behind the white space after it
abbrev pub behind_part : Bool → ℕ → Text → Text → Text → Outcome (Turn Text)
behind_part flow least found t [] = Ok (true, (found, t))
behind_part flow least found t (b ∷ u) =
    if b == line_feed then next_part flow least found t (blank_lines u)
    else if is_bad b then syntax (b ∷ u)
    else Ok (true, (found, t))

unfoldable pub plain_turn : Bool → ℕ → Text → Text → Outcome (Turn Text)
plain_turn flow least found t = behind_part flow least found t (past_white t)

unfoldable pub plain : Bool → ℕ → Text → Step Text
plain flow least t = all_turns (plain_turn flow least) (take (plain_len flow false t) t) (drop (plain_len flow false t) t)
