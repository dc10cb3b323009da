-- Characters and lines of a text whose lines end with a line feed. Numbers of sections are those of YAML 1.2.
--     is_white b              a space or a tab (5.5)
--     is_bad b                no text may have this character (5.1); only the tab and the line feed stand below the space
--     spaces t, whites t      how many spaces, or spaces and tabs, t begins with
--     is_rest_empty t         behind an indicator: the line has only white space and maybe a comment (6.6)
--     rest_of_line may t      the text behind this line, which has only white space and maybe a comment; `may`: it may begin at once
--     first_line t            from the start of a line: the text from the first line on that isn't blank and no comment (6.7)
--     next_line t             the same, where that line may begin a node of block style
--     is_marker t             t begins with a line `---` (9.1.1)
--     blank_lines t           from the start of a line: how many blank lines, and the text behind them
--     breaks k                what a line break becomes where k blank lines follow it (6.5)
use Rattle.std.specs.Prelude.{ℕ, ◌+◌, Bool, true, false, not, ◌&&◌, ◌||◌, if◌then◌else◌, ◌==◌, nat_lt, [], ◌∷◌, drop, replicate, slice_index, Ok}
use Rattle.std.specs.List.{prefix_len}
use Rattle.yaml_text.specs.Characters.{tab, line_feed, space, hash, dash, delete}
use Rattle.yaml_text.specs.Outcome.{Text, Outcome, ◌>>=◌, syntax}

abbrev pub is_white : ℕ → Bool
is_white b = b == space || b == tab

abbrev pub is_bad : ℕ → Bool
is_bad b = (nat_lt b space && not (b == tab || b == line_feed)) || b == delete

abbrev pub spaces : Text → ℕ
spaces = prefix_len (λ b. b == space)

abbrev pub whites : Text → ℕ
whites = prefix_len is_white

abbrev pub past_spaces : Text → Text
past_spaces t = drop (spaces t) t

abbrev pub past_white : Text → Text
past_white t = drop (whites t) t

-- ---- what follows on a line

-- behind white space
abbrev pub is_white_end : Text → Bool
is_white_end [] = true
is_white_end (b ∷ t) = b == line_feed || b == hash || (is_white b && is_white_end t)

abbrev pub is_rest_empty : Text → Bool
is_rest_empty [] = true
is_rest_empty (b ∷ t) = b == line_feed || (is_white b && is_white_end t)

-- behind a `#`, up to the next line
abbrev pub comment : Text → Outcome Text
comment [] = Ok []
comment (b ∷ t) = if b == line_feed then Ok t else if is_bad b then syntax (b ∷ t) else comment t

abbrev pub rest_of_line : Bool → Text → Outcome Text
rest_of_line may [] = Ok []
rest_of_line may (b ∷ t) =
    if b == line_feed then Ok t
    else if is_white b then rest_of_line true t
    else if may && b == hash then comment t
    else syntax (b ∷ t)

-- ---- lines

-- `start` is the text from the start of the line that t lies in, and `inside` tells that t lies in a comment
abbrev pub first_from : Bool → Text → Text → Outcome Text
first_from inside start [] = Ok []
first_from inside start (b ∷ t) =
    if b == line_feed then first_from false t t
    else if inside then (if is_bad b then syntax (b ∷ t) else first_from true start t)
    else if is_white b then first_from false start t
    else if b == hash then first_from true start t
    else Ok start

abbrev pub first_line : Text → Outcome Text
first_line t = first_from false t t

abbrev pub is_marker : Text → Bool
is_marker t = slice_index t 0 == dash && slice_index t 1 == dash && slice_index t 2 == dash && is_rest_empty (drop 3 t)

-- A tab before the first other character of a line, and a further `---`, are refused (6.1).
abbrev pub check_line : Text → Outcome Text
check_line start = if slice_index (past_spaces start) 0 == tab || is_marker start then syntax (past_spaces start) else Ok start

unfoldable pub next_line : Text → Outcome Text
next_line t = first_line t >>= check_line

-- `k` is how many blank lines were passed
abbrev pub blank_from : ℕ → Text → Text → ℕ × Text
blank_from k start [] = (k, [])
blank_from k start (b ∷ t) =
    if b == line_feed then blank_from (k + 1) t t else if is_white b then blank_from k start t else (k, start)

unfoldable pub blank_lines : Text → ℕ × Text
blank_lines t = blank_from 0 t t

abbrev pub breaks : ℕ → Text
breaks k = if k == 0 then space ∷ [] else replicate k line_feed
