-- Block scalars (8.1), read from behind the `|` or `>`. `least` is the least indentation of a line of theirs.
--     lines folding least t     the scalar's text, and what is left behind its lines
use Rattle.std.specs.Prelude.{ℕ, suc, ◌+◌, Bool, true, false, not, ◌&&◌, ◌||◌, if◌then◌else◌, ◌==◌, nat_lt, nat_le, List, [], ◌∷◌, ◌++◌, length, take, drop, replicate, slice_index, Ok}
use Rattle.std.specs.List.{prefix_len}
use Rattle.yaml_text.specs.Characters.{line_feed, space, plus, dash}
use Rattle.yaml_text.specs.Outcome.{Text, Outcome, Step, ◌>>=◌, syntax}
use Rattle.yaml_text.specs.Line.{is_white, is_bad, spaces, past_spaces, rest_of_line, breaks}
use Rattle.yaml_scalars.specs.declared.lines.Ending.{Ending}
use Rattle.yaml_scalars.specs.declared.lines.Ending.TheVariants.{Clip, Strip, Keep}
use Rattle.yaml_scalars.specs.declared.lines.Last.{Last}
use Rattle.yaml_scalars.specs.declared.lines.Last.TheVariants.{Nothing, Flush, Spaced}
use Rattle.yaml_scalars.specs.Turns.{Turn, all_turns}

-- the text so far, and how the last line that isn't empty begins
abbrev pub Found : Type 0
Found = Text × Last

-- from the first line on that has a character other than a space
abbrev pub filled_line_from : Text → Text → Text
filled_line_from start [] = []
filled_line_from start (b ∷ t) = if b == line_feed then filled_line_from t t else if b == space then filled_line_from start t else start

-- how many spaces are taken from each line: the indentation of the first filled line, or all where the scalar has no content
abbrev pub margin_by : ℕ → ℕ → Text → ℕ
margin_by least most [] = most
margin_by least most (b ∷ t) = if nat_lt (spaces (b ∷ t)) least then most else spaces (b ∷ t)

unfoldable pub margin : ℕ → Text → ℕ
margin least t = margin_by least (length t) (filled_line_from t t)

-- how many empty lines of at most `most` spaces alone, and the text behind them; k lines were passed, and n spaces of this one
abbrev pub empty_from : ℕ → ℕ → ℕ → Text → Text → ℕ × Text
empty_from most k n start [] = if nat_lt most n then (k, start) else if n == 0 then (k, []) else (k + 1, [])
empty_from most k n start (b ∷ t) =
    if b == line_feed then (if nat_lt most n then (k, start) else empty_from most (k + 1) 0 t t)
    else if b == space then empty_from most k (n + 1) start t
    else (k, start)

unfoldable pub empty_lines : ℕ → Text → ℕ × Text
empty_lines most t = empty_from most 0 0 t t

-- what stands between two lines with k empty ones between them
abbrev pub between : Bool → Last → Last → ℕ → Text
between folding Nothing next k = replicate k line_feed
between true Flush Flush k = breaks k
between folding last next k = replicate (k + 1) line_feed

-- what k empty lines at the end give (8.1.1.2)
abbrev pub ending : Ending → Last → ℕ → Text
ending Strip last k = []
ending Clip Nothing k = []
ending Clip last k = line_feed ∷ []
ending Keep Nothing k = replicate k line_feed
ending Keep last k = replicate (k + 1) line_feed

abbrev pub last_of : Text → Last
last_of line = if is_white (slice_index line 0) then Spaced else Flush

abbrev pub line_len : Text → ℕ
line_len = prefix_len (λ b. not (b == line_feed || is_bad b))

-- behind a line's characters: its line feed, or the end
abbrev pub past_break : Text → Outcome Text
past_break [] = Ok []
past_break (b ∷ t) = if b == line_feed then Ok t else syntax (b ∷ t)

-- a line that isn't empty, without its indentation
unfoldable pub with_line : Bool → Found → ℕ → Text → Outcome (Turn Found)
with_line folding found k line =
    past_break (drop (line_len line) line) >>= λ rest.
    Ok (false, ((found.0 ++ between folding found.1 (last_of line) k ++ take (line_len line) line, last_of line), rest))

-- the last turn: k empty lines stand at the end
abbrev pub last_turn : Ending → Found → ℕ → Text → Outcome (Turn Found)
last_turn style found k t = Ok (true, ((found.0 ++ ending style found.1 k, found.1), t))

-- a line of more spaces than the margin alone; before the first line with another character there may be none
abbrev pub spaced_line : Bool → ℕ → Found → ℕ → Text → Outcome (Turn Found)
spaced_line folding most (found, Nothing) k start = syntax start
spaced_line folding most (found, last) k start = with_line folding (found, last) k (drop most start)

-- a line that isn't empty, at its start: how deep it is decides; the last argument is the text behind its spaces
abbrev pub line_by_indentation : Bool → Ending → ℕ → ℕ → Found → ℕ → Text → Text → Outcome (Turn Found)
line_by_indentation folding style least most found k start [] = spaced_line folding most found k start
line_by_indentation folding style least most found k start (b ∷ t) =
    if b == line_feed then spaced_line folding most found k start
    else if nat_lt (spaces start) least then last_turn style found k start
    else if nat_lt (spaces start) most then syntax (b ∷ t)
    else with_line folding found k (drop most start)

abbrev pub line_at : Bool → Ending → ℕ → ℕ → Found → ℕ × Text → Outcome (Turn Found)
line_at folding style least most found lines =
    if length lines.1 == 0 then last_turn style found lines.0 [] else line_by_indentation folding style least most found lines.0 lines.1 (past_spaces lines.1)

unfoldable pub line_turn : Bool → Ending → ℕ → ℕ → Found → Text → Outcome (Turn Found)
line_turn folding style least most found t = line_at folding style least most found (empty_lines most t)

-- the lines below the header
unfoldable pub lines_below : Bool → Ending → ℕ → Text → Step Text
lines_below folding style least t = all_turns (line_turn folding style least (margin least t)) ([], Nothing) t >>= λ r. Ok (r.0.0, r.1)

-- the header: `-` or `+`, or neither (8.1.1)
abbrev pub style_of : Text → Ending
style_of t = if slice_index t 0 == dash then Strip else if slice_index t 0 == plus then Keep else Clip

abbrev pub past_style : Text → Text
past_style t = if slice_index t 0 == dash || slice_index t 0 == plus then drop 1 t else t

unfoldable pub lines : Bool → ℕ → Text → Step Text
lines folding least t = rest_of_line false (past_style t) >>= lines_below folding (style_of t) least
