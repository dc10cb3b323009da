-- A text as the rules read it, and the line on which a refusal shows.
--     source bytes      the text: without a byte order mark, each line ended by a line feed (5.2, 5.4), and a character that no text
--                       may have before the first byte that isn't UTF-8
--     body_len t        how long the text is before the last line that isn't blank, where that is `...` (9.1.2)
--     line_of t left    the line that has the first of the `left` bytes at the end of t; for none of them the last line
use Rattle.std.specs.Prelude.{ℕ, suc, ◌+◌, ◌-◌, max, Bool, true, false, ◌&&◌, if◌then◌else◌, ◌==◌, [], ◌∷◌, ◌++◌, length, take, drop, slice_index, count_by}
use Rattle.std.specs.Str.{is_utf8}
use Rattle.std.specs.Str.Lossy.{utf8_valid_len}
use Rattle.yaml_text.specs.Characters.{line_feed, carriage_return, hash, point, null}
use Rattle.yaml_text.specs.Outcome.{Text}
use Rattle.yaml_text.specs.Line.{is_white, is_rest_empty}

-- Before the first byte that isn't UTF-8 stands a null, a character that no text may have, at which reading ends. The bytes behind
-- it are in the text, since its last line counts.
abbrev pub with_null : Text → Text
with_null bytes =
    if is_utf8 bytes then bytes else take (utf8_valid_len bytes) bytes ++ null ∷ drop (utf8_valid_len bytes) bytes

-- behind the three bytes of a byte order mark, if the text begins with them
abbrev pub past_mark : Text → Text
past_mark t = if slice_index t 0 == 239 && slice_index t 1 == 187 && slice_index t 2 == 191 then drop 3 t else t

-- a carriage return before a line feed is left out, and each other one stays, as a character that no text may have
abbrev pub with_line_feeds : Text → Text
with_line_feeds [] = []
with_line_feeds (b ∷ t) = if b == carriage_return && slice_index t 0 == line_feed then with_line_feeds t else b ∷ with_line_feeds t

unfoldable pub source : Text → Text
source bytes = with_line_feeds (past_mark (with_null bytes))

-- only blank lines and comments are left; `inside` tells that t lies in a comment
abbrev pub is_all_blank : Bool → Text → Bool
is_all_blank inside [] = true
is_all_blank inside (b ∷ t) =
    if b == line_feed then is_all_blank false t
    else if inside then is_all_blank true t
    else if b == hash then is_all_blank true t
    else is_white b && is_all_blank false t

-- the line `...`, maybe with a comment, is the last one that isn't blank
abbrev pub is_last_marker : Text → Bool
is_last_marker t =
    slice_index t 0 == point && slice_index t 1 == point && slice_index t 2 == point && is_rest_empty (drop 3 t) && is_all_blank false (drop 3 t)

abbrev pub body_from : Bool → Text → ℕ
body_from begins [] = 0
body_from begins (b ∷ t) = if begins && is_last_marker (b ∷ t) then 0 else suc (body_from (b == line_feed) t)

unfoldable pub body_len : Text → ℕ
body_len t = body_from true t

unfoldable pub line_of : Text → ℕ → ℕ
line_of t left = count_by (λ b. b == line_feed) (take (length t - max left 1) t) + 1
