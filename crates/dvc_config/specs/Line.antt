-- The lines of `.dvc/config`, and what each of them is.
--     lines text          the lines, without what ends them: a line feed, or a carriage return and a line feed
--     content line        a line's text without the white space at its ends; none where the line isn't UTF-8
--     is_passed t         nothing, or a comment
--     section_in t        the name between brackets, with which a section begins
--     setting_in t        a key and its value, with the first `=` between them
--     between a b t       what stands between a and b, where t begins with a and ends with b
-- A name and a key have a byte at least; a value may have none.
use Rattle.std.specs.Prelude.{ℕ, Bool, true, ◌&&◌, ◌||◌, if◌then◌else◌, ◌==◌, nat_lt, List, [], ◌∷◌, length, reverse, codes, slice_index, Option, Some, None, option_and_then}
use Rattle.std.specs.List.{slice_split, position_or_len, before_first, after_first}
use Rattle.std.specs.Str.{is_utf8}

-- ---- lines

-- a carriage return before a line feed is left out, and each other one stays
abbrev pub with_line_feeds : List ℕ → List ℕ
with_line_feeds [] = []
with_line_feeds (b ∷ t) = if b == 13 && slice_index t 0 == 10 then with_line_feeds t else b ∷ with_line_feeds t

unfoldable pub lines : List ℕ → List (List ℕ)
lines text = slice_split (λ b. b == 10) (with_line_feeds text)

-- a line without the carriage return at its end
abbrev pub without_return : List ℕ → List ℕ
without_return [] = []
without_return (b ∷ []) = if b == 13 then [] else b ∷ []
without_return (b ∷ c ∷ t) = b ∷ without_return (c ∷ t)

-- the lines of what is left, if anything is
abbrev pub lines_left : Option (List ℕ) → List (List ℕ)
lines_left None = []
lines_left (Some text) = lines text

-- ---- white space

-- a space or a tab
abbrev pub is_white : ℕ → Bool
is_white b = b == 32 || b == 9

abbrev pub past_white : List ℕ → List ℕ
past_white [] = []
past_white (b ∷ t) = if is_white b then past_white t else b ∷ t

abbrev pub before_white : List ℕ → List ℕ
before_white t = reverse (past_white (reverse t))

abbrev pub content : List ℕ → Option (List ℕ)
content line = if is_utf8 line then Some (before_white (past_white line)) else None

-- ---- what a line is

-- a comment begins with `#` or `;`
abbrev pub is_passed : List ℕ → Bool
is_passed [] = true
is_passed (b ∷ t) = b == 35 || b == 59

abbrev pub behind : List ℕ → List ℕ → Option (List ℕ)
behind [] t = Some t
behind (a ∷ front) [] = None
behind (a ∷ front) (b ∷ t) = if b == a then behind front t else None

abbrev pub turned : Option (List ℕ) → Option (List ℕ)
turned None = None
turned (Some t) = Some (reverse t)

abbrev pub before : List ℕ → List ℕ → Option (List ℕ)
before back t = turned (behind (reverse back) (reverse t))

abbrev pub between : List ℕ → List ℕ → List ℕ → Option (List ℕ)
between front back t = option_and_then (before back) (behind front t)

abbrev pub nonempty : List ℕ → Option (List ℕ)
nonempty [] = None
nonempty (b ∷ t) = Some (b ∷ t)

unfoldable pub section_in : List ℕ → Option (List ℕ)
section_in t = option_and_then nonempty (between (codes "[") (codes "]") t)

abbrev pub is_equals : ℕ → Bool
is_equals b = b == 61

abbrev pub keyed : List ℕ → List ℕ → Option (List ℕ × List ℕ)
keyed [] value = None
keyed (b ∷ key) value = Some (b ∷ key, value)

-- what stands before the first `=`, and behind it
abbrev pub parted : List ℕ → Option (List ℕ × List ℕ)
parted t = if nat_lt (position_or_len is_equals t) (length t) then Some (before_first is_equals t, after_first is_equals t) else None

unfoldable pub setting_in : List ℕ → Option (List ℕ × List ℕ)
setting_in t = option_and_then (λ p. keyed (before_white p.0) (past_white p.1)) (parted t)
