-- Lines of a text.
--     cut_at        a text with a line feed is its first line, and the lines behind it
--     last_line     a text without a line feed is one line
use Rattle.std.proofs.Common.{◌≡◌, ℕ, ◌+◌, ◌-◌, ◌<◌, ◌≤◌, Bool, cond, eqb, List, [], ◌∷◌, length, drop, take, refl, sym, ap, ◌∙◌, arith}
use Rattle.std.specs.List.{slice_split, position_or_len}
use Rattle.std.specs.Str.Lines.{lines, lines_of_parts, strip_carriage_return}
use Rattle.std.proofs.lemmas.Bool.{ne_eqb}
use Rattle.std.proofs.lemmas.List.{take_rest}
use Rattle.std.proofs.lemmas.List.Sums.{fails_before_first}
use Rattle.std.proofs.lemmas.List.Splits.{slice_split_first, slice_split_none, length-slice_split}

abbrev pub is_feed : ℕ → Bool
is_feed b = eqb b 10

abbrev pub feed_place : List ℕ → ℕ
feed_place text = position_or_len is_feed text

-- a part before another is a line, without its carriage return
more_parts : (x : List ℕ) (parts : List (List ℕ)) → 0 < length parts → lines_of_parts (x ∷ parts) ≡ strip_carriage_return x ∷ lines_of_parts parts
more_parts x [] l = absurd (omega arith)
more_parts x (y ∷ parts) l = refl

pub cut_at : (text line : List ℕ) (len : ℕ) → len ≡ feed_place text → len < length text → line ≡ strip_carriage_return (take len text)
    → lines text ≡ line ∷ lines (take (length text - (len + 1)) (drop (len + 1) text))
cut_at text line len e l same =
    let first = take (feed_place text) text in
    let behind = drop (feed_place text + 1) text in
    ap lines_of_parts (slice_split_first is_feed text 0 (omega (arith, e, l)))
    ∙ more_parts first (slice_split is_feed behind) (omega (arith, length-slice_split is_feed behind))
    ∙ ap (λ n. strip_carriage_return (take n text) ∷ lines (drop (n + 1) text)) (sym e)
    ∙ ap (λ x. x ∷ lines (drop (len + 1) text)) (sym same)
    ∙ ap (λ rest. line ∷ lines rest) (sym (take_rest text (len + 1)))

pub last_line : (text : List ℕ) → 0 < length text → length text ≤ feed_place text → lines text ≡ text ∷ []
last_line [] some l = absurd (omega arith)
last_line (b ∷ text) some l =
    ap lines_of_parts (slice_split_none is_feed (b ∷ text) (λ k d m. fails_before_first is_feed (b ∷ text) k d (omega arith)))
    ∙ ap (λ none. cond none [] ((b ∷ text) ∷ [])) (ne_eqb (length (b ∷ text)) 0 (omega arith))
