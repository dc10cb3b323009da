-- Lines of a text.
--     cut_at        a text with a line feed is its first line, and the lines behind it
--     last_line     a text without a line feed is one line
--     count_lines   there is one line more than line feeds
--     return_cut, return_kept    a line without the carriage return at its end
--     content_text, content_none a line's content, by whether it is UTF-8
--     parted_is     the clause of `split_once` at `=`
use Rattle.std.proofs.Common.{◌≡◌, ◌≢◌, ℕ, zero, suc, ◌+◌, ◌-◌, ◌<◌, ◌≤◌, Bool, true, false, not, ◌&&◌, cond, eqb, List, [], ◌∷◌, ◌++◌, length, drop, take, get_or, refl, sym, ap, ◌∙◌, arith, All, count_by, eqb-true, eq-eqb, ne_eqb, le-ltb, lt-ltb, nat_lt, Option, Some, None, option_map, MatchOption, Bor, IsUtf8}
use Rattle.std.specs.Prelude.{slice_index}
use Rattle.std.specs.List.{slice_split, onto_first, position_or_len, before_first, after_first}
use Rattle.std.specs.Str.{is_utf8}
use Rattle.std.proofs.lemmas.Bool.{cond-true, cond-false, false_from_ne_true}
use Rattle.std.proofs.lemmas.List.{take_rest}
use Rattle.std.proofs.lemmas.Grind.{common_steps}
use Rattle.std.proofs.lemmas.List.Elements.{All-head, All-tail}
use Rattle.std.proofs.lemmas.List.Splits.{slice_split-cons_no, length-slice_split}
use Rattle.std.proofs.lemmas.List.Sums.{sum_by-cons, split_at_first, fails_before_first, passes_at_first}
use Rattle.std.proofs.lemmas.Str.{is_utf8-from_IsUtf8, IsUtf8-from_is_utf8}
use Rattle.dvc_config.specs.Line.{with_line_feeds, lines, without_return, past_white, before_white, content, is_equals, parted}

abbrev pub is_feed : ℕ → Bool
is_feed b = eqb b 10

abbrev pub feed_place : List ℕ → ℕ
feed_place text = position_or_len is_feed text

abbrev pub split : List ℕ → List (List ℕ)
split text = slice_split is_feed (with_line_feeds text)

kept_by : (r e : Bool) (b : ℕ) (t : List ℕ) → e ≡ false → cond (r && e) (with_line_feeds t) (b ∷ with_line_feeds t) ≡ b ∷ with_line_feeds t
kept_by true e b t h = ap (λ x. cond x (with_line_feeds t) (b ∷ with_line_feeds t)) h
kept_by false e b t h = refl

-- a byte before anything but a line feed stays
kept : (b : ℕ) (t : List ℕ) → eqb (slice_index t 0) 10 ≡ false → with_line_feeds (b ∷ t) ≡ b ∷ with_line_feeds t
kept b t h = kept_by (eqb b 13) (eqb (slice_index t 0) 10) b t h

split_kept : (b : ℕ) (t : List ℕ) → is_feed b ≡ false → eqb (slice_index t 0) 10 ≡ false → split (b ∷ t) ≡ onto_first b (split t)
split_kept b t other next = ap (slice_split is_feed) (kept b t next) ∙ slice_split-cons_no is_feed b (with_line_feeds t) other

-- ---- a line that a line feed ends

one_byte : (r : Bool) (b : ℕ) (t : List ℕ) → is_feed b ≡ false → slice_split is_feed (cond (r && true) (10 ∷ with_line_feeds t) (b ∷ 10 ∷ with_line_feeds t)) ≡ cond r [] (b ∷ []) ∷ split t
one_byte true b t other = refl
one_byte false b t other = slice_split-cons_no is_feed b (10 ∷ with_line_feeds t) other

first_line : (line t : List ℕ) → All (λ b. is_feed b ≡ false) line → split (line ++ 10 ∷ t) ≡ without_return line ∷ split t
first_line [] t others = refl
first_line (b ∷ []) t others = one_byte (eqb b 13) b t (All-head (λ x. is_feed x ≡ false) b [] others)
first_line (b ∷ c ∷ line) t others =
    let further = All-tail (λ x. is_feed x ≡ false) b (c ∷ line) others in
    split_kept b (c ∷ line ++ 10 ∷ t) (All-head (λ x. is_feed x ≡ false) b (c ∷ line) others) (All-head (λ x. is_feed x ≡ false) c line further)
    ∙ ap (onto_first b) (first_line (c ∷ line) t further)

cut_line : (text : List ℕ) → feed_place text < length text → lines text ≡ without_return (take (feed_place text) text) ∷ lines (drop (feed_place text + 1) text)
unfolding lines
cut_line text l =
    let front : All (λ b. is_feed b ≡ false) (before_first is_feed text) = λ k e m. let k' = fails_before_first is_feed text k e (grind (arith, common_steps)) in grind (arith, common_steps) in
    let feed : get_or text (feed_place text) 0 ≡ 10 = eqb-true (get_or text (feed_place text) 0) 10 (passes_at_first is_feed text 0 l) in
    ap split (split_at_first is_feed text 0 l ∙ ap (λ b. before_first is_feed text ++ b ∷ after_first is_feed text) feed)
    ∙ first_line (before_first is_feed text) (after_first is_feed text) front

pub cut_at : (text line : List ℕ) (len : ℕ) → len ≡ feed_place text → len < length text → line ≡ without_return (take len text)
    → lines text ≡ line ∷ lines (take (length text - (len + 1)) (drop (len + 1) text))
cut_at text line len e l same =
    cut_line text (omega (arith, e, l))
    ∙ ap (λ (n : ℕ). without_return (take n text) ∷ lines (drop (n + 1) text)) (sym e)
    ∙ ap (λ (x : List ℕ). x ∷ lines (drop (len + 1) text)) (sym same)
    ∙ ap (λ (rest : List ℕ). line ∷ lines rest) (sym (take_rest text (len + 1)))

-- ---- the last line

place_by : (f : Bool) (n m : ℕ) → suc n ≤ cond (not f) (1 + m) 0 → (f ≡ false) × (n ≤ m)
place_by true n m l = absurd (omega (arith, l))
place_by false n m l = (refl, omega (arith, l))

next_by : (t : List ℕ) → length t ≤ feed_place t → eqb (slice_index t 0) 10 ≡ false
next_by [] l = refl
next_by (b ∷ t) l = (place_by (is_feed b) (length t) (feed_place t) l).0

pub last_line : (text : List ℕ) → length text ≤ feed_place text → lines text ≡ text ∷ []
unfolding lines
last_line text l = whole text l
  where
    whole : (t : List ℕ) → length t ≤ feed_place t → split t ≡ t ∷ []
    whole [] l = refl
    whole (b ∷ t) l =
        let parts = place_by (is_feed b) (length t) (feed_place t) l in
        split_kept b t parts.0 (next_by t parts.1) ∙ ap (onto_first b) (whole t parts.1)

-- ---- the carriage return at a line's end

pub return_cut : (line : List ℕ) (n : ℕ) → length line ≡ n + 1 → slice_index line n ≡ 13 → take n line ≡ without_return line
return_cut [] n l h = absurd (omega (arith, l))
return_cut (b ∷ []) zero l h = sym (cond-true (eqb b 13) [] (b ∷ []) (eq-eqb b 13 h))
return_cut (b ∷ []) (suc n) l h = absurd (omega (arith, l))
return_cut (b ∷ c ∷ line) zero l h = absurd (omega (arith, l))
return_cut (b ∷ c ∷ line) (suc n) l h = ap (λ t. b ∷ t) (return_cut (c ∷ line) n (omega (arith, l)) h)

pub return_kept : (line : List ℕ) (n : ℕ) → length line ≡ n + 1 → slice_index line n ≢ 13 → line ≡ without_return line
return_kept [] n l h = absurd (omega (arith, l))
return_kept (b ∷ []) zero l h = sym (cond-false (eqb b 13) [] (b ∷ []) (ne_eqb b 13 h))
return_kept (b ∷ []) (suc n) l h = absurd (omega (arith, l))
return_kept (b ∷ c ∷ line) zero l h = absurd (omega (arith, l))
return_kept (b ∷ c ∷ line) (suc n) l h = ap (λ t. b ∷ t) (return_kept (c ∷ line) n (omega (arith, l)) h)

-- ---- what a line has

pub content_text : (line : List ℕ) → IsUtf8 line → content line ≡ Some (before_white (past_white line))
content_text line h = cond-true (is_utf8 line) (Some (before_white (past_white line))) None (is_utf8-from_IsUtf8 line h)

pub content_none : (line : List ℕ) → (IsUtf8 line → ⊥) → content line ≡ None
content_none line h =
    cond-false (is_utf8 line) (Some (before_white (past_white line))) None
    (false_from_ne_true (is_utf8 line) (λ e. h (IsUtf8-from_is_utf8 line e)))

abbrev pub pair_of : Option (Bor (List ℕ) × Bor (List ℕ)) → Option (List ℕ × List ℕ)
pair_of r = option_map (λ p. (p.0.now, p.1.now)) r

pub parted_is : (text : List ℕ) (r : Option (Bor (List ℕ) × Bor (List ℕ))) → MatchOption r (position_or_len is_equals text ≡ length text)
    (λ x. (position_or_len is_equals text < length text) × (x.0.now ≡ before_first is_equals text) × (x.1.now ≡ after_first is_equals text))
    → pair_of r ≡ parted text
parted_is text None all =
    sym (cond-false (nat_lt (position_or_len is_equals text) (length text)) (Some (before_first is_equals text, after_first is_equals text)) None
    (le-ltb (position_or_len is_equals text) (length text) (omega (arith, all))))
parted_is text (Some x) found =
    ap (λ (key : List ℕ). Some (key, x.1.now)) found.1
    ∙ ap (λ (value : List ℕ). Some (before_first is_equals text, value)) found.2
    ∙ sym (cond-true (nat_lt (position_or_len is_equals text) (length text)) (Some (before_first is_equals text, after_first is_equals text)) None
    (lt-ltb (position_or_len is_equals text) (length text) found.0))

-- ---- how many

abbrev one_if : Bool → ℕ
one_if f = cond f 1 0

feed_is : (b : ℕ) → eqb b 13 ≡ true → one_if (is_feed b) ≡ 0
feed_is b h = ap (λ (x : ℕ). one_if (eqb x 10)) (eqb-true b 13 h)

counted : (r e : Bool) (b : ℕ) (t : List ℕ) → eqb b 13 ≡ r → count_by is_feed (with_line_feeds t) ≡ count_by is_feed t
    → count_by is_feed (cond (r && e) (with_line_feeds t) (b ∷ with_line_feeds t)) ≡ one_if (is_feed b) + count_by is_feed t
counted true true b t h same =
    let none : count_by is_feed t ≡ 0 + count_by is_feed t = omega arith in
    same ∙ none ∙ ap (λ (n : ℕ). n + count_by is_feed t) (sym (feed_is b h))
counted true false b t h same = sum_by-cons (λ x. one_if (is_feed x)) b (with_line_feeds t) ∙ ap (λ n. one_if (is_feed b) + n) same
counted false e b t h same = sum_by-cons (λ x. one_if (is_feed x)) b (with_line_feeds t) ∙ ap (λ n. one_if (is_feed b) + n) same

pub count_feeds : (t : List ℕ) → count_by is_feed (with_line_feeds t) ≡ count_by is_feed t
count_feeds [] = refl
count_feeds (b ∷ t) =
    counted (eqb b 13) (eqb (slice_index t 0) 10) b t refl (count_feeds t)
    ∙ sym (sum_by-cons (λ x. one_if (is_feed x)) b t)

pub count_lines : (text : List ℕ) → length (lines text) ≡ count_by is_feed text + 1
unfolding lines
count_lines text = length-slice_split is_feed (with_line_feeds text) ∙ ap (λ n. n + 1) (count_feeds text)
