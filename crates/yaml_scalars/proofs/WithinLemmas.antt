-- No scalar leaves more text than it was read from.
use Rattle.std.proofs.Common.{◌≡◌, ℕ, zero, suc, ◌≤◌, eqb, ltb, Bool, true, false, cond, ◌||◌, [], ◌∷◌, ◌++◌, length, take, drop, Option, Some, None, Ok, Err, ap, ◌∙◌, refl, arith}
use Rattle.std.specs.Result.{IfOk}
use Rattle.std.specs.Prelude.{slice_index}
use Rattle.yaml_text.specs.Outcome.{Text, Outcome, Step, ◌>>=◌, syntax}
use Rattle.yaml_text.specs.Line.{is_bad, spaces, past_spaces, past_white, blank_lines, rest_of_line}
use Rattle.yaml_text.proofs.OutcomeLemmas.{then_ok, chosen_ok}
use Rattle.yaml_text.proofs.LineLemmas.{drop_le, past_white_le, blank_lines_le}
use Rattle.yaml_text.proofs.WithinLemmas.{rest_within}
use Rattle.yaml_scalars.specs.declared.lines.Ending.{Ending}
use Rattle.yaml_scalars.specs.declared.lines.Last.TheVariants.{Nothing, Flush, Spaced}
use Rattle.yaml_scalars.specs.Turns.{Turn, turns_within, all_turns}
use Rattle.yaml_scalars.specs.Plain.{plain_len, goes_on, with_part, next_part, behind_part, plain_turn, plain}
use Rattle.yaml_scalars.specs.Quoted.{at_meaning, literal_len, quoted_turn, quoted}
use Rattle.yaml_scalars.specs.Lines.{Found, empty_lines, between, last_of, line_len, past_break, with_line, last_turn, spaced_line, line_by_indentation, line_at, line_turn, margin, lines_below, style_of, past_style, lines}
use Rattle.yaml_scalars.proofs.QuotedLemmas.{Leaves, at_meaning_leaves}
use Rattle.yaml_scalars.proofs.PlainLemmas.{goes_on_le}
use Rattle.yaml_scalars.proofs.LinesLemmas.{empty_lines_le}

-- ---- all turns together

-- what a turn leaves, and what all leave
abbrev pub TurnLeaves : {S : Type 0} → ℕ → Outcome (Turn S) → Type 0
TurnLeaves n o = IfOk o (λ r. length r.1.1 ≤ n)

abbrev pub StepLeaves : {A : Type 0} → ℕ → Step A → Type 0
StepLeaves n o = IfOk o (λ r. length r.1 ≤ n)

turns_leave : {S : Type 0} (turn : S → Text → Outcome (Turn S)) → ((n : ℕ) (s : S) (t : Text) → length t ≤ n → TurnLeaves n (turn s t))
    → (k n : ℕ) (s : S) (t : Text) → length t ≤ n → StepLeaves n (turns_within turn k s t)
turns_leave turn each zero n s t h = tt
turns_leave {S} turn each (suc k) n s t h =
    then_ok (λ (r : Turn S). length r.1.1 ≤ n) (λ (r : S × Text). length r.1 ≤ n) (turn s t) (λ r. cond r.0 (Ok r.1) (turns_within turn k r.1.0 r.1.1)) (each n s t h)
    (λ r l. chosen_ok (λ (x : S × Text). length x.1 ≤ n) r.0 (Ok r.1) (turns_within turn k r.1.0 r.1.1) l (turns_leave turn each k n r.1.0 r.1.1 l))

pub all_leave : {S : Type 0} (turn : S → Text → Outcome (Turn S)) → ((n : ℕ) (s : S) (t : Text) → length t ≤ n → TurnLeaves n (turn s t))
    → (n : ℕ) (s : S) (t : Text) → length t ≤ n → StepLeaves n (all_turns turn s t)
unfolding all_turns
all_leave turn each n s t h = turns_leave turn each (suc (length t)) n s t h

-- ---- quoted scalars

turn_leaves : (n : ℕ) (o : Outcome (Turn Text)) → Leaves n o → TurnLeaves n o
turn_leaves n (Ok r) h = h
turn_leaves n (Err e) h = tt

quoted_turn_leaves : (quote : ℕ) (over : Bool) (n : ℕ) (s t : Text) → length t ≤ n → TurnLeaves n (quoted_turn quote over s t)
unfolding quoted_turn
quoted_turn_leaves quote over n s t h =
    turn_leaves n (at_meaning quote over s (take (literal_len quote t) t) (drop (literal_len quote t) t))
    (at_meaning_leaves n quote over s (take (literal_len quote t) t) (drop (literal_len quote t) t) (omega (arith, drop_le (literal_len quote t) t)))

pub quoted_within : (quote : ℕ) (over : Bool) (n : ℕ) (t : Text) → length t ≤ n → StepLeaves n (quoted quote over t)
unfolding quoted
quoted_within quote over n t h = all_leave (quoted_turn quote over) (quoted_turn_leaves quote over) n [] t h

-- ---- plain scalars

with_part_leaves : (n : ℕ) (flow : Bool) (found t : Text) (k : ℕ) (part : Option Text) → length t ≤ n → ((u : Text) → part ≡ Some u → length u ≤ n)
    → length (with_part flow found t k part).1.1 ≤ n
with_part_leaves n flow found t k None h each = h
with_part_leaves n flow found t k (Some u) h each = let l = each u refl in omega (arith, drop_le (plain_len flow false u) u)

next_part_leaves : (n : ℕ) (flow : Bool) (least : ℕ) (found t : Text) (lines : ℕ × Text) → length t ≤ n → length lines.1 ≤ n
    → (o : Outcome (Option Text)) → goes_on flow least lines.1 ≡ o → TurnLeaves n (o >>= λ part. Ok (with_part flow found t lines.0 part))
next_part_leaves n flow least found t lines h k (Err e) is = tt
next_part_leaves n flow least found t lines h k (Ok part) is =
    with_part_leaves n flow found t lines.0 part h (λ u e. let l = goes_on_le flow least lines.1 u (is ∙ ap (λ p. Ok p) e) in omega arith)

behind_part_leaves : (n : ℕ) (flow : Bool) (least : ℕ) (found t u : Text) → length t ≤ n → length u ≤ n → TurnLeaves n (behind_part flow least found t u)
behind_part_leaves n flow least found t [] h k = h
behind_part_leaves n flow least found t (b ∷ u) h k =
    chosen_ok (λ (r : Turn Text). length r.1.1 ≤ n) (eqb b 10) (next_part flow least found t (blank_lines u)) (cond (is_bad b) (syntax (b ∷ u)) (Ok (true, (found, t))))
    (next_part_leaves n flow least found t (blank_lines u) h (omega (arith, blank_lines_le u)) (goes_on flow least (blank_lines u).1) refl)
    (chosen_ok (λ (r : Turn Text). length r.1.1 ≤ n) (is_bad b) (syntax (b ∷ u)) (Ok (true, (found, t))) tt h)

plain_turn_leaves : (flow : Bool) (least n : ℕ) (s t : Text) → length t ≤ n → TurnLeaves n (plain_turn flow least s t)
unfolding plain_turn
plain_turn_leaves flow least n s t h = behind_part_leaves n flow least s t (past_white t) h (omega (arith, past_white_le t))

pub plain_within : (flow : Bool) (least n : ℕ) (t : Text) → length t ≤ n → StepLeaves n (plain flow least t)
unfolding plain
plain_within flow least n t h =
    all_leave (plain_turn flow least) (plain_turn_leaves flow least) n (take (plain_len flow false t) t) (drop (plain_len flow false t) t)
    (omega (arith, drop_le (plain_len flow false t) t))

-- ---- block scalars

past_break_within : (n : ℕ) (t : Text) → length t ≤ n → IfOk (past_break t) (λ u. length u ≤ n)
past_break_within n [] h = h
past_break_within n (b ∷ t) h = chosen_ok (λ (u : Text). length u ≤ n) (eqb b 10) (Ok t) (syntax (b ∷ t)) (omega arith) tt

with_line_leaves : (n : ℕ) (folding : Bool) (found : Found) (k : ℕ) (line : Text) → length line ≤ n → TurnLeaves n (with_line folding found k line)
unfolding with_line
with_line_leaves n folding found k line h =
    then_ok (λ (u : Text). length u ≤ n) (λ (r : Turn Found). length r.1.1 ≤ n) (past_break (drop (line_len line) line))
    (λ rest. Ok (false, ((found.0 ++ between folding found.1 (last_of line) k ++ take (line_len line) line, last_of line), rest)))
    (past_break_within n (drop (line_len line) line) (omega (arith, drop_le (line_len line) line))) (λ u l. l)

spaced_line_leaves : (n : ℕ) (folding : Bool) (most : ℕ) (found : Found) (k : ℕ) (start : Text) → length start ≤ n → TurnLeaves n (spaced_line folding most found k start)
spaced_line_leaves n folding most (found, Nothing) k start h = tt
spaced_line_leaves n folding most (found, Flush) k start h = with_line_leaves n folding (found, Flush) k (drop most start) (omega (arith, drop_le most start))
spaced_line_leaves n folding most (found, Spaced) k start h = with_line_leaves n folding (found, Spaced) k (drop most start) (omega (arith, drop_le most start))

line_by_leaves : (n : ℕ) (folding : Bool) (style : Ending) (least most : ℕ) (found : Found) (k : ℕ) (start inner : Text) → length start ≤ n
    → TurnLeaves n (line_by_indentation folding style least most found k start inner)
line_by_leaves n folding style least most found k start [] h = spaced_line_leaves n folding most found k start h
line_by_leaves n folding style least most found k start (b ∷ t) h =
    chosen_ok (λ (r : Turn Found). length r.1.1 ≤ n) (eqb b 10) (spaced_line folding most found k start)
    (cond (ltb (spaces start) least) (last_turn style found k start) (cond (ltb (spaces start) most) (syntax (b ∷ t)) (with_line folding found k (drop most start))))
    (spaced_line_leaves n folding most found k start h)
    (chosen_ok (λ (r : Turn Found). length r.1.1 ≤ n) (ltb (spaces start) least) (last_turn style found k start)
    (cond (ltb (spaces start) most) (syntax (b ∷ t)) (with_line folding found k (drop most start))) h
    (chosen_ok (λ (r : Turn Found). length r.1.1 ≤ n) (ltb (spaces start) most) (syntax (b ∷ t)) (with_line folding found k (drop most start)) tt
    (with_line_leaves n folding found k (drop most start) (omega (arith, drop_le most start)))))

line_at_leaves : (n : ℕ) (folding : Bool) (style : Ending) (least most : ℕ) (found : Found) (lines : ℕ × Text) → length lines.1 ≤ n
    → TurnLeaves n (line_at folding style least most found lines)
line_at_leaves n folding style least most found lines h =
    chosen_ok (λ (r : Turn Found). length r.1.1 ≤ n) (eqb (length lines.1) 0) (last_turn style found lines.0 [])
    (line_by_indentation folding style least most found lines.0 lines.1 (past_spaces lines.1)) (omega arith)
    (line_by_leaves n folding style least most found lines.0 lines.1 (past_spaces lines.1) h)

line_turn_leaves : (folding : Bool) (style : Ending) (least most n : ℕ) (s : Found) (t : Text) → length t ≤ n → TurnLeaves n (line_turn folding style least most s t)
unfolding line_turn
line_turn_leaves folding style least most n s t h = line_at_leaves n folding style least most s (empty_lines most t) (omega (arith, empty_lines_le most t))

below_within : (folding : Bool) (style : Ending) (least n : ℕ) (t : Text) → length t ≤ n → StepLeaves n (lines_below folding style least t)
unfolding lines_below
below_within folding style least n t h =
    then_ok (λ (r : Found × Text). length r.1 ≤ n) (λ (r : Text × Text). length r.1 ≤ n) (all_turns (line_turn folding style least (margin least t)) ([], Nothing) t)
    (λ r. Ok (r.0.0, r.1)) (all_leave (line_turn folding style least (margin least t)) (line_turn_leaves folding style least (margin least t)) n ([], Nothing) t h) (λ r l. l)

past_style_le : (t : Text) → length (past_style t) ≤ length t
past_style_le t = elim (eqb (slice_index t 0) 45 || eqb (slice_index t 0) 43) as (λ v. length (cond v (drop 1 t) t) ≤ length t) [ true ↦ drop_le 1 t | false ↦ omega arith ]

pub lines_within : (folding : Bool) (least n : ℕ) (t : Text) → length t ≤ n → StepLeaves n (lines folding least t)
unfolding lines
lines_within folding least n t h =
    then_ok (λ (u : Text). length u ≤ n) (λ (r : Text × Text). length r.1 ≤ n) (rest_of_line false (past_style t)) (lines_below folding (style_of t) least)
    (rest_within n false (past_style t) (omega (arith, past_style_le t))) (below_within folding (style_of t) least n)
