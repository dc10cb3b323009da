-- Block scalars, a turn at a time.
use Rattle.std.proofs.Common.{◌≡◌, ℕ, zero, suc, ◌+◌, ◌<◌, ◌≤◌, eqb, ltb, Bool, true, false, cond, List, [], ◌∷◌, ◌++◌, length, take, drop, Ok, Err, refl, ap, sym, ◌∙◌, inl, inr, arith}
use Rattle.std.proofs.lemmas.Bool.Decides.{nat_tests}
use Rattle.yaml_text.specs.Outcome.{Text, Outcome, ◌>>=◌, syntax}
use Rattle.yaml_text.specs.Line.{spaces, past_spaces}
use Rattle.yaml_text.proofs.LineLemmas.{drop_le}
use Rattle.yaml_scalars.specs.declared.lines.Ending.{Ending}
use Rattle.yaml_scalars.specs.declared.lines.Last.{Last}
use Rattle.yaml_scalars.specs.declared.lines.Last.TheVariants.{Nothing, Flush, Spaced}
use Rattle.yaml_scalars.specs.Turns.{Turn}
use Rattle.yaml_scalars.specs.Lines.{Found, empty_from, empty_lines, between, last_of, line_len, past_break, with_line, last_turn, spaced_line, line_by_indentation, line_at, line_turn}
use Rattle.yaml_scalars.proofs.TurnLemmas.{Shrinks, Less, cond_less, less_ok, true_is_last}

le_cond : (b : Bool) (x y : ℕ × Text) (n : ℕ) → length x.1 ≤ n → length y.1 ≤ n → length (cond b x y).1 ≤ n
le_cond true x y n h k = h
le_cond false x y n h k = k

empty_from_le : (most k n : ℕ) (start t : Text) → length t ≤ length start → length (empty_from most k n start t).1 ≤ length start
empty_from_le most k n start [] h =
    le_cond (ltb most n) (k, start) (cond (eqb n 0) (k, []) (k + 1, [])) (length start) (omega arith)
    (le_cond (eqb n 0) (k, []) (k + 1, []) (length start) (omega arith) (omega arith))
empty_from_le most k n start (b ∷ t) h =
    le_cond (eqb b 10) (cond (ltb most n) (k, start) (empty_from most (k + 1) 0 t t)) (cond (eqb b 32) (empty_from most k (n + 1) start t) (k, start)) (length start)
    (le_cond (ltb most n) (k, start) (empty_from most (k + 1) 0 t t) (length start) (omega arith)
    (let e : length (empty_from most (k + 1) 0 t t).1 ≤ length t = empty_from_le most (k + 1) 0 t t (omega arith) in omega arith))
    (le_cond (eqb b 32) (empty_from most k (n + 1) start t) (k, start) (length start) (empty_from_le most k (n + 1) start t (omega arith)) (omega arith))

pub empty_lines_le : (most : ℕ) (t : Text) → length (empty_lines most t).1 ≤ length t
unfolding empty_lines
empty_lines_le most t = empty_from_le most 0 0 t t (omega arith)

-- the text behind a line break is less than n
abbrev Behind : ℕ → Outcome Text → Type 0
Behind n (Ok rest) = length rest < n
Behind n (Err e) = Unit {0}

past_break_less : (n : ℕ) (t : Text) → 0 < n → length t ≤ n → Behind n (past_break t)
past_break_less n [] some h = some
past_break_less n (b ∷ t) some h = elim (eqb b 10) as (λ v. Behind n (cond v (Ok t) (syntax (b ∷ t)))) [ true ↦ omega arith | false ↦ tt ]

then_less : (n : ℕ) (o : Outcome Text) (found : Found) → Behind n o → Less n (o >>= λ rest. Ok (false, (found, rest)))
then_less n (Ok rest) found h = λ e. h
then_less n (Err e) found h = tt

with_line_less : (n : ℕ) (folding : Bool) (found : Found) (k : ℕ) (line : Text) → 0 < n → length line ≤ n → Less n (with_line folding found k line)
unfolding with_line
with_line_less n folding found k line some h =
    then_less n (past_break (drop (line_len line) line)) (found.0 ++ between folding found.1 (last_of line) k ++ take (line_len line) line, last_of line)
    (past_break_less n (drop (line_len line) line) some (omega (arith, drop_le (line_len line) line)))

spaced_line_less : (n : ℕ) (folding : Bool) (most : ℕ) (found : Found) (k : ℕ) (start : Text) → 0 < n → length start ≤ n → Less n (spaced_line folding most found k start)
spaced_line_less n folding most (found, Nothing) k start some h = tt
spaced_line_less n folding most (found, Flush) k start some h = with_line_less n folding (found, Flush) k (drop most start) some (omega (arith, drop_le most start))
spaced_line_less n folding most (found, Spaced) k start some h = with_line_less n folding (found, Spaced) k (drop most start) some (omega (arith, drop_le most start))

line_by_indentation_less : (n : ℕ) (folding : Bool) (style : Ending) (least most : ℕ) (found : Found) (k : ℕ) (start inner : Text) → 0 < n → length start ≤ n
    → Less n (line_by_indentation folding style least most found k start inner)
line_by_indentation_less n folding style least most found k start [] some h = spaced_line_less n folding most found k start some h
line_by_indentation_less n folding style least most found k start (b ∷ t) some h =
    cond_less n (eqb b 10) (spaced_line folding most found k start)
    (cond (ltb (spaces start) least) (last_turn style found k start) (cond (ltb (spaces start) most) (syntax (b ∷ t)) (with_line folding found k (drop most start))))
    (spaced_line_less n folding most found k start some h)
    (cond_less n (ltb (spaces start) least) (last_turn style found k start) (cond (ltb (spaces start) most) (syntax (b ∷ t)) (with_line folding found k (drop most start)))
    (λ e. absurd (true_is_last e))
    (cond_less n (ltb (spaces start) most) (syntax (b ∷ t)) (with_line folding found k (drop most start)) tt
    (with_line_less n folding found k (drop most start) some (omega (arith, drop_le most start)))))

line_at_less : (n : ℕ) (folding : Bool) (style : Ending) (least most : ℕ) (found : Found) (k : ℕ) (start : Text) → length start ≤ n
    → Less n (line_at folding style least most found (k, start))
line_at_less n folding style least most found k [] h = λ e. absurd (true_is_last e)
line_at_less n folding style least most found k (b ∷ t) h =
    cond_less n (eqb (length (b ∷ t)) 0) (last_turn style found k []) (line_by_indentation folding style least most found k (b ∷ t) (past_spaces (b ∷ t)))
    (λ e. absurd (true_is_last e)) (line_by_indentation_less n folding style least most found k (b ∷ t) (past_spaces (b ∷ t)) (omega arith) h)

pub line_shrinks : (folding : Bool) (style : Ending) (least most : ℕ) → Shrinks (line_turn folding style least most)
unfolding line_turn
line_shrinks folding style least most s t r is =
    less_ok (length t) (line_at folding style least most s (empty_lines most t)) r is
    (line_at_less (length t) folding style least most s (empty_lines most t).0 (empty_lines most t).1 (empty_lines_le most t))
