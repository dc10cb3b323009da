-- No step over a line lengthens the text.
use Rattle.std.proofs.Common.{◌≡◌, ℕ, ◌+◌, ◌≤◌, Bool, true, false, cond, eqb, ◌||◌, [], ◌∷◌, length, drop, arith, length-drop, Ok, inl, inr}
use Rattle.std.specs.Prelude.{slice_index}
use Rattle.yaml_text.specs.Outcome.{Text, syntax}
use Rattle.yaml_text.specs.Line.{is_white, spaces, whites, past_spaces, past_white, blank_from, blank_lines, is_marker, check_line}
use Rattle.yaml_text.proofs.OutcomeLemmas.{chosen}

pub drop_le : (n : ℕ) (t : Text) → length (drop n t) ≤ length t
drop_le n t = omega (arith, length-drop n t)

pub past_white_le : (t : Text) → length (past_white t) ≤ length t
past_white_le t = drop_le (whites t) t

pub past_spaces_le : (t : Text) → length (past_spaces t) ≤ length t
past_spaces_le t = drop_le (spaces t) t

le_cond : (b : Bool) (x y : ℕ × Text) (n : ℕ) → length x.1 ≤ n → length y.1 ≤ n → length (cond b x y).1 ≤ n
le_cond true x y n h k = h
le_cond false x y n h k = k

blank_from_le : (k : ℕ) (start t : Text) → length t ≤ length start → length (blank_from k start t).1 ≤ length start
blank_from_le k start [] h = omega arith
blank_from_le k start (b ∷ t) h =
    le_cond (eqb b 10) (blank_from (k + 1) t t) (cond (is_white b) (blank_from k start t) (k, start)) (length start)
    (let e : length (blank_from (k + 1) t t).1 ≤ length t = blank_from_le (k + 1) t t (omega arith) in omega arith)
    (le_cond (is_white b) (blank_from k start t) (k, start) (length start) (blank_from_le k start t (omega arith)) (omega arith))

pub blank_lines_le : (t : Text) → length (blank_lines t).1 ≤ length t
unfolding blank_lines
blank_lines_le t = blank_from_le 0 t t (omega arith)

pub check_line_same : (start t : Text) → check_line start ≡ Ok t → t ≡ start
check_line_same start t h =
    let cases = chosen (eqb (slice_index (past_spaces start) 0) 9 || is_marker start) (syntax (past_spaces start)) (Ok start) (Ok t) h in
    elim cases [ inl w ↦ absurd (let e = w.1 in cc) | inr w ↦ let e = w.1 in cc ]
