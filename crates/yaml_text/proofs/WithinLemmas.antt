-- No step over lines leaves more text than it was given.
use Rattle.std.proofs.Common.{ℕ, ◌≤◌, eqb, Bool, true, false, cond, ◌||◌, ◌&&◌, [], ◌∷◌, length, Ok, arith}
use Rattle.std.specs.Prelude.{slice_index}
use Rattle.std.specs.Result.{IfOk}
use Rattle.yaml_text.specs.Outcome.{Text, Outcome, ◌>>=◌, syntax}
use Rattle.yaml_text.specs.Line.{is_white, is_bad, past_spaces, comment, rest_of_line, first_from, first_line, is_marker, check_line, next_line}
use Rattle.yaml_text.proofs.OutcomeLemmas.{then_ok, chosen_ok}

abbrev pub Within : ℕ → Outcome Text → Type 0
Within n o = IfOk o (λ u. length u ≤ n)

pub then_within : (n m : ℕ) (o : Outcome Text) (f : Text → Outcome Text) → Within n o → ((u : Text) → length u ≤ n → Within m (f u)) → Within m (o >>= f)
then_within n m o f h k = then_ok (λ u. length u ≤ n) (λ u. length u ≤ m) o f h k

pub chosen_within : (n : ℕ) (b : Bool) (x y : Outcome Text) → Within n x → Within n y → Within n (cond b x y)
chosen_within n b x y h k = chosen_ok (λ u. length u ≤ n) b x y h k

pub comment_within : (n : ℕ) (t : Text) → length t ≤ n → Within n (comment t)
comment_within n [] h = h
comment_within n (b ∷ t) h =
    let k : length t ≤ n = omega arith in
    chosen_within n (eqb b 10) (Ok t) (cond (is_bad b) (syntax (b ∷ t)) (comment t)) k
    (chosen_within n (is_bad b) (syntax (b ∷ t)) (comment t) tt (comment_within n t k))

pub rest_within : (n : ℕ) (may : Bool) (t : Text) → length t ≤ n → Within n (rest_of_line may t)
rest_within n may [] h = h
rest_within n may (b ∷ t) h =
    let k : length t ≤ n = omega arith in
    chosen_within n (eqb b 10) (Ok t) (cond (is_white b) (rest_of_line true t) (cond (may && eqb b 35) (comment t) (syntax (b ∷ t)))) k
    (chosen_within n (is_white b) (rest_of_line true t) (cond (may && eqb b 35) (comment t) (syntax (b ∷ t))) (rest_within n true t k)
    (chosen_within n (may && eqb b 35) (comment t) (syntax (b ∷ t)) (comment_within n t k) tt))

first_from_within : (n : ℕ) (inside : Bool) (start t : Text) → length start ≤ n → length t ≤ n → Within n (first_from inside start t)
first_from_within n inside start [] h k = k
first_from_within n inside start (b ∷ t) h k =
    let l : length t ≤ n = omega arith in
    chosen_within n (eqb b 10) (first_from false t t)
    (cond inside (cond (is_bad b) (syntax (b ∷ t)) (first_from true start t)) (cond (is_white b) (first_from false start t) (cond (eqb b 35) (first_from true start t) (Ok start))))
    (first_from_within n false t t l l)
    (chosen_within n inside (cond (is_bad b) (syntax (b ∷ t)) (first_from true start t)) (cond (is_white b) (first_from false start t) (cond (eqb b 35) (first_from true start t) (Ok start)))
    (chosen_within n (is_bad b) (syntax (b ∷ t)) (first_from true start t) tt (first_from_within n true start t h l))
    (chosen_within n (is_white b) (first_from false start t) (cond (eqb b 35) (first_from true start t) (Ok start)) (first_from_within n false start t h l)
    (chosen_within n (eqb b 35) (first_from true start t) (Ok start) (first_from_within n true start t h l) h)))

pub first_within : (n : ℕ) (t : Text) → length t ≤ n → Within n (first_line t)
first_within n t h = first_from_within n false t t h h

check_line_within : (n : ℕ) (start : Text) → length start ≤ n → Within n (check_line start)
check_line_within n start h = chosen_within n (eqb (slice_index (past_spaces start) 0) 9 || is_marker start) (syntax (past_spaces start)) (Ok start) tt h

pub next_within : (n : ℕ) (t : Text) → length t ≤ n → Within n (next_line t)
unfolding next_line
next_within n t h = then_within n n (first_line t) check_line (first_within n t h) (check_line_within n)
