-- A text as the rules read it has no more lines than its bytes.
use Rattle.std.proofs.Common.{◌≡◌, ℕ, zero, suc, ◌+◌, ◌<◌, ◌≤◌, eqb, Bool, true, false, cond, ◌&&◌, List, [], ◌∷◌, ◌++◌, length, take, drop, refl, ap, sym, ◌∙◌, arith}
use Rattle.std.specs.Prelude.{count_by, slice_index}
use Rattle.std.specs.Str.{is_utf8}
use Rattle.std.specs.Str.Lossy.{utf8_valid_len}
use Rattle.std.proofs.lemmas.List.Recursion.{is_count_by}
use Rattle.std.proofs.lemmas.List.Sums.{count_by-le-length}
use Rattle.yaml_text.specs.Outcome.{Text}
use Rattle.yaml_text.specs.Source.{with_null, past_mark, with_line_feeds, source}

-- how many line feeds a text has, by its first byte
abbrev count : Text → ℕ
count [] = 0
count (b ∷ t) = cond (eqb b 10) (1 + count t) (count t)

counted : (t : Text) → count t ≡ count_by (λ b. eqb b 10) t
counted t = is_count_by count (λ b. eqb b 10) refl (λ b t. refl) t

more_le : (c : Bool) (m n : ℕ) → m ≤ n → cond c (1 + m) m ≤ cond c (1 + n) n
more_le true m n h = omega arith
more_le false m n h = h

less_le : (c : Bool) (m n : ℕ) → m ≤ n → m ≤ cond c (1 + n) n
less_le true m n h = omega arith
less_le false m n h = h

feeds_by : (c : Bool) (b : ℕ) (t : Text) → count (with_line_feeds t) ≤ count t → count (cond c (with_line_feeds t) (b ∷ with_line_feeds t)) ≤ count (b ∷ t)
feeds_by true b t h = less_le (eqb b 10) (count (with_line_feeds t)) (count t) h
feeds_by false b t h = more_le (eqb b 10) (count (with_line_feeds t)) (count t) h

feeds_le : (t : Text) → count (with_line_feeds t) ≤ count t
feeds_le [] = omega arith
feeds_le (b ∷ t) = feeds_by (eqb b 13 && eqb (slice_index t 0) 10) b t (feeds_le t)

drop_le : (n : ℕ) (t : Text) → count (drop n t) ≤ count t
drop_le zero t = omega arith
drop_le (suc n) [] = omega arith
drop_le (suc n) (b ∷ t) = less_le (eqb b 10) (count (drop n t)) (count t) (drop_le n t)

stop_le : (n : ℕ) (t : Text) → count (take n t ++ 0 ∷ drop n t) ≤ count t
stop_le zero t = omega arith
stop_le (suc n) [] = omega arith
stop_le (suc n) (b ∷ t) = more_le (eqb b 10) (count (take n t ++ 0 ∷ drop n t)) (count t) (stop_le n t)

take_le : (n : ℕ) (t : Text) → count (take n t) ≤ count t
take_le zero t = omega arith
take_le (suc n) [] = omega arith
take_le (suc n) (b ∷ t) = more_le (eqb b 10) (count (take n t)) (count t) (take_le n t)

choice_le : (c : Bool) (x y : Text) (n : ℕ) → count x ≤ n → count y ≤ n → count (cond c x y) ≤ n
choice_le true x y n h k = h
choice_le false x y n h k = k

with_stop_le : (t : Text) → count (with_null t) ≤ count t
with_stop_le t =
    choice_le (is_utf8 t) t (take (utf8_valid_len t) t ++ 0 ∷ drop (utf8_valid_len t) t) (count t) (omega arith) (stop_le (utf8_valid_len t) t)

mark_le : (t : Text) → count (past_mark t) ≤ count t
mark_le t = choice_le (eqb (slice_index t 0) 239 && eqb (slice_index t 1) 187 && eqb (slice_index t 2) 191) (drop 3 t) t (count t) (drop_le 3 t) (omega arith)

pub take_lines : (n : ℕ) (t : Text) → count_by (λ b. eqb b 10) (take n t) ≤ count_by (λ b. eqb b 10) t
take_lines n t = omega (arith, take_le n t, counted t, counted (take n t))

pub source_lines : (bytes : Text) → count_by (λ b. eqb b 10) (source bytes) ≤ count_by (λ b. eqb b 10) bytes
unfolding source
source_lines bytes =
    let a = feeds_le (past_mark (with_null bytes)) in
    let b = mark_le (with_null bytes) in
    let c = with_stop_le bytes in
    omega (arith, counted bytes, counted (with_line_feeds (past_mark (with_null bytes))))

pub lines_le : (t : Text) → count_by (λ b. eqb b 10) t ≤ length t
lines_le t = count_by-le-length (λ b. eqb b 10) t
