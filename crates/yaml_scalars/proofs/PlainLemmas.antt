-- Plain scalars, a byte and a turn at a time.
use Rattle.std.proofs.Common.{◌≡◌, ℕ, zero, suc, ◌+◌, ◌<◌, ◌≤◌, eqb, ltb, Bool, true, false, cond, [], ◌∷◌, length, drop, Option, Some, None, Ok, refl, ap, ◌∙◌, inl, inr, arith}
use Rattle.yaml_text.specs.Outcome.{Text, ◌>>=◌, syntax}
use Rattle.yaml_text.specs.Line.{is_white, is_bad, spaces, past_spaces, past_white, is_marker, check_line, blank_lines}
use Rattle.yaml_text.proofs.OutcomeLemmas.{chosen, bind_ok}
use Rattle.yaml_text.proofs.LineLemmas.{drop_le, past_white_le, past_spaces_le, blank_lines_le, check_line_same}
use Rattle.yaml_scalars.specs.Plain.{plain_len, ends_before, and_more, is_colon, is_end_or_comment, part_in_flow, part_of_block, part_in_block, goes_on, with_part, next_part, behind_part, plain_turn}
use Rattle.yaml_scalars.proofs.TurnLemmas.{Shrinks, last_only, ok_same}

-- how long the part is that ends at `end`, where p bytes more follow behind `at`, or none
abbrev pub so_far : ℕ → ℕ → ℕ → ℕ
so_far end at zero = end
so_far end at (suc p) = at + suc p

by_white : (w : Bool) (end at p q : ℕ) → so_far end at (cond w (and_more p) (suc q)) ≡ so_far (cond w end (at + 1)) (at + 1) (cond w p q)
by_white true end at zero q = refl
by_white true end at (suc p) q = omega arith
by_white false end at p zero = refl
by_white false end at p (suc q) = omega arith

same_len : (flow w : Bool) (t : Text) → cond w (plain_len flow true t) (plain_len flow false t) ≡ plain_len flow w t
same_len flow true t = refl
same_len flow false t = refl

going : (flow white : Bool) (b : ℕ) (t : Text) → ends_before flow white b t ≡ false → plain_len flow white (b ∷ t) ≡ cond (is_white b) (and_more (plain_len flow true t)) (suc (plain_len flow false t))
going flow white b t h = ap (λ v. cond v 0 (cond (is_white b) (and_more (plain_len flow true t)) (suc (plain_len flow false t)))) h

pub part_more : (flow white : Bool) (b : ℕ) (t : Text) (end at : ℕ) → ends_before flow white b t ≡ false
    → so_far end at (plain_len flow white (b ∷ t)) ≡ so_far (cond (is_white b) end (at + 1)) (at + 1) (plain_len flow (is_white b) t)
part_more flow white b t end at h =
    ap (so_far end at) (going flow white b t h)
    ∙ by_white (is_white b) end at (plain_len flow true t) (plain_len flow false t)
    ∙ ap (so_far (cond (is_white b) end (at + 1)) (at + 1)) (same_len flow (is_white b) t)

-- ---- each turn but the last takes something

part_in_flow_le : (start t u : Text) → part_in_flow start t ≡ Ok (Some u) → length u ≤ length t
part_in_flow_le start t u h =
    let b = is_marker start in
    let n = eqb (plain_len true false t) 0 in
    elim (chosen b (syntax start) (Ok (cond n None (Some t))) (Ok (Some u)) h) [
      | inl w ↦ absurd (let e = w.1 in cc)
      | inr w ↦ elim (chosen n None (Some t) (Some u) (let e = w.1 in cc)) [ inl v ↦ absurd (let e = v.1 in cc) | inr v ↦ let e : t ≡ u = (let d = v.1 in cc) in omega (arith, ap length e) ]
    ]

part_of_block_le : (t u : Text) → part_of_block t ≡ Ok (Some u) → length u ≤ length t
part_of_block_le t u h =
    elim (chosen (is_colon false (past_white (drop (plain_len false false t) t))) (syntax t) (Ok (Some t)) (Ok (Some u)) h)
    [ inl w ↦ absurd (let e = w.1 in cc) | inr w ↦ let e : t ≡ u = (let d = w.1 in cc) in omega (arith, ap length e) ]

part_in_block_le : (least : ℕ) (start u : Text) → part_in_block least start ≡ Ok (Some u) → length u ≤ length start
part_in_block_le least start u h =
    elim (chosen (ltb (spaces start) least) (Ok None) (check_line start >>= λ s. part_of_block (past_spaces s)) (Ok (Some u)) h) [
      | inl w ↦ absurd (let e = w.1 in cc)
      | inr w ↦
          let got = bind_ok (check_line start) (λ s. part_of_block (past_spaces s)) (Some u) w.1 in
          let same = check_line_same start got.0 got.1.0 in
          let short = part_of_block_le (past_spaces got.0) u got.1.1 in
          omega (arith, past_spaces_le got.0, ap length same)
    ]

pub goes_on_le : (flow : Bool) (least : ℕ) (start u : Text) → goes_on flow least start ≡ Ok (Some u) → length u ≤ length start
unfolding goes_on
goes_on_le flow least start u h =
    elim (chosen (is_end_or_comment (past_white start)) (Ok None) (cond flow (part_in_flow start (past_white start)) (part_in_block least start)) (Ok (Some u)) h) [
      | inl w ↦ absurd (let e = w.1 in cc)
      | inr w ↦ elim (chosen flow (part_in_flow start (past_white start)) (part_in_block least start) (Ok (Some u)) w.1) [
        | inl v ↦ omega (arith, part_in_flow_le start (past_white start) u v.1, past_white_le start)
        | inr v ↦ part_in_block_le least start u v.1
      ]
    ]

with_part_less : (flow : Bool) (found t : Text) (k : ℕ) (part : Option Text) (r : Text × Text) (n : ℕ) → ((u : Text) → part ≡ Some u → length u < n)
    → with_part flow found t k part ≡ (false, r) → length r.1 < n
with_part_less flow found t k None r n h is = absurd (last_only is)
with_part_less flow found t k (Some u) r n h is =
    let e : drop (plain_len flow false u) u ≡ r.1 = ap (λ p. p.1.1) is in
    omega (arith, h u refl, drop_le (plain_len flow false u) u, ap length e)

next_part_less : (flow : Bool) (least : ℕ) (found t : Text) (lines : ℕ × Text) (r : Text × Text) → length lines.1 < length t
    → next_part flow least found t lines ≡ Ok (false, r) → length r.1 < length t
next_part_less flow least found t lines r h is =
    let got = bind_ok (goes_on flow least lines.1) (λ part. Ok (with_part flow found t lines.0 part)) (false, r) is in
    with_part_less flow found t lines.0 got.0 r (length t)
    (λ u e. omega (arith, goes_on_le flow least lines.1 u (got.1.0 ∙ ap (λ p. Ok p) e)))
    (ok_same got.1.1)

behind_part_less : (flow : Bool) (least : ℕ) (found t u : Text) (r : Text × Text) → length u ≤ length t
    → behind_part flow least found t u ≡ Ok (false, r) → length r.1 < length t
behind_part_less flow least found t [] r h is = absurd (last_only (ok_same is))
behind_part_less flow least found t (b ∷ u) r h is =
    elim (chosen (eqb b 10) (next_part flow least found t (blank_lines u)) (cond (is_bad b) (syntax (b ∷ u)) (Ok (true, (found, t)))) (Ok (false, r)) is) [
      | inl w ↦ next_part_less flow least found t (blank_lines u) r (let k = blank_lines_le u in omega arith) w.1
      | inr w ↦ elim (chosen (is_bad b) (syntax (b ∷ u)) (Ok (true, (found, t))) (Ok (false, r)) w.1)
          [ inl v ↦ absurd (let e = v.1 in cc) | inr v ↦ absurd (last_only (ok_same v.1)) ]
    ]

pub plain_shrinks : (flow : Bool) (least : ℕ) → Shrinks (plain_turn flow least)
unfolding plain_turn
plain_shrinks flow least s t r is = behind_part_less flow least s t (past_white t) r (past_white_le t) is
