-- A line at an indentation, as it is read.
--     IsHead s        what a line with a node begins with, behind its indentation
--     Line t          t is the end, or begins with such a line
--     Below k t       the line at t has less than k spaces; the end has none
--     Follows n t     what may stand behind a value at column n: nothing that goes on with it, and no further item of it
use Rattle.std.proofs.Common.{◌≡◌, ℕ, zero, suc, ◌+◌, ◌<◌, ◌≤◌, eqb, ltb, Bool, true, false, cond, ◌||◌, ◌&&◌, ◌⊎◌, inl, inr, [], ◌∷◌, ◌++◌, length, drop, None, Ok, refl, ap, sym, subst, ◌∙◌, arith}
use Rattle.std.specs.Prelude.{slice_index, replicate}
use Rattle.std.proofs.lemmas.Bool.Decides.{nat_tests}
use Rattle.yaml_text.specs.Outcome.{Text, ◌>>=◌, syntax}
use Rattle.yaml_text.specs.Line.{is_white, spaces, past_spaces, past_white, first_from, is_marker, check_line, next_line, blank_from, blank_lines}
use Rattle.yaml_scalars.specs.Plain.{is_end_or_comment, part_of_block, part_in_block, goes_on}
use Rattle.yaml_nodes.specs.Block.{begins_item, next_item, next_pair}
use Rattle.yaml_print.proofs.BoolLemmas.{either, true_not_false, neither_right, either_false}

abbrev pub IsHead : Text → Type 0
IsHead [] = ⊥
IsHead (b ∷ t) = (eqb b 10 ≡ false) × (is_white b ≡ false) × (eqb b 35 ≡ false) × (is_marker (b ∷ t) ≡ false)

abbrev pub at_column : ℕ → Text → Text
at_column n s = replicate n 32 ++ s

-- ---- spaces before a head

white_false : (b : ℕ) → is_white b ≡ false → eqb b 32 ≡ false
white_false b h = elim (either (eqb b 32)) [ inl is ↦ absurd (true_not_false (sym (ap (λ v. v || eqb b 9) is) ∙ h)) | inr is ↦ is ]

tab_false : (b : ℕ) → is_white b ≡ false → eqb b 9 ≡ false
tab_false b h = neither_right (eqb b 32) (eqb b 9) h

pub no_spaces : (s : Text) → IsHead s → spaces s ≡ 0
no_spaces [] h = refl
no_spaces (b ∷ t) h = ap (λ v. cond v (1 + spaces t) 0) (white_false b h.1)

pub spaces_at : (n : ℕ) (s : Text) → IsHead s → spaces (at_column n s) ≡ n
spaces_at zero s h = no_spaces s h
spaces_at (suc n) s h = let e = spaces_at n s h in omega arith

drop_at : (n : ℕ) (s : Text) → drop n (at_column n s) ≡ s
drop_at zero s = refl
drop_at (suc n) s = drop_at n s

pub past_spaces_at : (n : ℕ) (s : Text) → IsHead s → past_spaces (at_column n s) ≡ s
past_spaces_at n s h = ap (λ k. drop k (at_column n s)) (spaces_at n s h) ∙ drop_at n s

pub head_line : (start s : Text) → IsHead s → first_from false start s ≡ Ok start
head_line start [] h = absurd h
head_line start (b ∷ t) h =
    ap (λ v. cond v (first_from false t t) (cond (is_white b) (first_from false start t) (cond (eqb b 35) (first_from true start t) (Ok start)))) h.0
    ∙ ap (λ v. cond v (first_from false start t) (cond (eqb b 35) (first_from true start t) (Ok start))) h.1
    ∙ ap (λ v. cond v (first_from true start t) (Ok start)) h.2

first_at : (n : ℕ) (start s : Text) → IsHead s → first_from false start (at_column n s) ≡ Ok start
first_at zero start s h = head_line start s h
first_at (suc n) start s h = first_at n start s h

no_tab : (s : Text) → IsHead s → eqb (slice_index s 0) 9 ≡ false
no_tab [] h = absurd h
no_tab (b ∷ t) h = tab_false b h.1

no_marker : (n : ℕ) (s : Text) → IsHead s → is_marker (at_column n s) ≡ false
no_marker zero [] h = absurd h
no_marker zero (b ∷ t) h = h.3
no_marker (suc n) s h = refl

check_line_at : (n : ℕ) (s : Text) → IsHead s → check_line (at_column n s) ≡ Ok (at_column n s)
check_line_at n s h =
    let t = at_column n s in
    ap (λ v. cond v (syntax (past_spaces t)) (Ok t))
    (either_false (eqb (slice_index (past_spaces t) 0) 9) (is_marker t) (ap (λ w. eqb (slice_index w 0) 9) (past_spaces_at n s h) ∙ no_tab s h) (no_marker n s h))

pub next_at : (n : ℕ) (s : Text) → IsHead s → next_line (at_column n s) ≡ Ok (at_column n s)
unfolding next_line
next_at n s h = ap (λ o. o >>= check_line) (first_at n (at_column n s) s h) ∙ check_line_at n s h

head_blank : (start s : Text) → IsHead s → blank_from 0 start s ≡ (0, start)
head_blank start [] h = absurd h
head_blank start (b ∷ t) h =
    ap (λ v. cond v (blank_from (0 + 1) t t) (cond (is_white b) (blank_from 0 start t) (0, start))) h.0
    ∙ ap (λ v. cond v (blank_from 0 start t) (0, start)) h.1

blank_at : (n : ℕ) (start s : Text) → IsHead s → blank_from 0 start (at_column n s) ≡ (0, start)
blank_at zero start s h = head_blank start s h
blank_at (suc n) start s h = blank_at n start s h

-- ---- what stands behind a node

pub record Line (t : Text) : Type 0 where
  pub next : next_line t ≡ Ok t
  pub blank : blank_lines t ≡ (0, t)

pub line_at : (n : ℕ) (s : Text) → IsHead s → Line (at_column n s)
unfolding blank_lines
line_at n s h = record { next = next_at n s h; blank = blank_at n (at_column n s) s h }

pub line_end : Line []
unfolding next_line blank_lines
line_end = record { next = refl; blank = refl }

pub record Below (k : ℕ) (t : Text) : Type 0 where
  pub line : Line t
  pub less : (t ≡ []) ⊎ (spaces t < k)

pub below_end : (k : ℕ) → Below k []
below_end k = record { line = line_end; less = inl refl }

pub below_at : (k n : ℕ) (s : Text) → IsHead s → n < k → Below k (at_column n s)
below_at k n s h less = record { line = line_at n s h; less = inr (let e = spaces_at n s h in omega arith) }

less_more : (k m : ℕ) (t : Text) → k ≤ m → (t ≡ []) ⊎ (spaces t < k) → (t ≡ []) ⊎ (spaces t < m)
less_more k m t h (inl e) = inl e
less_more k m t h (inr e) = inr (omega arith)

pub below_more : (k m : ℕ) (t : Text) → k ≤ m → Below k t → Below m t
below_more k m t h b = record { line = b.line; less = less_more k m t h b.less }

pub record Follows (n : ℕ) (t : Text) : Type 0 where
  pub below : Below (suc n) t
  pub no_item : next_item n t ≡ (true, t)

and_false_by : (a b : Bool) (x y : Bool × Text) → b ≡ false → cond (a && b) x y ≡ y
and_false_by true b x y h = ap (λ v. cond v x y) h
and_false_by false b x y h = refl

end_no_item : (n : ℕ) → next_item n [] ≡ (true, [])
end_no_item n = and_false_by (eqb (spaces []) n) false (false, past_spaces []) (true, []) refl

less_no_item : (n : ℕ) (t : Text) → (t ≡ []) ⊎ (spaces t < n) → next_item n t ≡ (true, t)
less_no_item n t (inl e) = subst (λ w. next_item n w ≡ (true, w)) (sym e) (end_no_item n)
less_no_item n t (inr h) = let e : eqb (spaces t) n ≡ false = grind (arith, nat_tests) in ap (λ v. cond (v && begins_item (past_spaces t)) (false, past_spaces t) (true, t)) e

pub follows_below : (n : ℕ) (t : Text) → Below n t → Follows n t
follows_below n t b = record { below = below_more n (suc n) t (omega arith) b; no_item = less_no_item n t b.less }

head_no_item : (n : ℕ) (s : Text) → IsHead s → begins_item s ≡ false → next_item n (at_column n s) ≡ (true, at_column n s)
head_no_item n s h none =
    let t = at_column n s in
    let e : begins_item (past_spaces t) ≡ false = ap begins_item (past_spaces_at n s h) ∙ none in
    and_false_by (eqb (spaces t) n) (begins_item (past_spaces t)) (false, past_spaces t) (true, t) e

pub follows_at : (n : ℕ) (s : Text) → IsHead s → begins_item s ≡ false → Follows n (at_column n s)
follows_at n s h none = record { below = below_at (suc n) n s h (omega arith); no_item = head_no_item n s h none }

less_no_pair : (n : ℕ) (t : Text) → (t ≡ []) ⊎ (spaces t < n) → next_pair n t ≡ (true, t)
less_no_pair n t (inl e) = subst (λ w. next_pair n w ≡ (true, w)) (sym e) refl
less_no_pair n t (inr h) =
    let e : eqb (spaces t) n ≡ false = grind (arith, nat_tests) in
    and_false_by (ltb 0 (length t)) (eqb (spaces t) n) (false, past_spaces t) (true, t) e

pub below_no_pair : (n : ℕ) (t : Text) → Below n t → next_pair n t ≡ (true, t)
below_no_pair n t b = less_no_pair n t b.less

-- ---- a scalar doesn't go on

goes_by : (v : Bool) (least : ℕ) (start : Text) → (start ≡ []) ⊎ (spaces start < least) → is_end_or_comment (past_white start) ≡ v → goes_on false least start ≡ Ok None
unfolding goes_on
goes_by true least start h is = ap (λ v. cond v (Ok None) (part_in_block least start)) is
goes_by false least start (inl e) is = subst (λ w. goes_on false least w ≡ Ok None) (sym e) refl
goes_by false least start (inr h) is =
    let less : ltb (spaces start) least ≡ true = grind (arith, nat_tests) in
    ap (λ v. cond v (Ok None) (part_in_block least start)) is
    ∙ ap (λ v. cond v (Ok None) (check_line start >>= λ s. part_of_block (past_spaces s))) less

pub stops_at : (least : ℕ) (t : Text) → Below least t → goes_on false least t ≡ Ok None
stops_at least t b = goes_by (is_end_or_comment (past_white t)) least t b.less refl
