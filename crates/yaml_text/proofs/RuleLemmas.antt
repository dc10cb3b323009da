-- The rules of lines give what the functions by cases give, and for each text an outcome.
use Rattle.std.proofs.Common.{◌≡◌, ◌<◌, ◌≤◌, ℕ, zero, suc, eqb, Bool, true, false, cond, ◌||◌, ◌&&◌, [], ◌∷◌, length, Ok, Err, refl, ap, sym, subst, ◌∙◌, inl, inr, ne_eqb, eq-eqb, arith}
use Rattle.std.proofs.lemmas.Bool.{cases_Bool}
use Rattle.std.specs.Prelude.{slice_index}
use Rattle.std.proofs.lemmas.Bool.Decides.{eqb_tells}
use Rattle.yaml_text.specs.declared.refusal.Refusal.{Refusal}
use Rattle.yaml_text.specs.Outcome.{Text, Outcome, ◌>>=◌, syntax}
use Rattle.yaml_text.specs.Line.{is_white, is_bad, past_spaces, comment, rest_of_line, first_from, first_line, is_marker, check_line, next_line}
use Rattle.yaml_text.specs.Rules as g
use Rattle.yaml_text.proofs.OutcomeLemmas.{Gives, given, ok_at}
use Rattle.yaml_text.proofs.WithinLemmas.{comment_within}

-- ---- characters

pub bad_no_feed : (b : ℕ) → is_bad b ≡ true → eqb b 10 ≡ false
bad_no_feed b h = elim (eqb_tells b 10) [ inl w ↦ absurd (let e : is_bad 10 ≡ true = subst (λ c. is_bad c ≡ true) w.1 h in cc) | inr w ↦ w.0 ]

pub white_no_feed : (b : ℕ) → is_white b ≡ true → eqb b 10 ≡ false
white_no_feed b h = elim (eqb_tells b 10) [ inl w ↦ absurd (let e : is_white 10 ≡ true = subst (λ c. is_white c ≡ true) w.1 h in cc) | inr w ↦ w.0 ]

-- ---- comments

pub comment_sound : (t : Text) (o : Outcome Text) → g.IsComment t o → comment t ≡ o
comment_sound t o g.comment_ends_text = refl
comment_sound t o g.comment_ends = refl
comment_sound t o (g.bad_character {b = b} h) = let d = bad_no_feed b h in cc
comment_sound t o (g.character {b = b} {t = u} n h s) = let d = ne_eqb b 10 n in let i = comment_sound u o s in cc

pub comment_total : (t : Text) → Gives (g.IsComment t)
comment_total [] = (Ok [], g.comment_ends_text)
comment_total (b ∷ t) =
    elim (eqb_tells b 10) [
      | inl w ↦ (Ok t, subst (λ c. g.IsComment (c ∷ t) (Ok t)) (sym w.1) g.comment_ends)
      | inr w ↦ elim (cases_Bool (is_bad b)) [ inl h ↦ (syntax (b ∷ t), g.bad_character h) | inr h ↦ let s = comment_total t in (s.0, g.character w.1 h s.1) ]
    ]

-- ---- the rest of a line

pub rest_sound : (may : Bool) (t : Text) (o : Outcome Text) → g.IsRest may t o → rest_of_line may t ≡ o
rest_sound may t o g.text_ends = refl
rest_sound may t o g.line_ends = refl
rest_sound may t o (g.white {b = b} {t = u} h s) = let d = white_no_feed b h in let i = rest_sound true u o s in cc
rest_sound may t o (g.comment {t = u} s) = comment_sound u o s
rest_sound may t o g.comment_too_near = refl
rest_sound may t o (g.other {b = b} n w h) = let d = ne_eqb b 10 n in let f = ne_eqb b 35 h in let k = and_false may in cc
  where
    and_false : (a : Bool) → (a && false) ≡ false
    and_false true = refl
    and_false false = refl

hash_total : (may : Bool) (t : Text) → Gives (g.IsRest may (35 ∷ t))
hash_total true t = let s = comment_total t in (s.0, g.comment s.1)
hash_total false t = (syntax (35 ∷ t), g.comment_too_near)

pub rest_total : (may : Bool) (t : Text) → Gives (g.IsRest may t)
rest_total may [] = (Ok [], g.text_ends)
rest_total may (b ∷ t) =
    elim (eqb_tells b 10) [
      | inl n ↦ (Ok t, subst (λ c. g.IsRest may (c ∷ t) (Ok t)) (sym n.1) g.line_ends)
      | inr n ↦ elim (cases_Bool (is_white b)) [
        | inl w ↦ let s = rest_total true t in (s.0, g.white w s.1)
        | inr w ↦ elim (eqb_tells b 35) [
          | inl h ↦ let s = hash_total may t in (s.0, subst (λ c. g.IsRest may (c ∷ t) s.0) (sym h.1) s.1)
          | inr h ↦ (syntax (b ∷ t), g.other n.1 w h.1)
        ]
      ]
    ]

-- ---- the first line that isn't blank

-- a comment is passed as one
past_comment : (start t : Text) → first_from true start t ≡ (comment t >>= λ u. first_from false u u)
past_comment start [] = refl
past_comment start (b ∷ t) = comment_by (eqb b 10) (is_bad b) start b t (past_comment start t)
  where
    comment_by : (n w : Bool) (start : Text) (b : ℕ) (t : Text) → first_from true start t ≡ (comment t >>= λ u. first_from false u u)
        → cond n (first_from false t t) (cond w (syntax (b ∷ t)) (first_from true start t)) ≡ (cond n (Ok t) (cond w (syntax (b ∷ t)) (comment t)) >>= λ u. first_from false u u)
    comment_by true w start b t i = refl
    comment_by false true start b t i = refl
    comment_by false false start b t i = i

pub first_sound : (start t : Text) (o : Outcome Text) → g.IsFirst start t o → first_from false start t ≡ o
first_sound start t o g.no_line = refl
first_sound start t o (g.blank_line {t = u} s) = first_sound u u o s
first_sound start t o (g.leading_white {b = b} {t = u} h s) = let d = white_no_feed b h in let i = first_sound start u o s in cc
first_sound start t o (g.comment_line {t = v} {u = u} c s) = past_comment start v ∙ ap (λ r. r >>= λ u. first_from false u u) (comment_sound v (Ok u) c) ∙ first_sound u u o s
first_sound start t o (g.bad_comment {t = v} {e = e} c) = past_comment start v ∙ ap (λ r. r >>= λ u. first_from false u u) (comment_sound v (Err e) c)
first_sound start t o (g.the_line {b = b} n w h) = let d = ne_eqb b 10 n in let f = ne_eqb b 35 h in cc

-- a text of less than n bytes
abbrev Firsts : ℕ → Type 0
Firsts n = (start t : Text) → length t < n → Gives (g.IsFirst start t)

comment_line_total : (start t : Text) → Firsts (suc (length t)) → Gives (g.IsFirst start (35 ∷ t))
comment_line_total start t more =
    elim (given (g.IsComment t) (comment_total t)) [
      | inl u ↦
          let left : length u.0 ≤ length t = ok_at (λ (v : Text). length v ≤ length t) (comment t) u.0 (comment_sound t (Ok u.0) u.1) (comment_within (length t) t (omega arith)) in
          let s = more u.0 u.0 (omega arith) in
          (s.0, g.comment_line u.1 s.1)
      | inr e ↦ (Err e.0, g.bad_comment e.1)
    ]

firsts_total : (n : ℕ) → Firsts n
firsts_total zero start t h = absurd (omega arith)
firsts_total (suc n) start [] h = (Ok [], g.no_line)
firsts_total (suc n) start (b ∷ t) h =
    let k : length t < n = omega arith in
    elim (eqb_tells b 10) [
      | inl w ↦ let s = firsts_total n t t k in (s.0, subst (λ c. g.IsFirst start (c ∷ t) s.0) (sym w.1) (g.blank_line s.1))
      | inr w ↦ elim (cases_Bool (is_white b)) [
        | inl x ↦ let s = firsts_total n start t k in (s.0, g.leading_white x s.1)
        | inr x ↦ elim (eqb_tells b 35) [
          | inl y ↦ let s = comment_line_total start t (λ f u l. firsts_total n f u (omega arith)) in (s.0, subst (λ c. g.IsFirst start (c ∷ t) s.0) (sym y.1) s.1)
          | inr y ↦ (Ok start, g.the_line w.1 x y.1)
        ]
      ]
    ]

pub first_total : (t : Text) → Gives (g.IsFirst t t)
first_total t = firsts_total (suc (length t)) t t (omega arith)

pub first_line_sound : (t : Text) (o : Outcome Text) → g.IsFirst t t o → first_line t ≡ o
first_line_sound t o s = first_sound t t o s

-- ---- the next line

next_at : (t u : Text) → first_line t ≡ Ok u → next_line t ≡ check_line u
unfolding next_line
next_at t u a = ap (λ o. o >>= check_line) a

bad_next : (t : Text) (e : Refusal) → first_line t ≡ Err e → next_line t ≡ Err e
unfolding next_line
bad_next t e a = ap (λ o. o >>= check_line) a

pub either_true : (a b : Bool) → b ≡ true → (a || b) ≡ true
either_true true b h = refl
either_true false b h = h

pub next_sound : (t : Text) (o : Outcome Text) → g.IsNext t o → next_line t ≡ o
next_sound t o (g.bad_lines {e = e} s) = bad_next t e (first_sound t t (Err e) s)
next_sound t o (g.a_tab {u = u} s h) = let a = next_at t u (first_sound t t (Ok u) s) in let d = eq-eqb (slice_index (past_spaces u) 0) 9 h in cc
next_sound t o (g.second_marker {u = u} s h) =
    let a = next_at t u (first_sound t t (Ok u) s) in
    let d = either_true (eqb (slice_index (past_spaces u) 0) 9) (is_marker u) h in cc
next_sound t o (g.next {u = u} s n h) = let a = next_at t u (first_sound t t (Ok u) s) in let d = ne_eqb (slice_index (past_spaces u) 0) 9 n in cc

pub next_total : (t : Text) → Gives (g.IsNext t)
next_total t =
    elim (given (g.IsFirst t t) (first_total t)) [
      | inl u ↦ elim (eqb_tells (slice_index (past_spaces u.0) 0) 9) [
        | inl w ↦ (syntax (past_spaces u.0), g.a_tab u.1 w.1)
        | inr w ↦ elim (cases_Bool (is_marker u.0)) [ inl h ↦ (syntax (past_spaces u.0), g.second_marker u.1 h) | inr h ↦ (Ok u.0, g.next u.1 w.1 h) ]
      ]
      | inr e ↦ (Err e.0, g.bad_lines e.1)
    ]
