-- The rules of quoted scalars give what the functions by cases give, and for each text an outcome.
use Rattle.std.proofs.Common.{◌≡◌, ◌<◌, ℕ, zero, suc, ◌+◌, Bool, true, false, cond, [], ◌∷◌, ◌++◌, length, drop, Option, Some, None, Ok, Err, refl, ap, ◌∙◌, ◌⊎◌, inl, inr, ne_eqb, eq-eqb, arith}
use Rattle.std.proofs.lemmas.Bool.{cases_Bool}
use Rattle.std.specs.Prelude.{slice_index, replicate}
use Rattle.std.specs.Char.{encode_utf8}
use Rattle.std.specs.List.{prefix_len}
use Rattle.std.proofs.lemmas.Bool.Decides.{eqb_tells}
use Rattle.yaml_text.specs.declared.refusal.Refusal.{Refusal}
use Rattle.yaml_text.specs.declared.refusal.Refusal.TheVariants.{Syntax}
use Rattle.yaml_text.specs.Outcome.{Text, Step, syntax}
use Rattle.yaml_text.specs.Line.{is_bad, blank_lines}
use Rattle.yaml_text.proofs.OutcomeLemmas.{Gives}
use Rattle.yaml_text.proofs.RuleLemmas.{bad_no_feed}
use Rattle.yaml_scalars.specs.Turns.{all_turns}
use Rattle.yaml_scalars.specs.Quoted.{is_literal, literal_len, fold_lines, join_lines, with_escape, at_backslash, escape, at_meaning, quoted_turn, quoted}
use Rattle.yaml_scalars.specs.Rules as g
use Rattle.yaml_scalars.proofs.TurnLemmas.{turns_err, turns_last, turns_more}
use Rattle.yaml_scalars.proofs.QuotedLemmas.{quoted_shrinks}

-- ---- one turn

turn_at : (quote : ℕ) (over : Bool) (found t w : Text) → g.past_piece quote t ≡ w → quoted_turn quote over found t ≡ at_meaning quote over found (g.piece quote t) w
unfolding quoted_turn
turn_at quote over found t w h = ap (at_meaning quote over found (g.piece quote t)) h

turn_bad : (quote : ℕ) (over : Bool) (found t u : Text) (b : ℕ) → g.past_piece quote t ≡ b ∷ u → is_bad b ≡ true → quoted_turn quote over found t ≡ syntax (b ∷ u)
turn_bad quote over found t u b h k = let s = turn_at quote over found t (b ∷ u) h in let d = bad_no_feed b k in cc

turn_break : (quote : ℕ) (found t u : Text) → g.past_piece quote t ≡ 10 ∷ u
    → quoted_turn quote true found t ≡ Ok (false, ((found ++ g.solid (g.piece quote t)) ++ g.fold u, g.past_fold u))
unfolding fold_lines
turn_break quote found t u h = turn_at quote true found t (10 ∷ u) h

turn_over : (quote : ℕ) (found t u : Text) → g.past_piece quote t ≡ 10 ∷ u → quoted_turn quote false found t ≡ syntax (10 ∷ u)
turn_over quote found t u h = turn_at quote false found t (10 ∷ u) h

turn_two : (over : Bool) (found t u : Text) → g.past_piece 39 t ≡ 39 ∷ u → slice_index u 0 ≡ 39
    → quoted_turn 39 over found t ≡ Ok (false, ((found ++ g.piece 39 t) ++ 39 ∷ [], drop 1 u))
turn_two over found t u h k = let s = turn_at 39 over found t (39 ∷ u) h in let d = eq-eqb (slice_index u 0) 39 k in cc

turn_closing : (over : Bool) (found t u : Text) → g.past_piece 39 t ≡ 39 ∷ u → (slice_index u 0 ≡ 39 → ⊥) → quoted_turn 39 over found t ≡ Ok (true, (found ++ g.piece 39 t, u))
turn_closing over found t u h k = let s = turn_at 39 over found t (39 ∷ u) h in let d = ne_eqb (slice_index u 0) 39 k in cc

turn_double : (over : Bool) (found t u : Text) → g.past_piece 34 t ≡ 34 ∷ u → quoted_turn 34 over found t ≡ Ok (true, (found ++ g.piece 34 t, u))
turn_double over found t u h = turn_at 34 over found t (34 ∷ u) h

turn_backslash : (over : Bool) (found t u : Text) → g.past_piece 34 t ≡ 92 ∷ u → quoted_turn 34 over found t ≡ at_backslash over (found ++ g.piece 34 t) (92 ∷ u) u
turn_backslash over found t u h = turn_at 34 over found t (92 ∷ u) h

turn_joined : (found t u : Text) → g.past_piece 34 t ≡ 92 ∷ u → slice_index u 0 ≡ 10
    → quoted_turn 34 true found t ≡ Ok (false, ((found ++ g.piece 34 t) ++ replicate (blank_lines (drop 1 u)).0 10, g.past_fold (drop 1 u)))
unfolding at_backslash join_lines
turn_joined found t u h k = let s = turn_backslash true found t u h in let d = eq-eqb (slice_index u 0) 10 k in cc

turn_not_joined : (found t u : Text) → g.past_piece 34 t ≡ 92 ∷ u → slice_index u 0 ≡ 10 → quoted_turn 34 false found t ≡ syntax (92 ∷ u)
unfolding at_backslash
turn_not_joined found t u h k = let s = turn_backslash false found t u h in let d = eq-eqb (slice_index u 0) 10 k in cc

turn_escape : (over : Bool) (found t u : Text) (o : Option (ℕ × Text)) → g.past_piece 34 t ≡ 92 ∷ u → (slice_index u 0 ≡ 10 → ⊥) → escape u ≡ o
    → quoted_turn 34 over found t ≡ with_escape (found ++ g.piece 34 t) (92 ∷ u) o
unfolding at_backslash
turn_escape over found t u o h k e = let s = turn_backslash over found t u h in let d = ne_eqb (slice_index u 0) 10 k in cc

-- ---- all turns

abbrev turns : ℕ → Bool → Text → Text → Step Text
turns quote over found t = all_turns (quoted_turn quote over) found t

err : (quote : ℕ) (over : Bool) (found t : Text) (e : Refusal) → quoted_turn quote over found t ≡ Err e → turns quote over found t ≡ Err e
err quote over found t e is = turns_err (quoted_turn quote over) (quoted_shrinks quote over) found t e is

last : (quote : ℕ) (over : Bool) (found t : Text) (r : Text × Text) → quoted_turn quote over found t ≡ Ok (true, r) → turns quote over found t ≡ Ok r
last quote over found t r is = turns_last (quoted_turn quote over) (quoted_shrinks quote over) found t r is

more : (quote : ℕ) (over : Bool) (found t : Text) (r : Text × Text) → quoted_turn quote over found t ≡ Ok (false, r) → turns quote over found t ≡ turns quote over r.0 r.1
more quote over found t r is = turns_more (quoted_turn quote over) (quoted_shrinks quote over) found t r is

single_sound : (over : Bool) (found t : Text) (o : Step Text) → g.IsSingle over found t o → turns 39 over found t ≡ o
single_sound over found t o (g.IsSingle.unclosed h) = err 39 over found t (Syntax 0) (turn_at 39 over found t [] h)
single_sound over found t o (g.IsSingle.bad_character {u = u} {b = b} h k) = err 39 over found t (Syntax (length (b ∷ u))) (turn_bad 39 over found t u b h k)
single_sound over found t o (g.IsSingle.line_break {u = u} h s) =
    more 39 true found t ((found ++ g.solid (g.piece 39 t)) ++ g.fold u, g.past_fold u) (turn_break 39 found t u h)
    ∙ single_sound true ((found ++ g.solid (g.piece 39 t)) ++ g.fold u) (g.past_fold u) o s
single_sound over found t o (g.IsSingle.over_lines {u = u} h) = err 39 false found t (Syntax (length (10 ∷ u))) (turn_over 39 found t u h)
single_sound over found t o (g.two_quotes {u = u} h k s) =
    more 39 over found t ((found ++ g.piece 39 t) ++ 39 ∷ [], drop 1 u) (turn_two over found t u h k) ∙ single_sound over ((found ++ g.piece 39 t) ++ 39 ∷ []) (drop 1 u) o s
single_sound over found t o (g.IsSingle.closing {u = u} h k) = last 39 over found t (found ++ g.piece 39 t, u) (turn_closing over found t u h k)

double_sound : (over : Bool) (found t : Text) (o : Step Text) → g.IsDouble over found t o → turns 34 over found t ≡ o
double_sound over found t o (g.IsDouble.unclosed h) = err 34 over found t (Syntax 0) (turn_at 34 over found t [] h)
double_sound over found t o (g.IsDouble.bad_character {u = u} {b = b} h k) = err 34 over found t (Syntax (length (b ∷ u))) (turn_bad 34 over found t u b h k)
double_sound over found t o (g.IsDouble.line_break {u = u} h s) =
    more 34 true found t ((found ++ g.solid (g.piece 34 t)) ++ g.fold u, g.past_fold u) (turn_break 34 found t u h)
    ∙ double_sound true ((found ++ g.solid (g.piece 34 t)) ++ g.fold u) (g.past_fold u) o s
double_sound over found t o (g.IsDouble.over_lines {u = u} h) = err 34 false found t (Syntax (length (10 ∷ u))) (turn_over 34 found t u h)
double_sound over found t o (g.IsDouble.closing {u = u} h) = last 34 over found t (found ++ g.piece 34 t, u) (turn_double over found t u h)
double_sound over found t o (g.escaped_break {u = u} h k s) =
    more 34 true found t ((found ++ g.piece 34 t) ++ replicate (blank_lines (drop 1 u)).0 10, g.past_fold (drop 1 u)) (turn_joined found t u h k)
    ∙ double_sound true ((found ++ g.piece 34 t) ++ replicate (blank_lines (drop 1 u)).0 10) (g.past_fold (drop 1 u)) o s
double_sound over found t o (g.escape_over_lines {u = u} h k) = err 34 false found t (Syntax (length (92 ∷ u))) (turn_not_joined found t u h k)
double_sound over found t o (g.IsDouble.escaped {u = u} {c = c} h k e s) =
    more 34 over found t ((found ++ g.piece 34 t) ++ encode_utf8 c.0, c.1) (turn_escape over found t u (Some c) h k e)
    ∙ double_sound over ((found ++ g.piece 34 t) ++ encode_utf8 c.0) c.1 o s
double_sound over found t o (g.bad_escape {u = u} h k e) = err 34 over found t (Syntax (length (92 ∷ u))) (turn_escape over found t u None h k e)

pub quoted_sound : (over : Bool) (t : Text) (o : Step Text) → g.IsQuoted over t o → quoted (slice_index t 0) over (drop 1 t) ≡ o
unfolding quoted
quoted_sound over t o (g.single h s) = ap (λ q. turns q over [] (drop 1 t)) h ∙ single_sound over [] (drop 1 t) o s
quoted_sound over t o (g.double h s) = ap (λ q. turns q over [] (drop 1 t)) h ∙ double_sound over [] (drop 1 t) o s

-- ---- for each text an outcome

-- a run ends at a byte that isn't of it
run_ends_by : (p : ℕ → Bool) (c : Bool) (x : ℕ) (t : Text) (b : ℕ) (u : Text) → p x ≡ c → (drop (prefix_len p t) t ≡ b ∷ u → p b ≡ false)
    → drop (cond c (1 + prefix_len p t) 0) (x ∷ t) ≡ b ∷ u → p b ≡ false
run_ends_by p true x t b u is rest h = rest (ap (λ n. drop n (x ∷ t)) (let e : suc (prefix_len p t) ≡ 1 + prefix_len p t = omega arith in e) ∙ h)
run_ends_by p false x t b u is rest h = let e : x ∷ t ≡ b ∷ u = h in cc

run_ends : (p : ℕ → Bool) (t : Text) (b : ℕ) (u : Text) → drop (prefix_len p t) t ≡ b ∷ u → p b ≡ false
run_ends p [] b u h = absurd (cc)
run_ends p (x ∷ t) b u h = run_ends_by p (p x) x t b u refl (run_ends p t b u) h

piece_ends : (quote : ℕ) (t : Text) (b : ℕ) (u : Text) → g.past_piece quote t ≡ b ∷ u → is_literal quote b ≡ false
unfolding literal_len
piece_ends quote t b u h = run_ends (is_literal quote) t b u h

single_sign : (b : ℕ) → is_literal 39 b ≡ false → (b ≡ 10 → ⊥) → is_bad b ≡ false → b ≡ 39
single_sign b h n k = elim (eqb_tells b 39) [ inl w ↦ w.1 | inr w ↦ absurd (let d = ne_eqb b 10 n in let e = w.0 in cc) ]

double_sign : (b : ℕ) → is_literal 34 b ≡ false → (b ≡ 10 → ⊥) → is_bad b ≡ false → (b ≡ 34) ⊎ (b ≡ 92)
double_sign b h n k =
    elim (eqb_tells b 34) [
      | inl w ↦ inl w.1
      | inr w ↦ elim (eqb_tells b 92) [ inl x ↦ inr x.1 | inr x ↦ absurd (let d = ne_eqb b 10 n in let e = w.0 in let f = x.0 in cc) ]
    ]

-- texts of less than n bytes
abbrev Singles : Bool → ℕ → Type 0
Singles over n = (found t : Text) → length t < n → Gives (g.IsSingle over found t)

abbrev Doubles : Bool → ℕ → Type 0
Doubles over n = (found t : Text) → length t < n → Gives (g.IsDouble over found t)

single_break_total : (over : Bool) (found t u : Text) → Singles over (length t) → g.past_piece 39 t ≡ 10 ∷ u → Gives (g.IsSingle over found t)
single_break_total true found t u rest h =
    let left = quoted_shrinks 39 true found t ((found ++ g.solid (g.piece 39 t)) ++ g.fold u, g.past_fold u) (turn_break 39 found t u h) in
    let s = rest ((found ++ g.solid (g.piece 39 t)) ++ g.fold u) (g.past_fold u) left in
    (s.0, g.IsSingle.line_break h s.1)
single_break_total false found t u rest h = (syntax (10 ∷ u), g.IsSingle.over_lines h)

single_quote_total : (over : Bool) (found t u : Text) → Singles over (length t) → g.past_piece 39 t ≡ 39 ∷ u → Gives (g.IsSingle over found t)
single_quote_total over found t u rest h =
    elim (eqb_tells (slice_index u 0) 39) [
      | inl w ↦
          let left = quoted_shrinks 39 over found t ((found ++ g.piece 39 t) ++ 39 ∷ [], drop 1 u) (turn_two over found t u h w.1) in
          let s = rest ((found ++ g.piece 39 t) ++ 39 ∷ []) (drop 1 u) left in
          (s.0, g.two_quotes h w.1 s.1)
      | inr w ↦ (Ok (found ++ g.piece 39 t, u), g.IsSingle.closing h w.1)
    ]

single_by : (over : Bool) (found t : Text) → Singles over (length t) → (w : Text) → g.past_piece 39 t ≡ w → Gives (g.IsSingle over found t)
single_by over found t rest [] h = (syntax [], g.IsSingle.unclosed h)
single_by over found t rest (b ∷ u) h =
    elim (eqb_tells b 10) [
      | inl w ↦ single_break_total over found t u rest (h ∙ ap (λ c. c ∷ u) w.1)
      | inr w ↦ elim (cases_Bool (is_bad b)) [
        | inl k ↦ (syntax (b ∷ u), g.IsSingle.bad_character h k)
        | inr k ↦ single_quote_total over found t u rest (h ∙ ap (λ c. c ∷ u) (single_sign b (piece_ends 39 t b u h) w.1 k))
      ]
    ]

singles : (over : Bool) (n : ℕ) → Singles over n
singles over zero found t h = absurd (omega arith)
singles over (suc n) found t h = single_by over found t (λ f u l. singles over n f u (omega arith)) (g.past_piece 39 t) refl

double_break_total : (over : Bool) (found t u : Text) → Doubles over (length t) → g.past_piece 34 t ≡ 10 ∷ u → Gives (g.IsDouble over found t)
double_break_total true found t u rest h =
    let left = quoted_shrinks 34 true found t ((found ++ g.solid (g.piece 34 t)) ++ g.fold u, g.past_fold u) (turn_break 34 found t u h) in
    let s = rest ((found ++ g.solid (g.piece 34 t)) ++ g.fold u) (g.past_fold u) left in
    (s.0, g.IsDouble.line_break h s.1)
double_break_total false found t u rest h = (syntax (10 ∷ u), g.IsDouble.over_lines h)

joined_total : (over : Bool) (found t u : Text) → Doubles over (length t) → g.past_piece 34 t ≡ 92 ∷ u → slice_index u 0 ≡ 10 → Gives (g.IsDouble over found t)
joined_total true found t u rest h k =
    let left = quoted_shrinks 34 true found t ((found ++ g.piece 34 t) ++ replicate (blank_lines (drop 1 u)).0 10, g.past_fold (drop 1 u)) (turn_joined found t u h k) in
    let s = rest ((found ++ g.piece 34 t) ++ replicate (blank_lines (drop 1 u)).0 10) (g.past_fold (drop 1 u)) left in
    (s.0, g.escaped_break h k s.1)
joined_total false found t u rest h k = (syntax (92 ∷ u), g.escape_over_lines h k)

escape_total : (over : Bool) (found t u : Text) → Doubles over (length t) → g.past_piece 34 t ≡ 92 ∷ u → (slice_index u 0 ≡ 10 → ⊥) → (o : Option (ℕ × Text)) → escape u ≡ o
    → Gives (g.IsDouble over found t)
escape_total over found t u rest h k None e = (syntax (92 ∷ u), g.bad_escape h k e)
escape_total over found t u rest h k (Some c) e =
    let left = quoted_shrinks 34 over found t ((found ++ g.piece 34 t) ++ encode_utf8 c.0, c.1) (turn_escape over found t u (Some c) h k e) in
    let s = rest ((found ++ g.piece 34 t) ++ encode_utf8 c.0) c.1 left in
    (s.0, g.IsDouble.escaped h k e s.1)

backslash_total : (over : Bool) (found t u : Text) → Doubles over (length t) → g.past_piece 34 t ≡ 92 ∷ u → Gives (g.IsDouble over found t)
backslash_total over found t u rest h =
    elim (eqb_tells (slice_index u 0) 10) [ inl w ↦ joined_total over found t u rest h w.1 | inr w ↦ escape_total over found t u rest h w.1 (escape u) refl ]

double_by : (over : Bool) (found t : Text) → Doubles over (length t) → (w : Text) → g.past_piece 34 t ≡ w → Gives (g.IsDouble over found t)
double_by over found t rest [] h = (syntax [], g.IsDouble.unclosed h)
double_by over found t rest (b ∷ u) h =
    elim (eqb_tells b 10) [
      | inl w ↦ double_break_total over found t u rest (h ∙ ap (λ c. c ∷ u) w.1)
      | inr w ↦ elim (cases_Bool (is_bad b)) [
        | inl k ↦ (syntax (b ∷ u), g.IsDouble.bad_character h k)
        | inr k ↦ elim (double_sign b (piece_ends 34 t b u h) w.1 k) [
          | inl x ↦ (Ok (found ++ g.piece 34 t, u), g.IsDouble.closing (h ∙ ap (λ c. c ∷ u) x))
          | inr x ↦ backslash_total over found t u rest (h ∙ ap (λ c. c ∷ u) x)
        ]
      ]
    ]

doubles : (over : Bool) (n : ℕ) → Doubles over n
doubles over zero found t h = absurd (omega arith)
doubles over (suc n) found t h = double_by over found t (λ f u l. doubles over n f u (omega arith)) (g.past_piece 34 t) refl

pub quoted_total : (over : Bool) (t : Text) → (slice_index t 0 ≡ 39) ⊎ (slice_index t 0 ≡ 34) → Gives (g.IsQuoted over t)
quoted_total over t (inl h) = let s = singles over (suc (length (drop 1 t))) [] (drop 1 t) (omega arith) in (s.0, g.single h s.1)
quoted_total over t (inr h) = let s = doubles over (suc (length (drop 1 t))) [] (drop 1 t) (omega arith) in (s.0, g.double h s.1)
