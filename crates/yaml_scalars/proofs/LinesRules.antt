-- The rules of block scalars give what the functions by cases give, and for each text an outcome.
use Rattle.std.proofs.Common.{◌≡◌, ◌<◌, ℕ, zero, suc, eqb, ltb, lt-ltb, le-ltb, Bool, true, false, cond, [], ◌∷◌, ◌++◌, length, take, drop, Option, Some, None, Ok, Err, refl, ap, sym, subst, ◌∙◌, inl, inr, ne_eqb, arith}
use Rattle.std.proofs.lemmas.Bool.{cases_Bool, cases_lt}
use Rattle.std.proofs.lemmas.Bool.Decides.{eqb_tells}
use Rattle.yaml_text.specs.declared.refusal.Refusal.{Refusal}
use Rattle.yaml_text.specs.Outcome.{Text, Outcome, Step, ◌>>=◌, syntax}
use Rattle.yaml_text.specs.Line.{spaces, past_spaces, rest_of_line}
use Rattle.yaml_text.specs.Rules.{IsRest}
use Rattle.yaml_text.proofs.OutcomeLemmas.{Gives, given}
use Rattle.yaml_text.proofs.RuleLemmas.{rest_sound, rest_total}
use Rattle.yaml_scalars.specs.declared.lines.Ending.{Ending}
use Rattle.yaml_scalars.specs.declared.lines.Last.{Last}
use Rattle.yaml_scalars.specs.declared.lines.Last.TheVariants.{Nothing, Flush, Spaced}
use Rattle.yaml_scalars.specs.Turns.{Turn, all_turns}
use Rattle.yaml_scalars.specs.Lines.{Found, margin, empty_lines, between, ending, last_of, line_len, past_break, with_line, last_turn, spaced_line, line_by_indentation, line_at, line_turn, lines_below, style_of, past_style, lines}
use Rattle.yaml_scalars.specs.Rules as g
use Rattle.yaml_scalars.proofs.TurnLemmas.{turns_err, turns_last, turns_more}
use Rattle.yaml_scalars.proofs.LinesLemmas.{line_shrinks}

-- ---- one line

-- what a line without its indentation, or none, makes of the turn
abbrev with_next : Bool → Ending → Found → ℕ → Text → Option Text → Outcome (Turn Found)
with_next folding style found k start None = last_turn style found k start
with_next folding style found k start (Some line) = with_line folding found k line

empty_by : (folding : Bool) (style : Ending) (least most : ℕ) (found : Found) (k : ℕ) (start inner : Text) → g.has_character inner ≡ false
    → line_by_indentation folding style least most found k start inner ≡ spaced_line folding most found k start
empty_by folding style least most found k start [] h = refl
empty_by folding style least most found k start (b ∷ t) h = elim (eqb_tells b 10) [ inl w ↦ (let e = w.0 in cc) | inr w ↦ absurd (let e = w.0 in cc) ]

filled_by : (folding : Bool) (style : Ending) (least most : ℕ) (found : Found) (k : ℕ) (start inner : Text) → g.has_character inner ≡ true
    → line_by_indentation folding style least most found k start inner
    ≡ cond (ltb (spaces start) least) (last_turn style found k start) (cond (ltb (spaces start) most) (syntax inner) (with_line folding found k (drop most start)))
filled_by folding style least most found k start [] h = absurd (cc)
filled_by folding style least most found k start (b ∷ t) h = elim (eqb_tells b 10) [ inl w ↦ absurd (let e = w.0 in cc) | inr w ↦ (let e = w.0 in cc) ]

filled_some : (start : Text) → g.is_filled start ≡ true → 0 < length start
filled_some [] h = absurd (cc)
filled_some (b ∷ t) h = omega arith

at_some : (folding : Bool) (style : Ending) (least most : ℕ) (found : Found) (k : ℕ) (start : Text) → 0 < length start
    → line_at folding style least most found (k, start) ≡ line_by_indentation folding style least most found k start (past_spaces start)
at_some folding style least most found k start h = let d : eqb (length start) 0 ≡ false = ne_eqb (length start) 0 (λ e. absurd (omega arith)) in cc

spaced : (folding : Bool) (most : ℕ) (found : Text) (last : Last) (k : ℕ) (start : Text) → (last ≡ Nothing → ⊥)
    → spaced_line folding most (found, last) k start ≡ with_line folding (found, last) k (drop most start)
spaced folding most found Nothing k start h = absurd (h refl)
spaced folding most found Flush k start h = refl
spaced folding most found Spaced k start h = refl

line_sound : (folding : Bool) (style : Ending) (least most : ℕ) (found : Text) (last : Last) (k : ℕ) (start : Text) (o : Outcome (Option Text)) → g.IsLine least most last start o
    → line_at folding style least most (found, last) (k, start) ≡ (o >>= with_next folding style (found, last) k start)
line_sound folding style least most found last k start o g.IsLine.text_ends = refl
line_sound folding style least most found last k start o (g.deep_empty_line some h) =
    at_some folding style least most (found, Nothing) k start some ∙ empty_by folding style least most (found, Nothing) k start (past_spaces start) h
line_sound folding style least most found last k start o (g.spaces_alone some h n) =
    at_some folding style least most (found, last) k start some ∙ empty_by folding style least most (found, last) k start (past_spaces start) h
    ∙ spaced folding most found last k start n
line_sound folding style least most found last k start o (g.IsLine.less_indented h l) =
    let a = at_some folding style least most (found, last) k start (filled_some start h) in
    let b = filled_by folding style least most (found, last) k start (past_spaces start) h in
    let d = lt-ltb (spaces start) least l in cc
line_sound folding style least most found last k start o (g.above_margin h l m) =
    let a = at_some folding style least most (found, last) k start (filled_some start h) in
    let b = filled_by folding style least most (found, last) k start (past_spaces start) h in
    let d = le-ltb (spaces start) least l in let e = lt-ltb (spaces start) most m in cc
line_sound folding style least most found last k start o (g.filled_line h l m) =
    let a = at_some folding style least most (found, last) k start (filled_some start h) in
    let b = filled_by folding style least most (found, last) k start (past_spaces start) h in
    let d = le-ltb (spaces start) least l in let e = le-ltb (spaces start) most m in cc

empty_total : (least most : ℕ) (last : Last) (start : Text) → 0 < length start → g.is_filled start ≡ false → Gives (g.IsLine least most last start)
empty_total least most Nothing start some h = (syntax start, g.deep_empty_line some h)
empty_total least most Flush start some h = (Ok (Some (drop most start)), g.spaces_alone some h (λ e. absurd (cc)))
empty_total least most Spaced start some h = (Ok (Some (drop most start)), g.spaces_alone some h (λ e. absurd (cc)))

filled_total : (least most : ℕ) (last : Last) (start : Text) → g.is_filled start ≡ true → Gives (g.IsLine least most last start)
filled_total least most last start h =
    elim (cases_lt (spaces start) least) [
      | inl l ↦ (Ok None, g.IsLine.less_indented h l)
      | inr l ↦ elim (cases_lt (spaces start) most)
          [ inl m ↦ (syntax (past_spaces start), g.above_margin h l m) | inr m ↦ (Ok (Some (drop most start)), g.filled_line h l m) ]
    ]

line_total : (least most : ℕ) (last : Last) (start : Text) → Gives (g.IsLine least most last start)
line_total least most last [] = (Ok None, g.IsLine.text_ends)
line_total least most last (b ∷ t) =
    elim (cases_Bool (g.is_filled (b ∷ t))) [ inl h ↦ filled_total least most last (b ∷ t) h | inr h ↦ empty_total least most last (b ∷ t) (omega arith) h ]

-- ---- the end of a line

break_sound : (t : Text) (o : Outcome Text) → g.IsBreak t o → past_break t ≡ o
break_sound t o g.at_end = refl
break_sound t o g.at_feed = refl
break_sound t o (g.IsBreak.bad_character {b = b} n) = let d = ne_eqb b 10 n in cc

break_total : (t : Text) → Gives (g.IsBreak t)
break_total [] = (Ok [], g.at_end)
break_total (b ∷ t) =
    elim (eqb_tells b 10)
    [ inl w ↦ (Ok t, subst (λ c. g.IsBreak (c ∷ t) (Ok t)) (sym w.1) g.at_feed) | inr w ↦ (syntax (b ∷ t), g.IsBreak.bad_character w.1) ]

-- ---- one turn

turn_at : (folding : Bool) (style : Ending) (least most : ℕ) (found : Text) (last : Last) (t : Text) (o : Outcome (Option Text)) → g.IsLine least most last (empty_lines most t).1 o
    → line_turn folding style least most (found, last) t ≡ (o >>= with_next folding style (found, last) (empty_lines most t).0 (empty_lines most t).1)
unfolding line_turn
turn_at folding style least most found last t o s = line_sound folding style least most found last (empty_lines most t).0 (empty_lines most t).1 o s

with_break : (folding : Bool) (found : Text) (last : Last) (k : ℕ) (line : Text) (o : Outcome Text) → past_break (drop (line_len line) line) ≡ o
    → with_line folding (found, last) k line
    ≡ (o >>= λ rest. Ok (false, ((found ++ between folding last (last_of line) k ++ take (line_len line) line, last_of line), rest)))
unfolding with_line
with_break folding found last k line o h =
    ap (λ x. x >>= λ rest. Ok (false, ((found ++ between folding last (last_of line) k ++ take (line_len line) line, last_of line), rest))) h

turn_line : (folding : Bool) (style : Ending) (least most : ℕ) (found : Text) (last : Last) (t line : Text) (o : Outcome Text)
    → g.IsLine least most last (empty_lines most t).1 (Ok (Some line)) → past_break (drop (line_len line) line) ≡ o
    → line_turn folding style least most (found, last) t
    ≡ (o >>= λ rest. Ok (false, ((found ++ between folding last (last_of line) (empty_lines most t).0 ++ take (line_len line) line, last_of line), rest)))
turn_line folding style least most found last t line o s h =
    turn_at folding style least most found last t (Ok (Some line)) s ∙ with_break folding found last (empty_lines most t).0 line o h

-- ---- all turns

abbrev content : Bool → Ending → ℕ → ℕ → Found → Text → Step Text
content folding style least most found t = all_turns (line_turn folding style least most) found t >>= λ r. Ok (r.0.0, r.1)

err : (folding : Bool) (style : Ending) (least most : ℕ) (found : Found) (t : Text) (e : Refusal) → line_turn folding style least most found t ≡ Err e
    → content folding style least most found t ≡ Err e
err folding style least most found t e is =
    ap (λ o. o >>= λ r. Ok (r.0.0, r.1)) (turns_err (line_turn folding style least most) (line_shrinks folding style least most) found t e is)

all_ended : (folding : Bool) (style : Ending) (least most : ℕ) (found : Found) (t : Text) (r : Found × Text) → line_turn folding style least most found t ≡ Ok (true, r)
    → content folding style least most found t ≡ Ok (r.0.0, r.1)
all_ended folding style least most found t r is =
    ap (λ o. o >>= λ r. Ok (r.0.0, r.1)) (turns_last (line_turn folding style least most) (line_shrinks folding style least most) found t r is)

more : (folding : Bool) (style : Ending) (least most : ℕ) (found : Found) (t : Text) (r : Found × Text) → line_turn folding style least most found t ≡ Ok (false, r)
    → content folding style least most found t ≡ content folding style least most r.0 r.1
more folding style least most found t r is =
    ap (λ o. o >>= λ r. Ok (r.0.0, r.1)) (turns_more (line_turn folding style least most) (line_shrinks folding style least most) found t r is)

content_sound : (folding : Bool) (style : Ending) (least most : ℕ) (found : Text) (last : Last) (t : Text) (o : Step Text) → g.IsContent folding style least most found last t o
    → content folding style least most (found, last) t ≡ o
content_sound folding style least most found last t o (g.IsContent.bad_line {e = e} s) =
    err folding style least most (found, last) t e (turn_at folding style least most found last t (Err e) s)
content_sound folding style least most found last t o (g.IsContent.last_lines s) =
    all_ended folding style least most (found, last) t ((found ++ ending style last (empty_lines most t).0, last), (empty_lines most t).1)
    (turn_at folding style least most found last t (Ok None) s)
content_sound folding style least most found last t o (g.bad_character_in_line {line = line} {e = e} s b) =
    err folding style least most (found, last) t e (turn_line folding style least most found last t line (Err e) s (break_sound (drop (line_len line) line) (Err e) b))
content_sound folding style least most found last t o (g.one_line {line = line} {rest = rest} s b c) =
    more folding style least most (found, last) t ((found ++ between folding last (last_of line) (empty_lines most t).0 ++ take (line_len line) line, last_of line), rest)
    (turn_line folding style least most found last t line (Ok rest) s (break_sound (drop (line_len line) line) (Ok rest) b))
    ∙ content_sound folding style least most (found ++ between folding last (last_of line) (empty_lines most t).0 ++ take (line_len line) line) (last_of line) rest o c

lines_at : (folding : Bool) (least : ℕ) (t u : Text) → rest_of_line false (past_style t) ≡ Ok u → lines folding least t ≡ content folding (style_of t) least (margin least u) ([], Nothing) u
unfolding lines lines_below
lines_at folding least t u h = ap (λ o. o >>= lines_below folding (style_of t) least) h

lines_err : (folding : Bool) (least : ℕ) (t : Text) (e : Refusal) → rest_of_line false (past_style t) ≡ Err e → lines folding least t ≡ Err e
unfolding lines
lines_err folding least t e h = ap (λ o. o >>= lines_below folding (style_of t) least) h

pub lines_sound : (folding : Bool) (least : ℕ) (t : Text) (o : Step Text) → g.IsLines folding least t o → lines folding least t ≡ o
lines_sound folding least t o (g.bad_header {e = e} h) = lines_err folding least t e (rest_sound false (past_style t) (Err e) h)
lines_sound folding least t o (g.lines_below {u = u} h s) =
    lines_at folding least t u (rest_sound false (past_style t) (Ok u) h) ∙ content_sound folding (style_of t) least (margin least u) [] Nothing u o s

-- ---- for each text an outcome

-- texts of less than n bytes
abbrev Contents : Bool → Ending → ℕ → ℕ → ℕ → Type 0
Contents folding style least most n = (found : Text) (last : Last) (t : Text) → length t < n → Gives (g.IsContent folding style least most found last t)

line_by_indentation_total : (folding : Bool) (style : Ending) (least most : ℕ) (found : Text) (last : Last) (t : Text) → Contents folding style least most (length t) → (o : Option Text)
    → g.IsLine least most last (empty_lines most t).1 (Ok o) → Gives (g.IsContent folding style least most found last t)
line_by_indentation_total folding style least most found last t rest None s =
    (Ok (found ++ ending style last (empty_lines most t).0, (empty_lines most t).1), g.IsContent.last_lines s)
line_by_indentation_total folding style least most found last t rest (Some line) s =
    elim (given (g.IsBreak (drop (line_len line) line)) (break_total (drop (line_len line) line))) [
      | inl b ↦
          let text = found ++ between folding last (last_of line) (empty_lines most t).0 ++ take (line_len line) line in
          let left = line_shrinks folding style least most (found, last) t ((text, last_of line), b.0)
          (turn_line folding style least most found last t line (Ok b.0) s (break_sound (drop (line_len line) line) (Ok b.0) b.1)) in
          let c = rest text (last_of line) b.0 left in
          (c.0, g.one_line s b.1 c.1)
      | inr e ↦ (Err e.0, g.bad_character_in_line s e.1)
    ]

contents : (folding : Bool) (style : Ending) (least most n : ℕ) → Contents folding style least most n
contents folding style least most zero found last t h = absurd (omega arith)
contents folding style least most (suc n) found last t h =
    elim (given (g.IsLine least most last (empty_lines most t).1) (line_total least most last (empty_lines most t).1)) [
      | inl s ↦ line_by_indentation_total folding style least most found last t (λ f l u k. contents folding style least most n f l u (omega arith)) s.0 s.1
      | inr e ↦ (Err e.0, g.IsContent.bad_line e.1)
    ]

pub lines_total : (folding : Bool) (least : ℕ) (t : Text) → Gives (g.IsLines folding least t)
lines_total folding least t =
    elim (given (IsRest false (past_style t)) (rest_total false (past_style t))) [
      | inl u ↦
          let s = contents folding (style_of t) least (margin least u.0) (suc (length u.0)) [] Nothing u.0 (omega arith) in
          (s.0, g.lines_below u.1 s.1)
      | inr e ↦ (Err e.0, g.bad_header e.1)
    ]
