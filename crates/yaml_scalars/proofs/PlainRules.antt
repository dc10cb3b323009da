-- The rules of plain scalars give what the functions by cases give, and for each text an outcome.
use Rattle.std.proofs.Common.{◌≡◌, ◌≢◌, ◌<◌, ◌≤◌, ℕ, zero, suc, cond, eqb, lt-ltb, le-ltb, Bool, true, false, [], ◌∷◌, ◌++◌, length, take, drop, Option, Some, None, Ok, Err, refl, ap, ◌∙◌, inl, inr, ne_eqb, eq-eqb, arith}
use Rattle.std.proofs.lemmas.Bool.{cases_Bool, cases_lt}
use Rattle.std.specs.Prelude.{slice_index}
use Rattle.std.proofs.lemmas.Bool.Decides.{eqb_tells}
use Rattle.yaml_text.specs.declared.refusal.Refusal.{Refusal}
use Rattle.yaml_text.specs.declared.refusal.Refusal.TheVariants.{Syntax}
use Rattle.yaml_text.specs.Outcome.{Text, Outcome, Step, ◌>>=◌, syntax}
use Rattle.yaml_text.specs.Line.{is_bad, spaces, past_spaces, past_white, is_marker, check_line, blank_lines}
use Rattle.yaml_text.proofs.OutcomeLemmas.{Gives, given}
use Rattle.yaml_text.proofs.RuleLemmas.{bad_no_feed, either_true}
use Rattle.yaml_scalars.specs.Turns.{all_turns}
use Rattle.yaml_scalars.specs.Plain.{is_colon, is_end_or_comment, plain_len, part_of_block, part_in_flow, part_in_block, goes_on, with_part, behind_part, plain_turn, plain}
use Rattle.yaml_scalars.specs.Rules as g
use Rattle.yaml_scalars.proofs.TurnLemmas.{turns_err, turns_last, turns_more}
use Rattle.yaml_scalars.proofs.PlainLemmas.{plain_shrinks}

-- ---- the part on a further line

in_flow : (least : ℕ) (start : Text) → is_end_or_comment (past_white start) ≡ false → goes_on true least start ≡ part_in_flow start (past_white start)
unfolding goes_on
in_flow least start h = cc

in_block : (least : ℕ) (start : Text) → is_end_or_comment (past_white start) ≡ false → goes_on false least start ≡ part_in_block least start
unfolding goes_on
in_block least start h = cc

at_over : (flow : Bool) (least : ℕ) (start : Text) → is_end_or_comment (past_white start) ≡ true → goes_on flow least start ≡ Ok None
unfolding goes_on
at_over flow least start h = cc

indented : (least : ℕ) (start : Text) → least ≤ spaces start → part_in_block least start ≡ (check_line start >>= λ s. part_of_block (past_spaces s))
indented least start h = let d = le-ltb (spaces start) least h in cc

line_passes : (start : Text) → slice_index (past_spaces start) 0 ≢ 9 → is_marker start ≡ false → check_line start ≡ Ok start
line_passes start n m = let d = ne_eqb (slice_index (past_spaces start) 0) 9 n in cc

at_part : (least : ℕ) (start : Text) → is_end_or_comment (past_white start) ≡ false → least ≤ spaces start → slice_index (past_spaces start) 0 ≢ 9 → is_marker start ≡ false
    → goes_on false least start ≡ part_of_block (past_spaces start)
at_part least start h l n m =
    in_block least start h ∙ indented least start l ∙ ap (λ o. o >>= λ s. part_of_block (past_spaces s)) (line_passes start n m)

pub part_sound : (flow : Bool) (least : ℕ) (start : Text) (o : Outcome (Option Text)) → g.IsPart flow least start o → goes_on flow least start ≡ o
part_sound flow least start o (g.over h) = at_over flow least start h
part_sound flow least start o (g.marker_in_flow h m) = let s = in_flow least start h in cc
part_sound flow least start o (g.no_part h m n) = let s = in_flow least start h in let d = eq-eqb (plain_len true false (past_white start)) 0 n in cc
part_sound flow least start o (g.part_in_flow h m n) = let s = in_flow least start h in let d = ne_eqb (plain_len true false (past_white start)) 0 n in cc
part_sound flow least start o (g.IsPart.less_indented h l) = let s = in_block least start h in let d = lt-ltb (spaces start) least l in cc
part_sound flow least start o (g.a_tab h l n) =
    let s = in_block least start h in let i = indented least start l in let d = eq-eqb (slice_index (past_spaces start) 0) 9 n in cc
part_sound flow least start o (g.marker h l m) =
    let s = in_block least start h in let i = indented least start l in let d = either_true (eqb (slice_index (past_spaces start) 0) 9) (is_marker start) m in cc
part_sound flow least start o (g.key h l n m k) =
    at_part least start h l n m ∙ ap (λ v. cond v (syntax (past_spaces start)) (Ok (Some (past_spaces start)))) k
part_sound flow least start o (g.part_in_block h l n m k) =
    at_part least start h l n m ∙ ap (λ v. cond v (syntax (past_spaces start)) (Ok (Some (past_spaces start)))) k

flow_part_total : (least : ℕ) (start : Text) → is_end_or_comment (past_white start) ≡ false → Gives (g.IsPart true least start)
flow_part_total least start h =
    elim (cases_Bool (is_marker start)) [
      | inl m ↦ (syntax start, g.marker_in_flow h m)
      | inr m ↦ elim (eqb_tells (plain_len true false (past_white start)) 0)
          [ inl n ↦ (Ok None, g.no_part h m n.1) | inr n ↦ (Ok (Some (past_white start)), g.part_in_flow h m n.1) ]
    ]

indented_total : (least : ℕ) (start : Text) → is_end_or_comment (past_white start) ≡ false → least ≤ spaces start → Gives (g.IsPart false least start)
indented_total least start h l =
    elim (eqb_tells (slice_index (past_spaces start) 0) 9) [
      | inl n ↦ (syntax (past_spaces start), g.a_tab h l n.1)
      | inr n ↦ elim (cases_Bool (is_marker start)) [
        | inl m ↦ (syntax (past_spaces start), g.marker h l m)
        | inr m ↦ elim (cases_Bool (is_colon false (past_white (drop (plain_len false false (past_spaces start)) (past_spaces start)))))
            [ inl k ↦ (syntax (past_spaces start), g.key h l n.1 m k) | inr k ↦ (Ok (Some (past_spaces start)), g.part_in_block h l n.1 m k) ]
      ]
    ]

part_by : (flow : Bool) (least : ℕ) (start : Text) → is_end_or_comment (past_white start) ≡ false → Gives (g.IsPart flow least start)
part_by true least start h = flow_part_total least start h
part_by false least start h =
    elim (cases_lt (spaces start) least) [ inl l ↦ (Ok None, g.IsPart.less_indented h l) | inr l ↦ indented_total least start h l ]

part_total : (flow : Bool) (least : ℕ) (start : Text) → Gives (g.IsPart flow least start)
part_total flow least start = elim (cases_Bool (is_end_or_comment (past_white start))) [ inl h ↦ (Ok None, g.over h) | inr h ↦ part_by flow least start h ]

-- ---- one turn

turn_at : (flow : Bool) (least : ℕ) (found t w : Text) → past_white t ≡ w → plain_turn flow least found t ≡ behind_part flow least found t w
unfolding plain_turn
turn_at flow least found t w h = ap (behind_part flow least found t) h

turn_bad : (flow : Bool) (least : ℕ) (found t u : Text) (b : ℕ) → past_white t ≡ b ∷ u → is_bad b ≡ true → plain_turn flow least found t ≡ syntax (b ∷ u)
turn_bad flow least found t u b h k = let s = turn_at flow least found t (b ∷ u) h in let d = bad_no_feed b k in cc

turn_stopped : (flow : Bool) (least : ℕ) (found t u : Text) (b : ℕ) → past_white t ≡ b ∷ u → (b ≡ 10 → ⊥) → is_bad b ≡ false
    → plain_turn flow least found t ≡ Ok (true, (found, t))
turn_stopped flow least found t u b h n k = let s = turn_at flow least found t (b ∷ u) h in let d = ne_eqb b 10 n in cc

turn_line : (flow : Bool) (least : ℕ) (found t u : Text) → past_white t ≡ 10 ∷ u
    → plain_turn flow least found t ≡ (goes_on flow least (blank_lines u).1 >>= λ part. Ok (with_part flow found t (blank_lines u).0 part))
turn_line flow least found t u h = turn_at flow least found t (10 ∷ u) h

turn_part : (flow : Bool) (least : ℕ) (found t u : Text) (o : Outcome (Option Text)) → past_white t ≡ 10 ∷ u → goes_on flow least (blank_lines u).1 ≡ o
    → plain_turn flow least found t ≡ (o >>= λ part. Ok (with_part flow found t (blank_lines u).0 part))
turn_part flow least found t u o h k = turn_line flow least found t u h ∙ ap (λ x. x >>= λ part. Ok (with_part flow found t (blank_lines u).0 part)) k

-- ---- all turns

abbrev turns : Bool → ℕ → Text → Text → Step Text
turns flow least found t = all_turns (plain_turn flow least) found t

err : (flow : Bool) (least : ℕ) (found t : Text) (e : Refusal) → plain_turn flow least found t ≡ Err e → turns flow least found t ≡ Err e
err flow least found t e is = turns_err (plain_turn flow least) (plain_shrinks flow least) found t e is

last : (flow : Bool) (least : ℕ) (found t : Text) (r : Text × Text) → plain_turn flow least found t ≡ Ok (true, r) → turns flow least found t ≡ Ok r
last flow least found t r is = turns_last (plain_turn flow least) (plain_shrinks flow least) found t r is

more : (flow : Bool) (least : ℕ) (found t : Text) (r : Text × Text) → plain_turn flow least found t ≡ Ok (false, r) → turns flow least found t ≡ turns flow least r.0 r.1
more flow least found t r is = turns_more (plain_turn flow least) (plain_shrinks flow least) found t r is

plain_on_sound : (flow : Bool) (least : ℕ) (found t : Text) (o : Step Text) → g.IsPlainOn flow least found t o → turns flow least found t ≡ o
plain_on_sound flow least found t o (g.IsPlainOn.text_ends h) = last flow least found t (found, t) (turn_at flow least found t [] h)
plain_on_sound flow least found t o (g.IsPlainOn.bad_character {u = u} {b = b} h k) = err flow least found t (Syntax (length (b ∷ u))) (turn_bad flow least found t u b h k)
plain_on_sound flow least found t o (g.other_sign {u = u} {b = b} h n k) = last flow least found t (found, t) (turn_stopped flow least found t u b h n k)
plain_on_sound flow least found t o (g.IsPlainOn.bad_line {u = u} {e = e} h k) =
    err flow least found t e (turn_part flow least found t u (Err e) h (part_sound flow least (blank_lines u).1 (Err e) k))
plain_on_sound flow least found t o (g.no_more {u = u} h k) =
    last flow least found t (found, t) (turn_part flow least found t u (Ok None) h (part_sound flow least (blank_lines u).1 (Ok None) k))
plain_on_sound flow least found t o (g.IsPlainOn.goes_on {u = u} {v = v} h k s) =
    more flow least found t (found ++ g.fold u ++ take (plain_len flow false v) v, drop (plain_len flow false v) v)
    (turn_part flow least found t u (Ok (Some v)) h (part_sound flow least (blank_lines u).1 (Ok (Some v)) k))
    ∙ plain_on_sound flow least (found ++ g.fold u ++ take (plain_len flow false v) v) (drop (plain_len flow false v) v) o s

pub plain_sound : (flow : Bool) (least : ℕ) (t : Text) (o : Step Text) → g.IsPlain flow least t o → plain flow least t ≡ o
unfolding plain
plain_sound flow least t o s = plain_on_sound flow least (take (plain_len flow false t) t) (drop (plain_len flow false t) t) o s

-- ---- for each text an outcome

-- texts of less than n bytes
abbrev Plains : Bool → ℕ → ℕ → Type 0
Plains flow least n = (found t : Text) → length t < n → Gives (g.IsPlainOn flow least found t)

line_by_indentation : (flow : Bool) (least : ℕ) (found t u : Text) → Plains flow least (length t) → past_white t ≡ 10 ∷ u → (o : Option Text)
    → g.IsPart flow least (blank_lines u).1 (Ok o) → Gives (g.IsPlainOn flow least found t)
line_by_indentation flow least found t u rest h None k = (Ok (found, t), g.no_more h k)
line_by_indentation flow least found t u rest h (Some v) k =
    let left = plain_shrinks flow least found t (found ++ g.fold u ++ take (plain_len flow false v) v, drop (plain_len flow false v) v)
    (turn_part flow least found t u (Ok (Some v)) h (part_sound flow least (blank_lines u).1 (Ok (Some v)) k)) in
    let s = rest (found ++ g.fold u ++ take (plain_len flow false v) v) (drop (plain_len flow false v) v) left in
    (s.0, g.IsPlainOn.goes_on h k s.1)

line_total : (flow : Bool) (least : ℕ) (found t u : Text) → Plains flow least (length t) → past_white t ≡ 10 ∷ u → Gives (g.IsPlainOn flow least found t)
line_total flow least found t u rest h =
    elim (given (g.IsPart flow least (blank_lines u).1) (part_total flow least (blank_lines u).1))
    [ inl k ↦ line_by_indentation flow least found t u rest h k.0 k.1 | inr e ↦ (Err e.0, g.IsPlainOn.bad_line h e.1) ]

plain_by : (flow : Bool) (least : ℕ) (found t : Text) → Plains flow least (length t) → (w : Text) → past_white t ≡ w → Gives (g.IsPlainOn flow least found t)
plain_by flow least found t rest [] h = (Ok (found, t), g.IsPlainOn.text_ends h)
plain_by flow least found t rest (b ∷ u) h =
    elim (eqb_tells b 10) [
      | inl w ↦ line_total flow least found t u rest (h ∙ ap (λ c. c ∷ u) w.1)
      | inr w ↦ elim (cases_Bool (is_bad b)) [ inl k ↦ (syntax (b ∷ u), g.IsPlainOn.bad_character h k) | inr k ↦ (Ok (found, t), g.other_sign h w.1 k) ]
    ]

plains : (flow : Bool) (least n : ℕ) → Plains flow least n
plains flow least zero found t h = absurd (omega arith)
plains flow least (suc n) found t h = plain_by flow least found t (λ f u l. plains flow least n f u (omega arith)) (past_white t) refl

pub plain_total : (flow : Bool) (least : ℕ) (t : Text) → Gives (g.IsPlain flow least t)
plain_total flow least t =
    plains flow least (suc (length (drop (plain_len flow false t) t))) (take (plain_len flow false t) t) (drop (plain_len flow false t) t) (omega arith)
