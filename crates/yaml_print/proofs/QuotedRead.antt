-- Characters between quotes, as they are read.
use Rattle.std.proofs.Common.{◌≡◌, ℕ, suc, ◌+◌, eqb, Bool, true, false, cond, List, [], ◌∷◌, ◌++◌, take, drop, Some, Ok, refl, ap, sym, subst, ◌∙◌, arith, append_assoc}
use Rattle.std.specs.Prelude.{slice_index}
use Rattle.std.specs.Char.{encode_utf8}
use Rattle.std.specs.Char.{IsScalar}
use Rattle.std.specs.Str.{IsUtf8, chars, encode_utf8_all, all_scalars}
use Rattle.std.proofs.lemmas.Str.{IsUtf8-encode, encodes-chars}
use Rattle.std.proofs.Math.Utf8.{scalar}
use Rattle.std.specs.List.{list_all}
use Rattle.yaml_text.specs.Outcome.{Text, Outcome, Step, ◌>>=◌, syntax}
use Rattle.yaml_scalars.specs.Turns.{Turn, all_turns}
use Rattle.yaml_scalars.specs.Quoted.{escape, is_literal, at_meaning, at_backslash, with_escape, join_lines, literal_len, quoted_turn, quoted}
use Rattle.yaml_scalars.proofs.TurnLemmas.{turns_step}
use Rattle.yaml_scalars.proofs.QuotedLemmas.{quoted_shrinks}
use Rattle.yaml_print.specs.ScalarText.{between, text_of_each}
use Rattle.yaml_print.specs.Sound.{Each}
use Rattle.yaml_print.proofs.BoolLemmas.{both_left, both_right}
use Rattle.yaml_print.proofs.QuoteLemmas.{append_nil}
use Rattle.yaml_print.proofs.Shown.{Fine, is_graph, fine_append, graphs_fine, literal_shown}

-- ---- a turn of which the bytes p were passed already

abbrev pending : ℕ → Bool → Text → Text → Text → Outcome (Turn Text)
pending quote over found p t = at_meaning quote over found (p ++ take (literal_len quote t) t) (drop (literal_len quote t) t)

-- that turn, and all that follow it
abbrev pub left : ℕ → Bool → Text → Text → Text → Step Text
left quote over found p t = pending quote over found p t >>= λ r. cond r.0 (Ok r.1) (all_turns (quoted_turn quote over) r.1.0 r.1.1)

pub turn_left : (quote : ℕ) (over : Bool) (found t : Text) → left quote over found [] t ≡ all_turns (quoted_turn quote over) found t
unfolding quoted_turn
turn_left quote over found t = turns_step (quoted_turn quote over) (quoted_shrinks quote over) found t

literal_len_more : (quote c : ℕ) (t : Text) → is_literal quote c ≡ true → literal_len quote (c ∷ t) ≡ suc (literal_len quote t)
unfolding literal_len
literal_len_more quote c t h = let e : 1 + literal_len quote t ≡ suc (literal_len quote t) = omega arith in ap (λ v. cond v (1 + literal_len quote t) 0) h ∙ e

literal_len_none : (quote c : ℕ) (t : Text) → is_literal quote c ≡ false → literal_len quote (c ∷ t) ≡ 0
unfolding literal_len
literal_len_none quote c t h = ap (λ v. cond v (1 + literal_len quote t) 0) h

left_byte : (quote : ℕ) (over : Bool) (found p t : Text) (c : ℕ) → is_literal quote c ≡ true → left quote over found p (c ∷ t) ≡ left quote over found (p ++ c ∷ []) t
left_byte quote over found p t c h =
    let go : Outcome (Turn Text) → Step Text = λ o. o >>= λ r. cond r.0 (Ok r.1) (all_turns (quoted_turn quote over) r.1.0 r.1.1) in
    ap (λ n. go (at_meaning quote over found (p ++ take n (c ∷ t)) (drop n (c ∷ t)))) (literal_len_more quote c t h)
    ∙ ap (λ q. go (at_meaning quote over found q (drop (literal_len quote t) t))) (sym (append_assoc p (c ∷ []) (take (literal_len quote t) t)))

left_bytes : (quote : ℕ) (over : Bool) (found p bs t : Text) → list_all (is_literal quote) bs ≡ true → left quote over found p (bs ++ t) ≡ left quote over found (p ++ bs) t
left_bytes quote over found p [] t h = ap (λ q. left quote over found q t) (sym (append_nil p))
left_bytes quote over found p (b ∷ bs) t h =
    left_byte quote over found p (bs ++ t) b (both_left (is_literal quote b) (list_all (is_literal quote) bs) h)
    ∙ left_bytes quote over found (p ++ b ∷ []) bs t (both_right (is_literal quote b) (list_all (is_literal quote) bs) h)
    ∙ ap (λ q. left quote over found q t) (append_assoc p (b ∷ []) bs)

-- at a byte with a meaning
pub left_at_meaning : (quote : ℕ) (over : Bool) (found p t : Text) (c : ℕ) → is_literal quote c ≡ false
    → left quote over found p (c ∷ t) ≡ (at_meaning quote over found p (c ∷ t) >>= λ r. cond r.0 (Ok r.1) (all_turns (quoted_turn quote over) r.1.0 r.1.1))
left_at_meaning quote over found p t c h =
    let go : Outcome (Turn Text) → Step Text = λ o. o >>= λ r. cond r.0 (Ok r.1) (all_turns (quoted_turn quote over) r.1.0 r.1.1) in
    ap (λ n. go (at_meaning quote over found (p ++ take n (c ∷ t)) (drop n (c ∷ t)))) (literal_len_none quote c t h)
    ∙ ap (λ q. go (at_meaning quote over found q (c ∷ t))) (append_nil p)

-- ---- a character: what is found behind it, and what was passed of the next turn

pub record Read (quote : ℕ) (over : Bool) (found p : Text) (c : ℕ) (t : Text) : Type 0 where
  pub found_more : Text
  pub passed : Text
  pub reads : left quote over found p (between quote c ++ t) ≡ left quote over found_more passed t
  pub grows : found_more ++ passed ≡ (found ++ p) ++ encode_utf8 c
  pub fine : IsScalar c → Fine (between quote c)

pub as_bytes : (quote : ℕ) (over : Bool) (found p : Text) (c : ℕ) (t : Text) → between quote c ≡ encode_utf8 c → list_all (is_literal quote) (encode_utf8 c) ≡ true → Read quote over found p c t
as_bytes quote over found p c t is h = record {
  found_more = found;
  passed = p ++ encode_utf8 c;
  reads = ap (λ w. left quote over found p (w ++ t)) is ∙ left_bytes quote over found p (encode_utf8 c) t h;
  grows = sym (append_assoc found p (encode_utf8 c));
  fine = λ real. subst (λ w. Fine w) (sym is) (record { shown = literal_shown quote (encode_utf8 c) h; spelt = IsUtf8-encode c real });
}

-- ---- escapes

escape_turn : (over : Bool) (found p e t : Text) (c : ℕ) → escape (e ++ t) ≡ Some (c, t) → eqb (slice_index (e ++ t) 0) 10 ≡ false
    → left 34 over found p (92 ∷ (e ++ t)) ≡ left 34 over ((found ++ p) ++ encode_utf8 c) [] t
unfolding at_backslash
escape_turn over found p e t c is h =
    let go : Outcome (Turn Text) → Step Text = λ o. o >>= λ r. cond r.0 (Ok r.1) (all_turns (quoted_turn 34 over) r.1.0 r.1.1) in
    let at = 92 ∷ (e ++ t) in
    left_at_meaning 34 over found p (e ++ t) 92 refl
    ∙ ap (λ v. go (cond v (cond over (Ok (join_lines (found ++ p) (drop 1 (e ++ t)))) (syntax at)) (with_escape (found ++ p) at (escape (e ++ t))))) h
    ∙ ap (λ o. go (with_escape (found ++ p) at o)) is
    ∙ sym (turn_left 34 over ((found ++ p) ++ encode_utf8 c) t)

pub by_escape : (over : Bool) (found p e : Text) (c : ℕ) (t : Text) → between 34 c ≡ 92 ∷ e → escape (e ++ t) ≡ Some (c, t) → eqb (slice_index (e ++ t) 0) 10 ≡ false → list_all is_graph e ≡ true → Read 34 over found p c t
by_escape over found p e c t form is h graphs = record {
  found_more = (found ++ p) ++ encode_utf8 c;
  passed = [];
  reads = ap (λ w. left 34 over found p (w ++ t)) form ∙ escape_turn over found p e t c is h;
  grows = append_nil ((found ++ p) ++ encode_utf8 c);
  fine = λ real. subst (λ w. Fine w) (sym form) (graphs_fine (92 ∷ e) graphs);
}

-- ---- a text between quotes

pub each_read : (quote : ℕ) (over : Bool) (Good : ℕ → Type 0) (found p : Text) (cs : List ℕ) (u : Text)
    → ((f q : Text) (c : ℕ) (t : Text) → Good c → Read quote over f q c t) → ((f q : Text) → left quote over f q (quote ∷ u) ≡ Ok (f ++ q, u)) → Each Good cs
    → left quote over found p (text_of_each (between quote) cs ++ quote ∷ u) ≡ Ok ((found ++ p) ++ encode_utf8_all cs, u)
each_read quote over Good found p [] u step last good = last found p ∙ ap (λ w. Ok (w, u)) (sym (append_nil (found ++ p)))
each_read quote over Good found p (c ∷ cs) u step last good =
    let rest = text_of_each (between quote) cs ++ quote ∷ u in
    let r : Read quote over found p c rest = step found p c rest good.0 in
    ap (left quote over found p) (append_assoc (between quote c) (text_of_each (between quote) cs) (quote ∷ u))
    ∙ r.reads
    ∙ each_read quote over Good r.found_more r.passed cs u step last good.1
    ∙ ap (λ w. Ok (w ++ encode_utf8_all cs, u)) r.grows
    ∙ ap (λ w. Ok (w, u)) (append_assoc (found ++ p) (encode_utf8 c) (encode_utf8_all cs))

pub each_fine : (quote : ℕ) (over : Bool) (Good : ℕ → Type 0) (cs : List ℕ)
    → ((f q : Text) (c : ℕ) (t : Text) → Good c → Read quote over f q c t) → Each Good cs → all_scalars cs ≡ true → Fine (text_of_each (between quote) cs)
each_fine quote over Good [] step good real = graphs_fine [] refl
each_fine quote over Good (c ∷ cs) step good real =
    fine_append (between quote c) (text_of_each (between quote) cs)
    ((step [] [] c [] good.0).fine (both_left (scalar c) (all_scalars cs) real))
    (each_fine quote over Good cs step good.1 (both_right (scalar c) (all_scalars cs) real))

pub text_read : (quote : ℕ) (over : Bool) (Good : ℕ → Type 0) (t u : Text) → IsUtf8 t
    → ((f q : Text) (c : ℕ) (w : Text) → Good c → Read quote over f q c w) → ((f q : Text) → left quote over f q (quote ∷ u) ≡ Ok (f ++ q, u)) → Each Good (chars t)
    → quoted quote over (text_of_each (between quote) (chars t) ++ quote ∷ u) ≡ Ok (t, u)
unfolding quoted
text_read quote over Good t u spelt step last good =
    sym (turn_left quote over [] (text_of_each (between quote) (chars t) ++ quote ∷ u))
    ∙ each_read quote over Good [] [] (chars t) u step last good
    ∙ ap (λ w. Ok (w, u)) (encodes-chars t spelt)
