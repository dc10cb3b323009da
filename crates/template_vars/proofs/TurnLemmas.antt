-- Turns of a text.
--     turn_dollar, turn_escape, turn_key, turn_open    the turn of a text with a dollar sign behind what has none
--     part_is    the clause of `split_once` at `}`
use Rattle.std.proofs.Common.{cond, ◌≡◌, ◌≢◌, ℕ, ◌+◌, ◌<◌, Bool, true, false, List, [], ◌∷◌, ◌++◌, map, length, codes, Option, Some, None, refl, sym, ap, ◌∙◌, arith, append_assoc, length-append, length-drop, true≢false, MatchOption, Bor}
use Rattle.std.specs.Prelude.{option_map, is_some}
use Rattle.std.specs.List.{list_any, position_or_len, before_first, after_first}
use Rattle.std.proofs.lemmas.Bool.{cond-true, cond-false}
use Rattle.std.proofs.lemmas.List.{map-append}
use Rattle.std.proofs.lemmas.List.Folds.{list_any-append}
use Rattle.std.specs.Str.Pattern.{FindsTextPrefix, StripsPrefix}
use Rattle.template_vars.specs.Template.{Piece, Byte, Key, is_close, trimmed, pieces, key_alone, whole_key}
use Rattle.template_vars.specs.Turn.{IsTurn, IsOpen, is_dollar, closed_part}
use Rattle.template_vars.proofs.BoolLemmas.{or_false, any_from_place, none_from_place}
use Rattle.template_vars.proofs.PieceLemmas.{plain_then, at_escape, no_brace, at_dollar, at_key, at_open}

joined : (plain mark : List ℕ) (ps : List Piece) → map Byte plain ++ (map Byte mark ++ ps) ≡ map Byte (plain ++ mark) ++ ps
joined plain mark ps = sym (append_assoc (map Byte plain) (map Byte mark) ps) ∙ ap (λ (qs : List Piece). qs ++ ps) (sym (map-append Byte plain mark))

pub turn_dollar : (plain behind : List ℕ) (closes : Bool) → list_any is_dollar plain ≡ false → ((r : List ℕ) → behind ≢ 123 ∷ r) → IsOpen behind closes → IsTurn (plain ++ 36 ∷ behind) plain (codes "$") None behind closes
turn_dollar plain behind closes none other shut = record {
  read =
      plain_then plain (36 ∷ behind) none (λ f e. no_brace behind other)
      ∙ ap (λ (ps : List Piece). map Byte plain ++ ps) (at_dollar behind other)
      ∙ joined plain (codes "$") (pieces behind);
  shorter = omega (arith, length-append plain (36 ∷ behind));
  left = shut;
}

front_none : (plain front : List ℕ) → plain ≡ front ++ 92 ∷ [] → list_any is_dollar plain ≡ false → list_any is_dollar front ≡ false
front_none plain front e none =
    (or_false (list_any is_dollar front) (list_any is_dollar (92 ∷ [])) (sym (list_any-append is_dollar front (92 ∷ [])) ∙ ap (list_any is_dollar) (sym e) ∙ none)).0

pub turn_escape : (plain front inner : List ℕ) (closes : Bool) → list_any is_dollar plain ≡ false → plain ≡ front ++ 92 ∷ [] → IsOpen inner closes → IsTurn (plain ++ 36 ∷ 123 ∷ inner) front (codes "${") None inner closes
turn_escape plain front inner closes none e shut =
    let whole : plain ++ 36 ∷ 123 ∷ inner ≡ front ++ 92 ∷ 36 ∷ 123 ∷ inner = ap (λ (x : List ℕ). x ++ 36 ∷ 123 ∷ inner) e ∙ append_assoc front (92 ∷ []) (36 ∷ 123 ∷ inner) in
    record {
      read =
          ap pieces whole
          ∙ plain_then front (92 ∷ 36 ∷ 123 ∷ inner) (front_none plain front e none) (λ f same. refl)
          ∙ ap (λ (ps : List Piece). map Byte front ++ ps) (at_escape inner)
          ∙ joined front (codes "${") (pieces inner);
      shorter = omega (arith, ap length whole, length-append front (92 ∷ 36 ∷ 123 ∷ inner));
      left = shut;
    }

-- ---- without a backslash

unescaped : (plain inner : List ℕ) (ps : List Piece) → list_any is_dollar plain ≡ false → ((f : List ℕ) → plain ≢ f ++ 92 ∷ []) → pieces (36 ∷ 123 ∷ inner) ≡ ps → pieces (plain ++ 36 ∷ 123 ∷ inner) ≡ map Byte plain ++ ps
unescaped plain inner ps none bare e = plain_then plain (36 ∷ 123 ∷ inner) none (λ f same. absurd (bare f same)) ∙ ap (λ (qs : List Piece). map Byte plain ++ qs) e

abbrev Part : Type 0
Part = List ℕ × List ℕ

abbrev parts_at : List ℕ → Part
parts_at t = (before_first is_close t, after_first is_close t)

-- a test that shows which part there is
part_by : (v : Bool) (p q : Part) → Some p ≡ cond v (Some q) None → (v ≡ true) × (p ≡ q)
part_by true p q e = let same : p ≡ q = cc in (refl, same)
part_by false p q e = absurd (true≢false (ap is_some e))

part_some : (t key rest : List ℕ) → Some (key, rest) ≡ closed_part t → (list_any is_close t ≡ true) × (key ≡ before_first is_close t) × (rest ≡ after_first is_close t)
part_some t key rest e =
    let found = part_by (list_any is_close t) (key, rest) (parts_at t) e in
    (found.0, ap (λ (x : Part). x.0) found.1, ap (λ (x : Part). x.1) found.1)

no_part : (v : Bool) (q : Part) → None ≡ cond v (Some q) None → v ≡ false
no_part true q e = absurd (true≢false (sym (ap is_some e)))
no_part false q e = refl

part_none : (t : List ℕ) → None ≡ closed_part t → list_any is_close t ≡ false
part_none t e = no_part (list_any is_close t) (parts_at t) e

after_shorter : (t : List ℕ) → list_any is_close t ≡ true → length (after_first is_close t) < length t
after_shorter [] h = absurd (true≢false (sym h))
after_shorter (b ∷ t) h = omega (arith, length-drop (position_or_len is_close (b ∷ t) + 1) (b ∷ t))

pub turn_key : (plain inner key name rest : List ℕ) (closes : Bool) → list_any is_dollar plain ≡ false → ((f : List ℕ) → plain ≢ f ++ 92 ∷ []) → IsOpen inner closes → Some (key, rest) ≡ closed_part inner → name ≡ trimmed key → IsTurn (plain ++ 36 ∷ 123 ∷ inner) plain [] (Some name) rest closes
turn_key plain inner key name rest closes none bare shut e trim =
    let part = part_some inner key rest e in
    let named : Key (trimmed (before_first is_close inner)) ∷ pieces (after_first is_close inner) ≡ Key name ∷ pieces rest
    = ap (λ (k : List ℕ). Key (trimmed k) ∷ pieces (after_first is_close inner)) (sym part.1) ∙ ap (λ (k : List ℕ). Key k ∷ pieces (after_first is_close inner)) (sym trim) ∙ ap (λ (r : List ℕ). Key name ∷ pieces r) (sym part.2) in
    record {
      read = unescaped plain inner _ none bare (at_key inner part.0 ∙ named) ∙ joined plain [] (Key name ∷ pieces rest);
      shorter = omega (arith, length-append plain (36 ∷ 123 ∷ inner), after_shorter inner part.0, ap length part.2);
      left = λ fails. absurd (clash (list_any is_close inner) part.0 (shut fails));
    }
  where
    clash : (v : Bool) → v ≡ true → v ≡ false → ⊥
    clash v a b = cc

pub turn_open : (plain inner : List ℕ) → list_any is_dollar plain ≡ false → ((f : List ℕ) → plain ≢ f ++ 92 ∷ []) → None ≡ closed_part inner → IsTurn (plain ++ 36 ∷ 123 ∷ inner) plain (codes "${") None inner false
turn_open plain inner none bare e =
    let fails = part_none inner e in
    record {
      read = unescaped plain inner _ none bare (at_open inner fails) ∙ joined plain (codes "${") (pieces inner);
      shorter = omega (arith, length-append plain (36 ∷ 123 ∷ inner));
      left = λ _. fails;
    }

-- ---- what stands behind a dollar sign

pub behind_shut : (text plain behind : List ℕ) → text ≡ plain ++ 36 ∷ behind → list_any is_close text ≡ false → list_any is_close behind ≡ false
behind_shut text plain behind e h =
    (or_false (list_any is_close plain) (list_any is_close (36 ∷ behind)) (sym (list_any-append is_close plain (36 ∷ behind)) ∙ ap (list_any is_close) (sym e) ∙ h)).1

-- ---- whole keys

pub whole_some : (inner key rest : List ℕ) (o : Option (List ℕ)) → Some (key, rest) ≡ closed_part inner → o ≡ key_alone (Key (trimmed key) ∷ pieces rest) → o ≡ whole_key (36 ∷ 123 ∷ inner)
whole_some inner key rest o e h =
    let part = part_some inner key rest e in
    h
    ∙ ap (λ (k : List ℕ). key_alone (Key (trimmed k) ∷ pieces rest)) part.1
    ∙ ap (λ (r : List ℕ). key_alone (Key (trimmed (before_first is_close inner)) ∷ pieces r)) part.2
    ∙ ap key_alone (sym (at_key inner part.0))

pub whole_none : (inner : List ℕ) → None ≡ closed_part inner → None ≡ whole_key (36 ∷ 123 ∷ inner)
whole_none inner e = ap key_alone (sym (at_open inner (part_none inner e)))

pub stripped : (front text : List ℕ) (x : Bor (List ℕ)) → StripsPrefix (FindsTextPrefix front) text x.now → text ≡ front ++ x.now
stripped front text x found = found.1.1 ∙ ap (λ (r : List ℕ). front ++ r) (sym found.2)

-- ---- the clause of `split_once` at `}`

pub part_is : (t : List ℕ) (r : Option (Bor (List ℕ) × Bor (List ℕ))) → MatchOption r (position_or_len is_close t ≡ length t) (λ x. (position_or_len is_close t < length t) × (x.0.now ≡ before_first is_close t) × (x.1.now ≡ after_first is_close t)) → option_map (λ x. (x.0.now, x.1.now)) r ≡ closed_part t
part_is t None h = sym (cond-false (list_any is_close t) (Some (before_first is_close t, after_first is_close t)) None (none_from_place is_close t h))
part_is t (Some x) h =
    let same : Some (x.0.now, x.1.now) ≡ Some (before_first is_close t, after_first is_close t) = cc in
    same ∙ sym (cond-true (list_any is_close t) (Some (before_first is_close t, after_first is_close t)) None (any_from_place is_close t h.0))
