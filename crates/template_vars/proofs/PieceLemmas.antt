-- The pieces of a text, from its start.
--     read_past       what is read already is passed
--     other_byte      a byte that begins neither an escape nor a key stands for itself
--     plain_then      bytes before the first dollar sign stand for themselves, where none is the backslash of an escape
--     at_escape, at_dollar, at_key, at_open    what a backslash or a dollar sign begins
--     all_plain       a text without a dollar sign stands for itself
--     alone_end, alone_more    a key with nothing behind it is alone, and with something it isn't
--     not_opened      neither is what a text begins with that has fails `${` at its start
use Rattle.std.proofs.Common.{◌≡◌, ◌≢◌, ℕ, zero, suc, ◌+◌, Bool, true, false, ◌&&◌, cond, List, [], ◌∷◌, ◌++◌, map, length, drop, codes, Some, None, true≢false, refl, sym, ap, ◌∙◌, inl, inr, eqb, eqb-true, arith}
use Rattle.std.specs.List.{list_any, position_or_len, before_first, after_first}
use Rattle.std.proofs.lemmas.Bool.{cond-true, cond-false, cases_Bool}
use Rattle.template_vars.specs.Template.{Piece, Byte, Key, begins, is_close, trimmed, opens, key_in, pieces_from, pieces, key_alone}
use Rattle.template_vars.specs.Turn.{is_dollar}
use Rattle.template_vars.proofs.BoolLemmas.{or_false}

pub read_past : (n : ℕ) (t : List ℕ) → pieces_from n t ≡ pieces (drop n t)
read_past zero t = refl
read_past (suc n) [] = refl
read_past (suc n) (b ∷ t) = read_past n t

-- the byte that a text begins with, where it begins neither an escape nor a key
abbrev pub escapes : List ℕ → Bool
escapes t = begins (codes "\\${") t

abbrev key_or_byte : ℕ → List ℕ → List Piece
key_or_byte b t = cond (opens (b ∷ t)) (Key (key_in (b ∷ t)) ∷ pieces_from (position_or_len is_close t + 1) t) (Byte b ∷ pieces t)

abbrev escaped : List ℕ → List Piece
escaped t = map Byte (codes "${") ++ pieces_from 2 t

not_escaped : (b : ℕ) (t : List ℕ) → escapes (b ∷ t) ≡ false → pieces (b ∷ t) ≡ key_or_byte b t
not_escaped b t h = cond-false (escapes (b ∷ t)) (escaped t) (key_or_byte b t) h

pub other_byte : (b : ℕ) (t : List ℕ) → escapes (b ∷ t) ≡ false → opens (b ∷ t) ≡ false → pieces (b ∷ t) ≡ Byte b ∷ pieces t
other_byte b t h o = not_escaped b t h ∙ cond-false (opens (b ∷ t)) _ (Byte b ∷ pieces t) o

-- ---- what begins nothing

not_open : (b : ℕ) (t : List ℕ) → is_dollar b ≡ false → opens (b ∷ t) ≡ false
not_open b [] h = ap (λ v. (v && false) && list_any is_close (b ∷ [])) h
not_open b (c ∷ t) h = ap (λ v. (v && (eqb c 123 && true)) && list_any is_close (b ∷ c ∷ t)) h

-- at the last byte before a text
escape_last : (b : ℕ) (s : List ℕ) → (b ≡ 92 → begins (codes "${") s ≡ false) → escapes (b ∷ s) ≡ false
escape_last b s h =
    elim (cases_Bool (eqb b 92)) [
      | inl passes ↦ ap (λ v. v && begins (codes "${") s) passes ∙ h (eqb-true b 92 passes)
      | inr fails ↦ ap (λ v. v && begins (codes "${") s) fails
    ]

escape_inner : (b c : ℕ) (s : List ℕ) → is_dollar c ≡ false → escapes (b ∷ c ∷ s) ≡ false
escape_inner b c s h =
    ap (λ v. eqb b 92 && v) (ap (λ v. v && begins (codes "{") s) h) ∙ by (eqb b 92)
  where
    by : (v : Bool) → (v && false) ≡ false
    by true = refl
    by false = refl

escape_none : (b : ℕ) (front s : List ℕ) → list_any is_dollar front ≡ false → ((f : List ℕ) → b ∷ front ≡ f ++ 92 ∷ [] → begins (codes "${") s ≡ false) → escapes (b ∷ front ++ s) ≡ false
escape_none b [] s none last = escape_last b s (λ e. last [] (ap (λ x. x ∷ []) e))
escape_none b (c ∷ front) s none last = escape_inner b c (front ++ s) (or_false (is_dollar c) (list_any is_dollar front) none).0

pub plain_then : (front s : List ℕ) → list_any is_dollar front ≡ false → ((f : List ℕ) → front ≡ f ++ 92 ∷ [] → begins (codes "${") s ≡ false) → pieces (front ++ s) ≡ map Byte front ++ pieces s
plain_then [] s none last = refl
plain_then (b ∷ front) s none last =
    let parts = or_false (is_dollar b) (list_any is_dollar front) none in
    other_byte b (front ++ s) (escape_none b front s parts.1 last) (not_open b (front ++ s) parts.0)
    ∙ ap (λ (ps : List Piece). Byte b ∷ ps) (plain_then front s parts.1 (λ f e. last (b ∷ f) (ap (λ (x : List ℕ). b ∷ x) e)))

nil_right : (t : List ℕ) → t ++ [] ≡ t
nil_right [] = refl
nil_right (b ∷ t) = ap (λ (x : List ℕ). b ∷ x) (nil_right t)

bytes_right : (ps : List Piece) → ps ++ [] ≡ ps
bytes_right [] = refl
bytes_right (p ∷ ps) = ap (λ (x : List Piece). p ∷ x) (bytes_right ps)

pub all_plain : (t : List ℕ) → list_any is_dollar t ≡ false → pieces t ≡ map Byte t
all_plain t none = sym (ap pieces (nil_right t)) ∙ plain_then t [] none (λ f e. refl) ∙ bytes_right (map Byte t)

-- ---- what begins something

pub at_escape : (inner : List ℕ) → pieces (92 ∷ 36 ∷ 123 ∷ inner) ≡ Byte 36 ∷ Byte 123 ∷ pieces inner
at_escape inner = refl

pub no_brace : (t : List ℕ) → ((r : List ℕ) → t ≢ 123 ∷ r) → begins (codes "${") (36 ∷ t) ≡ false
no_brace [] h = refl
no_brace (c ∷ t) h =
    elim (cases_Bool (eqb c 123)) [
      | inl passes ↦ absurd (h t (ap (λ x. x ∷ t) (eqb-true c 123 passes)))
      | inr fails ↦ ap (λ v. v && true) fails
    ]

pub at_dollar : (t : List ℕ) → ((r : List ℕ) → t ≢ 123 ∷ r) → pieces (36 ∷ t) ≡ Byte 36 ∷ pieces t
at_dollar t h = other_byte 36 t refl (ap (λ v. v && list_any is_close (36 ∷ t)) (no_brace t h))

pub at_key : (inner : List ℕ) → list_any is_close inner ≡ true → pieces (36 ∷ 123 ∷ inner) ≡ Key (trimmed (before_first is_close inner)) ∷ pieces (after_first is_close inner)
at_key inner h =
    not_escaped 36 (123 ∷ inner) refl
    ∙ cond-true (opens (36 ∷ 123 ∷ inner)) _ (Byte 36 ∷ pieces (123 ∷ inner)) h
    ∙ ap (λ (ps : List Piece). Key (trimmed (before_first is_close inner)) ∷ ps) (read_past (position_or_len is_close (123 ∷ inner) + 1) (123 ∷ inner) ∙ ap (λ n. pieces (drop n (123 ∷ inner))) further)
  where
    further : position_or_len is_close (123 ∷ inner) + 1 ≡ suc (position_or_len is_close inner + 1)
    further = omega arith

pub at_open : (inner : List ℕ) → list_any is_close inner ≡ false → pieces (36 ∷ 123 ∷ inner) ≡ Byte 36 ∷ Byte 123 ∷ pieces inner
at_open inner h = other_byte 36 (123 ∷ inner) refl h ∙ ap (λ (ps : List Piece). Byte 36 ∷ ps) (other_byte 123 inner (escape_at inner) (not_open 123 inner refl))
  where
    escape_at : (t : List ℕ) → escapes (123 ∷ t) ≡ false
    escape_at t = refl

-- ---- keys alone

more_pieces : (key : List ℕ) (b : ℕ) (t : List ℕ) → key_alone (Key key ∷ pieces (b ∷ t)) ≡ None
more_pieces key b t =
    elim (cases_Bool (escapes (b ∷ t))) [
      | inl passes ↦ ap (λ (ps : List Piece). key_alone (Key key ∷ ps)) (cond-true (escapes (b ∷ t)) (escaped t) (key_or_byte b t) passes)
      | inr fails ↦ ap (λ (ps : List Piece). key_alone (Key key ∷ ps)) (not_escaped b t fails) ∙ by (opens (b ∷ t)) _ _
    ]
  where
    by : (o : Bool) (ps qs : List Piece) → key_alone (Key key ∷ cond o (Key (key_in (b ∷ t)) ∷ ps) (Byte b ∷ qs)) ≡ None
    by true ps qs = refl
    by false ps qs = refl

pub alone_end : (key rest : List ℕ) → eqb (length rest) 0 ≡ true → key_alone (Key key ∷ pieces rest) ≡ Some key
alone_end key [] h = refl
alone_end key (b ∷ t) h = absurd (omega (arith, eqb-true (length (b ∷ t)) 0 h))

pub alone_more : (key rest : List ℕ) → eqb (length rest) 0 ≡ false → key_alone (Key key ∷ pieces rest) ≡ None
alone_more key [] h = absurd (true≢false h)
alone_more key (b ∷ t) h = more_pieces key b t

pub not_opened : (t : List ℕ) → opens t ≡ false → key_alone (pieces t) ≡ None
not_opened [] h = refl
not_opened (b ∷ t) h =
    elim (cases_Bool (escapes (b ∷ t))) [
      | inl passes ↦ ap key_alone (cond-true (escapes (b ∷ t)) (escaped t) (key_or_byte b t) passes)
      | inr fails ↦ ap key_alone (other_byte b t fails h)
    ]

-- where no `${` stands at its start
pub lacks_opening : (t : List ℕ) → ((rest : List ℕ) → t ≢ codes "${" ++ rest) → key_alone (pieces t) ≡ None
lacks_opening t lacks = not_opened t (ap (λ v. v && list_any is_close t) (by t lacks))
  where
    by : (t : List ℕ) → ((rest : List ℕ) → t ≢ codes "${" ++ rest) → begins (codes "${") t ≡ false
    by [] lacks = refl
    by (b ∷ t) lacks =
        elim (cases_Bool (eqb b 36)) [
          | inl passes ↦ ap (λ x. begins (codes "${") (x ∷ t)) (eqb-true b 36 passes) ∙ no_brace t (λ r e. lacks r (ap (λ x. x ∷ t) (eqb-true b 36 passes) ∙ ap (λ (x : List ℕ). 36 ∷ x) e))
          | inr fails ↦ front b t fails
        ]
      where
        front : (b : ℕ) (t : List ℕ) → eqb b 36 ≡ false → begins (codes "${") (b ∷ t) ≡ false
        front b [] h = ap (λ v. v && false) h
        front b (c ∷ t) h = ap (λ v. v && (eqb c 123 && true)) h
