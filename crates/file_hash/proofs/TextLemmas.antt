-- Texts that are built piece by piece.
--     ok_then              what follows from what a call leaves after Ok
--     put_two, put_five    pieces put one after another
--     escaped_step, escaped_end    characters put one after another
use Rattle.std.proofs.Common.{◌≡◌, ℕ, ◌+◌, ◌-◌, ◌/◌, ◌%◌, ◌<◌, ◌≤◌, List, [], ◌∷◌, ◌++◌, length, take, get_or, codes, refl, ap, sym, ◌∙◌, arith, append_assoc, Result, Ok, Err}
use Rattle.std.specs.Prelude.{OnOk}
use Rattle.std.specs.List.{flat_map}
use Rattle.std.specs.Char.{encode_utf8}
use Rattle.std.specs.Str.{IsUtf8, chars, is_utf8}
use Rattle.std.proofs.lemmas.Bool.{cond-true, le-ltb}
use Rattle.std.proofs.lemmas.List.{append-nil, take_more, flat_map_more}
use Rattle.std.proofs.lemmas.Str.{chars_past_char, chars-nil, is_utf8-from_IsUtf8}
use Rattle.json.specs.Print.{escape}
use Rattle.file_hash.specs.Listing.{escaped, escaped_text, unit_text, member_text, more_text}
use Rattle.file_hash.specs.declared.listing.Member.{Member}

pub ok_then : {T E : Type 0} {P Q : Type 0} (r : Result T E) → (P → Q) → OnOk r P → OnOk r Q
ok_then (Ok t) f h = f h
ok_then (Err e) f h = tt

pub put_two : (out one two a b : List ℕ) → one ≡ out ++ a → two ≡ one ++ b → two ≡ out ++ (a ++ b)
put_two out one two a b e f = f ∙ ap (λ x. x ++ b) e ∙ append_assoc out a b

pub put_five : (out o1 o2 o3 o4 o5 a b c d e : List ℕ) → o1 ≡ out ++ a → o2 ≡ o1 ++ b → o3 ≡ o2 ++ c → o4 ≡ o3 ++ d → o5 ≡ o4 ++ e → o5 ≡ out ++ (a ++ b ++ c ++ d ++ e)
put_five out o1 o2 o3 o4 o5 a b c d e f1 f2 f3 f4 f5 =
    put_two out o4 o5 (a ++ b ++ c ++ d) e (put_two out o3 o4 (a ++ b ++ c) d (put_two out o2 o3 (a ++ b) c (put_two out o1 o2 a b f1 f2) f3) f4) f5

-- one character more
pub escaped_step : (out more all left rest : List ℕ) (c : ℕ) → IsUtf8 left → left ≡ encode_utf8 c ++ rest
    → out ++ flat_map escaped (chars left) ≡ all → more ≡ out ++ escaped c → more ++ flat_map escaped (chars rest) ≡ all
escaped_step out more all left rest c u is held grown =
    ap (λ t. t ++ flat_map escaped (chars rest)) grown
    ∙ append_assoc out (escaped c) (flat_map escaped (chars rest))
    ∙ ap (λ cs. out ++ flat_map escaped cs) (sym (chars_past_char left rest c u is))
    ∙ held

no_text : (t : List ℕ) → length t ≡ 0 → t ≡ []
no_text [] h = refl
no_text (b ∷ t) h = absurd (omega arith)

pub escaped_utf8 : (t : List ℕ) → IsUtf8 t → escaped_text t ≡ flat_map escaped (chars t)
unfolding escaped_text
escaped_utf8 t u = cond-true (is_utf8 t) (flat_map escaped (chars t)) (escape t) (is_utf8-from_IsUtf8 t u)

pub escaped_end : (start out left t : List ℕ) → IsUtf8 t → length left ≡ 0 → out ++ flat_map escaped (chars left) ≡ start ++ flat_map escaped (chars t) → out ≡ start ++ escaped_text t
escaped_end start out left t u none held =
    sym (append-nil out)
    ∙ ap (λ cs. out ++ flat_map escaped cs) (sym chars-nil)
    ∙ ap (λ l. out ++ flat_map escaped (chars l)) (sym (no_text left none))
    ∙ held
    ∙ ap (λ x. start ++ x) (sym (escaped_utf8 t u))

pub escaped_high : (c : ℕ) → 128 ≤ c → 65536 ≤ c → escaped c ≡ unit_text (55296 + (c - 65536) / 1024) ++ unit_text (56320 + (c - 65536) % 1024)
unfolding escaped
escaped_high c a b = rw (le-ltb c 128 a, le-ltb c 65536 b) refl

-- one member more
pub more_step : (start out comma more : List ℕ) (rest : List Member) (i : ℕ) (m : Member) → m ≡ get_or rest i m → i < length rest → out ≡ start ++ flat_map more_text (take i rest) → comma ≡ out ++ codes ", " → more ≡ comma ++ member_text m → more ≡ start ++ flat_map more_text (take (i + 1) rest)
more_step start out comma more rest i m is l held e f =
    put_two out comma more (codes ", ") (member_text m) e f
    ∙ ap (λ x. x ++ more_text m) held
    ∙ flat_map_more more_text start (take i rest) m
    ∙ ap (λ x. start ++ flat_map more_text (take i rest ++ x ∷ [])) is
    ∙ ap (λ x. start ++ flat_map more_text x) (sym (take_more rest i m l))
