-- Characters between quotes, as they are written.
use Rattle.std.proofs.Common.{◌≡◌, ℕ, [], ◌∷◌, ◌++◌, length, refl, ap, sym, ◌∙◌, arith, append_assoc}
use Rattle.std.specs.Char.{encode_utf8}
use Rattle.std.specs.Str.{IsUtf8, chars}
use Rattle.std.proofs.lemmas.Str.{chars_past_char, chars-nil}
use Rattle.yaml_text.specs.Outcome.{Text}
use Rattle.yaml_print.specs.ScalarText.{text_of_each, in_quotes, between}

-- one character more
pub coded_step : (form : ℕ → Text) (out more all left rest : Text) (c : ℕ) → IsUtf8 left → left ≡ encode_utf8 c ++ rest
    → out ++ text_of_each form (chars left) ≡ all → more ≡ out ++ form c → more ++ text_of_each form (chars rest) ≡ all
coded_step form out more all left rest c u is held grown =
    ap (λ t. t ++ text_of_each form (chars rest)) grown
    ∙ append_assoc out (form c) (text_of_each form (chars rest))
    ∙ ap (λ cs. out ++ text_of_each form cs) (sym (chars_past_char left rest c u is))
    ∙ held

no_text : (t : Text) → length t ≡ 0 → t ≡ []
no_text [] h = refl
no_text (b ∷ t) h = absurd (omega arith)

pub append_nil : (t : Text) → t ++ [] ≡ t
append_nil [] = refl
append_nil (b ∷ t) = ap (λ u. b ∷ u) (append_nil t)

nothing_left : (form : ℕ → Text) (out left : Text) → length left ≡ 0 → out ++ text_of_each form (chars left) ≡ out
nothing_left form out left h =
    ap (λ t. out ++ text_of_each form (chars t)) (no_text left h) ∙ ap (λ cs. out ++ text_of_each form cs) chars-nil ∙ append_nil out

pub quotes_end : (quote : ℕ) (start out left t : Text) → length left ≡ 0
    → out ++ text_of_each (between quote) (chars left) ≡ (start ++ quote ∷ []) ++ text_of_each (between quote) (chars t)
    → out ++ quote ∷ [] ≡ start ++ in_quotes quote t
unfolding in_quotes
quotes_end quote start out left t none held =
    ap (λ u. u ++ quote ∷ []) (sym (nothing_left (between quote) out left none) ∙ held)
    ∙ append_assoc (start ++ quote ∷ []) (text_of_each (between quote) (chars t)) (quote ∷ [])
    ∙ append_assoc start (quote ∷ []) (text_of_each (between quote) (chars t) ++ quote ∷ [])
