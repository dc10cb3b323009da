-- The spaces at the ends of a text.
--     past_step, past_end        a space at the start is passed, and nothing else
--     before_step, before_end    the same at the end
use Rattle.std.proofs.Common.{◌≡◌, ◌≢◌, ℕ, List, [], ◌∷◌, ◌++◌, reverse, refl, sym, ap, ◌∙◌, inl, inr, eqb, eqb-true}
use Rattle.std.proofs.lemmas.Bool.{cond-false, cases_Bool}
use Rattle.std.proofs.lemmas.List.{reverse-append, reverse-reverse}
use Rattle.template_vars.specs.Template.{past_spaces, before_spaces}

pub past_step : (t rest : List ℕ) → t ≡ 32 ∷ rest → past_spaces rest ≡ past_spaces t
past_step t rest e = sym (ap past_spaces e)

pub past_end : (t : List ℕ) → ((rest : List ℕ) → t ≢ 32 ∷ rest) → t ≡ past_spaces t
past_end [] h = refl
past_end (b ∷ t) h =
    elim (cases_Bool (eqb b 32)) [
      | inl passes ↦ absurd (h t (ap (λ x. x ∷ t) (eqb-true b 32 passes)))
      | inr fails ↦ sym (cond-false (eqb b 32) (past_spaces t) (b ∷ t) fails)
    ]

turned : (t front : List ℕ) → t ≡ front ++ 32 ∷ [] → reverse t ≡ 32 ∷ reverse front
turned t front e = ap reverse e ∙ reverse-append front (32 ∷ [])

pub before_step : (t front : List ℕ) → t ≡ front ++ 32 ∷ [] → before_spaces front ≡ before_spaces t
before_step t front e = ap reverse (past_step (reverse t) (reverse front) (turned t front e))

pub before_end : (t : List ℕ) → ((front : List ℕ) → t ≢ front ++ 32 ∷ []) → t ≡ before_spaces t
before_end t h =
    sym (reverse-reverse t)
    ∙ ap reverse (past_end (reverse t) (λ rest e. h (reverse rest) (sym (reverse-reverse t) ∙ ap reverse e ∙ reverse-append (32 ∷ []) rest)))
