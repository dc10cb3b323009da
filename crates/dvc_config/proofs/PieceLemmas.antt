-- Pieces of a text, as what `str` strips off.
--     behind_front, behind_lacks    what stands behind a front, and where a text lacks it
--     before_back, before_lacks     the same of a back
--     front_stripped, back_stripped the clauses of `strip_prefix` and `strip_suffix` at a text
--     past_step, past_end           a character of white space at the start is passed, and nothing else
--     before_step, before_end       the same at the end
use Rattle.std.proofs.Common.{◌≡◌, ◌≢◌, ℕ, ◌-◌, ◌<◌, Bool, true, false, ◌||◌, cond, eqb, List, [], ◌∷◌, ◌++◌, length, drop, take, reverse, codes, refl, sym, ap, ◌∙◌, arith, Option, Some, None, MatchOption, option_copied, unwrap_or, is_some, true≢false, inl, inr, eq-eqb, eqb-true, Bor}
use Rattle.std.specs.Option.{option_or}
use Rattle.std.specs.Str.Pattern.{FindsTextPrefix, FindsTextSuffix, StripsPrefix, StripsSuffix}
use Rattle.std.proofs.lemmas.Bool.{cond-true, cond-false, cases_Bool}
use Rattle.std.proofs.lemmas.List.{reverse-append, reverse-reverse, length-reverse}
use Rattle.dvc_config.specs.Line.{behind, before, turned, is_white, past_white, before_white}

-- ---- fronts and backs

pub behind_front : (front rest : List ℕ) → behind front (front ++ rest) ≡ Some rest
behind_front [] rest = refl
behind_front (a ∷ front) rest = cond-true (eqb a a) (behind front (front ++ rest)) None (eq-eqb a a refl) ∙ behind_front front rest

pub behind_lacks : (front text : List ℕ) → ((rest : List ℕ) → text ≢ front ++ rest) → behind front text ≡ None
behind_lacks [] text lacks = absurd (lacks text refl)
behind_lacks (a ∷ front) [] lacks = refl
behind_lacks (a ∷ front) (b ∷ text) lacks =
    elim (cases_Bool (eqb b a)) [
      | inl h ↦
          cond-true (eqb b a) (behind front text) None h
          ∙ behind_lacks front text (λ rest same. lacks rest (ap (λ x. x ∷ text) (eqb-true b a h) ∙ ap (λ t. a ∷ t) same))
      | inr h ↦ cond-false (eqb b a) (behind front text) None h
    ]

pub before_back : (front back : List ℕ) → before back (front ++ back) ≡ Some front
before_back front back =
    ap (λ t. turned (behind (reverse back) t)) (reverse-append front back)
    ∙ ap turned (behind_front (reverse back) (reverse front))
    ∙ ap Some (reverse-reverse front)

pub before_lacks : (back text : List ℕ) → ((front : List ℕ) → text ≢ front ++ back) → before back text ≡ None
before_lacks back text lacks =
    ap turned (behind_lacks (reverse back) (reverse text) (λ rest same.
    lacks (reverse rest)
    (sym (reverse-reverse text)
    ∙ ap reverse same
    ∙ reverse-append (reverse back) rest
    ∙ ap (λ t. reverse rest ++ t) (reverse-reverse back))))

pub front_stripped : (front text : List ℕ) (r : Option (Bor (List ℕ))) → MatchOption r (FindsTextPrefix front text None) (λ x. StripsPrefix (FindsTextPrefix front) text x.now) → option_copied r ≡ behind front text
front_stripped front text None lacks = sym (behind_lacks front text lacks)
front_stripped front text (Some x) found =
    let n = found.0 in
    sym (ap (behind front) found.1.1 ∙ behind_front front (drop n text) ∙ ap Some (sym found.2))

pub back_stripped : (back text : List ℕ) (r : Option (Bor (List ℕ))) → MatchOption r (FindsTextSuffix back text None) (λ x. StripsSuffix (FindsTextSuffix back) text x.now) → option_copied r ≡ before back text
back_stripped back text None lacks = sym (before_lacks back text lacks)
back_stripped back text (Some x) found =
    let n = found.0 in
    sym (ap (before back) found.1.1 ∙ before_back (take (length text - n) text) back ∙ ap Some (sym found.2))

-- ---- white space

-- the text behind the one character of white space at its start
abbrev pub past_one : List ℕ → Option (List ℕ)
past_one text = option_or (behind (codes " ") text) (behind (codes "\t") text)

either : (p q : Bool) (t : List ℕ) → option_or (cond p (Some t) None) (cond q (Some t) None) ≡ cond (p || q) (Some t) None
either true q t = refl
either false q t = refl

past_one_is : (b : ℕ) (t : List ℕ) → past_one (b ∷ t) ≡ cond (is_white b) (Some t) None
past_one_is b t = either (eqb b 32) (eqb b 9) t

step_by : (w : Bool) (b : ℕ) (t rest : List ℕ) → cond w (Some t) None ≡ Some rest → past_white rest ≡ cond w (past_white t) (b ∷ t)
step_by true b t rest e = ap (λ o. past_white (unwrap_or o t)) (sym e)
step_by false b t rest e = absurd (true≢false (ap is_some (sym e)))

pub past_step : (text rest : List ℕ) → past_one text ≡ Some rest → past_white rest ≡ past_white text
past_step [] rest e = absurd (true≢false (ap is_some (sym e)))
past_step (b ∷ t) rest e = step_by (is_white b) b t rest (sym (past_one_is b t) ∙ e)

shorter_by : (w : Bool) (t rest : List ℕ) → cond w (Some t) None ≡ Some rest → t ≡ rest
shorter_by true t rest e = ap (λ o. unwrap_or o t) e
shorter_by false t rest e = absurd (true≢false (ap is_some (sym e)))

pub past_shorter : (text rest : List ℕ) → past_one text ≡ Some rest → length rest < length text
past_shorter [] rest e = absurd (true≢false (ap is_some (sym e)))
past_shorter (b ∷ t) rest e = let same = ap length (shorter_by (is_white b) t rest (sym (past_one_is b t) ∙ e)) in omega (arith, same)

end_by : (w : Bool) (b : ℕ) (t : List ℕ) → cond w (Some t) None ≡ None → b ∷ t ≡ cond w (past_white t) (b ∷ t)
end_by true b t e = absurd (true≢false (ap is_some e))
end_by false b t e = refl

pub past_end : (text : List ℕ) → past_one text ≡ None → text ≡ past_white text
past_end [] e = refl
past_end (b ∷ t) e = end_by (is_white b) b t (sym (past_one_is b t) ∙ e)

-- ---- white space at the end

abbrev pub before_one : List ℕ → Option (List ℕ)
before_one text = option_or (before (codes " ") text) (before (codes "\t") text)

turned_or : (a b : Option (List ℕ)) → option_or (turned a) (turned b) ≡ turned (option_or a b)
turned_or None b = refl
turned_or (Some x) b = refl

before_one_is : (text : List ℕ) → before_one text ≡ turned (past_one (reverse text))
before_one_is text = turned_or (behind (codes " ") (reverse text)) (behind (codes "\t") (reverse text))

turned_some : (o : Option (List ℕ)) (rest : List ℕ) → turned o ≡ Some rest → o ≡ Some (reverse rest)
turned_some None rest e = absurd (true≢false (ap is_some (sym e)))
turned_some (Some x) rest e = ap Some (sym (reverse-reverse x) ∙ ap (λ p. reverse (unwrap_or p x)) e)

turned_none : (o : Option (List ℕ)) → turned o ≡ None → o ≡ None
turned_none None e = refl
turned_none (Some x) e = absurd (true≢false (ap is_some e))

from_end : (text rest : List ℕ) → before_one text ≡ Some rest → past_one (reverse text) ≡ Some (reverse rest)
from_end text rest e = turned_some (past_one (reverse text)) rest (sym (before_one_is text) ∙ e)

pub before_step : (text rest : List ℕ) → before_one text ≡ Some rest → before_white rest ≡ before_white text
before_step text rest e = ap reverse (past_step (reverse text) (reverse rest) (from_end text rest e))

pub before_shorter : (text rest : List ℕ) → before_one text ≡ Some rest → length rest < length text
before_shorter text rest e =
    let shorter = past_shorter (reverse text) (reverse rest) (from_end text rest e) in
    omega (arith, shorter, length-reverse text, length-reverse rest)

pub before_end : (text : List ℕ) → before_one text ≡ None → text ≡ before_white text
before_end text e =
    sym (reverse-reverse text)
    ∙ ap reverse (past_end (reverse text) (turned_none (past_one (reverse text)) (sym (before_one_is text) ∙ e)))
