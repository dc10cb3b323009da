-- Each component is written after a slash, except for the first.
use Rattle.std.proofs.Common.{◌≡◌, ℕ, ◌+◌, ◌==◌, ◌<◌, List, [], ◌∷◌, ◌++◌, arith, length, take, get_or, string_bytes, ap, sym, ◌∙◌, subst, append_assoc, false, lit<}
use Rattle.std.proofs.lemmas.Grind.{common_steps}
use Rattle.std.proofs.lemmas.Bool.Decides.{nat_tests}
use Rattle.dvc_base.specs.Path.{Path, joined}
use Rattle.dvc_base.proofs.PathLemmas.{joined-more}
use Rattle.dvc_base.proofs.path.joined_text.Goals as goal
use Rattle.dvc_base.proofs.path.joined_text.Goals.{then-not-first+in_ok-push, else-not-first}

-- a component behind a slash
later : (p : Path) (i : ℕ) (part text more : List ℕ) → 0 < i → i < length p → part ≡ get_or p i part → text ≡ joined (take i p) → more ≡ text ++ 47 ∷ [] → more ++ part ≡ joined (take (i + 1) p)
later p i part text more a b e t m =
    ap (λ (x : List ℕ). x ++ part) m ∙ append_assoc text (47 ∷ []) part ∙ ap (λ (x : List ℕ). x ++ 47 ∷ part) t ∙ ap (λ (x : List ℕ). joined (take i p) ++ 47 ∷ x) e ∙ sym (joined-more p i part a b)

-- the first component
first : (p : Path) (part text : List ℕ) → 0 < length p → part ≡ get_or p 0 part → text ≡ [] → text ++ part ≡ joined (take 1 p)
first [] part text a e t = absurd (omega arith)
first (c ∷ p) part text a e t = cc

pub loop-part-preserved : goal.loop-part-preserved
loop-part-preserved c =
    let p = c.args.parts.now in
    let i = c.loop-part.part-index in
    let e : false ≡ (i + 1 == 0) = grind (arith, nat_tests) in
    let written = c.in_ok-push_str.ensures.bytes in
    let part : c.as_str.result.now ≡ get_or p i c.as_str.result.now = grind (arith, common_steps) in
    elim c.if-not-first.branch [
      | then-not-first+in_ok-push w ↦ (
        e,
        written ∙ later p i c.as_str.result.now (string_bytes c.loop-part.text) (string_bytes c.if-not-first.text) (grind (arith, nat_tests)) (omega arith) part c.loop-part.invariant.1 (ap string_bytes w.text-is ∙ w.in_ok-push.ensures.bytes ∙ ap (λ (x : List ℕ). string_bytes c.loop-part.text ++ x) (w.in_ok-push.ensures.ascii (lit< tt))),
      )
      | else-not-first w ↦ (
        e,
        let start : i ≡ 0 = grind (arith, nat_tests) in
            let none : string_bytes c.if-not-first.text ≡ [] = ap string_bytes w.text-is ∙ c.loop-part.invariant.1 ∙ ap (λ (k : ℕ). joined (take k p)) start in
            written ∙ subst (λ (k : ℕ). k < length p → c.as_str.result.now ≡ get_or p k c.as_str.result.now → string_bytes c.if-not-first.text ++ c.as_str.result.now ≡ joined (take (k + 1) p)) (sym start) (λ l e. first p c.as_str.result.now (string_bytes c.if-not-first.text) l e none) (omega arith) part,
      )
    ]
