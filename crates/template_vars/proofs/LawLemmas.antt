-- Merges into nothing, and texts without templates.
--     nothing_clashes, all_new    a mapping that is merged into none
--     no_template                 a text without `${` stands for itself
use Rattle.std.proofs.Common.{◌≡◌, ◌∙◌, ℕ, Bool, true, false, ◌&&◌, List, [], ◌∷◌, map, codes, None, refl, ap, eqb}
use Rattle.std.specs.List.{list_any, filter}
use Rattle.dvc_base.specs.declared.node.Pair.{Pair}
use Rattle.template_vars.specs.Merge.{Inside, first_clash, is_new}
use Rattle.template_vars.specs.Template.{Piece, Byte, begins, is_close, pieces, has_template}
use Rattle.template_vars.proofs.BoolLemmas.{or_false}
use Rattle.template_vars.proofs.PieceLemmas.{escapes, other_byte}

pub nothing_clashes : (inside : Inside) (b : List Pair) → first_clash inside [] b ≡ None
nothing_clashes inside [] = refl
nothing_clashes inside (p ∷ b) = nothing_clashes inside b

pub all_new : (b : List Pair) → filter (is_new []) b ≡ b
all_new [] = refl
all_new (p ∷ b) = ap (λ (ps : List Pair). p ∷ ps) (all_new b)

not_begun : (t : List ℕ) → has_template t ≡ false → begins (codes "${") t ≡ false
not_begun [] h = refl
not_begun (b ∷ t) h = (or_false (begins (codes "${") (b ∷ t)) (has_template t) h).0

pub no_template : (t : List ℕ) → has_template t ≡ false → pieces t ≡ map Byte t
no_template [] h = refl
no_template (b ∷ t) h =
    let parts = or_false (begins (codes "${") (b ∷ t)) (has_template t) h in
    other_byte b t (not_escape b (not_begun t parts.1)) (ap (λ v. v && list_any is_close (b ∷ t)) parts.0)
    ∙ ap (λ (ps : List Piece). Byte b ∷ ps) (no_template t parts.1)
  where
    and_none : (v : Bool) → (v && false) ≡ false
    and_none true = refl
    and_none false = refl

    not_escape : (b : ℕ) → begins (codes "${") t ≡ false → escapes (b ∷ t) ≡ false
    not_escape b e = ap (λ v. eqb b 92 && v) e ∙ and_none (eqb b 92)
