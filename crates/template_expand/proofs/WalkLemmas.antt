-- The walk over what is made of a written stage.
--     made_one    one more stage is made, where there is room
use Rattle.std.proofs.Common.{◌≡◌, ◌∙◌, ℕ, ◌+◌, ◌<◌, Bool, true, false, List, [], ◌∷◌, ◌++◌, length, Ok, Err, refl, sym, ap, length-append, if◌then◌else◌}
use Rattle.std.specs.Prelude.{nat_lt}
use Rattle.std.proofs.lemmas.Bool.{ltb-true}
use Rattle.dvc_base.specs.declared.node.Pair.{Pair}
use Rattle.stage_schema.specs.declared.fault.ExpandFault.TheVariants as e
use Rattle.stage_schema.specs.declared.stage.Stage.{Stage}
use Rattle.template_expand.specs.declared.made.Made.{Made}
use Rattle.template_expand.specs.Answer.{Answer, then_by}
use Rattle.template_expand.specs.Expansion.{stage_made, with_made}

pub made_one : (limit : ℕ) (name : List ℕ) (vars body : List Pair) (stages : List Stage) (made : Made) (next : List Stage)
    → with_made limit name vars body stages made ≡ Ok next → (length next ≡ length stages + 1) × (length stages < limit)
made_one limit name vars body stages made next h = by (nat_lt (length stages) limit) refl (stage_made name vars body made) h
  where
    step : Bool → Answer Stage → Answer (List Stage)
    step b r = if b then then_by (λ stage. Ok (stages ++ stage ∷ [])) r else Err (e.TooMany (limit + 1))

    by : (b : Bool) → nat_lt (length stages) limit ≡ b → (r : Answer Stage) → step b r ≡ Ok next → (length next ≡ length stages + 1) × (length stages < limit)
    by true e (Ok stage) h =
        let same : stages ++ stage ∷ [] ≡ next = cc in
        (ap length (sym same) ∙ length-append stages (stage ∷ []), ltb-true (length stages) limit e)
    by true e (Err fault) h = absurd (cc)
    by false e r h = absurd (cc)
