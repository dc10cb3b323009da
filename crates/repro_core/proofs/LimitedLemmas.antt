-- Outputs of which none is missing: what refuses them is a limit.
--     due_each                      none is refused where none passes a limit
--     ok_due, other_due             what is due where all were put, and where something else than a limit refused one
--     first_due, stands_due         what is due where the outputs were named as they are written
--     gone_later, due_later, limit_later     the same of a later moment
use Rattle.std.proofs.Common.{◌≡◌, ℕ, true, false, List, [], ◌∷◌, inl, inr, refl, sym, ap, subst, ◌∙◌, Option, Some, None}
use Rattle.std.specs.List.{AllByRecursion}
use Rattle.std.proofs.lemmas.Bool.{false≢true}
use Rattle.dvc_base.specs.Answer.{IsAnswer}
use Rattle.dvc_base.specs.declared.fault.Fault.{Fault}
use Rattle.world_api.specs.Tree.{Tree, Value, nothing, content, members, value_at}
use Rattle.world_api.specs.History.{Moment}
use Rattle.repro_laws.specs.Stage.{out_text, IsStage}
use Rattle.repro_laws.specs.Limits.{limit_fault}
use Rattle.repro_laws.specs.Refusals.{first_fault, first_of, refused_out, present_fault}
use Rattle.repro_laws.specs.Headline.{IsKept}
use Rattle.repro_laws.specs.Moments.{is_own}
use Rattle.repro_laws.specs.Sound.{IsAnswerAt}
use Rattle.repro_laws.specs.declared.stage.Out.{Out}
use Rattle.repro_laws.specs.declared.stage.Stage.{Stage}
use Rattle.repro_laws.proofs.AlikeLemmas.{each_on, each_two}
use Rattle.repro_laws.proofs.LimitLemmas.{limit_large}
use Rattle.repro_laws.proofs.RefusalLemmas.{none_each, each_in, none_in}
use Rattle.repro_laws.proofs.SeenLemmas.{first_same, each_none}
use Rattle.repro_core.specs.Steps.{InStored}
use Rattle.repro_core.specs.Storing.{put_due, is_by_limit}
use Rattle.repro_core.proofs.StoredLemmas.{stored_made, stored_outs}

abbrev pub Gone : Stage → Tree → Out → Option Fault
Gone s t o = refused_out s.name o (value_at t o.path)

abbrev pub PutDue : Stage → Tree → Out → Option Fault
PutDue s t o = put_due s.name o (value_at t o.path)

abbrev pub Limit : Tree → Out → Option Fault
Limit t o = limit_fault (value_at t o.path)

due_limit : (name : List ℕ) (o : Out) (v : Value) → refused_out name o v ≡ None → put_due name o v ≡ limit_fault v
due_limit name o nothing e = absurd (cc)
due_limit name o (content bytes) e = refl
due_limit name o (members m) e = refl

one_by_limit : (v : Value) (fault : Fault) → limit_fault v ≡ Some fault → is_by_limit fault ≡ true
one_by_limit v fault e = let large = limit_large v fault e in ap is_by_limit large.1.0

by_first : (o more : Option Fault) (fault : Fault) → (o ≡ Some fault → is_by_limit fault ≡ true) → (more ≡ Some fault → is_by_limit fault ≡ true) → first_fault o more ≡ Some fault → is_by_limit fault ≡ true
by_first None more fault here later e = later e
by_first (Some x) more fault here later e = here e

by_limit : (t : Tree) (os : List Out) (fault : Fault) → first_of (Limit t) os ≡ Some fault → is_by_limit fault ≡ true
by_limit t [] fault e = absurd (cc)
by_limit t (o ∷ os) fault e =
    by_first (Limit t o) (first_of (Limit t) os) fault (λ h. one_by_limit (value_at t o.path) fault h) (λ h. by_limit t os fault h) e

module _ (s : Stage) (t : Tree) (is : IsStage s) (there : first_of (Gone s t) s.outs ≡ None) where
  made_due : AllByRecursion (λ o. PutDue s t o ≡ Limit t o) s.made
  made_due =
      each_on (λ o. Gone s t o ≡ None) (λ o. PutDue s t o ≡ Limit t o) s.made (λ o e. due_limit s.name o (value_at t o.path) e) (each_in out_text (Gone s t) s.outs s.made is.made there)

  same_outs : first_of (PutDue s t) s.outs ≡ first_of (Limit t) s.outs
  same_outs =
      first_same (Limit t) (PutDue s t) s.outs (each_on (λ o. Gone s t o ≡ None) (λ o. PutDue s t o ≡ Limit t o) s.outs (λ o e. due_limit s.name o (value_at t o.path) e) (each_none (Gone s t) s.outs there))

  same_made : first_of (PutDue s t) s.made ≡ first_of (Limit t) s.made
  same_made = first_same (Limit t) (PutDue s t) s.made made_due

  pub due_each : present_fault s t ≡ None → AllByRecursion (λ o. PutDue s t o ≡ None) s.made
  due_each small =
      each_two (λ o. PutDue s t o ≡ Limit t o) (λ o. Limit t o ≡ None) (λ o. PutDue s t o ≡ None) s.made (λ o d l. d ∙ l) made_due (each_in out_text (Limit t) s.outs s.made is.made small)

  pub ok_due : first_of (PutDue s t) s.made ≡ None → first_of (Limit t) s.outs ≡ None
  ok_due none =
      none_in out_text (Limit t) s.outs s.made is.made (each_none (Limit t) s.made (sym same_made ∙ none))

  pub other_due : (u : Tree) (fault : Fault) → is_by_limit fault ≡ false → IsAnswerAt u (Some fault) (first_of (PutDue s t) s.made) → IsAnswerAt u (Some fault) (first_of (Limit t) s.outs)
  other_due u fault other (inl (inl free)) = inl (inl free)
  other_due u fault other (inl (inr due)) =
      absurd (false≢true (sym other ∙ by_limit t s.made fault (sym same_made ∙ due)))
  other_due u fault other (inr barred) = inr barred

  pub first_due : (fault : Fault) → IsAnswer (Some fault) (first_of (PutDue s t) s.outs) → IsAnswer (Some fault) (first_of (Limit t) s.outs)
  first_due fault answer = subst (IsAnswer (Some fault)) same_outs answer

  pub stands_due : (u : Tree) (fault : Fault) → first_of (PutDue s t) s.outs ≡ None → IsAnswerAt u (Some fault) (first_of (PutDue s t) s.made) → IsAnswerAt u (Some fault) (first_of (Limit t) s.outs)
  stands_due u fault none (inl (inl free)) = inl (inl free)
  stands_due u fault none (inl (inr due)) =
      absurd (clash (sym (none_each (PutDue s t) s.made (each_in out_text (PutDue s t) s.outs s.made is.made none)) ∙ due))
    where
      clash : None ≡ Some fault → ⊥
      clash e = absurd (cc)
  stands_due u fault none (inr barred) = inr barred

-- ---- later

module _ (s : Stage) (m n : Moment) (is : IsStage s) (kept : IsKept is_own s) (since : InStored m n) where
  pub gone_later : first_of (Gone s n.tree) s.outs ≡ first_of (Gone s m.tree) s.outs
  gone_later =
      first_same (Gone s m.tree) (Gone s n.tree) s.outs (each_on (λ o. value_at n.tree o.path ≡ value_at m.tree o.path) (λ o. Gone s n.tree o ≡ Gone s m.tree o) s.outs (λ o e. ap (refused_out s.name o) e) (stored_outs s m n is kept since))

  pub limit_later : first_of (Limit n.tree) s.outs ≡ first_of (Limit m.tree) s.outs
  limit_later =
      first_same (Limit m.tree) (Limit n.tree) s.outs (each_on (λ o. value_at n.tree o.path ≡ value_at m.tree o.path) (λ o. Limit n.tree o ≡ Limit m.tree o) s.outs (λ o e. ap limit_fault e) (stored_outs s m n is kept since))

  pub due_later : first_of (PutDue s n.tree) s.made ≡ first_of (PutDue s m.tree) s.made
  due_later =
      first_same (PutDue s m.tree) (PutDue s n.tree) s.made (each_on (λ o. value_at n.tree o.path ≡ value_at m.tree o.path) (λ o. PutDue s n.tree o ≡ PutDue s m.tree o) s.made (λ o e. ap (put_due s.name o) e) (stored_made s m n kept since))
