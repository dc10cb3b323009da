-- One stage alone.
--     lone_fault        the refusal of one stage is that of its turn
--     lone_due          its turn is all that is due, where all of it is seen
--     lone_refused      and nothing is, where something can't be
use Rattle.std.proofs.Common.{◌≡◌, cond, List, [], ◌∷◌, refl, ap, ◌∙◌, Option, Some, None, is_some}
use Rattle.dvc_base.specs.declared.fault.Fault.{Fault}
use Rattle.world_api.specs.Effect.{Effect}
use Rattle.repro_laws.specs.Refusals.{first_fault, see_fault}
use Rattle.repro_laws.specs.Due.{Standing, Due, next_in, following, due_in, due, turn_fault, fault_of}
use Rattle.repro_laws.specs.declared.stage.Stage.{Stage}
use Rattle.repro_laws.specs.declared.stage.Flags.{Flags}

ends : {A : Type 0} (a : A) (o : Option Standing) → following (λ st. a) a o ≡ a
ends a None = refl
ends a (Some st) = refl

first_alone : (o : Option Fault) → first_fault o None ≡ o
first_alone None = refl
first_alone (Some fault) = refl

module _ (flags : Flags) (effect : Effect) (s : Stage) (st : Standing) where
  pub lone_fault : fault_of flags effect (s ∷ []) st ≡ turn_fault flags effect s st
  lone_fault =
      ap (first_fault (turn_fault flags effect s st)) (ends {A = Option Fault} None (next_in flags effect s st)) ∙ first_alone (turn_fault flags effect s st)

  lone_by : Option Fault → List Due
  lone_by o = cond (is_some o) [] (due_in flags s st ∷ following (due flags effect []) [] (next_in flags effect s st))

  pub lone_due : see_fault s st.tree ≡ None → due flags effect (s ∷ []) st ≡ due_in flags s st ∷ []
  unfolding lone_by
  lone_due e =
      ap lone_by e ∙ ap (λ ds. due_in flags s st ∷ ds) (ends {A = List Due} [] (next_in flags effect s st))

  pub lone_refused : (fault : Fault) → see_fault s st.tree ≡ Some fault → due flags effect (s ∷ []) st ≡ []
  unfolding lone_by
  lone_refused fault e = ap lone_by e
