-- What is due of the stages of a plan of which a front has had its turns.
--     plan_due     what was met, and then what is due of the others where things stand
--     all_due      where all have had their turns
use Rattle.std.proofs.Common.{◌≡◌, Bool, false, List, [], ◌++◌, sym, ap, ◌∙◌, append-nil, None}
use Rattle.dvc_base.specs.Path.{Path}
use Rattle.world_api.specs.Tree.{IsTree}
use Rattle.world_api.specs.Effect.{Effect}
use Rattle.repro_laws.specs.Due.{Due, standing_of, due, fault_of}
use Rattle.repro_laws.specs.Turns.{State, Turns, stages_of}
use Rattle.repro_laws.specs.Headline.{IsOwn, IsPlanned}
use Rattle.repro_laws.specs.declared.stage.Stage.{Stage}
use Rattle.repro_laws.specs.declared.stage.Flags.{Flags}
use Rattle.repro_laws.proofs.TurnDue.{PutLaw}
use Rattle.repro_laws.proofs.DueLaw.{front_due}
use Rattle.repro_laws.proofs.WaitLemmas.{waiting_planned}

pub record IsDue (flags : Flags) (effect : Effect) (ds : List Due) (others : List Stage) (old new : State) : Type 0 where
  pub due : due flags effect (stages_of ds ++ others) (standing_of old.tree old.lock) ≡ ds ++ due flags effect others (standing_of new.tree new.lock)
  pub fault : fault_of flags effect (stages_of ds ++ others) (standing_of old.tree old.lock) ≡ fault_of flags effect others (standing_of new.tree new.lock)

pub plan_due : PutLaw → (own : Path → Bool) (flags : Flags) (effect : Effect) (ds : List Due) (others : List Stage) (old new : State) → IsOwn own → flags.run_cache ≡ false → IsPlanned own (stages_of ds ++ others) → IsTree old.tree → Turns own flags effect ds old new → IsDue flags effect ds others old new
plan_due law own flags effect ds others old new area none plan tree turns =
    let waiting = waiting_planned own (stages_of ds) others plan in
    let parts = front_due own area law flags effect none ds others old new waiting.0 waiting.1 tree turns in
    record { due = parts.0; fault = parts.1 }

pub record IsAllDue (flags : Flags) (effect : Effect) (ds : List Due) (old : State) : Type 0 where
  pub due : ds ≡ due flags effect (stages_of ds) (standing_of old.tree old.lock)
  pub fault : fault_of flags effect (stages_of ds) (standing_of old.tree old.lock) ≡ None

pub all_due : PutLaw → (own : Path → Bool) (flags : Flags) (effect : Effect) (ds : List Due) (old new : State) → IsOwn own → flags.run_cache ≡ false → IsPlanned own (stages_of ds ++ []) → IsTree old.tree → Turns own flags effect ds old new → IsAllDue flags effect ds old
all_due law own flags effect ds old new area none plan tree turns =
    let here = standing_of old.tree old.lock in
    let whole = append-nil (stages_of ds) in
    let all = plan_due law own flags effect ds [] old new area none plan tree turns in
    record {
      due = sym (ap (λ (l : List Stage). due flags effect l here) (sym whole) ∙ all.due ∙ append-nil ds);
      fault = ap (λ (l : List Stage). fault_of flags effect l here) (sym whole) ∙ all.fault;
    }
