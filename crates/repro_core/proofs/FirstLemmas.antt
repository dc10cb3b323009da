-- What is due of the first of some stages.
--     first_due       what is due of it alone comes first
--     last_due        and nothing follows where its turn is refused
--     first_refused   which is the refusal of all
--     begins_seen     where nothing is due it can't be seen
--     taken_due       after its turn, that turn is what was due
use Rattle.std.proofs.Common.{◌≡◌, cond, List, [], ◌∷◌, ◌++◌, refl, sym, ap, ◌∙◌, Option, Some, None, is_some, IsSome}
use Rattle.dvc_base.specs.declared.data.ParamFile.{ParamFile}
use Rattle.dvc_base.specs.declared.fault.Fault.{Fault}
use Rattle.world_api.specs.Tree.{Tree}
use Rattle.world_api.specs.Effect.{Effect}
use Rattle.world_api.specs.declared.job.Job.{Job}
use Rattle.lock_files.specs.declared.entry.Entry.{Entry}
use Rattle.lock_files.specs.Book.{Lock}
use Rattle.repro_laws.specs.Stage.{job_with}
use Rattle.repro_laws.specs.Refusals.{first_fault, see_fault, run_fault}
use Rattle.repro_laws.specs.Due.{Standing, Due, standing_of, choice_at, standing_next, params_or_none, params_in, chosen_in, next_in, following, due_in, due, choice_fault, turn_fault, fault_of}
use Rattle.repro_laws.specs.Turns.{State, state, Turn}
use Rattle.repro_laws.specs.Moments.{is_own}
use Rattle.repro_laws.specs.declared.stage.Stage.{Stage}
use Rattle.repro_laws.specs.declared.stage.Flags.{Flags}
use Rattle.repro_laws.specs.declared.stage.Choice.{Choice}
use Rattle.repro_laws.specs.declared.stage.Choice.TheVariants.{Skip, Restore, Run}
use Rattle.repro_laws.proofs.LoneLemmas.{lone_due}
use Rattle.repro_laws.proofs.TurnLaw.{chosen_first}

-- ---- a list after its first

pub record HasMore (whole front : List Due) : Type 0 where
  pub more : List Due
  pub cut : whole ≡ front ++ more

ends : (o : Option Standing) → following {A = List Due} (λ st. []) [] o ≡ []
ends None = refl
ends (Some st) = refl

begins : (o : Option Fault) (d : Due) (later one : List Due) → one ≡ [] → HasMore (cond (is_some o) [] (d ∷ later)) (cond (is_some o) [] (d ∷ one))
begins (Some fault) d later one none = record { more = []; cut = refl }
begins None d later one none = record { more = later; cut = ap (λ (l : List Due). (d ∷ l) ++ later) (sym none) }

none_by : (o : Option Fault) (d : Due) (later : List Due) → cond (is_some o) [] (d ∷ later) ≡ [] → IsSome o
none_by (Some fault) d later e = refl
none_by None d later e = absurd (cc)

none_if : (o : Option Fault) (fault : Fault) (later : Option Standing) → o ≡ Some fault → cond (is_some o) None later ≡ None
none_if o fault later e = ap (λ (q : Option Fault). cond (is_some q) None later) e

-- a run that is refused leaves nothing to follow
none_next : (effect : Effect) (s : Stage) (ps : List ParamFile) (c : Choice × Option Entry) (st : Standing) (fault : Fault) → choice_fault effect s ps c.0 st.tree ≡ Some fault → standing_next effect s ps c st ≡ None
none_next effect s ps (Skip, from) st fault e = absurd (cc)
none_next effect s ps (Restore, from) st fault e = absurd (cc)
none_next effect s ps (Run, from) st fault e = none_if (run_fault effect s ps st.tree) fault _ e

last_by : (effect : Effect) (s : Stage) (ps : List ParamFile) (c : Choice × Option Entry) (st : Standing) (fault : Fault) (o : Option Fault) (d : Due) (rest : Standing → List Due) → first_fault o (choice_fault effect s ps c.0 st.tree) ≡ Some fault → cond (is_some o) [] (d ∷ following rest [] (standing_next effect s ps c st)) ≡ cond (is_some o) [] (d ∷ following (λ st. []) [] (standing_next effect s ps c st))
last_by effect s ps c st fault (Some seen) d rest e = refl
last_by effect s ps c st fault None d rest e =
    let stops = none_next effect s ps c st fault e in
    ap (λ (o : Option Standing). d ∷ following rest [] o) stops ∙ sym (ap (λ (l : List Due). d ∷ l) (ends (standing_next effect s ps c st)))

module _ (flags : Flags) (effect : Effect) (s : Stage) (rest : List Stage) (st : Standing) where
  pub first_due : HasMore (due flags effect (s ∷ rest) st) (due flags effect (s ∷ []) st)
  first_due =
      begins (see_fault s st.tree) (due_in flags s st) (following (due flags effect rest) [] (next_in flags effect s st)) (following (due flags effect []) [] (next_in flags effect s st)) (ends (next_in flags effect s st))

  pub last_due : (fault : Fault) → turn_fault flags effect s st ≡ Some fault → due flags effect (s ∷ rest) st ≡ due flags effect (s ∷ []) st
  last_due fault e =
      last_by effect s (params_in s st) (chosen_in flags s st) st fault (see_fault s st.tree) (due_in flags s st) (due flags effect rest) e

  pub first_refused : (fault : Fault) → turn_fault flags effect s st ≡ Some fault → fault_of flags effect (s ∷ rest) st ≡ Some fault
  first_refused fault e =
      ap (λ (o : Option Fault). first_fault o (following (fault_of flags effect rest) None (next_in flags effect s st))) e

  pub begins_seen : due flags effect (s ∷ rest) st ≡ [] → IsSome (see_fault s st.tree)
  begins_seen e =
      none_by (see_fault s st.tree) (due_in flags s st) (following (due flags effect rest) [] (next_in flags effect s st)) e

-- ---- a turn that was taken

due_with : Stage → Choice → Job → Due
due_with s choice job = record { stage = s; choice = choice; job = job }

pub taken_due : (flags : Flags) (effect : Effect) (s : Stage) (d : Due) (t : Tree) (lock : Lock) (n : State) → d.stage ≡ s → Turn is_own flags effect d (state t lock) n → due flags effect (s ∷ []) (standing_of t lock) ≡ d ∷ []
unfolding due_with
taken_due flags effect s d t lock n its turn =
    let st = standing_of t lock in
    let own = d.stage in
    let params : params_in own st ≡ turn.params = ap params_or_none turn.read in
    let chosen : (chosen_in flags own st).0 ≡ d.choice =
    ap (λ (ps : List ParamFile). (choice_at flags own ps st).0) params ∙ chosen_first (choice_at flags own turn.params st) d.choice turn.from turn.chosen in
    let job : job_with own (params_in own st) ≡ d.job = ap (job_with own) params ∙ sym turn.job in
    let same : due_in flags own st ≡ d =
    ap (λ (c : Choice). due_with own c (job_with own (params_in own st))) chosen ∙ ap (due_with own d.choice) job in
    ap (λ (x : Stage). due flags effect (x ∷ []) st) (sym its) ∙ lone_due flags effect own st turn.seen ∙ ap (λ (x : Due). x ∷ []) same
