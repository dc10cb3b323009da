-- What is due, beside the turns that were taken.
--     IsWaiting own done ss     what is asked of stages that have their turns, one after another
--     due_law                   the choices met are a front of those that are due, and no refusal was due so far
--     front_due                 the same of a plan of stages of which some have had their turns
use Rattle.std.proofs.Common.{◌≡◌, ◌≢◌, Bool, true, false, cond, ◌||◌, List, [], ◌∷◌, ◌++◌, refl, sym, ap, subst, ◌∙◌, Option, Some, None, is_some, Ok}
use Rattle.std.specs.List.{AllByRecursion}
use Rattle.dvc_base.specs.Path.{Path}
use Rattle.dvc_base.specs.declared.data.ParamFile.{ParamFile}
use Rattle.dvc_base.specs.declared.fault.Fault.{Fault}
use Rattle.world_api.specs.Tree.{Tree, IsTree}
use Rattle.world_api.specs.Effect.{Effect}
use Rattle.world_api.specs.declared.job.Job.{Job}
use Rattle.lock_files.specs.declared.entry.Entry.{Entry}
use Rattle.lock_files.specs.Book.{entry_of}
use Rattle.repro_laws.specs.Stage.{stage_outs, params_at, job_with}
use Rattle.repro_laws.specs.Entries.{seen_at}
use Rattle.repro_laws.specs.Choices.{is_same_as}
use Rattle.repro_laws.specs.Refusals.{first_fault, see_fault}
use Rattle.repro_laws.specs.Due.{Standing, standing_of, Due, choice_at, params_or_none, params_in, chosen_in, next_in, following, due_in, due, choice_fault, turn_fault, fault_of}
use Rattle.repro_laws.specs.Turns.{State, Leaves, Turn, Turns, stages_of}
use Rattle.repro_laws.specs.Headline.{IsOwn}
use Rattle.repro_laws.specs.declared.stage.Stage.{Stage}
use Rattle.repro_laws.specs.declared.stage.Flags.{Flags}
use Rattle.repro_laws.specs.declared.stage.Choice.{Choice}
use Rattle.repro_laws.specs.declared.stage.Choice.TheVariants.{Skip, Restore, Run}
use Rattle.repro_laws.proofs.FileLemmas.{Roads, roads_tree}
use Rattle.repro_laws.proofs.AlikeLemmas.{Alike}
use Rattle.repro_laws.proofs.SeenLemmas.{params_alike, see_alike, plain_choice, chosen_plain}
use Rattle.repro_laws.proofs.DueLemmas.{IsLater, Related, chosen_alike, due_same, fault_same}
use Rattle.repro_laws.proofs.TurnDue.{PutLaw, IsTurning, IsNext, run_due, skip_due, roads_of}

-- ---- one turn

-- where nothing is restored, a choice is a skip or a run
pub none_restored : (forced same : Bool) (from : Option Entry) → ◌≡◌ {A = Choice × Option Entry} (cond forced (Run, None) (cond same (Skip, None) (Run, None))) (Restore, from) → ⊥
none_restored true same from e = other (ap (λ (x : Choice × Option Entry). x.0) e)
  where
    other : Run ≡ Restore → ⊥
    other e = absurd (cc)
none_restored false true from e = other (ap (λ (x : Choice × Option Entry). x.0) e)
  where
    other : Skip ≡ Restore → ⊥
    other e = absurd (cc)
none_restored false false from e = other (ap (λ (x : Choice × Option Entry). x.0) e)
  where
    other : Run ≡ Restore → ⊥
    other e = absurd (cc)

no_entry : (forced same : Bool) (c : Choice) (from : Option Entry) → ◌≡◌ {A = Choice × Option Entry} (cond forced (Run, None) (cond same (Skip, None) (Run, None))) (c, from) → from ≡ None
no_entry true same c from e = sym (ap (λ (x : Choice × Option Entry). x.1) e)
no_entry false true c from e = sym (ap (λ (x : Choice × Option Entry). x.1) e)
no_entry false false c from e = sym (ap (λ (x : Choice × Option Entry). x.1) e)

due_of : Stage → Choice → Job → Due
due_of s c j = record { stage = s; choice = c; job = j }

-- the outputs that are done after stages have had their turns
abbrev pub done_after : List Path → List Stage → List Path
done_after done [] = done
done_after done (s ∷ ss) = done_after (done ++ stage_outs s) ss

abbrev pub IsWaiting : (Path → Bool) → List Path → List Stage → Type 0
IsWaiting own done [] = Unit {0}
IsWaiting own done (s ∷ ss) = IsTurning own done s × IsWaiting own (done ++ stage_outs s) ss

module _ (own : Path → Bool) (area : IsOwn own) (law : PutLaw) (flags : Flags) (effect : Effect) (none : flags.run_cache ≡ false) where
  -- the choice was made where things stand, and so it is in the standing
  pub record IsChosen (d : Due) (from : Option Entry) (st : Standing) : Type 0 where
    pub empty : from ≡ None
    pub chosen : chosen_in flags d.stage st ≡ (d.choice, from)
    pub plain : d.choice ≢ Restore

  chosen_taken : (done : List Path) (d : Due) (m n : State) (st : Standing) → IsLater own done d.stage → Related own done (standing_of m.tree m.lock) st → (turn : Turn own flags effect d m n) → IsChosen d turn.from st
  unfolding plain_choice
  chosen_taken done d m n st later related turn =
      let s = d.stage in
      let here = standing_of m.tree m.lock in
      let same : chosen_in flags s here ≡ (d.choice, turn.from) =
      ap (λ x. choice_at flags s x here) (ap params_or_none turn.read) ∙ turn.chosen in
      let forced = flags.force || s.always in
      let seen = seen_at s (params_in s here) m.tree in
      let told = is_same_as (entry_of m.lock s.name) seen in
      let by : plain_choice flags s seen m.lock ≡ (d.choice, turn.from) = sym (chosen_plain flags s here none) ∙ same in
      record {
        empty = no_entry forced told d.choice turn.from by;
        chosen = chosen_alike own done area flags s here st none later related ∙ same;
        plain = λ e. none_restored forced told turn.from (by ∙ ap (λ (c : Choice). (c, turn.from)) e);
      }

  next_by : (done : List Path) (s : Stage) (turning : IsTurning own done s) (ps : List ParamFile) (c : Choice) (from : Option Entry) (m n : State) (st : Standing) → IsTree m.tree → IsTree n.tree → params_at s m.tree ≡ Ok ps → see_fault s m.tree ≡ None → Related own done (standing_of m.tree m.lock) st → Roads st.tree → c ≢ Restore → from ≡ None → chosen_in flags s st ≡ (c, from) → Leaves own effect s ps c from m n → IsNext own area done s turning flags effect n st
  next_by done s turning ps Skip from m n st tm tn read see related kept plain none chosen left =
      skip_due own area done s turning flags effect m n st tm tn related kept (chosen ∙ ap (λ (o : Option Entry). (Skip, o)) none) left
  next_by done s turning ps Restore from m n st tm tn read see related kept plain none chosen left = absurd (plain refl)
  next_by done s turning ps Run from m n st tm tn read see related kept plain none chosen left =
      run_due own area done s turning law flags effect ps m n st tm tn read see related kept (chosen ∙ ap (λ (o : Option Entry). (Run, o)) none) left

  next_taken : (done : List Path) (d : Due) (turning : IsTurning own done d.stage) (m n : State) (st : Standing) → IsTree m.tree → Related own done (standing_of m.tree m.lock) st → Roads st.tree → Turn own flags effect d m n → IsNext own area done d.stage turning flags effect n st
  next_taken done d turning m n st tm related kept turn =
      let s = d.stage in
      let c = chosen_taken done d m n st turning.later related turn in
      next_by done s turning turn.params d.choice turn.from m n st tm turn.stands turn.read turn.seen related kept c.plain c.empty c.chosen turn.left

  due_taken : (done : List Path) (d : Due) (turning : IsTurning own done d.stage) (m n : State) (st : Standing) → Related own done (standing_of m.tree m.lock) st → Turn own flags effect d m n → due_in flags d.stage st ≡ d
  unfolding due_of
  due_taken done d turning m n st related turn =
      let s = d.stage in
      let c = chosen_taken done d m n st turning.later related turn in
      let ps : params_in s st ≡ turn.params = ap params_or_none (params_alike own done s m.tree st.tree turning.later.seen related.trees ∙ turn.read) in
      ap (λ (x : Choice × Option Entry). due_of s x.0 (job_with s (params_in s st))) c.chosen ∙ ap (λ x. due_of s d.choice (job_with s x)) ps ∙ ap (due_of s d.choice) (sym turn.job)

  seen_taken : (done : List Path) (d : Due) (turning : IsTurning own done d.stage) (m n : State) (st : Standing) → Related own done (standing_of m.tree m.lock) st → Turn own flags effect d m n → see_fault d.stage st.tree ≡ None
  seen_taken done d turning m n st related turn =
      see_alike own done d.stage m.tree st.tree turning.later.seen related.trees ∙ turn.seen

  -- ---- what is due of a list that begins with the stage

  due_one : (s : Stage) (ss : List Stage) (st next : Standing) (d : Due) → see_fault s st.tree ≡ None → due_in flags s st ≡ d → next_in flags effect s st ≡ Some next → due flags effect (s ∷ ss) st ≡ d ∷ due flags effect ss next
  due_one s ss st next d see here step =
      let all = due_in flags s st ∷ following (due flags effect ss) [] (next_in flags effect s st) in
      ap (λ (o : Option Fault). cond (is_some o) [] all) see ∙ ap (λ x. x ∷ following (due flags effect ss) [] (next_in flags effect s st)) here ∙ ap (λ o. d ∷ following (due flags effect ss) [] o) step

  fault_one : (s : Stage) (ss : List Stage) (st next : Standing) → see_fault s st.tree ≡ None → choice_fault effect s (params_in s st) (chosen_in flags s st).0 st.tree ≡ None → next_in flags effect s st ≡ Some next → fault_of flags effect (s ∷ ss) st ≡ fault_of flags effect ss next
  fault_one s ss st next see quiet step =
      let turn : turn_fault flags effect s st ≡ None =
      ap (λ o. first_fault o (choice_fault effect s (params_in s st) (chosen_in flags s st).0 st.tree)) see ∙ quiet in
      ap (λ o. first_fault o (following (fault_of flags effect ss) None (next_in flags effect s st))) turn ∙ ap (following (fault_of flags effect ss) None) step

  -- ---- turns

  pub record HasDue (done : List Path) (ds : List Due) (others : List Stage) (n : State) (st : Standing) : Type 0 where
    pub reached : Standing
    pub due : due flags effect (stages_of ds ++ others) st ≡ ds ++ due flags effect others reached
    pub fault : fault_of flags effect (stages_of ds ++ others) st ≡ fault_of flags effect others reached
    pub related : Related own (done_after done (stages_of ds)) (standing_of n.tree n.lock) reached

  pub due_law : (done : List Path) (ds : List Due) (others : List Stage) (m n : State) (st : Standing) → IsWaiting own done (stages_of ds) → IsTree m.tree → Turns own flags effect ds m n → Related own done (standing_of m.tree m.lock) st → Roads st.tree → HasDue done ds others n st
  due_law done [] others m n st waiting tree turns related kept =
      record {
        reached = st;
        due = refl;
        fault = refl;
        related = subst (λ (x : State). Related own done (standing_of x.tree x.lock) st) (sym turns) related;
      }
  due_law done (d ∷ ds) others m n st waiting tree turns related kept =
      let s = d.stage in
      let k = turns.0 in
      let turn = turns.1 in
      let turning = waiting.0 in
      let next = next_taken done d turning m k st tree related kept turn in
      let see = seen_taken done d turning m k st related turn in
      let rest = due_law (done ++ stage_outs s) ds others k n next.next waiting.1 turn.stands turns.2 next.related next.roads in
      record {
        reached = rest.reached;
        due = due_one s (stages_of ds ++ others) st next.next d see (due_taken done d turning m k st related turn) next.step ∙ ap (λ l. d ∷ l) rest.due;
        fault = fault_one s (stages_of ds ++ others) st next.next see next.fault next.step ∙ rest.fault;
        related = rest.related;
      }

  alike_itself : (t : Tree) → IsTree t → Alike own [] t t
  alike_itself t tree = record { files = λ q k. refl; kinds = λ q k out. refl; roads = roads_of [] t tree; roads_too = roads_of [] t tree }

  -- what is due of all is what was met, and then what is due of the others where things stand
  pub front_due : (ds : List Due) (others : List Stage) (m n : State) → IsWaiting own [] (stages_of ds) → AllByRecursion (IsLater own (done_after [] (stages_of ds))) others → IsTree m.tree → Turns own flags effect ds m n → (due flags effect (stages_of ds ++ others) (standing_of m.tree m.lock) ≡ ds ++ due flags effect others (standing_of n.tree n.lock)) × (fault_of flags effect (stages_of ds ++ others) (standing_of m.tree m.lock) ≡ fault_of flags effect others (standing_of n.tree n.lock))
  front_due ds others m n waiting later tree turns =
      let here = standing_of m.tree m.lock in
      let has = due_law [] ds others m n here waiting tree turns (record { trees = alike_itself m.tree tree; locks = refl }) (roads_tree m.tree tree) in
      let all = done_after [] (stages_of ds) in (
        has.due ∙ ap (λ l. ds ++ l) (due_same own all area flags effect others (standing_of n.tree n.lock) has.reached none later has.related),
        has.fault ∙ fault_same own all area flags effect others (standing_of n.tree n.lock) has.reached none later has.related,
      )
