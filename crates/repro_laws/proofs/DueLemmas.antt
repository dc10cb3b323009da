-- What is due in two standings that show the same.
--     Related own done a b     the trees show the same, and the locks are equal
--     IsLater own done s       what that asks of a stage whose turn may come
--     due_same, fault_same     what is due of the stages to come
use Rattle.std.proofs.Common.{◌≡◌, ◌≢◌, Bool, true, false, cond, ◌||◌, List, [], ◌∷◌, refl, sym, ap, subst, ◌∙◌, Option, Some, None, is_some, option_map, Result, Ok, Err}
use Rattle.std.specs.List.{AllByRecursion, list_any}
use Rattle.std.proofs.lemmas.Bool.{false≢true}
use Rattle.dvc_base.specs.Path.{Path}
use Rattle.dvc_base.specs.declared.data.ParamFile.{ParamFile}
use Rattle.dvc_base.specs.declared.fault.Fault.{Fault}
use Rattle.world_api.specs.Tree.{Tree}
use Rattle.world_api.specs.Effect.{Effect, Outcome, fails, gives, invocation_of}
use Rattle.world_api.specs.declared.job.Job.{Job}
use Rattle.lock_files.specs.declared.entry.Entry.{Entry}
use Rattle.lock_files.specs.Book.{entry_of}
use Rattle.repro_laws.specs.Stage.{stage_outs, dep_value, is_nothing, params_at, job_with}
use Rattle.repro_laws.specs.Anew.{without, with_folders, is_blocked, put_values, after_outcome, run_with, anew_step}
use Rattle.repro_laws.specs.Entries.{seen_at, entry_at}
use Rattle.repro_laws.specs.Choices.{is_same_as}
use Rattle.repro_laws.specs.Refusals.{first_fault, see_fault, run_fault}
use Rattle.repro_laws.specs.Due.{Standing, Due, with_entry, after_skip, after_run, run_next, standing_next, params_or_none, params_in, chosen_in, next_in, following, due_in, due, choice_fault, turn_fault, fault_of}
use Rattle.repro_laws.specs.Headline.{IsOwn}
use Rattle.repro_laws.specs.declared.stage.Stage.{Stage}
use Rattle.repro_laws.specs.declared.stage.Flags.{Flags}
use Rattle.repro_laws.specs.declared.stage.Choice.{Choice}
use Rattle.repro_laws.specs.declared.stage.Choice.TheVariants.{Skip, Restore, Run}
use Rattle.repro_laws.proofs.AlikeLemmas.{Alike, each_on}
use Rattle.repro_laws.proofs.GrowLemmas.{IsFree, own_free, blocked_alike, alike_folders, alike_values, alike_without}
use Rattle.repro_laws.proofs.SeenLemmas.{IsSeenIn, AreThere, deps_there, any_same, any_false, params_alike, see_alike, seen_alike, entry_alike, invocation_alike, run_fault_alike, missing_alike, plain_choice, chosen_plain}

-- a stage whose turn may come
pub record IsLater (own : Path → Bool) (done : List Path) (s : Stage) : Type 0 where
  pub seen : IsSeenIn own done s
  pub free : AllByRecursion (IsFree own done) (stage_outs s)

pub record Related (own : Path → Bool) (done : List Path) (a b : Standing) : Type 0 where
  pub trees : Alike own done a.tree b.tree
  pub locks : b.lock ≡ a.lock

module _ (own : Path → Bool) (done : List Path) (area : IsOwn own) where
  -- both are there, and show the same, or neither is
  abbrev pub AreTrees : Option Tree → Option Tree → Type 0
  AreTrees None None = Unit {0}
  AreTrees None (Some u) = ⊥
  AreTrees (Some t) None = ⊥
  AreTrees (Some t) (Some u) = Alike own done t u

  abbrev pub AreStandings : Option Standing → Option Standing → Type 0
  AreStandings None None = Unit {0}
  AreStandings None (Some b) = ⊥
  AreStandings (Some a) None = ⊥
  AreStandings (Some a) (Some b) = Related own done a b

  trees_unless : (b c : Bool) (x y : Option Tree) → c ≡ b → (b ≡ false → AreTrees x y) → AreTrees (cond b None x) (cond c None y)
  trees_unless true true x y e h = tt
  trees_unless true false x y e h = absurd (false≢true e)
  trees_unless false true x y e h = absurd (false≢true (sym e))
  trees_unless false false x y e h = h refl

  standings_unless : (b c : Bool) (x y : Option Standing) → c ≡ b → AreStandings x y → AreStandings (cond b None x) (cond c None y)
  standings_unless true true x y e h = tt
  standings_unless true false x y e h = absurd (false≢true e)
  standings_unless false true x y e h = absurd (false≢true (sym e))
  standings_unless false false x y e h = h

  -- ---- a run

  outcome_alike : (t u : Tree) (outs : List Path) (outcome : Outcome) → AllByRecursion (IsFree own done) outs → Alike own done t u → AreTrees (after_outcome t outs outcome) (after_outcome u outs outcome)
  outcome_alike t u outs (fails code) free a = tt
  outcome_alike t u outs (gives values) free a =
      let left = put_values t outs values in
      let right = put_values u outs values in
      let both = alike_values own done area t u outs values free a in
      trees_unless (list_any is_nothing values) (list_any is_nothing values) (cond (list_any (is_blocked left []) outs) None (Some left)) (cond (list_any (is_blocked right []) outs) None (Some right)) refl
      (λ h. trees_unless (list_any (is_blocked left []) outs) (list_any (is_blocked right []) outs) (Some left) (Some right) (any_same (is_blocked left []) (is_blocked right []) outs (each_on (IsFree own done) (λ p. is_blocked right [] p ≡ is_blocked left [] p) outs (λ p f. blocked_alike own done area left right [] p both (own_free own done p f)) free)) (λ g. both))

  run_alike : (effect : Effect) (s : Stage) (t u : Tree) (read : Result (List ParamFile) Fault) → IsLater own done s → Alike own done t u → AreThere t s → AreTrees (run_with effect s t read) (run_with effect s u read)
  run_alike effect s t u (Err why) later a there = tt
  run_alike effect s t u (Ok ps) later a there =
      let from = with_folders t [] s.dir in
      let to = with_folders u [] s.dir in
      subst (λ i. AreTrees (run_with effect s t (Ok ps)) (after_outcome to (stage_outs s) (effect i))) (sym (invocation_alike own done s t u later.seen a ps there))
      (outcome_alike from to (stage_outs s) (effect (invocation_of (job_with s ps) t)) later.free (alike_folders own done area t u [] s.dir a later.seen.kept.dir))

  step_alike : (effect : Effect) (s : Stage) (t u : Tree) → IsLater own done s → Alike own done t u → AreTrees (anew_step effect s t) (anew_step effect s u)
  step_alike effect s t u later a =
      trees_unless (list_any (λ d. is_nothing (dep_value t d)) s.deps) (list_any (λ d. is_nothing (dep_value u d)) s.deps) (run_with effect s t (params_at s t)) (run_with effect s u (params_at s u)) (missing_alike own done s t u later.seen a)
      (λ h. subst (λ x. AreTrees (run_with effect s t (params_at s t)) (run_with effect s u x)) (sym (params_alike own done s t u later.seen a))
      (run_alike effect s t u (params_at s t) later a (any_false (λ d. is_nothing (dep_value t d)) s.deps h)))

  after_alike : (s : Stage) (ps : List ParamFile) (a b : Standing) (x y : Option Tree) → IsLater own done s → b.lock ≡ a.lock → AreTrees x y → AreStandings (option_map (after_run s ps a) x) (option_map (after_run s ps b) y)
  after_alike s ps a b None None later locks h = tt
  after_alike s ps a b None (Some u) later locks h = absurd h
  after_alike s ps a b (Some t) None later locks h = absurd h
  after_alike s ps a b (Some t) (Some u) later locks h =
      record {
        trees = h;
        locks = ap (λ l. with_entry l s.name (entry_at s ps u)) locks ∙ ap (with_entry a.lock s.name) (entry_alike own done s t u later.seen h ps);
      }

  roots_free : (ps : List Path) → AllByRecursion (IsFree own done) ps → AllByRecursion (λ p. p ≢ []) ps
  roots_free ps free = each_on (IsFree own done) (λ p. p ≢ []) ps (λ p f. f.root) free

  run_next_alike : (effect : Effect) (s : Stage) (ps : List ParamFile) (a b : Standing) → IsLater own done s → Related own done a b → AreThere a.tree s → AreStandings (run_next effect s ps a) (run_next effect s ps b)
  run_next_alike effect s ps a b later related there =
      let from = without a.tree (stage_outs s) in
      let to = without b.tree (stage_outs s) in
      standings_unless (is_some (run_fault effect s ps a.tree)) (is_some (run_fault effect s ps b.tree)) (option_map (after_run s ps a) (anew_step effect s from)) (option_map (after_run s ps b) (anew_step effect s to)) (ap is_some (run_fault_alike own done s a.tree b.tree later.seen related.trees area effect ps there))
      (after_alike s ps a b (anew_step effect s from) (anew_step effect s to) later related.locks (step_alike effect s from to later (alike_without own done a.tree b.tree (stage_outs s) (roots_free (stage_outs s) later.free) related.trees)))

  -- ---- a turn

  skip_alike : (s : Stage) (a b : Standing) → Related own done a b → Related own done (after_skip s a) (after_skip s b)
  skip_alike s a b related = record { trees = related.trees; locks = related.locks }

  next_by : (effect : Effect) (s : Stage) (ps : List ParamFile) (forced same : Bool) (a b : Standing) → IsLater own done s → Related own done a b → AreThere a.tree s → AreStandings (standing_next effect s ps (cond forced (Run, None) (cond same (Skip, None) (Run, None))) a) (standing_next effect s ps (cond forced (Run, None) (cond same (Skip, None) (Run, None))) b)
  next_by effect s ps true same a b later related there = run_next_alike effect s ps a b later related there
  next_by effect s ps false true a b later related there = skip_alike s a b related
  next_by effect s ps false false a b later related there = run_next_alike effect s ps a b later related there

  params_in_alike : (s : Stage) (a b : Standing) → IsLater own done s → Related own done a b → params_in s b ≡ params_in s a
  params_in_alike s a b later related = ap params_or_none (params_alike own done s a.tree b.tree later.seen related.trees)

  pub chosen_alike : (flags : Flags) (s : Stage) (a b : Standing) → flags.run_cache ≡ false → IsLater own done s → Related own done a b → chosen_in flags s b ≡ chosen_in flags s a
  chosen_alike flags s a b none later related =
      let ps = params_in s a in
      chosen_plain flags s b none
      ∙ ap (λ x. plain_choice flags s (seen_at s x b.tree) b.lock) (params_in_alike s a b later related)
      ∙ ap (plain_choice flags s (seen_at s ps b.tree)) related.locks
      ∙ ap (λ x. plain_choice flags s x a.lock) (seen_alike own done s a.tree b.tree later.seen related.trees ps)
      ∙ sym (chosen_plain flags s a none)

  next_alike : (flags : Flags) (effect : Effect) (s : Stage) (a b : Standing) → flags.run_cache ≡ false → IsLater own done s → Related own done a b → AreThere a.tree s → AreStandings (next_in flags effect s a) (next_in flags effect s b)
  unfolding plain_choice
  next_alike flags effect s a b none later related there =
      let ps = params_in s a in
      let forced = flags.force || s.always in
      let same = is_same_as (entry_of a.lock s.name) (seen_at s ps a.tree) in
      let plain = plain_choice flags s (seen_at s ps a.tree) a.lock in
      let chosen : chosen_in flags s a ≡ plain = chosen_plain flags s a none in
      let other : chosen_in flags s b ≡ plain = chosen_alike flags s a b none later related ∙ chosen in
      subst (λ c. AreStandings (standing_next effect s ps c a) (next_in flags effect s b)) (sym chosen)
      (subst (λ c. AreStandings (standing_next effect s ps plain a) (standing_next effect s (params_in s b) c b)) (sym other)
      (subst (λ x. AreStandings (standing_next effect s ps plain a) (standing_next effect s x plain b)) (sym (params_in_alike s a b later related))
      (next_by effect s ps forced same a b later related there)))

  -- ---- what follows

  following_same : {A : Type 0} (f : Standing → A) (none : A) (x y : Option Standing) → AreStandings x y → ((a b : Standing) → Related own done a b → f b ≡ f a) → following f none y ≡ following f none x
  following_same f none None None h g = refl
  following_same f none None (Some b) h g = absurd h
  following_same f none (Some a) None h g = absurd h
  following_same f none (Some a) (Some b) h g = g a b h

  due_with : Stage → Choice → Job → Due
  due_with s c j = record { stage = s; choice = c; job = j }

  due_in_same : (flags : Flags) (s : Stage) (a b : Standing) → flags.run_cache ≡ false → IsLater own done s → Related own done a b → due_in flags s b ≡ due_in flags s a
  unfolding due_with
  due_in_same flags s a b none later related =
      ap (λ c. due_with s c (job_with s (params_in s b))) (ap (λ (c : Choice × Option Entry). c.0) (chosen_alike flags s a b none later related)) ∙ ap (λ ps. due_with s (chosen_in flags s a).0 (job_with s ps)) (params_in_alike s a b later related)

  due_by : (flags : Flags) (effect : Effect) (s : Stage) (ss : List Stage) (a b : Standing) (o : Option Fault) → flags.run_cache ≡ false → IsLater own done s → Related own done a b → see_fault s a.tree ≡ o → see_fault s b.tree ≡ o → ((x y : Standing) → Related own done x y → due flags effect ss y ≡ due flags effect ss x) → due flags effect (s ∷ ss) b ≡ due flags effect (s ∷ ss) a
  due_by flags effect s ss a b (Some f) none later related here there rest =
      let all : Standing → List Due = λ st. due_in flags s st ∷ following (due flags effect ss) [] (next_in flags effect s st) in
      ap (λ (o : Option Fault). cond (is_some o) [] (all b)) there ∙ sym (ap (λ (o : Option Fault). cond (is_some o) [] (all a)) here)
  due_by flags effect s ss a b None none later related here there rest =
      let all : Standing → List Due = λ st. due_in flags s st ∷ following (due flags effect ss) [] (next_in flags effect s st) in
      ap (λ (o : Option Fault). cond (is_some o) [] (all b)) there
      ∙ ap (λ d. d ∷ following (due flags effect ss) [] (next_in flags effect s b)) (due_in_same flags s a b none later related)
      ∙ ap (λ l. due_in flags s a ∷ l) (following_same (due flags effect ss) [] (next_in flags effect s a) (next_in flags effect s b) (next_alike flags effect s a b none later related (deps_there s a.tree later.seen.stage here)) rest)
      ∙ sym (ap (λ (o : Option Fault). cond (is_some o) [] (all a)) here)

  pub due_same : (flags : Flags) (effect : Effect) (ss : List Stage) (a b : Standing) → flags.run_cache ≡ false → AllByRecursion (IsLater own done) ss → Related own done a b → due flags effect ss b ≡ due flags effect ss a
  due_same flags effect [] a b none later related = refl
  due_same flags effect (s ∷ ss) a b none later related =
      due_by flags effect s ss a b (see_fault s a.tree) none later.0 related refl (see_alike own done s a.tree b.tree later.0.seen related.trees) (λ x y r. due_same flags effect ss x y none later.1 r)

  choice_fault_same : (effect : Effect) (s : Stage) (ps : List ParamFile) (c : Choice) (t u : Tree) → run_fault effect s ps u ≡ run_fault effect s ps t → choice_fault effect s ps c u ≡ choice_fault effect s ps c t
  choice_fault_same effect s ps Skip t u e = refl
  choice_fault_same effect s ps Restore t u e = refl
  choice_fault_same effect s ps Run t u e = e

  turn_fault_by : (flags : Flags) (effect : Effect) (s : Stage) (a b : Standing) (o : Option Fault) → flags.run_cache ≡ false → IsLater own done s → Related own done a b → see_fault s a.tree ≡ o → see_fault s b.tree ≡ o → turn_fault flags effect s b ≡ turn_fault flags effect s a
  turn_fault_by flags effect s a b (Some f) none later related here there =
      let later_fault : Standing → Option Fault = λ st. choice_fault effect s (params_in s st) (chosen_in flags s st).0 st.tree in
      ap (λ o. first_fault o (later_fault b)) there ∙ sym (ap (λ o. first_fault o (later_fault a)) here)
  turn_fault_by flags effect s a b None none later related here there =
      let later_fault : Standing → Option Fault = λ st. choice_fault effect s (params_in s st) (chosen_in flags s st).0 st.tree in
      let run = run_fault_alike own done s a.tree b.tree later.seen related.trees area effect (params_in s a) (deps_there s a.tree later.seen.stage here) in
      ap (λ o. first_fault o (later_fault b)) there
      ∙ ap (λ ps. choice_fault effect s ps (chosen_in flags s b).0 b.tree) (params_in_alike s a b later related)
      ∙ ap (λ (c : Choice × Option Entry). choice_fault effect s (params_in s a) c.0 b.tree) (chosen_alike flags s a b none later related)
      ∙ choice_fault_same effect s (params_in s a) (chosen_in flags s a).0 a.tree b.tree run
      ∙ sym (ap (λ o. first_fault o (later_fault a)) here)

  turn_fault_same : (flags : Flags) (effect : Effect) (s : Stage) (a b : Standing) → flags.run_cache ≡ false → IsLater own done s → Related own done a b → turn_fault flags effect s b ≡ turn_fault flags effect s a
  turn_fault_same flags effect s a b none later related =
      turn_fault_by flags effect s a b (see_fault s a.tree) none later related refl (see_alike own done s a.tree b.tree later.seen related.trees)

  first_by : (f : Fault) (x : Option Fault) → first_fault (Some f) x ≡ Some f
  first_by f x = refl

  fault_by : (flags : Flags) (effect : Effect) (s : Stage) (ss : List Stage) (a b : Standing) (o : Option Fault) → flags.run_cache ≡ false → IsLater own done s → Related own done a b → see_fault s a.tree ≡ o → ((x y : Standing) → Related own done x y → fault_of flags effect ss y ≡ fault_of flags effect ss x) → fault_of flags effect (s ∷ ss) b ≡ fault_of flags effect (s ∷ ss) a
  fault_by flags effect s ss a b (Some f) none later related here rest =
      let more : Standing → Option Fault = λ st. following (fault_of flags effect ss) None (next_in flags effect s st) in
      let refused : turn_fault flags effect s a ≡ Some f =
      ap (λ o. first_fault o (choice_fault effect s (params_in s a) (chosen_in flags s a).0 a.tree)) here in
      ap (λ o. first_fault o (more b)) (turn_fault_same flags effect s a b none later related ∙ refused) ∙ sym (ap (λ o. first_fault o (more a)) refused)
  fault_by flags effect s ss a b None none later related here rest =
      let more : Standing → Option Fault = λ st. following (fault_of flags effect ss) None (next_in flags effect s st) in
      ap (λ o. first_fault o (more b)) (turn_fault_same flags effect s a b none later related)
      ∙ ap (first_fault (turn_fault flags effect s a)) (following_same (fault_of flags effect ss) None (next_in flags effect s a) (next_in flags effect s b) (next_alike flags effect s a b none later related (deps_there s a.tree later.seen.stage here)) rest)

  pub fault_same : (flags : Flags) (effect : Effect) (ss : List Stage) (a b : Standing) → flags.run_cache ≡ false → AllByRecursion (IsLater own done) ss → Related own done a b → fault_of flags effect ss b ≡ fault_of flags effect ss a
  fault_same flags effect [] a b none later related = refl
  fault_same flags effect (s ∷ ss) a b none later related =
      fault_by flags effect s ss a b (see_fault s a.tree) none later.0 related refl (λ x y r. fault_same flags effect ss x y none later.1 r)
