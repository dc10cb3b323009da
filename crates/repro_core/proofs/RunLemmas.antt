-- The run of a stage up to its lock, as a turn.
--     IsStart                   what a turn of a choice begins with
--     IsDone                    a run whose outputs have been put into the cache, with its entry
--     turned_unmade             a turn whose run was refused, or came to no end
--     turned_unstored, turned_stopped     a turn that ended while its outputs were put, or right after that
--     turned_recorded           a turn that came to the write of its lock
--     place_stored, place_recorded        the lock can be written, before and after
--     due_none                  Ok is answered only where nothing is due
use Rattle.std.proofs.Common.{◌≡◌, ◌⊎◌, ℕ, Bool, true, false, ◌||◌, List, [], ◌∷◌, ◌++◌, map, inl, inr, refl, sym, ap, subst, ◌∙◌, append-nil, Option, Some, None, is_some, IsTrue, Result, Ok, Err, OnOk}
use Rattle.std.specs.List.{AllByRecursion, flat_map}
use Rattle.std.proofs.lemmas.Bool.{false≢true, cases_Bool, or_parts, or_from, and_parts, and_from}
use Rattle.dvc_base.specs.Path.{Path, under}
use Rattle.dvc_base.specs.Name.{ObjectName}
use Rattle.dvc_base.specs.declared.data.ParamFile.{ParamFile}
use Rattle.dvc_base.specs.declared.fault.Fault.{Fault}
use Rattle.dvc_base.specs.declared.fault.Fault.TheVariants.{NoMemory, WorldFault, NotFolder}
use Rattle.dvc_base.specs.Fault.{is_free, MayBe}
use Rattle.dvc_base.specs.Answer.{fault_in, IsAnswer}
use Rattle.dvc_base.proofs.PathLemmas.{under-refl}
use Rattle.world_api.specs.Tree.{Tree, Value, folder, file, IsTree, item_at, value_at}
use Rattle.world_api.specs.Effect.{Effect, gives, invocation_of, is_in_any}
use Rattle.world_api.specs.History.{Fixed, Moment, History, Passes}
use Rattle.world_api.specs.Outside.{tree_of, jobs_of, PassesFrom}
use Rattle.world_api.specs.Calls.{parent}
use Rattle.world_api.specs.Writes.{is_at, in_scratch, IsMade, IsSameUnder, IsNoFileAt, CanWrite}
use Rattle.world_api.specs.Layout.{dvc_path, lock_path}
use Rattle.world_api.specs.declared.job.Job.{Job}
use Rattle.world_api.proofs.HistoryLemmas.{keeps_paths_in, keeps_paths_then, passes_weaker, passes_on}
use Rattle.world_api.proofs.WriteLemmas.{same_at, same_under, same_under_then, made_then_same, made_then_made}
use Rattle.world_api.proofs.LaneLemmas.{at_same}
use Rattle.object_cache.specs.Objects.{object_path, object_at, whole_in, are_whole, object_names, is_stored}
use Rattle.file_hash.specs.Naming.{named_of}
use Rattle.object_cache.specs.Store.{is_cache_folder}
use Rattle.lock_files.specs.declared.entry.Entry.{Entry}
use Rattle.lock_files.specs.declared.entry.PathEntry.{PathEntry}
use Rattle.lock_files.specs.Book.{Lock, set}
use Rattle.change_check.specs.declared.seen.SeenPath.{SeenPath}
use Rattle.repro_laws.specs.Stage.{out_path, stage_outs, params_at, job_with, value_inside, IsStage}
use Rattle.repro_laws.specs.Entries.{seen_dep, seen_out, all_named, entry_at}
use Rattle.repro_laws.specs.Limits.{limit_fault}
use Rattle.repro_laws.specs.Refusals.{first_fault, first_of, see_fault, large_fault, outcome_fault, run_fault}
use Rattle.repro_laws.specs.Due.{Due, standing_of, choice_at, due, turn_fault, jobs}
use Rattle.repro_laws.specs.Turns.{state, is_way, OthersStay, Runs, AreStored, Turn}
use Rattle.repro_laws.specs.Headline.{is_ordered, IsKept, is_any_way}
use Rattle.repro_laws.specs.Moments.{is_own, in_turns, in_places, IsNewLock, IsRunOf, IsRecorded, InTurns}
use Rattle.repro_laws.specs.Sound.{lock_of, IsAnswerAt}
use Rattle.repro_laws.specs.declared.stage.Dep.{Dep}
use Rattle.repro_laws.specs.declared.stage.Out.{Out}
use Rattle.repro_laws.specs.declared.stage.Stage.{Stage}
use Rattle.repro_laws.specs.declared.stage.Flags.{Flags}
use Rattle.repro_laws.specs.declared.stage.Choice.{Choice}
use Rattle.repro_laws.specs.declared.stage.Choice.TheVariants.{Run}
use Rattle.repro_laws.proofs.AlikeLemmas.{each_on, each_two, each_mapped, map_same}
use Rattle.repro_laws.proofs.CoverLemmas.{apart_own, read_stays}
use Rattle.repro_laws.proofs.LockEntries.{lock_of_same, lock_of_new}
use Rattle.repro_laws.proofs.MomentLemmas.{kept_place_then}
use Rattle.repro_laws.proofs.NamedLemmas.{entry_made}
use Rattle.repro_laws.proofs.ReadLemmas.{same_given}
use Rattle.repro_laws.proofs.RefusalLemmas.{large_at}
use Rattle.repro_laws.proofs.TurnLaw.{deps_kept, turn_entry}
use Rattle.repro_core.specs.Steps.{record_kinds, InWork, InWorks, InStored, is_record, InRecord, HasMade, RunsJob}
use Rattle.repro_core.specs.Turning.{Halts, Turned, JobsGain}
use Rattle.repro_core.proofs.GainLemmas.{gains_all}
use Rattle.repro_core.proofs.LeftLemmas.{OnlyOwn, item_stored, item_recorded, item_then, left_worked, left_then, each_value, is_free_folder, is_free_place}
use Rattle.repro_core.proofs.OneStageLemmas.{fault_alone, jobs_alone}
use Rattle.repro_core.proofs.WorkLemmas.{work_keeps_lock, work_place, work_of_stored, turns_of_works, passes_works}

-- ---- the start

pub record IsStart (flags : Flags) (s : Stage) (ps : List ParamFile) (choice : Choice) (lock : Lock) (m : Moment) : Type 0 where
  pub stage : IsStage s
  pub kept : IsKept is_own s
  pub ordered : is_ordered (s ∷ []) ≡ true
  pub read : lock_of m.tree ≡ Some lock
  pub place : CanWrite lock_path m.tree
  pub params : params_at s m.tree ≡ Ok ps
  pub chosen : choice_at flags s ps (standing_of m.tree lock) ≡ (choice, None)
  pub seen : see_fault s m.tree ≡ None
  pub stands : IsTree m.tree

none_some : {A : Type 0} (a : A) → Some a ≡ None → ⊥
none_some a e = cc

-- ---- a run that was refused

module _ (flags : Flags) (effect : Effect) (s : Stage) (ps : List ParamFile) (lock : Lock) (f : Fault) (old now : History) (start : IsStart flags s ps Run lock old.present) where
  abbrev whole_jobs : List Job
  whole_jobs = jobs (due flags effect (s ∷ []) (standing_of (tree_of old) lock))

  due_jobs : whole_jobs ≡ job_with s ps ∷ []
  due_jobs = jobs_alone flags effect s (tree_of old) lock Run None ps start.params start.chosen start.seen

  due_fault : turn_fault flags effect s (standing_of (tree_of old) lock) ≡ run_fault effect s ps (tree_of old)
  due_fault = fault_alone flags effect s (tree_of old) lock Run None ps start.params start.chosen start.seen

  pub turned_early : IsAnswerAt (tree_of now) (Some f) (run_fault effect s ps (tree_of old)) → JobsGain (tree_of now) (Some f) (jobs_of old) (job_with s ps ∷ []) (jobs_of now) → PassesFrom (InWorks s) old now → Turned flags effect s Run lock lock (Some f) old now
  turned_early answer ran moments =
      let work = moments.now in
      record {
        answer = subst (λ (o : Option Fault). IsAnswerAt (tree_of now) (Some f) o) (sym due_fault) answer;
        turn = λ e. absurd (none_some f e);
        halted = inl (lock_of_same old.present now.present (work_keeps_lock s work.jobs old.present now.present start.kept work.work) ∙ start.read);
        ran = subst (λ (l : List Job). JobsGain (tree_of now) (Some f) (jobs_of old) l (jobs_of now)) (sym due_jobs) ran;
        moments = passes_weaker (InWorks s old.present) (InTurns flags effect (s ∷ []) lock old.present now.present) old now (λ n h. turns_of_works flags effect s lock old.present now.present n start.kept h) moments;
      }

-- ---- what a run has read and made

seen_with : List ℕ → Value → SeenPath
seen_with text v = record { path = text; named = named_of v }

same_seen_outs : (t u : Tree) (os : List Out) → AllByRecursion (λ o. value_at u o.path ≡ value_at t o.path) os → map (seen_out u) os ≡ map (seen_out t) os
unfolding seen_with
same_seen_outs t u os all =
    map_same (seen_out t) (seen_out u) os (each_on (λ o. value_at u o.path ≡ value_at t o.path) (λ o. seen_out u o ≡ seen_out t o) os (λ o h. ap (seen_with o.text) h) all)

same_seen_deps : (t u : Tree) (ds : List Dep) → AllByRecursion (λ d. value_at u d.path ≡ value_at t d.path) ds → map (seen_dep u) ds ≡ map (seen_dep t) ds
unfolding seen_with
same_seen_deps t u ds all =
    map_same (seen_dep t) (seen_dep u) ds (each_on (λ d. value_at u d.path ≡ value_at t d.path) (λ d. seen_dep u d ≡ seen_dep t d) ds (λ d h. ap (λ v. seen_with d.text (value_inside d.inside v)) h) all)

entry_fields : (a b : List (List ℕ)) (ds os : List PathEntry) (ps qs : List ParamFile) → a ≡ b → ps ≡ qs → ◌≡◌ {A = Entry} (record { commands = a; deps = ds; params = ps; outs = os }) (record { commands = b; deps = ds; params = qs; outs = os })
entry_fields a b ds os ps qs x y =
    ap (λ (v : List (List ℕ)). record { commands = v; deps = ds; params = ps; outs = os }) x ∙ ap (λ (v : List ParamFile). record { commands = b; deps = ds; params = v; outs = os }) y

-- what a run has made at b is whole in the cache at c, and its entry tells of it
pub record IsDone (effect : Effect) (s : Stage) (ps : List ParamFile) (e : Entry) (a b c : Moment) : Type 0 where
  pub work : InWorks s a b
  pub made : HasMade effect s (job_with s ps) a b
  pub ran : b.aside.fixed.ran ≡ a.aside.fixed.ran ++ job_with s ps ∷ []
  pub small : first_of (λ o. limit_fault (value_at b.tree o.path)) s.outs ≡ None
  pub put : InStored b c
  pub stored : AreStored c.tree s.made
  pub commands : e.commands ≡ s.commands
  pub deps : all_named (map (seen_dep a.tree) s.deps) ≡ Some e.deps
  pub params : e.params ≡ ps
  pub outs : all_named (map (seen_out b.tree) s.made) ≡ Some e.outs

outs_mapped : (t : Tree) (os : List Out) → map (value_at t) (map out_path os) ≡ map (λ o. value_at t o.path) os
outs_mapped t [] = refl
outs_mapped t (o ∷ os) = ap (λ vs. value_at t o.path ∷ vs) (outs_mapped t os)

fault_made : (effect : Effect) (s : Stage) (ps : List ParamFile) (a b : Moment) → IsStage s → HasMade effect s (job_with s ps) a b → run_fault effect s ps a.tree ≡ first_of (λ o. limit_fault (value_at b.tree o.path)) s.outs
fault_made effect s ps a b stage made =
    let vs : List Value = map (value_at b.tree) (stage_outs s) in
    ap (λ o. first_fault o (outcome_fault s (effect (invocation_of (job_with s ps) a.tree)))) made.way
    ∙ ap (outcome_fault s) made.gave
    ∙ ap (λ o. first_fault o (large_fault s vs)) made.there
    ∙ large_at (λ o. value_at b.tree o.path) s vs stage.made stage.out_texts (outs_mapped b.tree s.made)

fault_free : (effect : Effect) (s : Stage) (ps : List ParamFile) (a b : Moment) → IsStage s → HasMade effect s (job_with s ps) a b → first_of (λ o. limit_fault (value_at b.tree o.path)) s.outs ≡ None → run_fault effect s ps a.tree ≡ None
fault_free effect s ps a b stage made small = fault_made effect s ps a b stage made ∙ small

-- ---- the write of the lock

abbrev turn_area : Stage → Path → Bool
turn_area s p = in_turns (s ∷ []) p || is_any_way (s ∷ []) p

turns_no_record : (s : Stage) (p : Path) → in_turns (s ∷ []) p ≡ false → is_record p ≡ false
turns_no_record s p out =
    let first = or_parts (is_in_any (flat_map stage_outs (s ∷ [])) p) (in_scratch p || (is_cache_folder p || (in_places p || under lock_path p))) out in
    let second = or_parts (in_scratch p) (is_cache_folder p || (in_places p || under lock_path p)) first.1 in
    let third = or_parts (is_cache_folder p) (in_places p || under lock_path p) second.1 in
    or_from (under lock_path p) (in_scratch p) (or_parts (in_places p) (under lock_path p) third.1).1 second.0

whole_no_record : (s : Stage) (p : Path) → turn_area s p ≡ false → is_record p ≡ false
whole_no_record s p out = turns_no_record s p (or_parts (in_turns (s ∷ []) p) (is_any_way (s ∷ []) p) out).0

record_folder : (written : Lock) (m n : Moment) (p : Path) → is_cache_folder p ≡ true → InRecord written m n → IsMade p m n
record_folder written m n p in' h =
    elim (cases_Bool (is_at dvc_path p)) [
      | inl e ↦ subst (λ (x : Path). IsMade x m n) (at_same dvc_path p e) h.dvc
      | inr e ↦ inl (same_at p is_record m n h.others (is_free_folder p e in'))
    ]

record_place : (written : Lock) (m n : Moment) (name : ObjectName) → InRecord written m n → IsSameUnder (object_path name) m n
record_place written m n name h = same_under (object_path name) is_record m n h.others (λ p u. is_free_place name p u)

record_object : (written : Lock) (m n : Moment) (name : ObjectName) → InRecord written m n → object_at n.tree name ≡ object_at m.tree name
record_object written m n name h =
    let same = record_place written m n name h in
    ap (whole_in name) (same.items (object_path name) (under-refl (object_path name)))

-- a moment of the write, after moments of the turn in which the lock was as before
pub turns_recorded : (flags : Flags) (effect : Effect) (s : Stage) (lock written : Lock) (a k end n : Moment) → InTurns flags effect (s ∷ []) lock a end k → InRecord written k n → (IsSameUnder lock_path a n ⊎ IsRecorded flags effect (s ∷ []) lock a end n) → InTurns flags effect (s ∷ []) lock a end n
turns_recorded flags effect s lock written a k end n so h remembered =
    let others = h.others in
    let ran = so.ran in
    record {
      paths = keeps_paths_then (turn_area s) a k n so.paths (keeps_paths_in is_record (turn_area s) k n (whole_no_record s) others.paths);
      ways = λ p out. made_then_same p a k n (so.ways p out) (same_at p is_record k n others (turns_no_record s p out));
      dvc = made_then_made dvc_path a k n so.dvc h.dvc;
      folders = λ p in'. made_then_made p a k n (so.folders p in') (record_folder written k n p in' h);
      places = λ name. kept_place_then (object_path name) a k n (so.places name) (inl (record_place written k n name h));
      objects = λ name bytes e. record_object written k n name h ∙ so.objects name bytes e;
      ran = record {
        jobs = ran.jobs;
        some = ran.some;
        aside = record {
          fixed = others.aside.fixed ∙ ran.aside.fixed;
          book = λ d bytes e. others.aside.book d bytes (ran.aside.book d bytes e);
        };
      };
      remembered = remembered;
    }

-- ---- the turn

whole_more : (t u : Tree) (v : Value) → ((name : ObjectName) → object_at u name ≡ object_at t name) → is_stored t v ≡ true → is_stored u v ≡ true
whole_more t u v same h = names_more (object_names v) h
  where
    names_more : (names : List ObjectName) → are_whole t names ≡ true → are_whole u names ≡ true
    names_more [] h = refl
    names_more (name ∷ names) h =
        let parts = and_parts (is_some (object_at t name)) (are_whole t names) h in
        and_from (is_some (object_at u name)) (are_whole u names) (ap is_some (same name) ∙ parts.0) (names_more names parts.1)

-- the cached outputs are in the cache at each moment of the write
held : (s : Stage) (written : Lock) (c n : Moment) → IsKept is_own s → AreStored c.tree s.made → InRecord written c n → AreStored n.tree s.made
held s written c n kept stored write =
    let same = each_mapped out_path (λ p. value_at n.tree p ≡ value_at c.tree p) s.made (each_value c.tree n.tree (stage_outs s) (item_recorded s written c n write) kept.outs) in
    each_two (λ o. value_at n.tree o.path ≡ value_at c.tree o.path) (λ o. o.cached ≡ true → is_stored c.tree (value_at c.tree o.path) ≡ true) (λ o. o.cached ≡ true → is_stored n.tree (value_at n.tree o.path) ≡ true) s.made
    (λ o v h cached. ap (is_stored n.tree) v ∙ whole_more c.tree n.tree (value_at c.tree o.path) (λ name. record_object written c n name write) (h cached)) same stored

module _ (flags : Flags) (effect : Effect) (s : Stage) (ps : List ParamFile) (lock : Lock) (e : Entry) (a b c n : Moment) (start : IsStart flags s ps Run lock a) (done : IsDone effect s ps e a b c) (write : InRecord (set lock s.name e) c n) (stands : IsTree n.tree) where
  abbrev written : Lock
  written = set lock s.name e

  abbrev turn_of : Due
  turn_of = record { stage = s; choice = Run; job = job_with s ps }

  only_own : OnlyOwn b.tree n.tree
  only_own = item_then b.tree c.tree n.tree (item_stored s b c done.put) (item_recorded s written c n write)

  others_stay : OthersStay is_own s a.tree n.tree
  others_stay =
      let works = done.work in
      left_then s a.tree b.tree n.tree (left_worked s works.jobs a b works.work) only_own

  outs_stay : AllByRecursion (λ o. value_at n.tree o.path ≡ value_at b.tree o.path) s.made
  outs_stay =
      let kept = start.kept in
      each_mapped out_path (λ p. value_at n.tree p ≡ value_at b.tree p) s.made (each_value b.tree n.tree (stage_outs s) only_own kept.outs)

  values_stay : map (value_at n.tree) (stage_outs s) ≡ map (value_at b.tree) (stage_outs s)
  values_stay =
      let kept = start.kept in
      map_same (value_at b.tree) (value_at n.tree) (stage_outs s) (each_value b.tree n.tree (stage_outs s) only_own kept.outs)

  deps_stay : AllByRecursion (λ d. value_at n.tree d.path ≡ value_at a.tree d.path) s.deps
  deps_stay =
      deps_kept is_own s (state a.tree lock) (state n.tree written) start.stage start.kept start.ordered start.stands stands start.seen others_stay

  params_stay : params_at s n.tree ≡ Ok ps
  params_stay =
      read_stays is_own (is_way s) (stage_outs s) s a.tree n.tree start.kept (apart_own s start.ordered) start.stands stands others_stay ∙ start.params

  still_present : entry_at s ps n.tree ≡ Some e
  still_present =
      entry_made s ps n.tree e.deps e.outs (ap all_named (same_seen_deps a.tree n.tree s.deps deps_stay) ∙ done.deps) (ap all_named (same_seen_outs b.tree n.tree s.made outs_stay) ∙ done.outs)
      ∙ ap (λ (x : Entry). Some x) (entry_fields s.commands e.commands e.deps e.outs ps e.params (sym done.commands) (sym done.params))

  run_left : Runs is_own effect s ps (state a.tree lock) (state n.tree written)
  run_left =
      let made = done.made in
      let kept = start.kept in
      record {
        entry = e;
        fault = fault_free effect s ps a b start.stage made done.small;
        dir = λ out. only_own s.dir kept.dir ∙ made.dir out;
        values = made.gave ∙ ap gives (sym values_stay);
        present = still_present;
        lock = refl;
        others = others_stay;
      }

  pub turn_here : Turn is_own flags effect turn_of (state a.tree lock) (state n.tree written)
  turn_here =
      let works = done.work in
      let work = works.work in
      let put = done.put in
      record {
        params = ps;
        from = None;
        read = start.params;
        seen = start.seen;
        chosen = start.chosen;
        job = refl;
        left = run_left;
        stands = stands;
        stored = λ other. held s written c n start.kept done.stored write;
        kept = λ name bytes x. record_object written c n name write ∙ put.objects name bytes (work.objects name bytes x);
      }

  -- the job has run, and nothing has since
  pub jobs_here : n.aside.fixed.ran ≡ a.aside.fixed.ran ++ job_with s ps ∷ []
  jobs_here =
      let put = done.put in
      let stored = put.others in
      let others = write.others in
      ap (λ (f : Fixed). f.ran) others.aside.fixed ∙ ap (λ (f : Fixed). f.ran) stored.aside.fixed ∙ done.ran

  pub run_here : IsRunOf effect written a n turn_of
  run_here =
      let stage = start.stage in
      record {
        ran = record {
          before = [];
          after = [];
          ran = jobs_here ∙ ap (λ (l : List Job). l ++ job_with s ps ∷ []) (sym (append-nil a.aside.fixed.ran));
        };
        made = record {
          params = ps;
          read = params_stay;
          made = ap effect (same_given s ps a.tree n.tree stage deps_stay) ∙ run_left.values;
        };
        entry = turn_entry is_own flags effect turn_of (state a.tree lock) (state n.tree written) stage start.kept start.ordered start.stands turn_here;
      }

-- ---- the whole run

runs_gain : (job : Job) (got : Option Fault) (t : Tree) (m n : Moment) → RunsJob job got m n → JobsGain t got m.aside.fixed.ran (job ∷ []) n.aside.fixed.ran
runs_gain job None t m n h = inl (inl h)
runs_gain job (Some (NotFolder path)) t m n h =
    inr (tt, record { front = []; last = job; cut = refl; grown = h ∙ sym (append-nil m.aside.fixed.ran) })
runs_gain job (Some _) t m n h = inl (inl h)

-- the run was refused before its outputs were put
pub turned_unmade : (flags : Flags) (effect : Effect) (s : Stage) (ps : List ParamFile) (lock : Lock) (f : Fault) (old now : History) → IsStart flags s ps Run lock old.present → IsAnswer (Some f) (run_fault effect s ps (tree_of old)) → RunsJob (job_with s ps) (Some f) old.present now.present → PassesFrom (InWorks s) old now → Turned flags effect s Run lock lock (Some f) old now
turned_unmade flags effect s ps lock f old now start answer ran moments =
    turned_early flags effect s ps lock f old now start (inl answer) (runs_gain (job_with s ps) (Some f) (tree_of now) old.present now.present ran) moments

-- while its outputs are put
passes_stored : (s : Stage) (old mid now : History) → PassesFrom (InWorks s) old mid → PassesFrom InStored mid now → PassesFrom (InWorks s) old now
passes_stored s old mid now before put =
    passes_works s old mid now before (passes_weaker (InStored mid.present) (InWork s [] mid.present) mid now (λ n h. work_of_stored s mid.present n h) put)

stored_ran : (old mid now : History) (js : List Job) → PassesFrom InStored mid now → jobs_of mid ≡ jobs_of old ++ js → jobs_of now ≡ jobs_of old ++ js
stored_ran old mid now js put ran =
    let here = put.now in
    let others = here.others in
    ap (λ (x : Fixed). x.ran) others.aside.fixed ∙ ran

pub turned_unstored : (flags : Flags) (effect : Effect) (s : Stage) (ps : List ParamFile) (lock : Lock) (f : Fault) (old mid now : History) → IsStart flags s ps Run lock old.present → HasMade effect s (job_with s ps) old.present mid.present → jobs_of mid ≡ jobs_of old ++ job_with s ps ∷ [] → IsAnswerAt (tree_of now) (Some f) (first_of (λ o. limit_fault (value_at (tree_of mid) o.path)) s.outs) → PassesFrom (InWorks s) old mid → PassesFrom InStored mid now → Turned flags effect s Run lock lock (Some f) old now
turned_unstored flags effect s ps lock f old mid now start made ran answer before put =
    turned_early flags effect s ps lock f old now start
    (subst (λ (o : Option Fault). IsAnswerAt (tree_of now) (Some f) o) (sym (fault_made effect s ps old.present mid.present start.stage made)) answer)
    (inl (inl (gains_all (Some f) (jobs_of old) (job_with s ps ∷ []) (jobs_of now) (stored_ran old mid now (job_with s ps ∷ []) put ran))))
    (passes_stored s old mid now before put)

pub turned_stopped : (flags : Flags) (effect : Effect) (s : Stage) (ps : List ParamFile) (lock : Lock) (f : Fault) (old mid now : History) → IsStart flags s ps Run lock old.present → IsTrue (is_free f) → jobs_of mid ≡ jobs_of old ++ job_with s ps ∷ [] → PassesFrom (InWorks s) old mid → PassesFrom InStored mid now → Turned flags effect s Run lock lock (Some f) old now
turned_stopped flags effect s ps lock f old mid now start free ran before put =
    turned_early flags effect s ps lock f old now start (inl (inl free))
    (inl (inl (gains_all (Some f) (jobs_of old) (job_with s ps ∷ []) (jobs_of now) (stored_ran old mid now (job_with s ps ∷ []) put ran))))
    (passes_stored s old mid now before put)

-- Ok is answered only where nothing is due
pub due_none : (t : Tree) (due : Option Fault) → IsAnswerAt t None due → due ≡ None
due_none t due (inl e) = e
due_none t due (inr barred) = absurd barred

-- ---- with the write of its lock

folder_file : (bytes : List ℕ) → Some folder ≡ Some (file bytes) → ⊥
folder_file bytes e = absurd (cc)

no_file_then : (m n : Moment) → IsMade dvc_path m n → IsNoFileAt m.tree dvc_path → IsNoFileAt n.tree dvc_path
no_file_then m n (inl same) none bytes e = none bytes (sym same.item ∙ e)
no_file_then m n (inr made) none bytes e = folder_file bytes (sym made.1.stands ∙ e)

root_above_lock : (t : Tree) → item_at t (parent lock_path) ≡ Some folder
unfolding lock_path
root_above_lock t = refl

-- the lock that was written can be written again
pub place_recorded : {T : Type 0} (next : Lock) (m n : Moment) (r : Result T Fault) → CanWrite lock_path m.tree → InRecord next m n → OnOk r (IsNewLock next n) → OnOk r (CanWrite lock_path n.tree)
place_recorded next m n (Err fault) place write new = tt
place_recorded next m n (Ok done) place write new =
    let lock = new.file in
    record {
      room = record { above = root_above_lock n.tree; no_folder = λ e. folder_file _ (sym e ∙ lock.stands) };
      no_file = no_file_then m n write.dvc place.no_file;
    }

pub place_stored : (flags : Flags) (s : Stage) (lock : Lock) (old mid now : History) → IsKept is_own s → CanWrite lock_path (tree_of old) → PassesFrom (InWorks s) old mid → PassesFrom InStored mid now → CanWrite lock_path (tree_of now)
place_stored flags s lock old mid now kept place before put =
    let whole = passes_stored s old mid now before put in
    let here = whole.now in
    work_place s here.jobs old.present now.present kept here.work place

module _ (flags : Flags) (effect : Effect) (s : Stage) (ps : List ParamFile) (lock : Lock) (e : Entry) (old mid put now : History) (start : IsStart flags s ps Run lock old.present) (done : IsDone effect s ps e old.present mid.present put.present) (before : PassesFrom (InWorks s) old mid) (stored : PassesFrom InStored mid put) (write : PassesFrom (InRecord (set lock s.name e)) put now) (stands : IsTree (tree_of now)) where
  abbrev lock_of_run : Lock
  lock_of_run = set lock s.name e

  abbrev its_turn : Due
  its_turn = record { stage = s; choice = Run; job = job_with s ps }

  works : PassesFrom (InWorks s) old put
  works = passes_stored s old mid put before stored

  the_turn : Turn is_own flags effect its_turn (state (tree_of old) lock) (state (tree_of now) lock_of_run)
  the_turn = turn_here flags effect s ps lock e old.present mid.present put.present now.present start done write.now stands

  the_run : IsRunOf effect lock_of_run old.present now.present its_turn
  the_run = run_here flags effect s ps lock e old.present mid.present put.present now.present start done write.now stands

  recorded_at : (n : Moment) → InRecord lock_of_run put.present n → IsNewLock lock_of_run n → IsRecorded flags effect (s ∷ []) lock old.present now.present n
  recorded_at n h new =
      record {
        ended = its_turn ∷ [];
        others = [];
        cut = refl;
        reached = state (tree_of now) lock_of_run;
        turns = (state (tree_of now) lock_of_run, the_turn, refl);
        runs = ((λ run. the_run), tt);
        held = ((λ run. held s lock_of_run put.present n start.kept done.stored h), tt);
        stands = new;
      }

  lock_at : (n : Moment) → InRecord lock_of_run put.present n → IsSameUnder lock_path old.present n ⊎ IsRecorded flags effect (s ∷ []) lock old.present now.present n
  lock_at n h =
      let here = works.now in
      elim h.path [
        | inl same ↦ inl (same_under_then lock_path old.present put.present n (work_keeps_lock s here.jobs old.present put.present start.kept here.work) same)
        | inr new ↦ inr (recorded_at n h new)
      ]

  recorded_moments : Passes (InTurns flags effect (s ∷ []) lock old.present now.present) old now
  recorded_moments =
      let turns : Moment → Type 0 = InTurns flags effect (s ∷ []) lock old.present now.present in
      let to_turns : (n : Moment) → InWorks s old.present n → turns n =
      λ n h. turns_of_works flags effect s lock old.present now.present n start.kept h in
      passes_on turns (InRecord lock_of_run put.present) old put now (passes_weaker (InWorks s old.present) turns old put to_turns works)
      (λ n h. turns_recorded flags effect s lock lock_of_run old.present put.present now.present n (to_turns put.present works.now) h (lock_at n h)) write

  recorded_ran : jobs_of now ≡ jobs_of old ++ job_with s ps ∷ []
  recorded_ran =
      let here = write.now in
      let others = here.others in
      ap (λ (x : Fixed). x.ran) others.aside.fixed ∙ stored_ran old mid put (job_with s ps ∷ []) stored done.ran

  recorded_gain : (got : Option Fault) → JobsGain (tree_of now) got (jobs_of old) (jobs (due flags effect (s ∷ []) (standing_of (tree_of old) lock))) (jobs_of now)
  recorded_gain got =
      inl (inl (gains_all got (jobs_of old) (jobs (due flags effect (s ∷ []) (standing_of (tree_of old) lock))) (jobs_of now) (recorded_ran ∙ ap (λ (l : List Job). jobs_of old ++ l) (sym (jobs_alone flags effect s (tree_of old) lock Run None ps start.params start.chosen start.seen)))))

  -- the lock was written
  whole_turn : IsNewLock lock_of_run now.present → Turned flags effect s Run lock lock_of_run None old now
  whole_turn new =
      let here = write.now in
      record {
        answer = inl (fault_alone flags effect s (tree_of old) lock Run None ps start.params start.chosen start.seen ∙ the_fault);
        turn = λ none. record {
          due = its_turn;
          its = refl;
          chosen = refl;
          turn = the_turn;
          run = λ run. the_run;
          remembered = lock_of_new lock_of_run now.present new;
          place = place_recorded {T = Unit {0}} lock_of_run put.present now.present (Ok tt) (place_stored flags s lock old mid put start.kept start.place before stored) here new;
        };
        halted = tt;
        ran = recorded_gain None;
        moments = recorded_moments;
      }
    where
      the_fault : run_fault effect s ps (tree_of old) ≡ None
      the_fault = fault_free effect s ps old.present mid.present start.stage done.made done.small

  -- the call that publishes it has failed: it may have been written
  late_turn : (new : Lock) → Turned flags effect s Run lock new (Some WorldFault) old now
  late_turn new =
      let here = write.now in
      let so_far = works.now in
      record {
        answer = inl (inl refl);
        turn = λ none. absurd (none_some WorldFault none);
        halted = elim here.path [
          | inl same ↦ inl (lock_of_same old.present now.present (same_under_then lock_path old.present put.present now.present (work_keeps_lock s so_far.jobs old.present put.present start.kept so_far.work) same) ∙ start.read)
          | inr fresh ↦ inr (refl, record { turn = its_turn; its = refl; lock = lock_of_run; read = lock_of_new lock_of_run now.present fresh; taken = the_turn })
        ];
        ran = recorded_gain (Some WorldFault);
        moments = recorded_moments;
      }

  -- want of memory came before anything was touched
  stopped_turn : (new : Lock) → now ≡ put → Turned flags effect s Run lock new (Some NoMemory) old now
  stopped_turn new same =
      let early = turned_stopped flags effect s ps lock NoMemory old mid put start refl done.ran before stored in
      record {
        answer = inl (inl refl);
        turn = λ none. absurd (none_some NoMemory none);
        halted = subst (λ (h : History). Halts flags effect s lock NoMemory old.present h.present) (sym same) early.halted;
        ran = recorded_gain (Some NoMemory);
        moments = recorded_moments;
      }

  pub turned_recorded : {T : Type 0} (r : Result T Fault) (new : Lock) → OnOk r (new ≡ lock_of_run) → OnOk r (IsNewLock lock_of_run now.present) → (r ≡ Err NoMemory → now ≡ put) → MayBe record_kinds (fault_in r) → Turned flags effect s Run lock new (fault_in r) old now
  turned_recorded (Ok done) new is stored untouched kind =
      subst (λ (l : Lock). Turned flags effect s Run lock l None old now) (sym is) (whole_turn stored)
  turned_recorded (Err NoMemory) new is stored untouched kind = stopped_turn new (untouched refl)
  turned_recorded (Err WorldFault) new is stored untouched kind = late_turn new
  turned_recorded (Err _) new is stored untouched kind = absurd (false≢true kind)
