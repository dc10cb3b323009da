-- The answers of a run, by what its job gave and what it left.
--     if_some, if_some_at            what holds where an effect is told
--     runnable                       the job's texts are paths, and its outputs are apart
--     way_due, way_tells             a file in the way
--     run_due, look_due              a code that isn't 0, and an output that is missing
--     ran_.., works_..               the jobs that have run, and the moments
--     made_tells                     what is told of a missing output
use Rattle.std.proofs.Common.{◌≡◌, ◌≢◌, ℕ, ℤ, pos, true, false, ◌&&◌, List, [], ◌∷◌, ◌++◌, map, inl, inr, refl, sym, ap, subst, ◌∙◌, append-nil, Option, Some, None, IfSome, IsTrue}
use Rattle.std.specs.Prelude.{is_ok}
use Rattle.std.specs.List.{AllByRecursion, list_all}
use Rattle.std.proofs.lemmas.Bool.{false≢true, and_from, cases_Bool, cond-true, cond-false}
use Rattle.dvc_base.specs.Path.{Path}
use Rattle.dvc_base.specs.Answer.{IsAnswer}
use Rattle.dvc_base.specs.Fault.{MayBe}
use Rattle.dvc_base.specs.declared.fault.Fault.{Fault}
use Rattle.dvc_base.specs.declared.fault.Fault.TheVariants.{NoMemory, WorldFault, CommandFailed, NotFolder, MissingOutput}
use Rattle.world_api.specs.Tree.{Tree, folder, Value, item_at, value_at}
use Rattle.world_api.specs.Effect.{Effect, Outcome, fails, gives, out_paths, invocation_of, is_in_any}
use Rattle.world_api.specs.History.{Fixed, Moment, History}
use Rattle.world_api.specs.Outside.{PassesFrom}
use Rattle.world_api.specs.Calls.{is_path, is_runnable, are_apart, IsRun, InRun, Meets}
use Rattle.world_api.specs.declared.job.Job.{Job}
use Rattle.world_api.proofs.HistoryLemmas.{passes_same, passes_weaker}
use Rattle.lock_files.specs.Order.{is_less, put_in, in_order}
use Rattle.repro_laws.specs.Stage.{out_path, out_text, dep_text, stage_outs, job_with, Names, IsStage}
use Rattle.repro_laws.specs.Refusals.{first_fault, first_of, refused_out, missing_fault, large_fault, outcome_fault, way_fault}
use Rattle.repro_laws.specs.Headline.{IsKept}
use Rattle.repro_laws.specs.Moments.{is_own, IsJobOf}
use Rattle.repro_laws.specs.declared.stage.Dep.{Dep}
use Rattle.repro_laws.specs.declared.stage.Out.{Out}
use Rattle.repro_laws.specs.declared.stage.Stage.{Stage}
use Rattle.repro_laws.proofs.RefusalLemmas.{missing_at}
use Rattle.repro_core.specs.Steps.{above_out, InWork, InWorks, WasRun, RunsJob, MakesOuts, way_kinds, end_kinds, look_kinds}
use Rattle.repro_core.specs.Telling.{IsOneOf, TellsOwn}
use Rattle.repro_core.specs.Ways.{is_on_any, roads_fault, TellsWay, TellsMade, IsReadied}
use Rattle.repro_core.proofs.RoadsLemmas.{way_roads, on_way}
use Rattle.repro_core.proofs.WorkLemmas.{works_itself, works_of_work, works_of_run, passes_still, job_outs}

pub if_some : {A : Type 0} (o : Option A) (P : A → Type 0) → ((x : A) → o ≡ Some x → P x) → IfSome o P
if_some None P f = tt
if_some (Some x) P f = f x refl

pub if_some_at : {A : Type 0} (o : Option A) (P : A → Type 0) (x : A) → o ≡ Some x → IfSome o P → P x
if_some_at {A = A} o P x e h = subst (λ (q : Option A). IfSome q P) e h

-- ---- the job

deps_paths : (dir : Path) (ds : List Dep) → AllByRecursion (λ d. Names dir d.text d.path) ds → list_all (is_path dir) (map dep_text ds) ≡ true
deps_paths dir [] names = refl
deps_paths dir (d ∷ ds) names =
    and_from (is_path dir d.text) (list_all (is_path dir) (map dep_text ds)) (ap is_ok names.0) (deps_paths dir ds names.1)

outs_paths : (dir : Path) (os : List Out) → AllByRecursion (λ o. Names dir o.text o.path) os → list_all (is_path dir) (map out_text os) ≡ true
outs_paths dir [] names = refl
outs_paths dir (o ∷ os) names =
    and_from (is_path dir o.text) (list_all (is_path dir) (map out_text os)) (ap is_ok names.0) (outs_paths dir os names.1)

pub runnable : (s : Stage) (job : Job) → IsStage s → IsJobOf s job → IsTrue (is_runnable job)
runnable s job stage its =
    let deps = list_all (is_path s.dir) (map dep_text s.deps) in
    let outs = list_all (is_path s.dir) (map out_text s.made) in
    let same : Job = job_with s its.0 in
    let apart : are_apart (out_paths same) ≡ true = ap are_apart (job_outs s same stage (its.0, refl)) ∙ stage.apart in
    ap is_runnable its.1 ∙ and_from (deps && outs) (are_apart (out_paths same)) (and_from deps outs (deps_paths s.dir s.deps stage.dep_names) (outs_paths s.dir s.made stage.out_names)) apart

-- ---- a file in the way

pub way_due : (s : Stage) (job : Job) (roads : List Path) (m n : Moment) (fault : Fault) → roads ≡ s.dir ∷ map above_out s.outs → IsAnswer (Some fault) (roads_fault m.tree roads) → IfSome m.aside.fixed.effect (λ effect. MakesOuts effect s job (Some fault) m n)
way_due s job roads m n fault e (inl free) =
    if_some m.aside.fixed.effect (λ effect. MakesOuts effect s job (Some fault) m n) (λ effect _. inl free)
way_due s job roads m n fault e (inr due) =
    let at : way_fault s m.tree ≡ Some fault = sym (way_roads s m.tree) ∙ ap (roads_fault m.tree) (sym e) ∙ due in
    if_some m.aside.fixed.effect (λ effect. MakesOuts effect s job (Some fault) m n)
    (λ effect _. inr (ap (λ o. first_fault o (outcome_fault s (effect (invocation_of job m.tree)))) at))

pub way_none : (s : Stage) (roads : List Path) (t : Tree) → roads ≡ s.dir ∷ map above_out s.outs → roads_fault t roads ≡ None → way_fault s t ≡ None
way_none s roads t e none = sym (way_roads s t) ∙ ap (roads_fault t) (sym e) ∙ none

pub way_tells : (s : Stage) (roads : List Path) (got : Option Fault) → IsStage s → roads ≡ s.dir ∷ map above_out s.outs → MayBe way_kinds got → TellsWay roads got → TellsOwn s got
way_tells s roads None stage e kind told = tt
way_tells s roads (Some NoMemory) stage e kind told = tt
way_tells s roads (Some WorldFault) stage e kind told = tt
way_tells s roads (Some (NotFolder path)) stage e kind told =
    inl (sym (on_way s path stage) ∙ ap (λ (rs : List Path). is_on_any rs path) (sym e) ∙ told)
way_tells s roads (Some _) stage e kind told = absurd (false≢true kind)

-- ---- what the job gave

-- the code and the values that the run left, from the turn's start
meets : (effect : Effect) (s : Stage) (job : Job) (m k n : Moment) (code : ℤ) → IsStage s → IsJobOf s job → IsReadied job m k → InWork s [] m k → m.aside.fixed.effect ≡ Some effect → IsRun job code k n → Meets (effect (invocation_of job m.tree)) code (map (value_at n.tree) (stage_outs s))
meets effect s job m k n code stage its ready work told run =
    let known : k.aside.fixed.effect ≡ Some effect = ap (λ (f : Fixed). f.effect) work.aside.fixed ∙ told in
    let values = map (value_at n.tree) (out_paths job) in
    let here : Meets (effect (invocation_of job k.tree)) code values =
    if_some_at k.aside.fixed.effect (λ e. Meets (e (invocation_of job k.tree)) code values) effect known run.outcome in
    let from_start : Meets (effect (invocation_of job m.tree)) code values =
    subst (λ given. Meets (effect given) code values) ready.given here in
    subst (λ (outs : List Path). Meets (effect (invocation_of job m.tree)) code (map (value_at n.tree) outs)) (job_outs s job stage its) from_start

failed_of_code : (s : Stage) (o : Outcome) (code : ℤ) (values : List Value) → code ≢ pos 0 → Meets o code values → outcome_fault s o ≡ Some (CommandFailed s.name code)
failed_of_code s (fails found) code values h m = ap (λ (x : ℤ). Some (CommandFailed s.name x)) (sym m.1)
failed_of_code s (gives wanted) code values h m = absurd (h m.0)

gives_of_code : (o : Outcome) (values : List Value) → Meets o (pos 0) values → o ≡ gives values
gives_of_code (fails found) values m = absurd (m.0 (sym m.1))
gives_of_code (gives wanted) values m = ap gives (sym m.1)

pub run_due : (s : Stage) (job : Job) (m k n : Moment) (f : Fault) → IsStage s → IsJobOf s job → way_fault s m.tree ≡ None → IsReadied job m k → InWork s [] m k → WasRun job s.name (Some f) k n → MayBe end_kinds (Some f) → IfSome m.aside.fixed.effect (λ effect. MakesOuts effect s job (Some f) m n)
run_due s job m k n NoMemory stage its none ready work run end =
    if_some m.aside.fixed.effect (λ effect. MakesOuts effect s job (Some NoMemory) m n) (λ effect e. inl refl)
run_due s job m k n WorldFault stage its none ready work run end =
    if_some m.aside.fixed.effect (λ effect. MakesOuts effect s job (Some WorldFault) m n) (λ effect e. inl refl)
run_due s job m k n (CommandFailed name found) stage its none ready work run end =
    if_some m.aside.fixed.effect (λ effect. MakesOuts effect s job (Some (CommandFailed name found)) m n) (λ effect e. let failed = failed_of_code s (effect (invocation_of job m.tree)) run.0 (map (value_at n.tree) (stage_outs s)) (subst (λ (x : ℤ). x ≢ pos 0) run.2.1 run.2.2) (meets effect s job m k n run.0 stage its ready work e run.1) in let due = failed ∙ ap (λ (x : ℤ). Some (CommandFailed s.name x)) (sym run.2.1) ∙ ap (λ (x : List ℕ). Some (CommandFailed x found)) (sym run.2.0) in inr (ap (λ o. first_fault o (outcome_fault s (effect (invocation_of job m.tree)))) none ∙ due))
run_due s job m k n _ stage its none ready work run end = absurd (false≢true end)

gave : (effect : Effect) (s : Stage) (job : Job) (m k n : Moment) → IsStage s → IsJobOf s job → IsReadied job m k → InWork s [] m k → m.aside.fixed.effect ≡ Some effect → WasRun job s.name None k n → effect (invocation_of job m.tree) ≡ gives (map (value_at n.tree) (stage_outs s))
gave effect s job m k n stage its ready work told run =
    let values = map (value_at n.tree) (stage_outs s) in
    let given = invocation_of job m.tree in
    gives_of_code (effect given) values (subst (λ (code : ℤ). Meets (effect given) code values) run.2 (meets effect s job m k n run.0 stage its ready work told run.1))

-- ---- what it left

values_at : (t : Tree) (os : List Out) → map (value_at t) (map out_path os) ≡ map (λ o. value_at t o.path) os
values_at t [] = refl
values_at t (o ∷ os) = ap (λ (vs : List Value). value_at t o.path ∷ vs) (values_at t os)

missing_is : (s : Stage) (t : Tree) → IsStage s → missing_fault s (map (value_at t) (stage_outs s)) ≡ first_of (λ o. refused_out s.name o (value_at t o.path)) s.outs
missing_is s t stage =
    missing_at (λ o. value_at t o.path) s (map (value_at t) (stage_outs s)) stage.made stage.out_texts (values_at t s.made)

dir_stays : (s : Stage) (job : Job) (m k n : Moment) → IsStage s → IsJobOf s job → IsReadied job m k → InRun job k n → is_in_any (stage_outs s) s.dir ≡ false → item_at n.tree s.dir ≡ Some folder
dir_stays s job m k n stage its ready run out =
    let folders = ready.folders in
    run.others.items s.dir (ap (λ (outs : List Path). is_in_any outs s.dir) (job_outs s job stage its) ∙ out) ∙ ap (λ (j : Job). item_at k.tree j.dir) (sym its.1) ∙ folders.dir

look_made : (effect : Effect) (s : Stage) (job : Job) (m k n : Moment) (got : Option Fault) → IsStage s → IsJobOf s job → way_fault s m.tree ≡ None → IsReadied job m k → InRun job k n → effect (invocation_of job m.tree) ≡ gives (map (value_at n.tree) (stage_outs s)) → IsAnswer got (first_of (λ o. refused_out s.name o (value_at n.tree o.path)) s.outs) → MakesOuts effect s job got m n
look_made effect s job m k n None stage its none ready run made due =
    record { way = none; gave = made; there = missing_is s n.tree stage ∙ due; dir = dir_stays s job m k n stage its ready run }
look_made effect s job m k n (Some fault) stage its none ready run made (inl free) = inl free
look_made effect s job m k n (Some fault) stage its none ready run made (inr due) =
    let vs = map (value_at n.tree) (stage_outs s) in
    inr (ap (λ o. first_fault o (outcome_fault s (effect (invocation_of job m.tree)))) none ∙ ap (outcome_fault s) made ∙ ap (λ o. first_fault o (large_fault s vs)) (missing_is s n.tree stage ∙ due))

pub look_due : (s : Stage) (job : Job) (m k n : Moment) (got : Option Fault) → IsStage s → IsJobOf s job → way_fault s m.tree ≡ None → IsReadied job m k → InWork s [] m k → InRun job k n → WasRun job s.name None k n → IsAnswer got (first_of (λ o. refused_out s.name o (value_at n.tree o.path)) s.outs) → IfSome m.aside.fixed.effect (λ effect. MakesOuts effect s job got m n)
look_due s job m k n got stage its none ready work during run due =
    if_some m.aside.fixed.effect (λ effect. MakesOuts effect s job got m n)
    (λ effect e. look_made effect s job m k n got stage its none ready during (gave effect s job m k n stage its ready work e run) due)

-- an output of a list is one of the list in order
put_one : (o : Out) (os : List Out) (p : Path) → IsOneOf (map out_path (o ∷ os)) p → IsOneOf (map out_path (put_in out_text o os)) p
put_one o [] p h = h
put_one o (q ∷ qs) p h =
    elim (cases_Bool (is_less q.text o.text)) [
      | inl e ↦
          subst (λ (l : List Out). IsOneOf (map out_path l) p) (sym (cond-true (is_less q.text o.text) (q ∷ put_in out_text o qs) (o ∷ q ∷ qs) e))
          (elim h [
            | inl here ↦ inr (put_one o qs p (inl here))
            | inr later ↦ elim later [ inl first ↦ inl first | inr rest ↦ inr (put_one o qs p (inr rest)) ]
          ])
      | inr e ↦
          subst (λ (l : List Out). IsOneOf (map out_path l) p) (sym (cond-false (is_less q.text o.text) (q ∷ put_in out_text o qs) (o ∷ q ∷ qs) e)) h
    ]

one_ordered : (os : List Out) (p : Path) → IsOneOf (map out_path os) p → IsOneOf (map out_path (in_order out_text os)) p
one_ordered [] p h = absurd h
one_ordered (o ∷ os) p (inl here) = put_one o (in_order out_text os) p (inl here)
one_ordered (o ∷ os) p (inr later) = put_one o (in_order out_text os) p (inr (one_ordered os p later))

pub made_tells : (s : Stage) (got : Option Fault) → IsStage s → MayBe look_kinds got → TellsMade s.name s.outs got → TellsOwn s got
made_tells s None stage kind told = tt
made_tells s (Some NoMemory) stage kind told = tt
made_tells s (Some WorldFault) stage kind told = tt
made_tells s (Some (MissingOutput name path)) stage kind told = (told.0, subst (λ (os : List Out). IsOneOf (map out_path os) path) (sym stage.made) (one_ordered s.outs path told.1))
made_tells s (Some _) stage kind told = absurd (false≢true kind)

-- ---- the jobs that have run

abbrev ran_of : Fixed → List Job
ran_of f = f.ran

none_ran : (s : Stage) (m k : Moment) → InWork s [] m k → k.aside.fixed.ran ≡ m.aside.fixed.ran
none_ran s m k work = ap ran_of work.aside.fixed ∙ append-nil m.aside.fixed.ran

one_ran : (s : Stage) (job : Job) (m k n : Moment) (code : ℤ) → InWork s [] m k → IsRun job code k n → n.aside.fixed.ran ≡ m.aside.fixed.ran ++ job ∷ []
one_ran s job m k n code work run = ap ran_of run.ran.fixed ∙ ap (λ (l : List Job). l ++ job ∷ []) (none_ran s m k work)

pub ran_front : (job : Job) (m n : Moment) → n.aside.fixed.ran ≡ m.aside.fixed.ran → RunsJob job (Some WorldFault) m n
ran_front job m n e =
    record { front = []; back = job ∷ []; cut = refl; grown = e ∙ sym (append-nil m.aside.fixed.ran) }

pub ran_run : (s : Stage) (job : Job) (m k n : Moment) (f : Fault) → InWork s [] m k → WasRun job s.name (Some f) k n → MayBe end_kinds (Some f) → RunsJob job (Some f) m n
ran_run s job m k n NoMemory work run end =
    record { front = job ∷ []; back = []; cut = refl; grown = one_ran s job m k n run.0 work run.1 }
ran_run s job m k n WorldFault work run end = ran_front job m n (ap ran_of run.fixed ∙ none_ran s m k work)
ran_run s job m k n (CommandFailed name found) work run end = one_ran s job m k n run.0 work run.1
ran_run s job m k n _ work run end = absurd (false≢true end)

pub ran_look : (s : Stage) (job : Job) (m k n : Moment) (got : Option Fault) → InWork s [] m k → WasRun job s.name None k n → MayBe look_kinds got → RunsJob job got m n
ran_look s job m k n None work run kind = one_ran s job m k n run.0 work run.1
ran_look s job m k n (Some NoMemory) work run kind =
    record { front = job ∷ []; back = []; cut = refl; grown = one_ran s job m k n run.0 work run.1 }
ran_look s job m k n (Some WorldFault) work run kind =
    record { front = job ∷ []; back = []; cut = refl; grown = one_ran s job m k n run.0 work run.1 }
ran_look s job m k n (Some (MissingOutput name path)) work run kind = one_ran s job m k n run.0 work run.1
ran_look s job m k n (Some _) work run kind = absurd (false≢true kind)

-- ---- moments

pub works_same : (s : Stage) (a b : History) → b ≡ a → PassesFrom (InWorks s) a b
works_same s a b e = passes_same (InWorks s a.present) a b e (works_itself s a.present)

-- a look, and then steps
pub work_on : (s : Stage) (a b c : History) → b ≡ a → PassesFrom (InWork s []) b c → PassesFrom (InWork s []) a c
work_on s a b c e x = subst (λ (h : History). PassesFrom (InWork s []) h c) e x

pub works_on : (s : Stage) (a b c : History) → b ≡ a → PassesFrom (InWork s []) b c → PassesFrom (InWorks s) a c
works_on s a b c e x =
    passes_weaker (InWork s [] a.present) (InWorks s a.present) a c (works_of_work s a.present) (work_on s a b c e x)

pub works_run : (s : Stage) (job : Job) (a b c d : History) → IsStage s → IsKept is_own s → IsJobOf s job → b ≡ a → PassesFrom (InWork s []) b c → PassesFrom (InRun job) c d → PassesFrom (InWorks s) a d
works_run s job a b c d stage kept its e x y =
    passes_still s a c d (work_on s a b c e x) (passes_weaker (InRun job c.present) (InWorks s c.present) c d (λ m h. works_of_run s job c.present m stage kept its h) y)

-- ---- after the look at the way, the steps up to the job, and its run

pub record IsRanAt (s : Stage) (job : Job) (m k n : Moment) (got : Option Fault) : Type 0 where
  pub way : way_fault s m.tree ≡ None
  pub ready : IsReadied job m k
  pub work : InWork s [] m k
  pub during : InRun job k n
  pub run : WasRun job s.name got k n

pub ran_at : (s : Stage) (roads : List Path) (job : Job) (a b c d : History) (got : Option Fault) → roads ≡ s.dir ∷ map above_out s.outs → b ≡ a → roads_fault a.present.tree roads ≡ None → IsReadied job b.present c.present → PassesFrom (InWork s []) b c → PassesFrom (InRun job) c d → WasRun job s.name got c.present d.present → IsRanAt s job a.present c.present d.present got
ran_at s roads job a b c d got r e none ready x y run =
    let work = work_on s a b c e x in
    record {
      way = way_none s roads a.present.tree r none;
      ready = subst (λ (h : History). IsReadied job h.present c.present) e ready;
      work = work.now;
      during = y.now;
      run = run;
    }
