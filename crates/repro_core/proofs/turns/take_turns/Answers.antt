-- Each turn adds to those so far; a refusal ends them, and so does the last stage.
use Rattle.std.proofs.Common.{rules, ◌≡◌, ℕ, ◌+◌, List, length, [], ◌∷◌, ◌++◌, take, drop, inl, refl, sym, ap, subst, ◌∙◌, Some, None, IsTrue}
use Rattle.std.proofs.lemmas.List.{take_all, length-append}
use Rattle.std.proofs.lemmas.Result.{err_from_is_err_and}
use Rattle.world_api.specs.Effect.{Effect}
use Rattle.world_api.specs.History.{Passes}
use Rattle.world_api.specs.Outside.{tree_of, jobs_of}
use Rattle.repro_laws.specs.Stage.{IsStage}
use Rattle.repro_laws.specs.Due.{Due, standing_of, due, fault_of, report, jobs}
use Rattle.repro_laws.specs.Turns.{state}
use Rattle.repro_laws.specs.Headline.{IsKept, LeavesAnew}
use Rattle.repro_laws.specs.Moments.{is_own, InTurns}
use Rattle.repro_laws.specs.Sound.{AreReliable, IsAnswerAt, GainsAt, AreHalted, IsReport}
use Rattle.repro_laws.specs.declared.stage.Stage.{Stage}
use Rattle.repro_laws.specs.declared.stage.Choice.{Choice}
use Rattle.repro_core.specs.Turning.{Turned, JobsGain, AreTaken}
use Rattle.repro_core.proofs.OptionLemmas.{if_some, if_some_at}
use Rattle.repro_core.specs.Summaries.{summary_of, total}
use Rattle.repro_core.specs.declared.summary.Summary.{Summary}
use Rattle.repro_core.proofs.SoFarLemmas.{Spot, seen_before}
use Rattle.repro_core.proofs.SummaryLemmas.{Counted, counted_none, spot_counted, counted_more, total_more, taken_of}
use Rattle.repro_core.proofs.ToldLemmas.{IsTold, told_none, told_more, told_all, told_halt}
use Rattle.repro_core.proofs.ExitLemmas.{IsHalt, halt_left, halt_moments, halt_answer, halt_ran, halt_report, IsEnd, IsDueAll, end_headline}
use Rattle.repro_core.proofs.ReproLemmas.{cut_at, front_at, each_at, alone_at, spot, spot_at, known_at, halt_at, end_at, idle_more, idle_halt}
use Rattle.repro_core.proofs.turns.take_turns.Given.{Over}
use Rattle.repro_core.proofs.turns.take_turns.Goals.{After-from_residual}
use Rattle.repro_core.proofs.turns.take_turns.Goals as goal

pub loop-stage-init : goal.loop-stage-init
loop-stage-init g c =
    record {
      form = c.requires.form;
      place = c.requires.place;
      read = c.requires.lock;
      so_far = λ told effect e. subst (λ (x : Summary). Counted c.args.flags effect [] c.args.lock.now c.args.lock.now (g.W.Ground.history c.args.world.now) (g.W.Ground.history c.args.world.now) g.K.Sink.tells (g.K.Sink.taken c.args.out.now) (g.K.Sink.taken c.args.out.now) x) (sym c.none-summary.ensures.exact) (counted_none c.args.flags effect c.args.lock.now (g.W.Ground.history c.args.world.now) g.K.Sink.tells (g.K.Sink.taken c.args.out.now));
      all = ap total c.none-summary.ensures.exact;
      front = refl;
      lines = λ told. told_none (g.K.Sink.taken c.args.out.now);
      idle = λ told effect e nothing. (refl, refl);
      world_counted = search rules;
      out_counted = search rules;
    }

-- ---- what a turn asks

pub take_turn-requires-clause-stage : goal.take_turn-requires-clause-stage
take_turn-requires-clause-stage g c =
    each_at IsStage c.args.stages.now c.loop-stage.stage-index c.stage-item.result c.loop-stage-test.true c.stage-item.is c.requires.planned.each

pub take_turn-requires-clause-kept : goal.take_turn-requires-clause-kept
take_turn-requires-clause-kept g c =
    each_at (IsKept is_own) c.args.stages.now c.loop-stage.stage-index c.stage-item.result c.loop-stage-test.true c.stage-item.is c.requires.planned.kept

pub take_turn-requires-clause-ordered : goal.take_turn-requires-clause-ordered
take_turn-requires-clause-ordered g c =
    alone_at c.args.stages.now c.loop-stage.stage-index c.stage-item.result c.loop-stage-test.true c.stage-item.is c.requires.planned.order

-- ---- a turn is refused

abbrev refused_spot : (g : Over) → After-from_residual g → Effect → Spot
refused_spot g c =
    spot c.args.flags c.args.stages.now c.loop-stage.stage-index c.stage-item.result c.args.lock.now c.loop-stage.lock (g.W.Ground.history c.args.world.now) (g.W.Ground.history c.loop-stage.world) g.K.Sink.tells (g.K.Sink.taken c.args.out.now) (g.K.Sink.taken c.loop-stage.out)

refused : (g : Over) (c : After-from_residual g) → IsTrue g.W.Ground.tells → (effect : Effect) → (g.W.Ground.history c.args.world.now).present.aside.fixed.effect ≡ Some effect → IsHalt (refused_spot g c effect) c.in_err-choice.field-0.0 (g.W.Ground.history c.take_turn.new.world) (g.K.Sink.taken c.take_turn.new.out)
refused g c told effect e =
    let all = c.args.stages.now in
    let i = c.loop-stage.stage-index in
    let s = c.stage-item.result in
    let a = g.W.Ground.history c.args.world.now in
    let k = g.W.Ground.history c.loop-stage.world in
    let old = c.args.lock.now in
    let lock = c.loop-stage.lock in
    let before = g.K.Sink.taken c.args.out.now in
    let mid = g.K.Sink.taken c.loop-stage.out in
    let inv = c.loop-stage.invariant in
    let of = c.in_err-choice.ensures in
    let so = (inv.so_far told effect e).0 in
    let at = spot_at c.args.flags all i s old lock a k g.K.Sink.tells before mid effect c.loop-stage-test.true c.stage-item.is c.requires.planned (g.met.W.ReadFiles.stands c.args.world.now told).0 c.requires.no_restore so in
    let known = known_at c.args.flags all i s old lock a k g.K.Sink.tells before mid effect so e in
    halt_at (refused_spot g c effect) c.in_err-choice.field-0.0 c.take_turn.new.lock (g.W.Ground.history c.take_turn.new.world) (g.K.Sink.taken c.take_turn.new.out) at known (of.turned told) (λ t. of.report told t) (of.lines_first told)

pub returns-in_err-choice-clause-answer : goal.returns-in_err-choice-clause-answer
returns-in_err-choice-clause-answer g c told =
    let all = c.args.stages.now in
    let a = g.W.Ground.history c.args.world.now in
    let n = g.W.Ground.history c.take_turn.new.world in
    let old = c.args.lock.now in
    let flags = c.args.flags in
    let before = g.K.Sink.taken c.args.out.now in
    let taken = g.K.Sink.taken c.take_turn.new.out in
    let fault = c.in_err-choice.field-0.0 in
    let x = refused_spot g c in
    let exit = err_from_is_err_and c.from_residual.result c.from_residual.ensures.1 in
    rw (exit.1, exit.2) (if_some a.present.aside.fixed.effect (λ effect. AreReliable effect all old a.present n.present → IsAnswerAt (tree_of n) (Some fault) (fault_of flags effect all (standing_of (tree_of a) old))) (λ effect e. λ safe. halt_answer (x effect) fault n taken (refused g c told effect e) safe))

pub returns-in_err-choice-clause-ran : goal.returns-in_err-choice-clause-ran
returns-in_err-choice-clause-ran g c told =
    let all = c.args.stages.now in
    let a = g.W.Ground.history c.args.world.now in
    let n = g.W.Ground.history c.take_turn.new.world in
    let old = c.args.lock.now in
    let flags = c.args.flags in
    let before = g.K.Sink.taken c.args.out.now in
    let taken = g.K.Sink.taken c.take_turn.new.out in
    let fault = c.in_err-choice.field-0.0 in
    let x = refused_spot g c in
    let exit = err_from_is_err_and c.from_residual.result c.from_residual.ensures.1 in
    rw (exit.1, exit.2) (if_some a.present.aside.fixed.effect (λ effect. AreReliable effect all old a.present n.present → JobsGain (tree_of n) (Some fault) (jobs_of a) (jobs (due flags effect all (standing_of (tree_of a) old))) (jobs_of n)) (λ effect e. λ safe. halt_ran (x effect) fault n taken (refused g c told effect e) safe))

pub returns-in_err-choice-clause-report : goal.returns-in_err-choice-clause-report
returns-in_err-choice-clause-report g c lines told =
    let all = c.args.stages.now in
    let a = g.W.Ground.history c.args.world.now in
    let n = g.W.Ground.history c.take_turn.new.world in
    let old = c.args.lock.now in
    let flags = c.args.flags in
    let before = g.K.Sink.taken c.args.out.now in
    let taken = g.K.Sink.taken c.take_turn.new.out in
    let fault = c.in_err-choice.field-0.0 in
    let x = refused_spot g c in
    let exit = err_from_is_err_and c.from_residual.result c.from_residual.ensures.1 in
    rw (exit.1, exit.2) (if_some a.present.aside.fixed.effect (λ effect. AreReliable effect all old a.present n.present → GainsAt (tree_of n) (Some fault) before (report (due flags effect all (standing_of (tree_of a) old))) taken) (λ effect e. λ safe. halt_report (x effect) fault n taken (refused g c told effect e) safe lines))

pub returns-in_err-choice-clause-halted : goal.returns-in_err-choice-clause-halted
returns-in_err-choice-clause-halted g c =
    let all = c.args.stages.now in
    let a = g.W.Ground.history c.args.world.now in
    let n = g.W.Ground.history c.take_turn.new.world in
    let old = c.args.lock.now in
    let flags = c.args.flags in
    let before = g.K.Sink.taken c.args.out.now in
    let taken = g.K.Sink.taken c.take_turn.new.out in
    let fault = c.in_err-choice.field-0.0 in
    let x = refused_spot g c in
    let exit = err_from_is_err_and c.from_residual.result c.from_residual.ensures.1 in
    rw (exit.1, exit.2) (λ told. if_some a.present.aside.fixed.effect (λ effect. AreHalted flags effect all old fault a.present n.present) (λ effect e. halt_left (x effect) fault n taken (refused g c told effect e)))

pub returns-in_err-choice-clause-moments : goal.returns-in_err-choice-clause-moments
returns-in_err-choice-clause-moments g c told =
    let all = c.args.stages.now in
    let a = g.W.Ground.history c.args.world.now in
    let n = g.W.Ground.history c.take_turn.new.world in
    let old = c.args.lock.now in
    let flags = c.args.flags in
    let before = g.K.Sink.taken c.args.out.now in
    let taken = g.K.Sink.taken c.take_turn.new.out in
    let fault = c.in_err-choice.field-0.0 in
    let x = refused_spot g c in
    let exit = err_from_is_err_and c.from_residual.result c.from_residual.ensures.1 in
    (if_some a.present.aside.fixed.effect (λ effect. Passes (InTurns flags effect all old a.present n.present) a n) (λ effect e. halt_moments (x effect) fault n taken (refused g c told effect e)))

pub returns-in_err-choice-clause-lines : goal.returns-in_err-choice-clause-lines
returns-in_err-choice-clause-lines g c told =
    let all = c.args.stages.now in
    let i = c.loop-stage.stage-index in
    let s = c.stage-item.result in
    let before = g.K.Sink.taken c.args.out.now in
    let mid = g.K.Sink.taken c.loop-stage.out in
    let taken = g.K.Sink.taken c.take_turn.new.out in
    let fault = c.in_err-choice.field-0.0 in
    let cut = cut_at all i s c.loop-stage-test.true c.stage-item.is in
    let exit = err_from_is_err_and c.from_residual.result c.from_residual.ensures.1 in
    let took = c.in_err-choice.ensures.front told in
    rw (exit.1, exit.2) (subst (λ (l : List Stage). IsReport l (Some fault) before taken) (sym cut) (told_halt (take i all) s took.0 (drop (i + 1) all) fault before mid taken (c.loop-stage.invariant.lines told) took.1))

pub returns-in_err-choice-clause-told : goal.returns-in_err-choice-clause-told
returns-in_err-choice-clause-told g c =
    let all = c.args.stages.now in
    let i = c.loop-stage.stage-index in
    let s = c.stage-item.result in
    let cut = cut_at all i s c.loop-stage-test.true c.stage-item.is in
    let exit = err_from_is_err_and c.from_residual.result c.from_residual.ensures.1 in
    rw (exit.1, exit.2) (record { stage = s; before = take i all; after = drop (i + 1) all; cut = cut; own = c.in_err-choice.ensures.told })

pub returns-in_err-choice-clause-untouched : goal.returns-in_err-choice-clause-untouched
returns-in_err-choice-clause-untouched g c told =
    let all = c.args.stages.now in
    let i = c.loop-stage.stage-index in
    let s = c.stage-item.result in
    let a = g.W.Ground.history c.args.world.now in
    let k = g.W.Ground.history c.loop-stage.world in
    let n = g.W.Ground.history c.take_turn.new.world in
    let old = c.args.lock.now in
    let flags = c.args.flags in
    let inv = c.loop-stage.invariant in
    let cut = cut_at all i s c.loop-stage-test.true c.stage-item.is in
    if_some a.present.aside.fixed.effect (λ effect. due flags effect all (standing_of (tree_of a) old) ≡ [] → n ≡ a) (λ effect e. λ nothing. let idle = inv.idle told effect e nothing in idle_halt flags effect all (take i all) s (drop (i + 1) all) old a k n cut idle.0 idle.1 nothing (c.take_turn.ensures.refused_first told))

-- ---- a turn has ended

pub loop-stage-preserved : goal.loop-stage-preserved
loop-stage-preserved g c =
    let all = c.args.stages.now in
    let i = c.loop-stage.stage-index in
    let s = c.stage-item.result in
    let within = c.loop-stage-test.true in
    let here = c.stage-item.is in
    let flags = c.args.flags in
    let tells = g.K.Sink.tells in
    let a = g.W.Ground.history c.args.world.now in
    let k = g.W.Ground.history c.loop-stage.world in
    let n = g.W.Ground.history c.take_turn.new.world in
    let old = c.args.lock.now in
    let lock = c.loop-stage.lock in
    let new = c.take_turn.new.lock in
    let before = g.K.Sink.taken c.args.out.now in
    let mid = g.K.Sink.taken c.loop-stage.out in
    let taken = g.K.Sink.taken c.take_turn.new.out in
    let inv = c.loop-stage.invariant in
    let chosen = c.in_ok-choice.choice in
    let of = c.in_ok-choice.ensures in
    let more = front_at all i s within here in
    let x : Effect → Spot = spot flags all i s old lock a k tells before mid in
    let took : IsTrue g.W.Ground.tells → (effect : Effect) → a.present.aside.fixed.effect ≡ Some effect → Turned flags effect s chosen lock new None k n =
    λ told effect e.
    let known = known_at flags all i s old lock a k tells before mid effect (inv.so_far told effect e).0 e in
    let turn = if_some_at k.present.aside.fixed.effect (λ f. (choice : Choice) × (chosen ≡ choice) × Turned flags f s choice lock new None k n) effect known (of.turned told) in
    subst (λ (choice : Choice). Turned flags effect s choice lock new None k n) (sym turn.1) turn.2 in
    record {
      form = c.take_turn.ensures.form;
      place = of.place;
      read = of.remembered;
      so_far = λ told effect e.
          let at = spot_at flags all i s old lock a k tells before mid effect within here c.requires.planned (g.met.W.ReadFiles.stands c.args.world.now told).0 c.requires.no_restore (inv.so_far told effect e).0 in
          subst (λ (l : List Stage). Counted flags effect l old new a n tells before taken c.count.new.self) (sym more) (counted_more (x effect) at n chosen new taken (took told effect e) of.lines c.loop-stage.summary c.count.new.self (spot_counted flags all i s old lock a k tells before mid effect within here c.requires.planned (g.met.W.ReadFiles.stands c.args.world.now told).0 c.requires.no_restore (inv.so_far told effect e).0 c.loop-stage.summary (inv.so_far told effect e).1) c.count.ensures.counted);
      all = ap total c.count.ensures.counted ∙ total_more chosen c.loop-stage.summary ∙ ap (λ (m : ℕ). m + 1) inv.all;
      front = ap length more ∙ length-append (take i all) (s ∷ []) ∙ ap (λ (m : ℕ). m + 1) inv.front;
      lines = λ told. subst (λ (l : List Stage). IsTold l before taken) (sym more) (told_more (take i all) s chosen before mid taken (inv.lines told) (of.lines told));
      idle = λ told effect e nothing. let idle = inv.idle told effect e nothing in absurd (idle_more flags effect all (take i all) s (drop (i + 1) all) old a k (cut_at all i s within here) idle.0 idle.1 nothing (seen_before flags effect s chosen lock new k n (took told effect e)));
      world_counted = search rules;
      out_counted = search rules;
    }

-- ---- all turns have ended

ended : (g : Over) (c : goal.After-loop-stage g) → IsTrue g.W.Ground.tells → (effect : Effect) → (g.W.Ground.history c.args.world.now).present.aside.fixed.effect ≡ Some effect → IsEnd c.args.flags effect c.args.stages.now c.args.lock.now c.loop-stage.lock (g.W.Ground.history c.args.world.now) (g.W.Ground.history c.loop-stage.world) g.K.Sink.tells (g.K.Sink.taken c.args.out.now) (g.K.Sink.taken c.loop-stage.out)
ended g c told effect e =
    let all = c.args.stages.now in
    let i = c.loop-stage.stage-index in
    let inv = c.loop-stage.invariant in
    end_at c.args.flags effect all (take i all) c.args.lock.now c.loop-stage.lock (g.W.Ground.history c.args.world.now) (g.W.Ground.history c.loop-stage.world) g.K.Sink.tells (g.K.Sink.taken c.args.out.now) (g.K.Sink.taken c.loop-stage.out) (take_all i all c.loop-stage-test.false) c.requires.planned (g.met.W.ReadFiles.stands c.args.world.now told).0 (inv.read told) c.requires.no_restore (inv.so_far told effect e).0

reliable_due : (g : Over) (c : goal.After-loop-stage g) (told : IsTrue g.W.Ground.tells) (effect : Effect) (e : (g.W.Ground.history c.args.world.now).present.aside.fixed.effect ≡ Some effect) → AreReliable effect c.args.stages.now c.args.lock.now (g.W.Ground.history c.args.world.now).present (g.W.Ground.history c.loop-stage.world).present → IsDueAll c.args.flags effect c.args.stages.now c.args.lock.now c.loop-stage.lock (IsEnd.so_far (ended g c told effect e)).ended (g.W.Ground.history c.args.world.now) (g.W.Ground.history c.loop-stage.world)
reliable_due g c told effect e safe =
    end_headline c.args.flags effect c.args.stages.now c.args.lock.now c.loop-stage.lock (g.W.Ground.history c.args.world.now) (g.W.Ground.history c.loop-stage.world) g.K.Sink.tells (g.K.Sink.taken c.args.out.now) (g.K.Sink.taken c.loop-stage.out) (ended g c told effect e) safe

pub returns-clause-headline : goal.returns-clause-headline
returns-clause-headline g c told =
    let all = c.args.stages.now in
    let a = g.W.Ground.history c.args.world.now in
    let n = g.W.Ground.history c.loop-stage.world in
    let old = c.args.lock.now in
    let lock = c.loop-stage.lock in
    let flags = c.args.flags in
    let before = g.K.Sink.taken c.args.out.now in
    let taken = g.K.Sink.taken c.loop-stage.out in
    if_some a.present.aside.fixed.effect (λ effect. AreReliable effect all old a.present n.present → LeavesAnew is_own effect all (state (tree_of a) old) (state (tree_of n) lock)) (λ effect e. λ safe. (reliable_due g c told effect e safe).anew)

pub returns-clause-taken : goal.returns-clause-taken
returns-clause-taken g c told =
    let all = c.args.stages.now in
    let a = g.W.Ground.history c.args.world.now in
    let n = g.W.Ground.history c.loop-stage.world in
    let old = c.args.lock.now in
    let lock = c.loop-stage.lock in
    let flags = c.args.flags in
    let before = g.K.Sink.taken c.args.out.now in
    let taken = g.K.Sink.taken c.loop-stage.out in
    let summary = c.loop-stage.summary in
    if_some a.present.aside.fixed.effect (λ effect. (turns : AreTaken flags effect all old lock a.present n.present) × (summary ≡ summary_of turns.ended)) (λ effect e. taken_of flags effect (take c.loop-stage.stage-index all) all old lock a n g.K.Sink.tells before taken summary (take_all c.loop-stage.stage-index all c.loop-stage-test.false) (c.loop-stage.invariant.so_far told effect e))

pub returns-clause-answer : goal.returns-clause-answer
returns-clause-answer g c told =
    let all = c.args.stages.now in
    let a = g.W.Ground.history c.args.world.now in
    let n = g.W.Ground.history c.loop-stage.world in
    let old = c.args.lock.now in
    let lock = c.loop-stage.lock in
    let flags = c.args.flags in
    let before = g.K.Sink.taken c.args.out.now in
    let taken = g.K.Sink.taken c.loop-stage.out in
    if_some a.present.aside.fixed.effect (λ effect. AreReliable effect all old a.present n.present → IsAnswerAt (tree_of n) None (fault_of flags effect all (standing_of (tree_of a) old))) (λ effect e. λ safe. inl (reliable_due g c told effect e safe).fault)

pub returns-clause-ran : goal.returns-clause-ran
returns-clause-ran g c told =
    let all = c.args.stages.now in
    let a = g.W.Ground.history c.args.world.now in
    let n = g.W.Ground.history c.loop-stage.world in
    let old = c.args.lock.now in
    let lock = c.loop-stage.lock in
    let flags = c.args.flags in
    let before = g.K.Sink.taken c.args.out.now in
    let taken = g.K.Sink.taken c.loop-stage.out in
    if_some a.present.aside.fixed.effect (λ effect. AreReliable effect all old a.present n.present → JobsGain (tree_of n) None (jobs_of a) (jobs (due flags effect all (standing_of (tree_of a) old))) (jobs_of n)) (λ effect e. λ safe. let so = (ended g c told effect e).so_far in inl (inl (so.ran ∙ ap (λ (ds : List Due). jobs_of a ++ jobs ds) (reliable_due g c told effect e safe).due)))

pub returns-clause-report : goal.returns-clause-report
returns-clause-report g c lines told =
    let all = c.args.stages.now in
    let a = g.W.Ground.history c.args.world.now in
    let n = g.W.Ground.history c.loop-stage.world in
    let old = c.args.lock.now in
    let lock = c.loop-stage.lock in
    let flags = c.args.flags in
    let before = g.K.Sink.taken c.args.out.now in
    let taken = g.K.Sink.taken c.loop-stage.out in
    if_some a.present.aside.fixed.effect (λ effect. AreReliable effect all old a.present n.present → GainsAt (tree_of n) None before (report (due flags effect all (standing_of (tree_of a) old))) taken) (λ effect e. λ safe. let so = (ended g c told effect e).so_far in inl (so.lines lines ∙ ap (λ (ds : List Due). before ++ report ds) (reliable_due g c told effect e safe).due))

pub returns-clause-moments : goal.returns-clause-moments
returns-clause-moments g c told =
    let all = c.args.stages.now in
    let a = g.W.Ground.history c.args.world.now in
    let n = g.W.Ground.history c.loop-stage.world in
    let old = c.args.lock.now in
    let lock = c.loop-stage.lock in
    let flags = c.args.flags in
    let before = g.K.Sink.taken c.args.out.now in
    let taken = g.K.Sink.taken c.loop-stage.out in
    if_some a.present.aside.fixed.effect (λ effect. Passes (InTurns flags effect all old a.present n.present) a n) (λ effect e. (ended g c told effect e).so_far.moments)

pub returns-clause-untouched : goal.returns-clause-untouched
returns-clause-untouched g c told =
    let all = c.args.stages.now in
    let a = g.W.Ground.history c.args.world.now in
    let n = g.W.Ground.history c.loop-stage.world in
    let old = c.args.lock.now in
    let lock = c.loop-stage.lock in
    let flags = c.args.flags in
    let before = g.K.Sink.taken c.args.out.now in
    let taken = g.K.Sink.taken c.loop-stage.out in
    if_some a.present.aside.fixed.effect (λ effect. due flags effect all (standing_of (tree_of a) old) ≡ [] → n ≡ a) (λ effect e. λ nothing. (c.loop-stage.invariant.idle told effect e nothing).1)

pub returns-clause-lines : goal.returns-clause-lines
returns-clause-lines g c told =
    let all = c.args.stages.now in
    let i = c.loop-stage.stage-index in
    let before = g.K.Sink.taken c.args.out.now in
    let taken = g.K.Sink.taken c.loop-stage.out in
    told_all all before taken (subst (λ (l : List Stage). IsTold l before taken) (take_all i all c.loop-stage-test.false) (c.loop-stage.invariant.lines told))

-- ---- counts

pub returns-clause-counted : goal.returns-clause-counted
returns-clause-counted g c =
    let inv = c.loop-stage.invariant in
    inv.all ∙ sym inv.front ∙ ap length (take_all c.loop-stage.stage-index c.args.stages.now c.loop-stage-test.false)
