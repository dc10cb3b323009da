-- What each step leaves, and the turn that it makes.
use Rattle.std.proofs.Common.{refl, sym, ap, subst, ◌∙◌, Some, None, IfSome}
use Rattle.std.proofs.lemmas.Result.{err_from_is_err_and}
use Rattle.dvc_base.specs.Answer.{fault_in}
use Rattle.dvc_base.specs.declared.fault.Fault.TheVariants.{NoMemory}
use Rattle.world_api.specs.Effect.{Effect}
use Rattle.world_api.specs.Tree.{value_at}
use Rattle.world_api.specs.Outside.{tree_of}
use Rattle.world_api.specs.declared.job.Job.{Job}
use Rattle.lock_files.specs.Book.{set}
use Rattle.change_check.specs.declared.seen.Seen.{Seen}
use Rattle.repro_laws.specs.Stage.{job_with}
use Rattle.repro_laws.specs.Limits.{limit_fault}
use Rattle.repro_laws.specs.Refusals.{first_of}
use Rattle.repro_laws.specs.Entries.{all_named}
use Rattle.repro_laws.specs.declared.stage.Choice.TheVariants.{Run}
use Rattle.repro_core.specs.Steps.{MakesOuts, RunsJob}
use Rattle.repro_core.specs.Turning.{Turned}
use Rattle.repro_core.proofs.OptionLemmas.{if_some_on}
use Rattle.repro_core.proofs.RunLemmas.{IsStart, IsDone, due_none, turned_unmade, turned_unstored, turned_stopped, turned_recorded, place_recorded, place_stored}
use Rattle.repro_core.proofs.run.run_prepared.Goals as goal

pub returns-in_err-run_anew-clause-turned : goal.returns-in_err-run_anew-clause-turned
returns-in_err-run_anew-clause-turned g c told =
    let s = c.args.stage.now in
    let ps = c.args.chosen.now.params in
    let lock = c.args.lock.now in
    let old = g.W.Ground.history c.args.world.now in
    let now = g.W.Ground.history c.run_anew.new.world in
    let fault = c.in_err-run_anew.field-0.0 in
    let of = c.in_err-run_anew.ensures in
    let job = job_with s ps in
    let made = subst (λ (j : Job). IfSome old.present.aside.fixed.effect (λ effect. MakesOuts effect s j (Some fault) old.present now.present)) c.requires.job (of.made told) in
    let ran = subst (λ (j : Job). RunsJob j (Some fault) old.present now.present) c.requires.job (of.ran told) in
    let start : IsStart c.args.flags s ps Run lock old.present =
    record {
      stage = c.requires.stage;
      kept = c.requires.kept;
      ordered = c.requires.ordered;
      read = c.requires.lock told;
      place = c.requires.place told;
      params = c.requires.read told;
      chosen = c.requires.chosen told;
      seen = c.requires.seen told;
      stands = (g.met.W.ReadFiles.stands c.args.world.now told).0;
    } in
    let exit = err_from_is_err_and c.from_residual.result c.from_residual.ensures.1 in
    rw (exit.1, exit.2) (if_some_on old.present.aside.fixed.effect (λ effect. MakesOuts effect s job (Some fault) old.present now.present) (λ effect. Turned c.args.flags effect s Run lock lock (Some fault) old now) (λ effect known answer. turned_unmade c.args.flags effect s ps lock fault old now start answer ran (of.moments told)) made)

pub returns-in_err-outs-clause-turned : goal.returns-in_err-outs-clause-turned
returns-in_err-outs-clause-turned g c told =
    let s = c.args.stage.now in
    let ps = c.args.chosen.now.params in
    let lock = c.args.lock.now in
    let old = g.W.Ground.history c.args.world.now in
    let mid = g.W.Ground.history c.run_anew.new.world in
    let now = g.W.Ground.history c.store_made.new.files in
    let fault = c.in_err-outs.field-0.0 in
    let run = c.in_ok-run_anew.ensures in
    let job = job_with s ps in
    let made = subst (λ (j : Job). IfSome old.present.aside.fixed.effect (λ effect. MakesOuts effect s j None old.present mid.present)) c.requires.job (run.made told) in
    let ran = subst (λ (j : Job). RunsJob j None old.present mid.present) c.requires.job (run.ran told) in
    let of = c.in_err-outs.ensures in
    let start : IsStart c.args.flags s ps Run lock old.present =
    record {
      stage = c.requires.stage;
      kept = c.requires.kept;
      ordered = c.requires.ordered;
      read = c.requires.lock told;
      place = c.requires.place told;
      params = c.requires.read told;
      chosen = c.requires.chosen told;
      seen = c.requires.seen told;
      stands = (g.met.W.ReadFiles.stands c.args.world.now told).0;
    } in
    let exit = err_from_is_err_and c.from_residual-in_err-outs.result c.from_residual-in_err-outs.ensures.1 in
    rw (exit.1, exit.2) (if_some_on old.present.aside.fixed.effect (λ effect. MakesOuts effect s job None old.present mid.present) (λ effect. Turned c.args.flags effect s Run lock lock (Some fault) old now) (λ effect known outs. turned_unstored c.args.flags effect s ps lock fault old mid now start outs ran (of.answer told) (run.moments told) (of.moments told)) made)

pub returns-in_err-entry-clause-turned : goal.returns-in_err-entry-clause-turned
returns-in_err-entry-clause-turned g c told =
    let s = c.args.stage.now in
    let ps = c.args.chosen.now.params in
    let lock = c.args.lock.now in
    let old = g.W.Ground.history c.args.world.now in
    let mid = g.W.Ground.history c.run_anew.new.world in
    let now = g.W.Ground.history c.store_made.new.files in
    let run = c.in_ok-run_anew.ensures in
    let job = job_with s ps in
    let made = subst (λ (j : Job). IfSome old.present.aside.fixed.effect (λ effect. MakesOuts effect s j None old.present mid.present)) c.requires.job (run.made told) in
    let ran = subst (λ (j : Job). RunsJob j None old.present mid.present) c.requires.job (run.ran told) in
    let of = c.in_ok-outs.ensures in
    let start : IsStart c.args.flags s ps Run lock old.present =
    record {
      stage = c.requires.stage;
      kept = c.requires.kept;
      ordered = c.requires.ordered;
      read = c.requires.lock told;
      place = c.requires.place told;
      params = c.requires.read told;
      chosen = c.requires.chosen told;
      seen = c.requires.seen told;
      stands = (g.met.W.ReadFiles.stands c.args.world.now told).0;
    } in
    let exit = err_from_is_err_and c.from_residual-in_err-entry.result c.from_residual-in_err-entry.ensures.1 in
    rw (exit.1, exit.2) (if_some_on old.present.aside.fixed.effect (λ effect. MakesOuts effect s job None old.present mid.present) (λ effect. Turned c.args.flags effect s Run lock lock (Some NoMemory) old now) (λ effect known outs. turned_stopped c.args.flags effect s ps lock NoMemory old mid now start refl ran (run.moments told) (of.moments told)) made)

pub record-requires-clause-place : goal.record-requires-clause-place
record-requires-clause-place g c told =
    let old = g.W.Ground.history c.args.world.now in
    let mid = g.W.Ground.history c.run_anew.new.world in
    let put = g.W.Ground.history c.store_made.new.files in
    place_stored c.args.flags c.args.stage.now c.args.lock.now old mid put c.requires.kept (c.requires.place told) (c.in_ok-run_anew.ensures.moments told) (c.in_ok-outs.ensures.moments told)

pub returns-clause-turned : goal.returns-clause-turned
returns-clause-turned g c told =
    let s = c.args.stage.now in
    let ps = c.args.chosen.now.params in
    let lock = c.args.lock.now in
    let old = g.W.Ground.history c.args.world.now in
    let mid = g.W.Ground.history c.run_anew.new.world in
    let put = g.W.Ground.history c.store_made.new.files in
    let now = g.W.Ground.history c.record.new.files in
    let run = c.in_ok-run_anew.ensures in
    let job = job_with s ps in
    let made = subst (λ (j : Job). IfSome old.present.aside.fixed.effect (λ effect. MakesOuts effect s j None old.present mid.present)) c.requires.job (run.made told) in
    let ran = subst (λ (j : Job). RunsJob j None old.present mid.present) c.requires.job (run.ran told) in
    let of = c.in_ok-outs.ensures in
    let e = c.in_ok-entry.entry in
    let its = c.in_ok-entry.ensures in
    let end = c.record.ensures in
    let start : IsStart c.args.flags s ps Run lock old.present =
    record {
      stage = c.requires.stage;
      kept = c.requires.kept;
      ordered = c.requires.ordered;
      read = c.requires.lock told;
      place = c.requires.place told;
      params = c.requires.read told;
      chosen = c.requires.chosen told;
      seen = c.requires.seen told;
      stands = (g.met.W.ReadFiles.stands c.args.world.now told).0;
    } in
    let done : (effect : Effect) → MakesOuts effect s job None old.present mid.present → IsDone effect s ps e old.present mid.present put.present =
    λ effect outs. record {
      work = (run.moments told).now;
      made = outs;
      ran = ran;
      small = due_none (tree_of put) (first_of (λ o. limit_fault (value_at (tree_of mid) o.path)) s.outs) (of.answer told);
      put = (of.moments told).now;
      stored = of.stored told;
      commands = its.others.0;
      deps = ap (λ (seen : Seen). all_named seen.deps) (sym (c.requires.told told)) ∙ its.deps;
      params = its.others.1;
      outs = of.named told ∙ ap (λ os. Some os) (sym its.others.2);
    } in
    if_some_on old.present.aside.fixed.effect (λ effect. MakesOuts effect s job None old.present mid.present) (λ effect. Turned c.args.flags effect s Run lock c.record.new.lock (fault_in c.record.result) old now)
    (λ effect known outs. turned_recorded c.args.flags effect s ps lock e old mid put now start (done effect outs) (run.moments told) (of.moments told) (end.moments told) (g.met.W.ReadFiles.stands c.record.new.files told).0 c.record.result c.record.new.lock end.set (end.written told) (end.untouched told) end.kinds)
    made

pub returns-clause-place : goal.returns-clause-place
returns-clause-place g c told =
    let s = c.args.stage.now in
    let old = g.W.Ground.history c.args.world.now in
    let mid = g.W.Ground.history c.run_anew.new.world in
    let put = g.W.Ground.history c.store_made.new.files in
    let now = g.W.Ground.history c.record.new.files in
    let written = set c.args.lock.now s.name c.in_ok-entry.entry in
    place_recorded written put.present now.present c.record.result (place_stored c.args.flags s c.args.lock.now old mid put c.requires.kept (c.requires.place told) (c.in_ok-run_anew.ensures.moments told) (c.in_ok-outs.ensures.moments told)) (c.record.ensures.moments told).now (c.record.ensures.written told)
