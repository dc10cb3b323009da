-- Nothing has happened where memory is short before the turn.
use Rattle.std.proofs.Common.{◌≡◌, Err, refl, inl, rules}
use Rattle.dvc_base.specs.declared.fault.Fault.TheVariants.{NoMemory}
use Rattle.repro_laws.specs.declared.stage.Choice.TheVariants.{Run}
use Rattle.stage_plan.specs.Plan.{stage_at}
use Rattle.repro_core.proofs.OneStageLemmas.{turned_refused, report_refused}
use Rattle.repro_core.proofs.OptionLemmas.{if_some}
use Rattle.repro_core.proofs.TurnedLemmas.{TurnedBy}
use Rattle.plan_turns.proofs.stage.run_stage.Goals as goal

pub returns-in_err-stage-clause-turned : goal.returns-in_err-stage-clause-turned
returns-in_err-stage-clause-turned g c told =
    let e : c.from_residual.result ≡ Err NoMemory = search rules in
    let s = stage_at c.args.plan.now c.args.stage in
    let lock = c.args.plan.now.lock in
    let h = g.W.Ground.history c.args.world.now in
    rw e (if_some h.present.aside.fixed.effect (λ effect. TurnedBy c.args.flags effect s lock lock (Err NoMemory) h h)
    (λ effect known. (Run, tt, turned_refused c.args.flags effect s Run lock NoMemory h h refl (c.requires.lock told) (inl refl))))

pub returns-in_err-stage-clause-report : goal.returns-in_err-stage-clause-report
returns-in_err-stage-clause-report g c told taken =
    let e : c.from_residual.result ≡ Err NoMemory = search rules in
    let h = g.W.Ground.history c.args.world.now in
    rw e (report_refused c.args.flags (stage_at c.args.plan.now c.args.stage) c.args.plan.now.lock NoMemory h h (g.K.Sink.taken c.args.out.now) (inl refl))
