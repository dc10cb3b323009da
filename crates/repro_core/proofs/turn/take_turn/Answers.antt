-- What is seen changes nothing, and where it is refused nothing more is due.
use Rattle.std.proofs.Common.{subst, Err, IfSome}
use Rattle.std.proofs.lemmas.Result.{err_from_is_err_and}
use Rattle.world_api.specs.History.{History}
use Rattle.repro_laws.specs.declared.stage.Choice.TheVariants.{Run}
use Rattle.repro_core.proofs.OneStageLemmas.{turned_refused, report_refused}
use Rattle.repro_core.proofs.OptionLemmas.{if_some}
use Rattle.repro_core.proofs.TurnedLemmas.{TurnedBy}
use Rattle.repro_core.proofs.turn.take_turn.Goals as goal

pub returns-in_err-chosen-clause-turned : goal.returns-in_err-chosen-clause-turned
returns-in_err-chosen-clause-turned g c told =
    let s = c.args.stage.now in
    let lock = c.args.lock.now in
    let old = g.W.Ground.history c.args.world.now in
    let now = g.W.Ground.history c.choose_turn.new.files in
    let fault = c.in_err-chosen.field-0.0 in
    let exit = err_from_is_err_and c.from_residual.result c.from_residual.ensures.1 in
    rw (exit.1, exit.2) (if_some old.present.aside.fixed.effect (λ effect. TurnedBy c.args.flags effect s lock lock (Err fault) old now) (λ effect known. (Run, tt, turned_refused c.args.flags effect s Run lock fault old now (c.choose_turn.ensures.unchanged told) (c.requires.lock told) (c.in_err-chosen.ensures.answer told))))

pub returns-in_err-chosen-clause-report : goal.returns-in_err-chosen-clause-report
returns-in_err-chosen-clause-report g c told taken =
    let s = c.args.stage.now in
    let old = g.W.Ground.history c.args.world.now in
    let now = g.W.Ground.history c.choose_turn.new.files in
    let fault = c.in_err-chosen.field-0.0 in
    let exit = err_from_is_err_and c.from_residual.result c.from_residual.ensures.1 in
    rw (exit.1, exit.2) (report_refused c.args.flags s c.args.lock.now fault old now (g.K.Sink.taken c.args.out.now) (c.in_err-chosen.ensures.answer told))

pub returns-clause-turned : goal.returns-clause-turned
returns-clause-turned g c told =
    let s = c.args.stage.now in
    let lock = c.args.lock.now in
    let now = g.W.Ground.history c.end_turn.new.world in
    subst (λ (h : History). IfSome h.present.aside.fixed.effect (λ effect. TurnedBy c.args.flags effect s lock c.end_turn.new.lock c.end_turn.result h now)) (c.choose_turn.ensures.unchanged told) (c.end_turn.ensures.turned told)
