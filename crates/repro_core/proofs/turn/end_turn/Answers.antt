-- The lines are those of the choice, and where they can't be put nothing was touched.
use Rattle.std.proofs.Common.{refl, sym, ap, ◌∙◌, Some, None, Err}
use Rattle.std.proofs.lemmas.Result.{err_from_is_err_and}
use Rattle.dvc_base.specs.Answer.{fault_in}
use Rattle.repro_laws.specs.Due.{lines_of}
use Rattle.repro_laws.specs.declared.stage.Choice.{Choice}
use Rattle.repro_laws.specs.declared.stage.Choice.TheVariants.{Run}
use Rattle.repro_core.proofs.GainLemmas.{front_taken, gains_all, gains_free}
use Rattle.repro_core.proofs.OneStageLemmas.{turned_free, report_taken}
use Rattle.repro_core.proofs.OptionLemmas.{if_some}
use Rattle.repro_core.proofs.TurnedLemmas.{TurnedBy, put_free}
use Rattle.repro_core.proofs.turn.end_turn.Goals as goal

pub returns-in_err-put_choice-clause-turned : goal.returns-in_err-put_choice-clause-turned
returns-in_err-put_choice-clause-turned g c told =
    let s = c.args.stage.now in
    let lock = c.args.lock.now in
    let old = g.W.Ground.history c.args.world.now in
    let fault = c.in_err-put_choice.field-0.0 in
    let exit = err_from_is_err_and c.from_residual.result c.from_residual.ensures.1 in
    rw (exit.1, exit.2) (if_some old.present.aside.fixed.effect (λ effect. TurnedBy c.args.flags effect s lock lock (Err fault) old old) (λ effect known. (Run, tt, turned_free c.args.flags effect s Run lock fault old old refl (c.requires.lock told) (put_free fault c.in_err-put_choice.ensures.kinds))))

pub returns-in_err-put_choice-clause-report : goal.returns-in_err-put_choice-clause-report
returns-in_err-put_choice-clause-report g c told taken =
    let s = c.args.stage.now in
    let lock = c.args.lock.now in
    let old = g.W.Ground.history c.args.world.now in
    let before = g.K.Sink.taken c.args.out.now in
    let after = g.K.Sink.taken c.put_choice.new.out in
    let fault = c.in_err-put_choice.field-0.0 in
    let choice = c.choice_by.result in
    let exit = err_from_is_err_and c.from_residual.result c.from_residual.ensures.1 in
    rw (exit.1, exit.2) (report_taken c.args.flags s choice None lock (Some fault) old old before after c.args.chosen.now.params (c.requires.read told) (c.requires.chosen told ∙ ap (λ (x : Choice). (x, None)) (sym c.choice_by.ensures)) (c.requires.seen told) (gains_free fault before (lines_of s choice) after (put_free fault c.in_err-put_choice.ensures.kinds) (front_taken {T = Unit {0}} before (lines_of s choice) after (Err fault) (c.in_err-put_choice.ensures.taken taken))))

pub returns-clause-report : goal.returns-clause-report
returns-clause-report g c told taken =
    let s = c.args.stage.now in
    let lock = c.args.lock.now in
    let old = g.W.Ground.history c.args.world.now in
    let now = g.W.Ground.history c.take_choice.new.world in
    let before = g.K.Sink.taken c.args.out.now in
    let after = g.K.Sink.taken c.put_choice.new.out in
    let got = fault_in c.take_choice.result in
    let choice = c.choice_by.result in
    report_taken c.args.flags s choice None lock got old now before after c.args.chosen.now.params (c.requires.read told) (c.requires.chosen told ∙ ap (λ (x : Choice). (x, None)) (sym c.choice_by.ensures)) (c.requires.seen told) (gains_all got before (lines_of s choice) after (c.in_ok-put_choice.ensures.taken taken))
