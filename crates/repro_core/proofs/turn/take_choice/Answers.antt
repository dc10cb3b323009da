-- A skip puts its outputs where they aren't, and a run is what it makes.
use Rattle.std.proofs.Common.{Bool, sym, ap, subst, ◌∙◌, Some, None}
use Rattle.std.proofs.lemmas.Result.{err_from_is_err_and}
use Rattle.repro_laws.specs.declared.stage.Choice.{Choice}
use Rattle.repro_laws.specs.declared.stage.Choice.TheVariants.{Skip}
use Rattle.repro_core.specs.Steps.{choice_if}
use Rattle.repro_core.specs.Turning.{Turned}
use Rattle.repro_core.proofs.OptionLemmas.{if_some}
use Rattle.repro_core.proofs.RunLemmas.{IsStart}
use Rattle.repro_core.proofs.TurnedLemmas.{skip_named, skip_refused, skip_whole, skip_remembered, skip_place}
use Rattle.repro_core.proofs.turn.take_choice.Goals as goal

pub keep_outputs-requires-clause-named : goal.keep_outputs-requires-clause-named
keep_outputs-requires-clause-named g c told =
    let old = g.W.Ground.history c.args.world.now in
    skip_named c.args.flags c.args.stage.now c.args.chosen.now.params old.present.tree c.args.lock.now c.requires.stage (c.requires.read told) (c.requires.chosen told ∙ ap (λ (b : Bool). (choice_if b, None)) c.if-chosen.true)

pub returns-in_err-keep_outputs-clause-turned : goal.returns-in_err-keep_outputs-clause-turned
returns-in_err-keep_outputs-clause-turned g c told =
    let s = c.args.stage.now in
    let ps = c.args.chosen.now.params in
    let lock = c.args.lock.now in
    let old = g.W.Ground.history c.args.world.now in
    let now = g.W.Ground.history c.keep_outputs.new.files in
    let fault = c.in_err-keep_outputs.field-0.0 in
    let of = c.in_err-keep_outputs.ensures in
    let start : IsStart c.args.flags s ps Skip lock old.present =
    record {
      stage = c.requires.stage;
      kept = c.requires.kept;
      ordered = c.requires.ordered;
      read = c.requires.lock told;
      place = c.requires.place told;
      params = c.requires.read told;
      chosen = c.requires.chosen told ∙ ap (λ (b : Bool). (choice_if b, None)) c.if-chosen.true;
      seen = c.requires.seen told;
      stands = (g.met.W.ReadFiles.stands c.args.world.now told).0;
    } in
    let exit = err_from_is_err_and c.from_residual.result c.from_residual.ensures.1 in
    rw (exit.1, exit.2) (if_some old.present.aside.fixed.effect (λ effect. Turned c.args.flags effect s (choice_if c.args.chosen.now.skips) lock lock (Some fault) old now) (λ effect known. subst (λ (choice : Choice). Turned c.args.flags effect s choice lock lock (Some fault) old now) (sym (ap choice_if c.if-chosen.true)) (skip_refused c.args.flags effect s ps lock old now start (of.moments told) fault (of.answer told))))

pub returns-in_ok-keep_outputs-clause-turned : goal.returns-in_ok-keep_outputs-clause-turned
returns-in_ok-keep_outputs-clause-turned g c told =
    let s = c.args.stage.now in
    let ps = c.args.chosen.now.params in
    let lock = c.args.lock.now in
    let old = g.W.Ground.history c.args.world.now in
    let now = g.W.Ground.history c.keep_outputs.new.files in
    let of = c.in_ok-keep_outputs.ensures in
    let start : IsStart c.args.flags s ps Skip lock old.present =
    record {
      stage = c.requires.stage;
      kept = c.requires.kept;
      ordered = c.requires.ordered;
      read = c.requires.lock told;
      place = c.requires.place told;
      params = c.requires.read told;
      chosen = c.requires.chosen told ∙ ap (λ (b : Bool). (choice_if b, None)) c.if-chosen.true;
      seen = c.requires.seen told;
      stands = (g.met.W.ReadFiles.stands c.args.world.now told).0;
    } in
    if_some old.present.aside.fixed.effect (λ effect. Turned c.args.flags effect s (choice_if c.args.chosen.now.skips) lock lock None old now) (λ effect known. subst (λ (choice : Choice). Turned c.args.flags effect s choice lock lock None old now) (sym (ap choice_if c.if-chosen.true)) (skip_whole c.args.flags effect s ps lock old now start (of.moments told) (g.met.W.ReadFiles.stands c.keep_outputs.new.files told).0 (of.stored told)))

pub returns-in_ok-keep_outputs-clause-remembered : goal.returns-in_ok-keep_outputs-clause-remembered
returns-in_ok-keep_outputs-clause-remembered g c told =
    skip_remembered c.args.stage.now c.args.lock.now (g.W.Ground.history c.args.world.now) (g.W.Ground.history c.keep_outputs.new.files) c.requires.kept (c.requires.lock told) (c.in_ok-keep_outputs.ensures.moments told)

pub returns-in_ok-keep_outputs-clause-place : goal.returns-in_ok-keep_outputs-clause-place
returns-in_ok-keep_outputs-clause-place g c told =
    skip_place c.args.stage.now (g.W.Ground.history c.args.world.now) (g.W.Ground.history c.keep_outputs.new.files) c.requires.kept (c.requires.place told) (c.in_ok-keep_outputs.ensures.moments told)
