-- The track files are recorded, and then the stages have their turns.
use Rattle.std.proofs.Common.{◌≡◌, Err, refl, sym, ap, subst, ◌∙◌, inl, inr, rules}
use Rattle.dvc_base.specs.declared.fault.Fault.TheVariants.{NoMemory}
use Rattle.stage_graph.specs.declared.track.TrackFile.{TrackFile}
use Rattle.stage_plan.specs.Plan.{turns_at}
use Rattle.stage_plan.specs.declared.turns.Turns.{Turns}
use Rattle.repro_laws.specs.Headline.{IsApart}
use Rattle.repro_laws.specs.Moments.{is_own}
use Rattle.std.specs.List.{AllByRecursion}
use Rattle.plan_turns.specs.Repro.{Takes}
use Rattle.plan_turns.proofs.KeptLemmas.{records_remember, records_place}
use Rattle.plan_turns.proofs.TakesLemmas.{whole_record, taken_at, if_told, ok_told, err_told, nothing_recorded, nothing_told, both_same}
use Rattle.plan_turns.proofs.turns.repro.Goals as goal

pub returns-in_err-turns-clause-takes : goal.returns-in_err-turns-clause-takes
returns-in_err-turns-clause-takes g c told =
    let e : c.from_residual.result ≡ Err NoMemory = search rules in
    let h = g.W.Ground.history c.args.world.now in
    let turns = turns_at c.args.plan.now c.args.chosen.now in
    rw e (inl (record { fault = NoMemory; answer = refl; tracks = nothing_recorded turns.tracks h; kept = refl; quiet = refl }))

pub returns-in_err-turns-clause-lines : goal.returns-in_err-turns-clause-lines
returns-in_err-turns-clause-lines g c told =
    let e : c.from_residual.result ≡ Err NoMemory = search rules in
    rw e (nothing_told (turns_at c.args.plan.now c.args.chosen.now).stages NoMemory (g.K.Sink.taken c.args.out.now))

pub returns-in_err-record_tracks-clause-lines : goal.returns-in_err-record_tracks-clause-lines
returns-in_err-record_tracks-clause-lines g c told =
    let e : c.from_residual-in_err-record_tracks.result ≡ Err c.in_err-record_tracks.field-0.0 = search rules in
    rw e (nothing_told (turns_at c.args.plan.now c.args.chosen.now).stages c.in_err-record_tracks.field-0.0 (g.K.Sink.taken c.args.out.now))

pub take_turns-requires-clause-lock : goal.take_turns-requires-clause-lock
take_turns-requires-clause-lock g c told =
    let old = g.W.Ground.history c.args.world.now in
    let mid = g.W.Ground.history c.record_tracks.new.files in
    let tracks = c.as_slice.result.now in
    let ready = c.requires.ready told in
    let found = c.as_slice.ensures.same ∙ ap (λ (t : Turns). t.tracks) c.in_ok-turns.ensures.exact in
    let apart = subst (AllByRecursion (λ (f : TrackFile). IsApart is_own f.file)) (sym found) ready.tracks.apart in
    let moments = c.record_tracks.ensures.moments told in
    records_remember tracks old.present mid.present apart moments.now ∙ ready.remembered

pub take_turns-requires-clause-place : goal.take_turns-requires-clause-place
take_turns-requires-clause-place g c told =
    let old = g.W.Ground.history c.args.world.now in
    let mid = g.W.Ground.history c.record_tracks.new.files in
    let tracks = c.as_slice.result.now in
    let ready = c.requires.ready told in
    let found = c.as_slice.ensures.same ∙ ap (λ (t : Turns). t.tracks) c.in_ok-turns.ensures.exact in
    let apart = subst (AllByRecursion (λ (f : TrackFile). IsApart is_own f.file)) (sym found) ready.tracks.apart in
    let moments = c.record_tracks.ensures.moments told in
    records_place tracks old.present mid.present apart moments.now ready.place

pub returns-clause-takes : goal.returns-clause-takes
returns-clause-takes g c told =
    let old = g.W.Ground.history c.args.world.now in
    let mid = g.W.Ground.history c.record_tracks.new.files in
    let new = g.W.Ground.history c.take_turns.new.world in
    let tracks = c.as_slice.result.now in
    let stages = c.as_slice-2.result.now in
    let lock = c.args.plan.now.lock in
    let later = c.take_turns.new.lock in
    let flags = c.args.flags in
    let r = c.take_turns.result in
    let tells = g.W.Ground.tells in
    let of = c.take_turns.ensures in
    let first = c.in_ok-record_tracks.ensures in
    let same = both_same stages c.in_ok-turns.turns.stages tracks c.in_ok-turns.turns.tracks c.as_slice-2.ensures.same c.as_slice.ensures.same ∙ c.in_ok-turns.ensures.exact in
    subst (λ (turns : Turns). Takes flags turns lock later r old new g.K.Sink.tells (g.K.Sink.taken c.args.out.now) (g.K.Sink.taken c.take_turns.new.out)) same (inr (record {
      begun = mid;
      tracks = whole_record tracks old mid (first.answer told) (first.recorded told) (first.moments told) (first.none told);
      turned = taken_at flags mid.present.aside.fixed.effect stages lock later r mid new (ok_told _ tells r told of.headline) (if_told _ tells r told of.taken) (of.answer told) (of.ran told) (of.untouched told) (err_told _ tells r told of.halted) (of.moments told);
      remembered = of.remembered told;
      report = λ lines. of.report lines told;
    }))
