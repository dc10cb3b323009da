-- One more file is recorded, or is the first that is refused.
use Rattle.std.proofs.Common.{rules, ◌≡◌, ◌<◌, inl, refl, length, ap, Some, None, arith}
use Rattle.std.proofs.lemmas.Result.{err_from_is_err_and}
use Rattle.world_api.specs.Tree.{item_at}
use Rattle.world_api.proofs.HistoryLemmas.{passes_none}
use Rattle.stage_graph.specs.declared.track.TrackFile.{TrackFile}
use Rattle.repro_core.proofs.StoreLemmas.{each_whole, first_none}
use Rattle.track_record.specs.Sources.{track_fault, file_now}
use Rattle.track_record.specs.Records.{AreHeld, InRecords}
use Rattle.track_record.proofs.SourceLemmas.{answer_none}
use Rattle.track_record.proofs.TellLemmas.{tells_none, tells_file}
use Rattle.track_record.proofs.StepLemmas.{Place, records_itself, passes_records}
use Rattle.track_record.proofs.TrackLemmas.{place_at, ready_at, tracked_at, files_more, held_more, due_more, answer_on}
use Rattle.track_record.proofs.record.record_tracks.Goals as goal

pub loop-track-init : goal.loop-track-init
loop-track-init g c =
    let start = g.F.Ground.history c.args.files.now in
    record {
      moments = λ told. passes_none (InRecords c.args.tracks.now start.present) start (records_itself c.args.tracks.now start.present);
      files = λ told. tt;
      held = λ told. tt;
      due = λ told. tt;
      none = λ told empty. refl;
      counted = search rules;
    }

pub record_track-requires-clause-tracked : goal.record_track-requires-clause-tracked
record_track-requires-clause-tracked g c =
    tracked_at c.args.tracks.now c.loop-track.track-index c.track-item.result c.loop-track-test.true c.track-item.is c.requires.tracked

pub record_track-requires-clause-ready : goal.record_track-requires-clause-ready
record_track-requires-clause-ready g c told =
    let all = c.args.tracks.now in
    let i = c.loop-track.track-index in
    let x = c.track-item.result in
    let s : Place = record { all = all; at = i; one = x } in
    let start = g.F.Ground.history c.args.files.now in
    let here = g.F.Ground.history c.loop-track.files in
    let moments = c.loop-track.invariant.moments told in
    ready_at s start.present here.present (place_at all i x start.present.tree c.loop-track-test.true c.track-item.is c.requires.tracked (c.requires.ready told)) moments.now (c.requires.ready told)

pub returns-in_err-record_track-clause-answer : goal.returns-in_err-record_track-clause-answer
returns-in_err-record_track-clause-answer g c told =
    let all = c.args.tracks.now in
    let i = c.loop-track.track-index in
    let x = c.track-item.result in
    let s : Place = record { all = all; at = i; one = x } in
    let start = g.F.Ground.history c.args.files.now in
    let here = g.F.Ground.history c.loop-track.files in
    let new = g.F.Ground.history c.record_track.new.files in
    let fault = c.in_err-record_track.field-0.0 in
    let moments = c.loop-track.invariant.moments told in
    let place = place_at all i x start.present.tree c.loop-track-test.true c.track-item.is c.requires.tracked (c.requires.ready told) in
    let exit = err_from_is_err_and c.from_residual.result c.from_residual.ensures.1 in
    rw (exit.1, exit.2) (answer_on s start.present here.present new.present.tree fault place moments.now (c.loop-track.invariant.due told) (c.in_err-record_track.ensures.answer told))

pub returns-in_err-record_track-clause-moments : goal.returns-in_err-record_track-clause-moments
returns-in_err-record_track-clause-moments g c told =
    let all = c.args.tracks.now in
    let i = c.loop-track.track-index in
    let x = c.track-item.result in
    let s : Place = record { all = all; at = i; one = x } in
    let start = g.F.Ground.history c.args.files.now in
    let place = place_at all i x start.present.tree c.loop-track-test.true c.track-item.is c.requires.tracked (c.requires.ready told) in
    passes_records s start (g.F.Ground.history c.loop-track.files) (g.F.Ground.history c.record_track.new.files) place (c.loop-track.invariant.moments told) (c.record_track.ensures.moments told)

pub returns-in_err-record_track-clause-told : goal.returns-in_err-record_track-clause-told
returns-in_err-record_track-clause-told g c =
    let fault = c.in_err-record_track.field-0.0 in
    let exit = err_from_is_err_and c.from_residual.result c.from_residual.ensures.1 in
    rw (exit.1, exit.2) (tells_file c.args.tracks.now c.loop-track.track-index c.track-item.result (Some fault) c.loop-track-test.true c.track-item.is c.in_err-record_track.ensures.told)

pub returns-in_err-record_track-clause-none : goal.returns-in_err-record_track-clause-none
returns-in_err-record_track-clause-none g c told empty =
    let some : c.loop-track.track-index < length c.args.tracks.now = c.loop-track-test.true in
    absurd (omega (arith, some, ap length empty))

pub loop-track-preserved : goal.loop-track-preserved
loop-track-preserved g c =
    let all = c.args.tracks.now in
    let i = c.loop-track.track-index in
    let x = c.track-item.result in
    let s : Place = record { all = all; at = i; one = x } in
    let start = g.F.Ground.history c.args.files.now in
    let here = g.F.Ground.history c.loop-track.files in
    let new = g.F.Ground.history c.record_track.new.files in
    let within : i < length all = c.loop-track-test.true in
    record {
      moments = λ told.
          let place = place_at all i x start.present.tree within c.track-item.is c.requires.tracked (c.requires.ready told) in
          passes_records s start here new place (c.loop-track.invariant.moments told) (c.record_track.ensures.moments told);
      files = λ told.
          let moments = c.loop-track.invariant.moments told in
          let place = place_at all i x start.present.tree within c.track-item.is c.requires.tracked (c.requires.ready told) in
          files_more s place start.present here.present new.present moments.now (c.in_ok-record_track.ensures.recorded told) (c.loop-track.invariant.files told);
      held = λ told.
          let moments = c.loop-track.invariant.moments told in
          let place = place_at all i x start.present.tree within c.track-item.is c.requires.tracked (c.requires.ready told) in
          held_more s place start.present here.present new.present moments.now (c.in_ok-record_track.ensures.recorded told) (c.loop-track.invariant.held told);
      due = λ told.
          let moments = c.loop-track.invariant.moments told in
          let place = place_at all i x start.present.tree within c.track-item.is c.requires.tracked (c.requires.ready told) in
          let none = answer_none new.present.tree (track_fault here.present.tree x) (c.in_ok-record_track.ensures.answer told) in
          due_more s start.present here.present place moments.now (c.loop-track.invariant.due told) none;
      none = λ told empty. absurd (omega (arith, within, ap length empty));
      counted = search rules;
    }

pub returns-clause-recorded : goal.returns-clause-recorded
returns-clause-recorded g c told =
    let all = c.args.tracks.now in
    let i = c.loop-track.track-index in
    let end : i ≡ length all = search rules in
    let start = g.F.Ground.history c.args.files.now in
    let new = g.F.Ground.history c.loop-track.files in
    let moments = c.loop-track.invariant.moments told in
    record {
      files = each_whole (λ (x : TrackFile). item_at new.present.tree x.file ≡ file_now start.present.tree x) all i end (c.loop-track.invariant.files told);
      held = each_whole (AreHeld start.present.tree new.present.tree) all i end (c.loop-track.invariant.held told);
      during = moments.now;
    }

pub returns-clause-answer : goal.returns-clause-answer
returns-clause-answer g c told =
    let all = c.args.tracks.now in
    let i = c.loop-track.track-index in
    let end : i ≡ length all = search rules in
    let start = g.F.Ground.history c.args.files.now in
    inl (first_none (track_fault start.present.tree) all (each_whole (λ (x : TrackFile). track_fault start.present.tree x ≡ None) all i end (c.loop-track.invariant.due told)))

pub returns-clause-told : goal.returns-clause-told
returns-clause-told g c = tells_none _
