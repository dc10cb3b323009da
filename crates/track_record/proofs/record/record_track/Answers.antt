-- The outs are put, and then the file is published where an entry differs.
use Rattle.std.proofs.Common.{◌≡◌, ℕ, List, [], ◌∷◌, sym, ap, subst, ◌∙◌, false, append-nil}
use Rattle.std.specs.List.{AllByRecursion}
use Rattle.dvc_base.specs.Answer.{fault_in}
use Rattle.world_api.specs.History.{Passes}
use Rattle.world_api.specs.Writes.{IsNewFile, InWrite}
use Rattle.repro_laws.specs.Headline.{IsApart}
use Rattle.repro_laws.specs.Moments.{is_own}
use Rattle.track_record.specs.Sources.{source_paths, track_fault, is_same, text_now}
use Rattle.track_record.specs.Records.{AreRecorded}
use Rattle.track_record.proofs.SourceLemmas.{answer_none}
use Rattle.track_record.proofs.TellLemmas.{few_kinds, few_honest, few_told, few_answer}
use Rattle.track_record.proofs.EntryLemmas.{text_with}
use Rattle.track_record.proofs.MomentLemmas.{passes_put, passes_published}
use Rattle.track_record.proofs.TrackLemmas.{recorded_same, recorded_new, room_alone, on_ok}
use Rattle.track_record.proofs.record.record_track.Goals as goal

pub put_sources-requires : goal.put_sources-requires
put_sources-requires g c =
    record { outs = subst (AllByRecursion (IsApart is_own)) (append-nil (source_paths c.args.track.now)) c.requires.tracked.outs }

pub publish-requires-clause-form : goal.publish-requires-clause-form
publish-requires-clause-form g c = c.in_ok-found.ensures.form c.requires.tracked.form.0

pub publish-requires-clause-apart : goal.publish-requires-clause-apart
publish-requires-clause-apart g c = c.requires.tracked.files.0

pub publish-requires-clause-room : goal.publish-requires-clause-room
publish-requires-clause-room g c told =
    let old = g.F.Ground.history c.args.files.now in
    let mid = g.F.Ground.history c.put_sources.new.files in
    let put = c.put_sources.ensures.moments told in
    room_alone c.args.track.now old.present mid.present c.requires.tracked (c.requires.ready told) put.now

pub returns-in_err-found-clause-moments : goal.returns-in_err-found-clause-moments
returns-in_err-found-clause-moments g c told =
    let ready = c.requires.ready told in
    passes_put c.args.track.now (g.F.Ground.history c.args.files.now) (g.F.Ground.history c.put_sources.new.files) ready.apart.0 (c.put_sources.ensures.moments told)

pub returns-then-found-clause-recorded : goal.returns-then-found-clause-recorded
returns-then-found-clause-recorded g c told =
    let x = c.args.track.now in
    let old = g.F.Ground.history c.args.files.now in
    let mid = g.F.Ground.history c.put_sources.new.files in
    let ready = c.requires.ready told in
    let put = c.put_sources.ensures.moments told in
    recorded_same x old.present mid.present ready.apart.0 put.now (c.in_ok-found.ensures.held told) (sym (c.in_ok-found.ensures.same told) ∙ c.if-found.true)

pub returns-then-found-clause-moments : goal.returns-then-found-clause-moments
returns-then-found-clause-moments g c told =
    let ready = c.requires.ready told in
    passes_put c.args.track.now (g.F.Ground.history c.args.files.now) (g.F.Ground.history c.put_sources.new.files) ready.apart.0 (c.put_sources.ensures.moments told)

pub returns-clause-recorded : goal.returns-clause-recorded
returns-clause-recorded g c told =
    let x = c.args.track.now in
    let old = g.F.Ground.history c.args.files.now in
    let mid = g.F.Ground.history c.put_sources.new.files in
    let new = g.F.Ground.history c.publish.new.files in
    let ready = c.requires.ready told in
    let put = c.put_sources.ensures.moments told in
    let write = c.publish.ensures.moments told in
    let differs : is_same old.present.tree x ≡ false = sym (c.in_ok-found.ensures.same told) ∙ c.if-found.false in
    let text : text_with x c.in_ok-found.found.outs ≡ text_now old.present.tree x = ap (text_with x) (c.in_ok-found.ensures.outs told) in
    on_ok c.publish.result (IsNewFile x.file (text_with x c.in_ok-found.found.outs) new.present) (AreRecorded (x ∷ []) old.present new.present)
    (λ file. recorded_new x old.present mid.present new.present ready.apart.0 put.now (c.in_ok-found.ensures.held told) differs (subst (λ (t : List ℕ). InWrite x.file t mid.present new.present) text write.now) (subst (λ (t : List ℕ). IsNewFile x.file t new.present) text file))
    (c.publish.ensures.written told)

pub returns-clause-answer : goal.returns-clause-answer
returns-clause-answer g c told =
    let x = c.args.track.now in
    let old = g.F.Ground.history c.args.files.now in
    let mid = g.F.Ground.history c.put_sources.new.files in
    let new = g.F.Ground.history c.publish.new.files in
    let none = answer_none mid.present.tree (track_fault old.present.tree x) (c.in_ok-found.ensures.answer told) in
    few_answer new.present.tree (fault_in c.publish.result) (track_fault old.present.tree x) none c.publish.ensures.kinds

pub returns-clause-moments : goal.returns-clause-moments
returns-clause-moments g c told =
    let x = c.args.track.now in
    let old = g.F.Ground.history c.args.files.now in
    let mid = g.F.Ground.history c.put_sources.new.files in
    let new = g.F.Ground.history c.publish.new.files in
    let ready = c.requires.ready told in
    let differs : is_same old.present.tree x ≡ false = sym (c.in_ok-found.ensures.same told) ∙ c.if-found.false in
    let text : text_with x c.in_ok-found.found.outs ≡ text_now old.present.tree x = ap (text_with x) (c.in_ok-found.ensures.outs told) in
    passes_published x old mid new ready.apart.0 differs (c.in_ok-found.ensures.held told) (c.put_sources.ensures.moments told)
    (subst (λ (t : List ℕ). Passes (InWrite x.file t mid.present) mid new) text (c.publish.ensures.moments told))

pub returns-clause-told : goal.returns-clause-told
returns-clause-told g c = few_told _ _ c.publish.ensures.kinds

pub returns-clause-kinds : goal.returns-clause-kinds
returns-clause-kinds g c = few_kinds _ c.publish.ensures.kinds

pub returns-clause-honest : goal.returns-clause-honest
returns-clause-honest g c = few_honest _ _ c.publish.ensures.kinds
