-- One more out is put, or is the first that is refused.
use Rattle.std.proofs.Common.{rules, ◌≡◌, ◌<◌, ◌+◌, ◌++◌, ◌∷◌, [], inl, length, take, get_or, map, refl, sym, subst, ◌∙◌, Some, IsTrue}
use Rattle.std.proofs.lemmas.Result.{err_from_is_err_and}
use Rattle.dvc_base.specs.declared.fault.Fault.TheVariants.{NoMemory}
use Rattle.lock_files.specs.Value.{path_at}
use Rattle.lock_files.specs.Form.{is_path_entry}
use Rattle.repro_core.specs.Steps.{AreNamed}
use Rattle.repro_core.proofs.StoredLemmas.{stay_stored, passes_untouched, passes_stored}
use Rattle.track_record.specs.Sources.{source_path, source_fault}
use Rattle.track_record.proofs.SourceLemmas.{answer_none}
use Rattle.track_record.proofs.TellLemmas.{tells_free, tells_none, tells_entry}
use Rattle.track_record.proofs.EntryLemmas.{entries_more, test_more, due_one_more, refused_at, named_none, named_more, held_more, apart_at, tells_whole, refused_whole, outs_whole, test_whole, held_whole, due_whole, form_whole}
use Rattle.track_record.proofs.record.put_outs.Goals as goal

pub loop-entry-init : goal.loop-entry-init
loop-entry-init g c =
    let empty : c.new.result ≡ [] = search rules in
    record {
      moments = λ told. passes_untouched (g.F.Ground.history c.args.files.now) (g.F.Ground.history c.args.files.now) refl;
      due = λ told. tt;
      outs = λ told. empty;
      same = λ told. refl;
      held = λ told. tt;
      named = subst (AreNamed []) (sym empty) (named_none []);
      counted = search rules;
    }

pub put_entry-requires : goal.put_entry-requires
put_entry-requires g c =
    record { apart = apart_at c.args.track.now c.args.dir.now c.as_slice-entry-items.result.now c.requires.dir c.as_slice-entry-items.ensures.same c.loop-entry.entry-index c.entry-item.result c.loop-entry-test.true c.entry-item.is c.requires.outs }

pub returns-in_err-put-clause-answer : goal.returns-in_err-put-clause-answer
returns-in_err-put-clause-answer g c told =
    let x = c.args.track.now in
    let dir = c.args.dir.now in
    let items = c.as_slice-entry-items.result.now in
    let i = c.loop-entry.entry-index in
    let e = c.entry-item.result in
    let old = g.F.Ground.history c.args.files.now in
    let here = g.F.Ground.history c.loop-entry.files in
    let new = g.F.Ground.history c.put_entry.new.files in
    let fault = c.in_err-put.field-0.0 in
    let from = c.requires.dir in
    let its = c.as_slice-entry-items.ensures.same in
    let apart = apart_at x dir items from its i e c.loop-entry-test.true c.entry-item.is c.requires.outs in
    let moments = c.loop-entry.invariant.moments told in
    let same = stay_stored old.present here.present (source_path dir e) apart moments.now in
    let exit = err_from_is_err_and c.from_residual.result c.from_residual.ensures.1 in
    rw (exit.1, exit.2) (refused_whole x dir items from its old.present.tree new.present.tree (Some fault) (refused_at dir old.present.tree here.present.tree items i e c.loop-entry-test.true c.entry-item.is same new.present.tree fault (c.loop-entry.invariant.due told) (c.in_err-put.ensures.answer told)))

pub returns-in_err-put-clause-moments : goal.returns-in_err-put-clause-moments
returns-in_err-put-clause-moments g c told =
    passes_stored (g.F.Ground.history c.args.files.now) (g.F.Ground.history c.loop-entry.files) (g.F.Ground.history c.put_entry.new.files) (c.loop-entry.invariant.moments told) (c.put_entry.ensures.moments told)

pub returns-in_err-put-clause-told : goal.returns-in_err-put-clause-told
returns-in_err-put-clause-told g c =
    let dir = c.args.dir.now in
    let items = c.as_slice-entry-items.result.now in
    let fault = c.in_err-put.field-0.0 in
    let exit = err_from_is_err_and c.from_residual.result c.from_residual.ensures.1 in
    rw (exit.1, exit.2) (tells_whole c.args.track.now dir items c.requires.dir c.as_slice-entry-items.ensures.same (Some fault) (tells_entry dir items c.loop-entry.entry-index c.entry-item.result (Some fault) c.loop-entry-test.true c.entry-item.is c.in_err-put.ensures.told))

pub returns-in_err-push-clause-moments : goal.returns-in_err-push-clause-moments
returns-in_err-push-clause-moments g c told =
    passes_stored (g.F.Ground.history c.args.files.now) (g.F.Ground.history c.loop-entry.files) (g.F.Ground.history c.put_entry.new.files) (c.loop-entry.invariant.moments told) (c.put_entry.ensures.moments told)

pub returns-in_err-push-clause-told : goal.returns-in_err-push-clause-told
returns-in_err-push-clause-told g c =
    let exit = err_from_is_err_and c.from_residual-in_err-push.result c.from_residual-in_err-push.ensures.1 in
    rw (exit.1, exit.2) (tells_free _ NoMemory refl)

pub loop-entry-preserved : goal.loop-entry-preserved
loop-entry-preserved g c =
    let x = c.args.track.now in
    let dir = c.args.dir.now in
    let items = c.as_slice-entry-items.result.now in
    let i = c.loop-entry.entry-index in
    let e = c.entry-item.result in
    let old = g.F.Ground.history c.args.files.now in
    let here = g.F.Ground.history c.loop-entry.files in
    let new = g.F.Ground.history c.put_entry.new.files in
    let put = c.in_ok-put.put in
    let found = c.loop-entry.found in
    let within : i < length items = c.loop-entry-test.true in
    let is : e ≡ get_or items i e = c.entry-item.is in
    let apart = apart_at x dir items c.requires.dir c.as_slice-entry-items.ensures.same i e within is c.requires.outs in
    let pushed : c.push.new.self ≡ found.outs ++ put.out ∷ [] = search rules in
    let good : (put.out.path ≡ e.path) × IsTrue (is_path_entry put.out) = c.in_ok-put.ensures.good in
    record {
      moments = λ told. passes_stored old here new (c.loop-entry.invariant.moments told) (c.put_entry.ensures.moments told);
      due = λ told.
          let moments = c.loop-entry.invariant.moments told in
          let same = stay_stored old.present here.present (source_path dir e) apart moments.now in
          due_one_more dir old.present.tree here.present.tree items i e within is same (c.loop-entry.invariant.due told) (answer_none new.present.tree (source_fault dir here.present.tree e) (c.in_ok-put.ensures.answer told));
      outs = λ told.
          let moments = c.loop-entry.invariant.moments told in
          let same = stay_stored old.present here.present (source_path dir e) apart moments.now in
          pushed ∙ entries_more dir old.present.tree here.present.tree items i e within is same found.outs put.out (c.loop-entry.invariant.outs told) (c.in_ok-put.ensures.out told);
      same = λ told.
          let moments = c.loop-entry.invariant.moments told in
          let same = stay_stored old.present here.present (source_path dir e) apart moments.now in
          test_more dir old.present.tree here.present.tree items i e within is same found.same put.same c.are_both.result (c.loop-entry.invariant.same told) (c.in_ok-put.ensures.same told) c.are_both.ensures.exact;
      held = λ told.
          let moments = c.loop-entry.invariant.moments told in
          let same = stay_stored old.present here.present (source_path dir e) apart moments.now in
          let step = c.put_entry.ensures.moments told in
          held_more dir old.present.tree here.present new.present items i e within is step.now (c.loop-entry.invariant.held told) same (c.in_ok-put.ensures.stored told);
      named = subst (AreNamed (map path_at (take (i + 1) items))) (sym pushed) (named_more items i e found.outs put.out within is good.0 good.1 c.loop-entry.invariant.named);
      counted = search rules;
    }

pub returns-clause-outs : goal.returns-clause-outs
returns-clause-outs g c told =
    let items = c.as_slice-entry-items.result.now in
    let i = c.loop-entry.entry-index in
    let end : i ≡ length items = search rules in
    let old = g.F.Ground.history c.args.files.now in
    outs_whole c.args.track.now c.args.dir.now items c.requires.dir c.as_slice-entry-items.ensures.same old.present.tree i end c.loop-entry.found.outs (c.loop-entry.invariant.outs told)

pub returns-clause-same : goal.returns-clause-same
returns-clause-same g c told =
    let items = c.as_slice-entry-items.result.now in
    let i = c.loop-entry.entry-index in
    let end : i ≡ length items = search rules in
    let old = g.F.Ground.history c.args.files.now in
    test_whole c.args.track.now c.args.dir.now items c.requires.dir c.as_slice-entry-items.ensures.same old.present.tree i end c.loop-entry.found.same (c.loop-entry.invariant.same told)

pub returns-clause-form : goal.returns-clause-form
returns-clause-form g c form =
    let items = c.as_slice-entry-items.result.now in
    let i = c.loop-entry.entry-index in
    let end : i ≡ length items = search rules in
    let old = g.F.Ground.history c.args.files.now in
    form_whole c.args.track.now c.args.dir.now items c.requires.dir c.as_slice-entry-items.ensures.same old.present.tree i end c.loop-entry.found.outs c.loop-entry.invariant.named form

pub returns-clause-held : goal.returns-clause-held
returns-clause-held g c told =
    let items = c.as_slice-entry-items.result.now in
    let i = c.loop-entry.entry-index in
    let end : i ≡ length items = search rules in
    let old = g.F.Ground.history c.args.files.now in
    let new = g.F.Ground.history c.loop-entry.files in
    held_whole c.args.track.now c.args.dir.now items c.requires.dir c.as_slice-entry-items.ensures.same old.present.tree i end new.present.tree (c.loop-entry.invariant.held told)

pub returns-clause-answer : goal.returns-clause-answer
returns-clause-answer g c told =
    let items = c.as_slice-entry-items.result.now in
    let i = c.loop-entry.entry-index in
    let end : i ≡ length items = search rules in
    let old = g.F.Ground.history c.args.files.now in
    inl (due_whole c.args.track.now c.args.dir.now items c.requires.dir c.as_slice-entry-items.ensures.same old.present.tree i end (c.loop-entry.invariant.due told))

pub returns-clause-told : goal.returns-clause-told
returns-clause-told g c = tells_none _
