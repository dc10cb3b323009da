-- The order of the files changes no refusal.
use Rattle.std.proofs.Common.{◌∙◌, List, [], map, sym, ap, subst, Some, Ok, IsTrue}
use Rattle.std.specs.List.{AllByRecursion}
use Rattle.std.proofs.lemmas.Result.{err_from_is_err_and}
use Rattle.dvc_base.specs.Answer.{fault_in, IsAnswer}
use Rattle.dvc_base.specs.declared.data.ParamFile.{ParamFile}
use Rattle.lock_files.specs.Form.{are_distinct, file_at}
use Rattle.lock_files.specs.Order.{in_order}
use Rattle.world_api.specs.Outside.{tree_of}
use Rattle.repro_laws.specs.Params.{tracked_at, files_in_order}
use Rattle.repro_laws.specs.Stage.{tracked_text}
use Rattle.repro_laws.specs.declared.stage.Tracked.{Tracked}
use Rattle.repro_core.proofs.TrackedLemmas.{ordered_answer, form_in_order}
use Rattle.repro_core.proofs.tracked.read_tracked.Goals as goal

pub read_files-requires : goal.read_files-requires
read_files-requires g c = record {
  keys = subst (AllByRecursion (λ (w : Tracked). IsTrue (are_distinct [] w.keys))) (sym c.as_slice.ensures.same) c.requires.stage.param_keys;
}

pub returns-in_err-written-clause-answer : goal.returns-in_err-written-clause-answer
returns-in_err-written-clause-answer g c told =
    let s = c.args.stage.now in
    let tree = tree_of (g.F.Ground.history c.args.files.now) in
    let fault = c.in_err-written.field-0.0 in
    let exit = err_from_is_err_and c.from_residual.result c.from_residual.ensures.1 in
    let here = subst (λ (ws : List Tracked). IsAnswer (Some fault) (fault_in (tracked_at tree ws))) c.as_slice.ensures.same (c.in_err-written.ensures.answer told) in
    rw (exit.1, exit.2) (ordered_answer (Some fault) (tracked_at tree s.params) here)

pub returns-in_err-written-clause-told : goal.returns-in_err-written-clause-told
returns-in_err-written-clause-told g c =
    let exit = err_from_is_err_and c.from_residual.result c.from_residual.ensures.1 in
    rw (exit.1, exit.2) (c.in_err-written.ensures.told c.args.stage.now (sym c.as_slice.ensures.same))

pub returns-clause-answer : goal.returns-clause-answer
returns-clause-answer g c told =
    let tree = tree_of (g.F.Ground.history c.args.files.now) in
    ap (λ (ws : List Tracked). fault_in (files_in_order (tracked_at tree ws))) (sym c.as_slice.ensures.same)
    ∙ ap (λ r. fault_in (files_in_order r)) (c.in_ok-written.ensures.read told)

pub returns-clause-read : goal.returns-clause-read
returns-clause-read g c told =
    let tree = tree_of (g.F.Ground.history c.args.files.now) in
    ap (λ (ws : List Tracked). files_in_order (tracked_at tree ws)) (sym c.as_slice.ensures.same)
    ∙ ap files_in_order (c.in_ok-written.ensures.read told)
    ∙ ap (λ (fs : List ParamFile). Ok (in_order file_at fs)) (sym c.as_slice-2.ensures.same)
    ∙ ap (λ (fs : List ParamFile). Ok fs) (sym c.in_ok-files_by_text.ensures.exact)

pub returns-clause-form : goal.returns-clause-form
returns-clause-form g c =
    let s = c.args.stage.now in
    let made = c.in_ok-written.written in
    let read = c.in_ok-written.ensures in
    let sorted = c.in_ok-files_by_text.ensures.exact ∙ ap (in_order file_at) c.as_slice-2.ensures.same in
    form_in_order s.params made c.in_ok-files_by_text.field-0 sorted
    (read.texts ∙ ap (map tracked_text) c.as_slice.ensures.same) c.requires.stage.param_texts read.keys
