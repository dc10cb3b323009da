-- One more output is named, or is the first that is refused.
use Rattle.std.proofs.Common.{rules, ◌≡◌, ◌<◌, length, get_or, subst, Option, Some, None}
use Rattle.std.proofs.lemmas.Result.{err_from_is_err_and}
use Rattle.dvc_base.specs.declared.fault.Fault.{Fault}
use Rattle.dvc_base.specs.Answer.{IsAnswer}
use Rattle.world_api.specs.Tree.{value_at}
use Rattle.world_api.specs.History.{History}
use Rattle.repro_laws.specs.declared.stage.Out.{Out}
use Rattle.repro_core.specs.Storing.{put_due}
use Rattle.repro_core.proofs.StoreLemmas.{each_whole, first_none, answer_first, written_ones, tells_out}
use Rattle.repro_core.proofs.store.name_as_written.Goals as goal

pub returns-in_err-name_output-clause-answer : goal.returns-in_err-name_output-clause-answer
returns-in_err-name_output-clause-answer g c told =
    let s = c.args.stage.now in
    let i = c.loop-at.at in
    let o = c.index-outs-at.result in
    let within : i < length s.outs = search rules in
    let is : o ≡ get_or s.outs i o = search rules in
    let old = g.F.Ground.history c.args.files.now in
    let fault = c.in_err-name_output.field-0.0 in
    let due : History → Out → Option Fault = λ h x. put_due s.name x (value_at h.present.tree x.path) in
    let answer : IsAnswer (Some fault) (due old o) = subst (λ (h : History). IsAnswer (Some fault) (due h o)) (c.loop-at.invariant.same told) (c.in_err-name_output.ensures.answer told) in
    let exit = err_from_is_err_and c.from_residual.result c.from_residual.ensures.1 in
    rw (exit.1, exit.2) (answer_first (due old) s.outs i o fault within is (c.loop-at.invariant.due told) answer)

pub returns-in_err-name_output-clause-told : goal.returns-in_err-name_output-clause-told
returns-in_err-name_output-clause-told g c =
    let s = c.args.stage.now in
    let i = c.loop-at.at in
    let o = c.index-outs-at.result in
    let within : i < length s.outs = search rules in
    let is : o ≡ get_or s.outs i o = search rules in
    let fault = c.in_err-name_output.field-0.0 in
    let exit = err_from_is_err_and c.from_residual.result c.from_residual.ensures.1 in
    rw (exit.1, exit.2) (tells_out s o (Some fault) (written_ones s i o c.requires.stage within is) c.in_err-name_output.ensures.kinds c.in_err-name_output.ensures.told)

pub returns-clause-answer : goal.returns-clause-answer
returns-clause-answer g c told =
    let s = c.args.stage.now in
    let i = c.loop-at.at in
    let end : i ≡ length s.outs = search rules in
    let old = g.F.Ground.history c.args.files.now in
    let due : Out → Option Fault = λ (x : Out). put_due s.name x (value_at old.present.tree x.path) in
    first_none due s.outs (each_whole (λ (x : Out). due x ≡ None) s.outs i end (c.loop-at.invariant.due told))
