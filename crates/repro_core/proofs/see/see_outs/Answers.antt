-- Each output is the stage's own, and the first refusal as they are written is found by the second look.
use Rattle.std.proofs.Common.{◌∙◌, List, sym, ap, subst, Option, Some}
use Rattle.std.specs.List.{AllByRecursion}
use Rattle.dvc_base.specs.Answer.{fault_in, IsAnswer}
use Rattle.dvc_base.specs.declared.fault.Fault.{Fault}
use Rattle.world_api.specs.Tree.{value_at}
use Rattle.world_api.specs.History.{History}
use Rattle.world_api.specs.Outside.{tree_of}
use Rattle.repro_laws.specs.Stage.{out_path, out_text, stage_outs}
use Rattle.repro_laws.specs.Limits.{limit_fault}
use Rattle.repro_laws.specs.Refusals.{first_of, present_fault}
use Rattle.repro_laws.specs.declared.stage.Out.{Out}
use Rattle.repro_core.specs.Telling.{IsOneOf}
use Rattle.repro_core.proofs.OwnLemmas.{own_ordered, own_written}
use Rattle.repro_core.proofs.SeeLemmas.{none_again, answer_again}
use Rattle.repro_core.proofs.see.see_outs.Goals as goal

pub name_outs-requires : goal.name_outs-requires
name_outs-requires g c =
    let s = c.args.stage.now in
    record {
      own = subst (AllByRecursion (λ (o : Out). IsOneOf (stage_outs s) o.path)) (sym c.as_slice.ensures.same) (own_ordered out_path s.made);
    }

pub name_outs-again-requires : goal.name_outs-again-requires
name_outs-again-requires g c =
    let s = c.args.stage.now in
    record {
      own = subst (AllByRecursion (λ (o : Out). IsOneOf (stage_outs s) o.path)) (sym c.as_slice-in-Err.ensures.same) (own_written out_path out_text s.outs s.made c.requires.stage.made);
    }

pub returns-in-Ok-clause-answer : goal.returns-in-Ok-clause-answer
returns-in-Ok-clause-answer g c told =
    let s = c.args.stage.now in
    let tree = tree_of (g.F.Ground.history c.args.files.now) in
    let refused : Out → Option Fault = λ o. limit_fault (value_at tree o.path) in
    none_again out_text refused s.outs s.made c.requires.stage.made (ap (first_of refused) (sym c.as_slice.ensures.same) ∙ c.in-Ok.ensures.answer told)

pub returns-in-Err-clause-answer : goal.returns-in-Err-clause-answer
returns-in-Err-clause-answer g c told =
    let s = c.args.stage.now in
    let tree = tree_of (g.F.Ground.history c.args.files.now) in
    let refused : Out → Option Fault = λ o. limit_fault (value_at tree o.path) in
    let again = c.name_outs-again.result in
    let fault = c.in-Err.fault in
    let first = subst (λ (os : List Out). IsAnswer (Some fault) (first_of refused os)) c.as_slice.ensures.same (c.in-Err.ensures.answer told) in
    let there = subst (λ (os : List Out). IsAnswer (fault_in again) (first_of (λ o. limit_fault (value_at (tree_of (g.F.Ground.history c.name_outs.new.files)) o.path)) os)) c.as_slice-in-Err.ensures.same (c.name_outs-again.ensures.answer told) in
    let second = subst (λ (h : History). IsAnswer (fault_in again) (present_fault s (tree_of h))) (c.name_outs.ensures.unchanged told) there in
    answer_again out_text refused s.outs s.made c.requires.stage.made fault first again c.err.result c.unwrap_or.result c.err.ensures.value c.unwrap_or.ensures second
