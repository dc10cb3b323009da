-- Each dependency is the stage's own, and the first refusal as they are written is found by the second look.
use Rattle.std.proofs.Common.{◌∙◌, List, map, sym, ap, subst, Option, Some}
use Rattle.std.specs.List.{AllByRecursion}
use Rattle.dvc_base.specs.Answer.{fault_in, IsAnswer}
use Rattle.dvc_base.specs.declared.fault.Fault.{Fault}
use Rattle.world_api.specs.History.{History}
use Rattle.world_api.specs.Outside.{tree_of}
use Rattle.repro_laws.specs.Stage.{dep_path, dep_text, dep_value}
use Rattle.repro_laws.specs.Refusals.{first_of, refused_dep, deps_fault}
use Rattle.repro_laws.specs.declared.stage.Dep.{Dep}
use Rattle.repro_core.specs.Telling.{IsOneOf}
use Rattle.repro_core.proofs.OwnLemmas.{own_ordered, own_written}
use Rattle.repro_core.proofs.SeeLemmas.{none_again, answer_again}
use Rattle.repro_core.proofs.see.see_deps.Goals as goal

pub name_deps-requires : goal.name_deps-requires
name_deps-requires g c =
    let s = c.args.stage.now in
    record {
      own = subst (AllByRecursion (λ (d : Dep). IsOneOf (map dep_path s.deps) d.path)) (sym c.as_slice.ensures.same) (own_ordered dep_path s.deps);
    }

pub name_deps-again-requires : goal.name_deps-again-requires
name_deps-again-requires g c =
    let s = c.args.stage.now in
    record {
      own = subst (AllByRecursion (λ (d : Dep). IsOneOf (map dep_path s.deps) d.path)) (sym c.as_slice-in-Err.ensures.same) (own_written dep_path dep_text s.looks s.deps c.requires.stage.deps);
    }

pub returns-in-Ok-clause-answer : goal.returns-in-Ok-clause-answer
returns-in-Ok-clause-answer g c told =
    let s = c.args.stage.now in
    let tree = tree_of (g.F.Ground.history c.args.files.now) in
    let refused : Dep → Option Fault = λ d. refused_dep s.name d (dep_value tree d) in
    none_again dep_text refused s.looks s.deps c.requires.stage.deps (ap (first_of refused) (sym c.as_slice.ensures.same) ∙ c.in-Ok.ensures.answer told)

pub returns-in-Err-clause-answer : goal.returns-in-Err-clause-answer
returns-in-Err-clause-answer g c told =
    let s = c.args.stage.now in
    let tree = tree_of (g.F.Ground.history c.args.files.now) in
    let refused : Dep → Option Fault = λ d. refused_dep s.name d (dep_value tree d) in
    let again = c.name_deps-again.result in
    let fault = c.in-Err.fault in
    let first = subst (λ (ds : List Dep). IsAnswer (Some fault) (first_of refused ds)) c.as_slice.ensures.same (c.in-Err.ensures.answer told) in
    let there = subst (λ (ds : List Dep). IsAnswer (fault_in again) (first_of (λ d. refused_dep s.name d (dep_value (tree_of (g.F.Ground.history c.name_deps.new.files)) d)) ds)) c.as_slice-in-Err.ensures.same (c.name_deps-again.ensures.answer told) in
    let second = subst (λ (h : History). IsAnswer (fault_in again) (deps_fault s (tree_of h))) (c.name_deps.ensures.unchanged told) there in
    answer_again dep_text refused s.looks s.deps c.requires.stage.deps fault first again c.err.result c.unwrap_or.result c.err.ensures.value c.unwrap_or.ensures second
