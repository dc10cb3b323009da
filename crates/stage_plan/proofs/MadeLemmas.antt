-- A plan that was made, and what targets choose of it.
--     IsMadeOf, from_made     what a plan comes from
--     made_refused            what refuses the plan refuses what targets choose of it
--     choice_refused          so does a target that is none
--     choice_planned          else its turns are what targets choose
use Rattle.std.proofs.Common.{◌≡◌, ℕ, false, List, [], map, refl, sym, ap, ◌∙◌, Option, Some, None, Result, Ok, Err}
use Rattle.dvc_base.specs.Path.{Path}
use Rattle.dvc_base.specs.declared.fault.Fault.{Fault}
use Rattle.dvc_base.specs.declared.node.Node.{Node}
use Rattle.lock_files.specs.Book.{Lock}
use Rattle.template_expand.specs.Expansion.{expansion}
use Rattle.template_expand.specs.declared.files.VarFile.{VarFile}
use Rattle.stage_schema.specs.declared.fault.ExpandFault.{ExpandFault}
use Rattle.stage_schema.specs.declared.stage.Stage.{Stage as Written}
use Rattle.repro_laws.specs.Refusals.{first_fault}
use Rattle.stage_plan.specs.declared.plan.Plan.{Plan}
use Rattle.stage_plan.specs.declared.turns.Turns.{Turns}
use Rattle.stage_plan.specs.declared.sources.Sources.{Sources}
use Rattle.stage_plan.specs.Targets.{target_fault}
use Rattle.stage_plan.specs.Plan.{chosen_by, plan_fault, chosen_unless, plan_by, plan_with, plan_unless, made_by, var_path, plan_of, plan_made, schema_answer, turns_at}
use Rattle.stage_plan.proofs.NumberedLemmas.{turns_same}

pub record IsMadeOf (sources : Sources) (vars : List Path) (lock : Lock) (read : Result (List Written) ExpandFault) (plan : Plan) : Type 0 where
  pub written : List Written
  pub said : read ≡ Ok written
  pub none : plan_fault sources vars written ≡ None
  pub same : plan_with written sources.tracks lock ≡ plan

err_is_ok : (fault : Fault) (plan : Plan) → Err fault ≡ Ok plan → ⊥
err_is_ok fault plan h = cc

ok_is_err : (plan : Plan) (fault : Fault) → Ok plan ≡ Err fault → ⊥
ok_is_err plan fault h = cc

ok_same : (a b : Plan) → ◌≡◌ {A = Result Plan Fault} (Ok a) (Ok b) → a ≡ b
ok_same a b h = cc

err_same : (a b : Fault) → ◌≡◌ {A = Result Plan Fault} (Err a) (Err b) → a ≡ b
err_same a b h = cc

record IsFree (due : Option Fault) (ss : List Written) (sources : Sources) (lock : Lock) (plan : Plan) : Type 0 where
  free : due ≡ None
  same : plan_with ss sources.tracks lock ≡ plan

free_by : (due : Option Fault) (ss : List Written) (sources : Sources) (lock : Lock) (plan : Plan) → plan_unless due ss sources.tracks lock ≡ Ok plan → IsFree due ss sources lock plan
free_by None ss sources lock plan h = record { free = refl; same = ok_same (plan_with ss sources.tracks lock) plan h }
free_by (Some fault) ss sources lock plan h = absurd (err_is_ok fault plan h)

made_from : (sources : Sources) (vars : List Path) (lock : Lock) (read : Result (List Written) ExpandFault) (plan : Plan) → made_by sources vars lock read ≡ Ok plan → IsMadeOf sources vars lock read plan
made_from sources vars lock (Ok ss) plan h =
    let it = free_by (plan_fault sources vars ss) ss sources lock plan h in
    record { written = ss; said = refl; none = it.free; same = it.same }
made_from sources vars lock (Err why) plan h = absurd (err_is_ok (schema_answer why) plan h)

pub from_made : (root : Node) (files : List VarFile) (sources : Sources) (lock : Lock) (plan : Plan) → plan_made root files sources lock ≡ Ok plan → IsMadeOf sources (map var_path files) lock (expansion root files) plan
unfolding plan_made
from_made root files sources lock plan h = made_from sources (map var_path files) lock (expansion root files) plan h

-- ---- refusals

unless_refused : (due later : Option Fault) (targets : List (List ℕ)) (ss : List Written) (sources : Sources) (lock : Lock) (fault : Fault) → plan_unless due ss sources.tracks lock ≡ Err fault →
    chosen_unless (first_fault due later) targets ss sources.tracks ≡ Err fault
unless_refused None later targets ss sources lock fault h = absurd (ok_is_err (plan_with ss sources.tracks lock) fault h)
unless_refused (Some f) later targets ss sources lock fault h = ap (λ (x : Fault). Err x) (err_same f fault h)

refused_by : (targets : List (List ℕ)) (sources : Sources) (vars : List Path) (lock : Lock) (read : Result (List Written) ExpandFault) (fault : Fault) → made_by sources vars lock read ≡ Err fault → plan_by targets sources vars read ≡ Err fault
refused_by targets sources vars lock (Ok ss) fault h = unless_refused (plan_fault sources vars ss) (target_fault [] targets ss sources.tracks) targets ss sources lock fault h
refused_by targets sources vars lock (Err why) fault h = ap (λ (x : Fault). Err x) (err_same (schema_answer why) fault h)

pub made_refused : (targets : List (List ℕ)) (root : Node) (files : List VarFile) (sources : Sources) (lock : Lock) (fault : Fault) → plan_made root files sources lock ≡ Err fault → plan_of targets root files sources ≡ Err fault
unfolding plan_made plan_of
made_refused targets root files sources lock fault h = refused_by targets sources (map var_path files) lock (expansion root files) fault h

-- ---- choices

chosen_from : (targets : List (List ℕ)) (sources : Sources) (vars : List Path) (read : Result (List Written) ExpandFault) (ss : List Written) → read ≡ Ok ss → plan_fault sources vars ss ≡ None →
    plan_by targets sources vars read ≡ chosen_unless (target_fault [] targets ss sources.tracks) targets ss sources.tracks
chosen_from targets sources vars read ss said none = rw (said, none) refl

module _ (targets : List (List ℕ)) (root : Node) (files : List VarFile) (sources : Sources) (lock : Lock) (plan : Plan) (made : plan_made root files sources lock ≡ Ok plan) where
  choice : (from : IsMadeOf sources (map var_path files) lock (expansion root files) plan) → plan_of targets root files sources ≡ chosen_unless (target_fault [] targets from.written sources.tracks) targets from.written sources.tracks
  unfolding plan_of
  choice from = chosen_from targets sources (map var_path files) (expansion root files) from.written from.said from.none

  fault_same : (from : IsMadeOf sources (map var_path files) lock (expansion root files) plan) → target_fault [] targets from.written sources.tracks ≡ target_fault [] targets plan.stages plan.tracks
  fault_same from = ap (λ (p : Plan). target_fault [] targets p.stages p.tracks) from.same

  pub choice_refused : (fault : Fault) → target_fault [] targets plan.stages plan.tracks ≡ Some fault → plan_of targets root files sources ≡ Err fault
  choice_refused fault h =
      let from = from_made root files sources lock plan made in
      choice from ∙ ap (λ (o : Option Fault). chosen_unless o targets from.written sources.tracks) (fault_same from ∙ h)

  pub choice_planned : target_fault [] targets plan.stages plan.tracks ≡ None → plan_of targets root files sources ≡ Ok (turns_at plan (chosen_by false targets plan.stages plan.tracks))
  choice_planned h =
      let from = from_made root files sources lock plan made in
      choice from ∙ ap (λ (o : Option Fault). chosen_unless o targets from.written sources.tracks) (fault_same from ∙ h)
      ∙ ap (λ (turns : Turns). Ok turns) (sym (turns_same targets from.written sources.tracks lock) ∙ ap (λ (p : Plan). turns_at p (chosen_by false targets p.stages p.tracks)) from.same)
