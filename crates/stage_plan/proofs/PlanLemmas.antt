-- The stages of a plan are usable, whatever stands in the tree.
--     from_plan        what is so of the stages that a node says, where a plan comes from them
--     plan_usable      and of those that were chosen
use Rattle.std.proofs.Common.{◌≡◌, ℕ, List, [], map, refl, subst, Option, Some, None, Result, Ok, Err}
use Rattle.dvc_base.specs.Path.{Path}
use Rattle.dvc_base.specs.declared.fault.Fault.{Fault}
use Rattle.dvc_base.specs.declared.node.Node.{Node}
use Rattle.template_expand.specs.Expansion.{expansion}
use Rattle.template_expand.specs.declared.files.VarFile.{VarFile}
use Rattle.stage_schema.specs.declared.fault.ExpandFault.{ExpandFault}
use Rattle.stage_schema.specs.declared.stage.Stage.{Stage as Written}
use Rattle.repro_laws.specs.Refusals.{first_fault}
use Rattle.stage_plan.specs.declared.turns.Turns.{Turns}
use Rattle.stage_plan.specs.declared.sources.Sources.{Sources}
use Rattle.stage_plan.specs.Targets.{target_fault, chosen}
use Rattle.stage_plan.specs.Plan.{chosen_in, plan_fault, chosen_unless, plan_by, var_path, plan_of, schema_answer, AreUsable}
use Rattle.stage_plan.proofs.SchemaLemmas.{good_stages, stage_names}
use Rattle.stage_plan.proofs.ClearLemmas.{are_clear}
use Rattle.stage_plan.proofs.PlacedLemmas.{chosen_behind}
use Rattle.stage_plan.proofs.UsableLemmas.{usable}

-- what a plan comes from that was answered
pub record ComesFrom (targets : List (List ℕ)) (sources : Sources) (vars : List Path) (read : Result (List Written) ExpandFault) (plan : Turns) : Type 0 where
  pub written : List Written
  pub said : read ≡ Ok written
  pub none : plan_fault sources vars written ≡ None
  pub same : chosen_in targets written sources.tracks ≡ plan

err_is_ok : (fault : Fault) (plan : Turns) → Err fault ≡ Ok plan → ⊥
err_is_ok fault plan h = cc

ok_same : (a b : Turns) → ◌≡◌ {A = Result Turns Fault} (Ok a) (Ok b) → a ≡ b
ok_same a b h = cc

-- no fault, and the plan
record IsFree (due : Option Fault) (targets : List (List ℕ)) (sources : Sources) (ss : List Written) (plan : Turns) : Type 0 where
  free : due ≡ None
  same : chosen_in targets ss sources.tracks ≡ plan

free_by : (due later : Option Fault) (targets : List (List ℕ)) (sources : Sources) (ss : List Written) (plan : Turns) →
    chosen_unless (first_fault due later) targets ss sources.tracks ≡ Ok plan → IsFree due targets sources ss plan
free_by None None targets sources ss plan h = record { free = refl; same = ok_same (chosen_in targets ss sources.tracks) plan h }
free_by None (Some fault) targets sources ss plan h = absurd (err_is_ok fault plan h)
free_by (Some fault) later targets sources ss plan h = absurd (err_is_ok fault plan h)

comes_from : (targets : List (List ℕ)) (sources : Sources) (vars : List Path) (read : Result (List Written) ExpandFault) (plan : Turns) →
    plan_by targets sources vars read ≡ Ok plan → ComesFrom targets sources vars read plan
comes_from targets sources vars (Ok ss) plan h =
    let it = free_by (plan_fault sources vars ss) (target_fault [] targets ss sources.tracks) targets sources ss plan h in
    record { written = ss; said = refl; none = it.free; same = it.same }
comes_from targets sources vars (Err why) plan h = absurd (err_is_ok (schema_answer why) plan h)

pub from_plan : (targets : List (List ℕ)) (root : Node) (files : List VarFile) (sources : Sources) (plan : Turns) → plan_of targets root files sources ≡ Ok plan →
    ComesFrom targets sources (map var_path files) (expansion root files) plan
unfolding plan_of
from_plan targets root files sources plan h = comes_from targets sources (map var_path files) (expansion root files) plan h

pub plan_usable : (targets : List (List ℕ)) (root : Node) (files : List VarFile) (sources : Sources) (plan : Turns) → plan_of targets root files sources ≡ Ok plan →
    AreUsable plan.stages
plan_usable targets root files sources plan h =
    let from = from_plan targets root files sources plan h in
    let clear = are_clear sources (map var_path files) from.written (good_stages root files from.written from.said) from.none in
    subst (λ (p : Turns). AreUsable p.stages) from.same
    (usable from.written (chosen targets from.written) clear (stage_names root files from.written from.said) (chosen_behind targets from.written))
