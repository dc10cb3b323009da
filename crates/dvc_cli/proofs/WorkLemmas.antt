-- What there is to do, as the laws ask for it.
--     IsWork t w     the stages are usable, the track files have their paths, and the lock is that of the tree
--     work_is        what is due to be done is so
use Rattle.std.proofs.Common.{◌≡◌, ℕ, Bool, true, false, List, Option, Some, None, Result, Ok, Err, refl, ap}
use Rattle.std.specs.List.{AllByRecursion}
use Rattle.std.specs.Result.{result_ok}
use Rattle.dvc_base.specs.declared.fault.Fault.{Fault}
use Rattle.dvc_base.specs.declared.node.Node.{Node}
use Rattle.world_api.specs.Tree.{Tree, item_at}
use Rattle.world_api.specs.Layout.{yaml_path}
use Rattle.lock_files.specs.Book.{Lock}
use Rattle.template_expand.specs.declared.files.VarFile.{VarFile}
use Rattle.stage_graph.specs.declared.track.TrackFile.{TrackFile}
use Rattle.workspace_files.specs.Walk.{is_track_path}
use Rattle.repro_laws.specs.Sound.{lock_of}
use Rattle.stage_plan.specs.Plan.{plan_of, AreUsable}
use Rattle.stage_plan.specs.declared.turns.Turns.{Turns}
use Rattle.stage_plan.specs.declared.sources.Sources.{Sources}
use Rattle.stage_plan.proofs.PlanLemmas.{plan_usable}
use Rattle.stage_plan.proofs.TrackedLemmas.{tracks_kept}
use Rattle.dvc_cli.specs.Read.{root_at}
use Rattle.dvc_cli.specs.Sources.{sources_of}
use Rattle.dvc_cli.specs.Vars.{vars_of}
use Rattle.dvc_cli.specs.Workspace.{plan_by_files, plan_by_root, chosen_of, workspace_fault, workspace_by}
use Rattle.dvc_cli.specs.Command.{Work, work_in, work_due, flags_of}
use Rattle.dvc_cli.specs.declared.words.Request.{Request}
use Rattle.dvc_cli.specs.declared.words.Request.TheVariants.{Repro}
use Rattle.dvc_cli.proofs.SourceLemmas.{sources_named}

-- ---- what is chosen of a workspace

abbrev AreNamed : List TrackFile → Type 0
AreNamed fs = AllByRecursion (λ f. is_track_path f.file ≡ true) fs

pub record IsGoodChoice (chosen : Turns) : Type 0 where
  pub usable : AreUsable chosen.stages
  pub named : AreNamed chosen.tracks

none_chosen : (c : Turns) → None ≡ Some c → ⊥
none_chosen c e = cc

same_chosen : (a b : Turns) → Some a ≡ Some b → a ≡ b
same_chosen a b e = cc

planned : (plan : Result Turns Fault) (chosen : Turns) → result_ok plan ≡ Some chosen → plan ≡ Ok chosen
planned (Ok found) chosen e = ap Ok (same_chosen found chosen e)
planned (Err fault) chosen e = absurd (none_chosen chosen e)

of_files : (t : Tree) (targets : List (List ℕ)) (root : Node) (files : Result (List VarFile) Fault) (sources : Result Sources Fault) (chosen : Turns) → sources_of t ≡ sources → result_ok (plan_by_files targets root files sources) ≡ Some chosen → IsGoodChoice chosen
of_files t targets root (Ok files) (Ok sources) chosen is e =
    let plan = planned (plan_of targets root files sources) chosen e in
    record {
      usable = plan_usable targets root files sources chosen plan;
      named = tracks_kept (λ f. is_track_path f.file ≡ true) targets root files sources chosen plan (sources_named t sources is);
    }
of_files t targets root (Ok files) (Err fault) chosen is e = absurd (none_chosen chosen e)
of_files t targets root (Err fault) sources chosen is e = absurd (none_chosen chosen e)

of_root : (targets : List (List ℕ)) (t : Tree) (read : Result Node Fault) (chosen : Turns) → result_ok (plan_by_root targets t read) ≡ Some chosen → IsGoodChoice chosen
of_root targets t (Ok root) chosen e = of_files t targets root (vars_of t root) (sources_of t) chosen refl e
of_root targets t (Err fault) chosen e = absurd (none_chosen chosen e)

pub good_choice : (targets : List (List ℕ)) (t : Tree) (chosen : Turns) → chosen_of targets t ≡ Some chosen → IsGoodChoice chosen
good_choice targets t chosen e = of_root targets t (root_at (item_at t yaml_path)) chosen e

-- ---- what there is to do

pub record IsWork (t : Tree) (w : Work) : Type 0 where
  pub flags : (flags_of w.force).run_cache ≡ false
  pub usable : AreUsable w.stages
  pub named : AreNamed w.tracks
  pub remembered : lock_of t ≡ Some w.lock

no_work : (w : Work) → None ≡ Some w → ⊥
no_work w e = cc

same_work : (a b : Work) → Some a ≡ Some b → a ≡ b
same_work a b e = cc

work_parts : (force : Bool) (a : Option Fault) (chosen : Option Turns) (lock : Option Lock) (w : Work) → work_in force (workspace_by a chosen lock) ≡ Some w → (chosen ≡ Some (record { stages = w.stages; tracks = w.tracks })) × (lock ≡ Some w.lock)
work_parts force (Some fault) chosen lock w e = absurd (no_work w e)
work_parts force None None lock w e = absurd (no_work w e)
work_parts force None (Some chosen) None w e = absurd (no_work w e)
work_parts force None (Some chosen) (Some lock) w e =
    let same = same_work (record { force = force; stages = chosen.stages; tracks = chosen.tracks; lock = lock }) w e in
    (ap (λ (x : Work). Some (record { stages = x.stages; tracks = x.tracks })) same, ap (λ (x : Work). Some x.lock) same)

pub work_is : (request : Option Request) (t : Tree) (w : Work) → work_due request t ≡ Some w → IsWork t w
work_is None t w e = absurd (no_work w e)
work_is (Some (Repro force targets)) t w e =
    let parts = work_parts force (workspace_fault targets t) (chosen_of targets t) (lock_of t) w e in
    let good = good_choice targets t (record { stages = w.stages; tracks = w.tracks }) parts.0 in
    record { flags = refl; usable = good.usable; named = good.named; remembered = parts.1 }
