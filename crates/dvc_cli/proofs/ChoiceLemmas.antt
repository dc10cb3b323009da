-- The track files that targets choose are as their record asks for.
--     chosen_tracked      in every tree
--     chosen_ready        in the tree that was read
--     choice_ok, choice_err    a choice that was made, or refused
--     refused_due         a refusal that is free, or due
--     if_both             two facts of a result
use Rattle.std.proofs.Common.{◌≡◌, ℕ, true, List, Option, Some, None, Result, Ok, Err, IfOk, IsTrue, ◌⊎◌, inl, inr, refl, sym, ap, ◌∙◌}
use Rattle.std.specs.List.{AllByRecursion}
use Rattle.std.proofs.lemmas.Bool.{false≢true, false_from_ne_true}
use Rattle.dvc_base.specs.Path.{Path, under}
use Rattle.dvc_base.specs.Answer.{IsAnswer, fault_in}
use Rattle.dvc_base.specs.Fault.{is_free}
use Rattle.dvc_base.specs.declared.fault.Fault.{Fault}
use Rattle.dvc_base.specs.declared.node.Node.{Node}
use Rattle.dvc_base.proofs.PathLemmas.{under-refl, under-trans}
use Rattle.world_api.specs.Tree.{Tree, IsTree}
use Rattle.world_api.specs.Layout.{dvc_path, tmp_path}
use Rattle.world_api.specs.Writes.{IsNoFileAt, IsNoScratch, CanWrite}
use Rattle.lock_files.specs.Book.{Lock}
use Rattle.lock_files.specs.Form.{IsTrack}
use Rattle.stage_graph.specs.declared.track.TrackFile.{TrackFile}
use Rattle.template_expand.specs.declared.files.VarFile.{VarFile}
use Rattle.workspace_files.specs.Walk.{is_track_path}
use Rattle.repro_laws.specs.Headline.{IsApart}
use Rattle.repro_laws.specs.Moments.{is_own}
use Rattle.repro_laws.specs.Sound.{lock_of}
use Rattle.repro_laws.proofs.ListLemmas.{each_from}
use Rattle.stage_plan.specs.Plan.{plan_of, choice_by}
use Rattle.stage_plan.specs.declared.choose.Chosen.{Chosen}
use Rattle.stage_plan.specs.declared.turns.Turns.{Turns}
use Rattle.stage_plan.specs.declared.sources.Sources.{Sources}
use Rattle.stage_plan.proofs.TrackedLemmas.{plan_tracks, tracks_kept, tracks_each}
use Rattle.track_record.specs.Records.{AreTracked, AreOneOrApart, AreReady}
use Rattle.dvc_cli.specs.Sources.{IsTrackFile, sources_of}
use Rattle.dvc_cli.proofs.SourceLemmas.{dvc_below, sources_ready}

tmp_below : under dvc_path tmp_path ≡ true
unfolding dvc_path tmp_path
tmp_below = refl

no_scratch : (p : Path) → is_track_path p ≡ true → IsNoScratch p
no_scratch p named =
    let out = dvc_below p named in
    record {
      no_dvc = λ e. false≢true (sym out ∙ (ap (under dvc_path) e ∙ under-refl dvc_path));
      no_tmp = false_from_ne_true (under tmp_path p) (λ u. false≢true (sym out ∙ under-trans dvc_path tmp_path p tmp_below u));
    }

pub chosen_tracked : (targets : List (List ℕ)) (root : Node) (files : List VarFile) (sources : Sources) (chosen : Turns) → plan_of targets root files sources ≡ Ok chosen → AllByRecursion IsTrackFile sources.tracks → AreTracked chosen.tracks
chosen_tracked targets root files sources chosen plan each =
    let far = plan_tracks targets root files sources chosen plan in
    let own = tracks_kept IsTrackFile targets root files sources chosen plan each in
    record {
      form = each_from IsTrackFile (λ (f : TrackFile). IsTrack f.track) chosen.tracks (λ f is. is.form) own;
      files = each_from IsTrackFile (λ (f : TrackFile). IsNoScratch f.file) chosen.tracks (λ f is. no_scratch f.file is.path) own;
      outs = far.outs;
      far = far.far;
    }

pub chosen_ready : (t : Tree) (lock : Lock) (targets : List (List ℕ)) (root : Node) (files : List VarFile) (sources : Sources) (chosen : Turns) → IsTree t → IsNoFileAt t dvc_path → lock_of t ≡ Some lock
    → sources_of t ≡ Ok sources → plan_of targets root files sources ≡ Ok chosen → AreReady chosen.tracks t
chosen_ready t lock targets root files sources chosen tree place read is plan =
    let ready = sources_ready t tree lock place read sources is in
    record {
      apart = tracks_kept (λ f. IsApart is_own f.file) targets root files sources chosen plan ready.apart;
      room = tracks_kept (λ f. CanWrite f.file t) targets root files sources chosen plan ready.room;
      each = tracks_each AreOneOrApart targets root files sources chosen plan ready.each;
    }

-- ---- a choice that was made, or refused

pub record IsChoice (due : Option Fault) (made chosen : Chosen) : Type 0 where
  pub none : due ≡ None
  pub same : made ≡ chosen

ok_same : (a b : Chosen) → ◌≡◌ {A = Result Chosen Fault} (Ok a) (Ok b) → a ≡ b
ok_same a b h = cc

err_same : (a b : Fault) → ◌≡◌ {A = Result Chosen Fault} (Err a) (Err b) → a ≡ b
err_same a b h = cc

err_is_ok : (fault : Fault) (chosen : Chosen) → Err fault ≡ Ok chosen → ⊥
err_is_ok fault chosen h = cc

ok_is_err : (chosen : Chosen) (fault : Fault) → Ok chosen ≡ Err fault → ⊥
ok_is_err chosen fault h = cc

pub choice_ok : (due : Option Fault) (made chosen : Chosen) → choice_by due made ≡ Ok chosen → IsChoice due made chosen
choice_ok None made chosen h = record { none = refl; same = ok_same made chosen h }
choice_ok (Some fault) made chosen h = absurd (err_is_ok fault chosen h)

pub choice_err : (due : Option Fault) (made : Chosen) (fault : Fault) → choice_by due made ≡ Err fault → due ≡ Some fault
choice_err None made fault h = absurd (ok_is_err made fault h)
choice_err (Some f) made fault h = ap (λ (x : Fault). Some x) (err_same f fault h)

-- a refusal that is free, or due
pub refused_due : {A B : Type 0} (fault : Fault) (of : Result A Fault) (due : Result B Fault) → (of ≡ Err fault → due ≡ Err fault) → IsTrue (is_free fault) ⊎ (of ≡ Err fault) → IsAnswer (Some fault) (fault_in due)
refused_due fault of due refused (inl free) = inl free
refused_due fault of due refused (inr e) = inr (ap (λ (r : Result _ Fault). fault_in r) (refused e))

-- two facts of a result
pub if_both : {A : Type 0} (P R S : A → Type 0) (r : Result A Fault) → ((x : A) → P x → R x → S x) → IfOk r P → IfOk r R → IfOk r S
if_both P R S (Ok x) both p q = both x p q
if_both P R S (Err fault) both p q = tt
