-- A run's lane is begun before anything of its outputs is touched.
--     first_itself                    no step
--     lane_.., lane_ready, begun_at   a lane that was begun stays: through clears, folders and the job
--     first_begun, first_cleared, first_made     one call after another
--     first_same, first_on, first_run            a look, a look before them, and the run of the job
use Rattle.std.proofs.Common.{◌≡◌, ℕ, List, map, inl, inr, refl, sym, subst, ◌∙◌, Some, None, Result, Ok, Err, OnOk}
use Rattle.std.proofs.lemmas.Bool.{false≢true, false_from_ne_true}
use Rattle.dvc_base.specs.Path.{Path}
use Rattle.dvc_base.specs.declared.memory.Failed.{Failed}
use Rattle.dvc_base.proofs.PathLemmas.{under-trans}
use Rattle.world_api.specs.Tree.{file}
use Rattle.world_api.specs.Effect.{is_in_any}
use Rattle.world_api.specs.History.{Moment, History, KeepsPaths, Keeps}
use Rattle.world_api.specs.Outside.{tree_of, PassesFrom}
use Rattle.world_api.specs.Calls.{IsFileAt, InRun}
use Rattle.world_api.specs.Layout.{dvc_path, tmp_path, lane_path}
use Rattle.world_api.specs.Writes.{in_scratch, IsMade, InScratch}
use Rattle.world_api.specs.declared.job.Job.{Job}
use Rattle.world_api.proofs.HistoryLemmas.{passes_same, passes_weaker, passes_on}
use Rattle.world_api.proofs.LaneLemmas.{tmp_in_dvc, lane_in_tmp}
use Rattle.repro_laws.specs.Stage.{out_path, stage_outs, IsStage}
use Rattle.repro_laws.specs.Headline.{IsKept}
use Rattle.repro_laws.specs.Moments.{is_own, IsJobOf}
use Rattle.repro_laws.specs.declared.stage.Out.{Out}
use Rattle.repro_laws.specs.declared.stage.Stage.{Stage}
use Rattle.repro_core.specs.Ways.{InFolders, IsLaneFirst}
use Rattle.repro_core.proofs.WorkLemmas.{own_of_dvc, own_outside, job_outs}
use Rattle.repro_core.proofs.FoldersLemmas.{scratch_own}

-- ---- a moment

first_itself : (s : Stage) (m : Moment) → IsLaneFirst s m m
first_itself s m = inl (λ p u. refl)

first_scratch : (s : Stage) (m n : Moment) → IsKept is_own s → InScratch m n → IsLaneFirst s m n
first_scratch s m n kept h =
    inl (λ p u. h.others.paths.items p (false_from_ne_true (in_scratch p) (λ e. false≢true (sym (own_outside s p kept (scratch_own p e)) ∙ u))))

-- the lane is no output
lane_kept : (s : Stage) (m n : Moment) → IsKept is_own s → KeepsPaths (is_in_any (stage_outs s)) m n → IsFileAt m.tree (lane_path 0) → IsFileAt n.tree (lane_path 0)
lane_kept s m n kept h lane =
    let own = own_of_dvc (lane_path 0) (under-trans dvc_path tmp_path (lane_path 0) tmp_in_dvc (lane_in_tmp 0)) in
    (lane.0, h.items (lane_path 0) (own_outside s (lane_path 0) kept own) ∙ lane.1)

lane_made : (q : Path) (m n : Moment) → IsMade q m n → IsFileAt m.tree q → IsFileAt n.tree q
lane_made q m n (inl same) lane = (lane.0, same.item ∙ lane.1)
lane_made q m n (inr made) lane = absurd (missing lane.0 (sym made.0 ∙ lane.1))
  where
    missing : (bytes : List ℕ) → None ≡ Some (file bytes) → ⊥
    missing bytes e = absurd (cc)

-- ---- over histories: the calls that make ready, one after another

outs_kept : (s : Stage) (os : List Out) (m n : Moment) → os ≡ s.made → Keeps (is_in_any (map out_path os)) m n → KeepsPaths (is_in_any (stage_outs s)) m n
outs_kept s os m n e h = subst (λ (l : List Out). KeepsPaths (is_in_any (map out_path l)) m n) e h.paths

pub first_begun : (s : Stage) (a b : History) → IsKept is_own s → PassesFrom InScratch a b → PassesFrom (IsLaneFirst s) a b
first_begun s a b kept x =
    passes_weaker (InScratch a.present) (IsLaneFirst s a.present) a b (λ m h. first_scratch s a.present m kept h) x

pub first_cleared : (s : Stage) (os : List Out) (a b c : History) → IsKept is_own s → os ≡ s.made → PassesFrom InScratch a b → IsFileAt (tree_of b) (lane_path 0) → PassesFrom (Keeps (is_in_any (map out_path os))) b c → PassesFrom (IsLaneFirst s) a c
first_cleared s os a b c kept e x lane y =
    passes_on (IsLaneFirst s a.present) (Keeps (is_in_any (map out_path os)) b.present) a b c (first_begun s a b kept x) (λ m h. inr (lane_kept s b.present m kept (outs_kept s os b.present m e h) lane)) y

lane_ready : (s : Stage) (os : List Out) (b c : History) → IsKept is_own s → os ≡ s.made → IsFileAt (tree_of b) (lane_path 0) → PassesFrom (Keeps (is_in_any (map out_path os))) b c → IsFileAt (tree_of c) (lane_path 0)
lane_ready s os b c kept e lane y = lane_kept s b.present c.present kept (outs_kept s os b.present c.present e y.now) lane

pub first_made : (s : Stage) (os : List Out) (roads : List Path) (a b c d : History) → IsKept is_own s → os ≡ s.made → PassesFrom InScratch a b → IsFileAt (tree_of b) (lane_path 0) → PassesFrom (Keeps (is_in_any (map out_path os))) b c → PassesFrom (InFolders roads) c d → PassesFrom (IsLaneFirst s) a d
first_made s os roads a b c d kept e x lane y z =
    passes_on (IsLaneFirst s a.present) (InFolders roads c.present) a c d (first_cleared s os a b c kept e x lane y) (λ m h. inr (lane_made (lane_path 0) c.present m (h.made (lane_path 0)) (lane_ready s os b c kept e lane y))) z

pub begun_at : (s : Stage) (os : List Out) (roads : List Path) (b c d : History) (got : Result (Unit {0}) Failed) → IsKept is_own s → os ≡ s.made → IsFileAt (tree_of b) (lane_path 0) → PassesFrom (Keeps (is_in_any (map out_path os))) b c → PassesFrom (InFolders roads) c d → OnOk got (IsFileAt (tree_of d) (lane_path 0))
begun_at s os roads b c d (Err why) kept e lane y z = tt
begun_at s os roads b c d (Ok done) kept e lane y z =
    lane_made (lane_path 0) c.present d.present (z.now.made (lane_path 0)) (lane_ready s os b c kept e lane y)

-- ---- over histories: the look before them, and the run of the job

pub first_same : (s : Stage) (a b : History) → b ≡ a → PassesFrom (IsLaneFirst s) a b
first_same s a b e = passes_same (IsLaneFirst s a.present) a b e (first_itself s a.present)

pub first_on : (s : Stage) (a b c : History) → b ≡ a → PassesFrom (IsLaneFirst s) b c → PassesFrom (IsLaneFirst s) a c
first_on s a b c e x = subst (λ (h : History). PassesFrom (IsLaneFirst s) h c) e x

pub first_run : (s : Stage) (job : Job) (a b c d : History) → IsStage s → IsKept is_own s → IsJobOf s job → b ≡ a → PassesFrom (IsLaneFirst s) b c → IsFileAt (tree_of c) (lane_path 0) → PassesFrom (InRun job) c d → PassesFrom (IsLaneFirst s) a d
first_run s job a b c d stage kept its e x lane y =
    passes_on (IsLaneFirst s a.present) (InRun job c.present) a c d (first_on s a b c e x) (λ m h. inr (lane_kept s c.present m kept (subst (λ (outs : List Path). KeepsPaths (is_in_any outs) c.present m) (job_outs s job stage its) h.others) lane)) y
