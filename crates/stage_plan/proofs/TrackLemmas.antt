-- What feeds a stage.
--     place_any      a place is found where some member passes a test
--     feeds_by       whether they meet something that is read
use Rattle.std.proofs.Common.{◌≡◌, ℕ, ◌+◌, Bool, true, false, ◌||◌, cond, List, [], ◌∷◌, Some, refl, sym, ap}
use Rattle.std.specs.List.{list_any, position_from}
use Rattle.std.specs.Option.{is_some}
use Rattle.dvc_base.specs.Path.{Path, path_text, overlap}
use Rattle.world_api.specs.Effect.{path_from}
use Rattle.lock_files.specs.declared.PathEntry.{PathEntry}
use Rattle.stage_graph.specs.Paths.{folder_of, owners_of_entries, owner_paths}
use Rattle.stage_graph.specs.declared.track.TrackFile.{TrackFile}
use Rattle.stage_plan.specs.Plan.{feeds}

pub place_any : {A : Type 0} (t : A → Bool) (k : ℕ) (xs : List A) → is_some (position_from t k xs) ≡ list_any t xs
place_any t k [] = refl
place_any t k (x ∷ xs) = elim (t x) as (λ b. is_some (cond b (Some k) (position_from t (k + 1) xs)) ≡ (b || list_any t xs)) [
  | true ↦ refl
  | false ↦ place_any t (k + 1) xs
]

any_out : (t : Path → Bool) (dir : Path) (name : List ℕ) (outs : List PathEntry) →
    list_any t (owner_paths (owners_of_entries dir name outs)) ≡ list_any (λ out. t (path_from dir out.path)) outs
any_out t dir name [] = refl
any_out t dir name (out ∷ outs) = ap (λ (b : Bool). t (path_from dir out.path) || b) (any_out t dir name outs)

-- the outs are read from the folder of the file
pub feeds_by : (reads : List Path) (track : TrackFile) →
    list_any (λ out. list_any (λ q. overlap q (path_from (folder_of track.file) out.path)) reads) track.track.outs ≡ feeds reads track
feeds_by reads track = sym (any_out (λ p. list_any (λ q. overlap q p) reads) (folder_of track.file) (path_text track.file) track.track.outs)
