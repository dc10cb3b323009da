-- The track files of a plan.
--     track_paths f     what a track file records
--     AreFar fs         what they record lies apart from what is the tool's own, and from the track files
--     plan_tracks       so do those that were chosen
--     tracks_kept       what holds of each track file holds of each that was chosen
--     tracks_each       and what holds of each with each
use Rattle.std.proofs.Common.{◌≡◌, ℕ, false, List, [], ◌∷◌, ◌++◌, map, Option, None, Ok, refl, subst, ap, ◌∙◌}
use Rattle.std.specs.Option.{option_or}
use Rattle.std.specs.List.{AllByRecursion, find, flat_map}
use Rattle.std.proofs.lemmas.List.{map-append}
use Rattle.dvc_base.specs.Path.{Path, path_text, overlap}
use Rattle.dvc_base.specs.declared.fault.Fault.{Fault}
use Rattle.dvc_base.specs.declared.fault.Fault.TheVariants.{Reserved}
use Rattle.dvc_base.specs.declared.node.Node.{Node}
use Rattle.world_api.specs.Effect.{path_from}
use Rattle.lock_files.specs.declared.PathEntry.{PathEntry}
use Rattle.template_expand.specs.declared.files.VarFile.{VarFile}
use Rattle.stage_schema.specs.declared.stage.Stage.{Stage as Written}
use Rattle.stage_graph.specs.Clash.{clash_fault, made_fault}
use Rattle.stage_graph.specs.Cycle.{cycle_fault}
use Rattle.stage_graph.specs.Fault.{first_of}
use Rattle.stage_graph.specs.Kept.{tool_paths, file_paths, near_fault, name_fault, dir_fault, var_fault, tool_fault, file_fault, reserved_fault}
use Rattle.stage_graph.specs.Paths.{folder_of, needs, owners_of_entries, track_owners, owners, owner_paths}
use Rattle.stage_graph.specs.Texts.{outside_fault}
use Rattle.stage_graph.specs.declared.owner.Owner.{Owner}
use Rattle.stage_graph.specs.declared.track.TrackFile.{TrackFile}
use Rattle.repro_laws.specs.Headline.{IsApart}
use Rattle.repro_laws.specs.Moments.{is_own}
use Rattle.repro_laws.proofs.ListLemmas.{each_from, each_first, each_second, each_mapped}
use Rattle.stage_plan.specs.declared.turns.Turns.{Turns}
use Rattle.stage_plan.specs.declared.sources.Sources.{Sources}
use Rattle.stage_plan.specs.Targets.{other_paths, chosen}
use Rattle.stage_plan.specs.Plan.{all_outs, reads_at, is_track_for, chosen_tracks, plan_fault, var_path, plan_of}
use Rattle.stage_plan.proofs.PairLemmas.{each_kept, each_flat, each_of_flat}
use Rattle.stage_plan.proofs.ClearLemmas.{none_both, none_each, none_mapped, none_found, far, owned_paths}
use Rattle.stage_plan.proofs.UsableLemmas.{far_apart}
use Rattle.stage_plan.proofs.PlanLemmas.{from_plan}

abbrev pub track_paths : TrackFile → List Path
track_paths t = map (λ e. path_from (folder_of t.file) e.path) t.track.outs

abbrev IsFree : TrackFile → Path → Type 0
IsFree t p = overlap t.file p ≡ false

pub record AreFar (fs : List TrackFile) : Type 0 where
  pub outs : AllByRecursion (IsApart is_own) (flat_map track_paths fs)
  pub far : AllByRecursion (λ f. AllByRecursion (λ p. overlap f.file p ≡ false) (flat_map track_paths fs)) fs

-- ---- those that were chosen are some of all

chosen_each : (P : TrackFile → Type 0) (targets : List (List ℕ)) (ss : List Written) (tracks : List TrackFile) → AllByRecursion P tracks → AllByRecursion P (chosen_tracks targets ss tracks)
chosen_each P [] ss tracks h = h
chosen_each P (target ∷ more) ss tracks h =
    each_kept (is_track_for (other_paths ss (target ∷ more)) (reads_at ss (chosen (target ∷ more) ss))) P tracks h

pub tracks_kept : (P : TrackFile → Type 0) (targets : List (List ℕ)) (root : Node) (files : List VarFile) (sources : Sources) (plan : Turns) → plan_of targets root files sources ≡ Ok plan →
    AllByRecursion P sources.tracks → AllByRecursion P plan.tracks
tracks_kept P targets root files sources plan said h =
    let from = from_plan targets root files sources plan said in
    subst (λ (p : Turns). AllByRecursion P p.tracks) from.same (chosen_each P targets from.written sources.tracks h)

pub tracks_each : (R : TrackFile → TrackFile → Type 0) (targets : List (List ℕ)) (root : Node) (files : List VarFile) (sources : Sources) (plan : Turns) →
    plan_of targets root files sources ≡ Ok plan →
    AllByRecursion (λ f. AllByRecursion (R f) sources.tracks) sources.tracks → AllByRecursion (λ f. AllByRecursion (R f) plan.tracks) plan.tracks
tracks_each R targets root files sources plan said h =
    tracks_kept (λ f. AllByRecursion (R f) plan.tracks) targets root files sources plan said
    (each_from (λ f. AllByRecursion (R f) sources.tracks) (λ f. AllByRecursion (R f) plan.tracks) sources.tracks
    (λ f each. tracks_kept (R f) targets root files sources plan said each) h)

-- ---- all of them

pub entry_paths : (dir : Path) (name : List ℕ) (outs : List PathEntry) → owner_paths (owners_of_entries dir name outs) ≡ map (λ e. path_from dir e.path) outs
entry_paths dir name [] = refl
entry_paths dir name (out ∷ outs) = ap (λ (ps : List Path). path_from dir out.path ∷ ps) (entry_paths dir name outs)

tracked_paths : (tracks : List TrackFile) → owner_paths (flat_map track_owners tracks) ≡ flat_map track_paths tracks
tracked_paths [] = refl
tracked_paths (t ∷ tracks) =
    map-append (λ (o : Owner). o.path) (track_owners t) (flat_map track_owners tracks)
    ∙ ap (λ (ps : List Path). ps ++ owner_paths (flat_map track_owners tracks)) (entry_paths (folder_of t.file) (path_text t.file) t.track.outs)
    ∙ ap (λ (ps : List Path). track_paths t ++ ps) (tracked_paths tracks)

of_tracks : (P : Path → Type 0) (tracks : List TrackFile) (ss : List Written) → AllByRecursion P (owner_paths (owners ss tracks)) → AllByRecursion P (flat_map track_paths tracks)
of_tracks P tracks ss h =
    subst (AllByRecursion P) (tracked_paths tracks)
    (each_first P (owner_paths (flat_map track_owners tracks)) (all_outs ss) (subst (AllByRecursion P) (owned_paths tracks ss) h))

-- each with each, the other way round
turned : {A B : Type 0} (R : A → B → Type 0) (xs : List A) (ys : List B) → AllByRecursion (λ y. AllByRecursion (λ x. R x y) xs) ys → AllByRecursion (λ x. AllByRecursion (R x) ys) xs
turned R [] ys h = tt
turned R (x ∷ xs) ys h = (
  each_from (λ y. AllByRecursion (λ z. R z y) (x ∷ xs)) (R x) ys (λ y k. k.0) h,
  turned R xs ys (each_from (λ y. AllByRecursion (λ z. R z y) (x ∷ xs)) (λ y. AllByRecursion (λ z. R z y) xs) ys (λ y k. k.1) h),
)

-- a path apart from all that the tool reads lies apart from the track files
free_of : (tracks : List TrackFile) (ignores : List Path) (p : Path) → near_fault (file_paths tracks ignores) p ≡ None → AllByRecursion (λ t. IsFree t p) tracks
free_of tracks ignores p h =
    let files = file_paths tracks ignores in
    let all = none_found (λ q. overlap q p) files (none_mapped (Reserved p) (find (λ q. overlap q p) files) h) in
    each_mapped (λ (t : TrackFile). t.file) (λ q. overlap q p ≡ false) tracks
    (each_second (λ q. overlap q p ≡ false) ignores (map (λ (t : TrackFile). t.file) tracks) all.1.1)

all_far : (sources : Sources) (vars : List Path) (ss : List Written) → plan_fault sources vars ss ≡ None → AreFar sources.tracks
all_far sources vars ss h =
    let tracks : List TrackFile = sources.tracks in
    let owned : List Path = owner_paths (owners ss tracks) in
    let a : Option Fault = outside_fault ss tracks in
    let b : Option Fault = reserved_fault owned ss tracks vars sources.ignores in
    let c : Option Fault = option_or (clash_fault (owners ss tracks)) (option_or (made_fault ss vars) (option_or (cycle_fault ss) None)) in
    let reserved = none_both b c (none_both a (option_or b c) h).1 in
    let rest : Option Fault = option_or (first_of name_fault owned) (option_or (first_of dir_fault ss) (first_of (var_fault tracks) vars)) in
    let files : Option Fault = file_fault tracks sources.ignores owned in
    let tool = none_both (tool_fault owned ss) (option_or files rest) reserved.0 in
    let file = none_both files rest tool.1 in
    let near = none_both (first_of (near_fault tool_paths) owned) (first_of (λ s. first_of (near_fault tool_paths) (needs s)) ss) tool.0 in
    let paths : List Path = flat_map track_paths tracks in
    record {
      outs = each_from (λ p. near_fault tool_paths p ≡ None) (IsApart is_own) paths (λ p k. far_apart p (far p k))
          (of_tracks (λ p. near_fault tool_paths p ≡ None) tracks ss (none_each (near_fault tool_paths) owned near.0));
      far = turned IsFree tracks paths
          (each_from (λ p. near_fault (file_paths tracks sources.ignores) p ≡ None) (λ p. AllByRecursion (λ t. IsFree t p) tracks) paths (free_of tracks sources.ignores)
          (of_tracks (λ p. near_fault (file_paths tracks sources.ignores) p ≡ None) tracks ss (none_each (near_fault (file_paths tracks sources.ignores)) owned file.0)));
    }

-- ---- and so of those that were chosen

pub plan_tracks : (targets : List (List ℕ)) (root : Node) (files : List VarFile) (sources : Sources) (plan : Turns) → plan_of targets root files sources ≡ Ok plan →
    AreFar plan.tracks
plan_tracks targets root files sources plan said =
    let from = from_plan targets root files sources plan said in
    let all = all_far sources (map var_path files) from.written from.none in
    let fewer : (P : Path → Type 0) → AllByRecursion P (flat_map track_paths sources.tracks) → AllByRecursion P (flat_map track_paths plan.tracks) =
    λ P h. each_flat track_paths P plan.tracks
    (tracks_kept (λ t. AllByRecursion P (track_paths t)) targets root files sources plan said (each_of_flat track_paths P sources.tracks h)) in
    record {
      outs = fewer (IsApart is_own) all.outs;
      far = tracks_kept (λ t. AllByRecursion (IsFree t) (flat_map track_paths plan.tracks)) targets root files sources plan said
          (each_from (λ t. AllByRecursion (IsFree t) (flat_map track_paths sources.tracks)) (λ t. AllByRecursion (IsFree t) (flat_map track_paths plan.tracks)) sources.tracks
          (λ t h. fewer (IsFree t) h) all.far);
    }
