-- Which stages are to have their turns, and the first target that is none.
--     named ss target           the places of the stages that a target names: those of this name, or else those of the group
--     other_paths ss targets    where the targets lead that name neither a stage nor a group, read as paths
--     owners ss tracks          the paths that stages make and that track files record
--     target_fault owners targets ss tracks    the first target that names no stage, no group, no track file and none of these owners
--     chosen targets ss         in the order of their turns, the stages that targets name and all that are above them; all stages
--                               where there is no target
--     chosen_alone targets ss   in the same order, the stages that targets name, or of which they name an output, alone
use Rattle.std.specs.Prelude.{ℕ, Bool, not, ◌&&◌, ◌||◌, ◌==◌, List, [], ◌∷◌, ◌++◌, map, length, Option, option_map, bytes_eq, if◌then◌else◌}
use Rattle.std.specs.List.{list_any, filter, find, flat_map}
use Rattle.dvc_base.specs.Path.{Path, is_one}
use Rattle.dvc_base.specs.declared.fault.Fault.{Fault}
use Rattle.dvc_base.specs.declared.fault.Fault.TheVariants.{NoStage}
use Rattle.world_api.specs.Effect.{path_from}
use Rattle.path_index.specs.Overlap.{places}
use Rattle.stage_order.specs.Brought.{brought}
use Rattle.stage_order.specs.Order.{is_in, order}
use Rattle.stage_graph.specs.Cycle.{all_above}
use Rattle.stage_graph.specs.Paths.{stage_outs, track_owners, owner_paths}
use Rattle.stage_graph.specs.declared.track.TrackFile.{TrackFile}
use Rattle.stage_schema.specs.declared.stage.Stage.{Stage}

abbrev pub has_name : List ℕ → Stage → Bool
has_name target s = bytes_eq s.name target

-- a stage that no template made is in no group
abbrev pub is_in_group : List ℕ → Stage → Bool
is_in_group target s = not (length s.group == 0) && bytes_eq s.group target

abbrev pub is_known : List Stage → List ℕ → Bool
is_known ss target = list_any (has_name target) ss || list_any (is_in_group target) ss

-- a stage's name comes before that of a group
abbrev pub is_named_by : Bool → List ℕ → Stage → Bool
is_named_by by_name target s = if by_name then has_name target s else is_in_group target s

abbrev pub named : List Stage → List ℕ → List ℕ
named ss target = places (is_named_by (list_any (has_name target) ss) target) ss

-- ---- track files

abbrev pub is_other : List Stage → List ℕ → Bool
is_other ss target = not (is_known ss target)

-- a text that is no path leads to the root, which is no track file
abbrev pub other_paths : List Stage → List (List ℕ) → List Path
other_paths ss targets = map (path_from []) (filter (is_other ss) targets)

abbrev pub is_track_at : List TrackFile → Path → Bool
is_track_at tracks p = list_any (λ t. is_one t.file p) tracks

-- ---- owners

abbrev pub is_at_any : List Path → Path → Bool
is_at_any ps p = list_any (is_one p) ps

abbrev pub track_outs : TrackFile → List Path
track_outs t = owner_paths (track_owners t)

abbrev pub owners : List Stage → List TrackFile → List Path
owners ss tracks = flat_map stage_outs ss ++ flat_map track_outs tracks

abbrev pub is_lost : List Path → List Stage → List TrackFile → List ℕ → Bool
is_lost owned ss tracks target =
    is_other ss target && not (is_track_at tracks (path_from [] target) || is_at_any owned (path_from [] target))

abbrev pub target_fault : List Path → List (List ℕ) → List Stage → List TrackFile → Option Fault
target_fault owned targets ss tracks = option_map (λ target. NoStage target) (find (is_lost owned ss tracks) targets)

-- ---- chosen stages

abbrev pub chosen : List (List ℕ) → List Stage → List ℕ
chosen [] ss = order (all_above ss)
chosen (target ∷ more) ss = brought (all_above ss) (flat_map (named ss) (target ∷ more)) (order (all_above ss))

-- ---- stages alone

-- an output of the stage is at one of the paths
abbrev pub makes_any : List Path → Stage → Bool
makes_any ps s = list_any (is_at_any ps) (stage_outs s)

abbrev pub named_alone : List (List ℕ) → List Stage → List ℕ
named_alone targets ss = flat_map (named ss) targets ++ places (makes_any (other_paths ss targets)) ss

abbrev pub chosen_alone : List (List ℕ) → List Stage → List ℕ
chosen_alone [] ss = order (all_above ss)
chosen_alone (target ∷ more) ss = filter (is_in (named_alone (target ∷ more) ss)) (order (all_above ss))
