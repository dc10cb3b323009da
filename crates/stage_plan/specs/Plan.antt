-- The plan of a `dvc.yaml`: its stages in the order of their turns, or the first of its refusals.
--     stage_of outs s       the stage that has a turn, from one as the schema reads it; `outs` are the outputs of all that have one
--     stages_at ss ns       the stages at some places, in the order in which these are named
--     turns_of ss           such stages, where these are all that have turns
--     planned targets ss    those that the targets choose, in the order of their turns: all but the frozen ones
--     schema_answer why     the answer to a refusal of the schema
--     plan_made root files sources lock     the plan of a node, with these files of variables, track files and `.dvcignore` files
--     chosen_by wide targets ss tracks      the numbers of what targets choose
--     turns_at plan chosen                  what is to be done for such a choice
--     chosen_in targets ss tracks           the chosen stages in the order of their turns, and the chosen track files
--     plan_of targets root files sources    what targets choose of a node
--     AreUsable stages      what is so of the stages of a plan
--     IsPlan plan           what is so of each plan
use Rattle.std.specs.Prelude.{◌≡◌, ◌<◌, ◌^◌, ℕ, Bool, true, false, not, ◌&&◌, ◌||◌, List, [], ◌∷◌, ◌++◌, map, length, slice_get, if◌then◌else◌, Option, Some, None, Result, Ok, Err, ◌==◌}
use Rattle.std.specs.Option.{option_map_or}
use Rattle.std.specs.List.{AllByRecursion, range_with_len, list_any, filter, filter_map, flat_map}
use Rattle.dvc_base.specs.Path.{Path, is_within, is_one, overlap}
use Rattle.dvc_base.specs.Limits.{limit_of}
use Rattle.dvc_base.specs.declared.limits.What.TheVariants as w
use Rattle.dvc_base.specs.declared.fault.Fault.{Fault}
use Rattle.dvc_base.specs.declared.fault.Fault.TheVariants as f
use Rattle.dvc_base.specs.declared.fault.FaultKind.{FaultKind}
use Rattle.dvc_base.specs.declared.fault.FaultKind.TheVariants as k
use Rattle.dvc_base.specs.declared.node.Node.{Node}
use Rattle.world_api.specs.Effect.{path_from}
use Rattle.world_api.specs.Layout.{yaml_path}
use Rattle.lock_files.specs.Book.{Lock}
use Rattle.lock_files.specs.Order.{in_order}
use Rattle.path_index.specs.Overlap.{places}
use Rattle.template_expand.specs.Expansion.{expansion}
use Rattle.template_expand.specs.declared.files.VarFile.{VarFile}
use Rattle.stage_schema.specs.declared.fault.ExpandFault.{ExpandFault}
use Rattle.stage_schema.specs.declared.fault.ExpandFault.TheVariants as e
use Rattle.stage_schema.specs.declared.stage.Out.{Out as WrittenOut}
use Rattle.stage_schema.specs.declared.stage.ParamWant.{ParamWant}
use Rattle.stage_schema.specs.declared.stage.Stage.{Stage as Written}
use Rattle.stage_graph.specs.Graph.{graph_of, graph_fault}
use Rattle.stage_graph.specs.Paths.{stage_outs, needs, track_owners, owner_paths}
use Rattle.stage_graph.specs.declared.track.TrackFile.{TrackFile}
use Rattle.repro_laws.specs.Refusals.{first_fault}
use Rattle.repro_laws.specs.Stage.{dep_text, out_text}
use Rattle.repro_laws.specs.Headline.{IsPlanned}
use Rattle.repro_laws.specs.Moments.{is_own}
use Rattle.repro_laws.specs.Sound.{IsOutside}
use Rattle.repro_laws.specs.declared.stage.Dep.{Dep}
use Rattle.repro_laws.specs.declared.stage.Out.{Out}
use Rattle.repro_laws.specs.declared.stage.Tracked.{Tracked}
use Rattle.repro_laws.specs.declared.stage.Stage.{Stage}
use Rattle.stage_plan.specs.Targets.{other_paths, track_outs, is_at_any, owners, target_fault, chosen, chosen_alone}
use Rattle.stage_plan.specs.declared.plan.Plan.{Plan}
use Rattle.stage_plan.specs.declared.choose.Chosen.{Chosen}
use Rattle.stage_plan.specs.declared.turns.Turns.{Turns}
use Rattle.stage_plan.specs.declared.sources.Sources.{Sources}

-- ---- its stages

-- a dependency is told whether it lies inside an output
abbrev pub dep_of : List Path → Path → List ℕ → Dep
dep_of outs dir text = record {
  text = text;
  path = path_from dir text;
  inside = list_any (is_within (path_from dir text)) outs;
}

abbrev pub out_of : Path → WrittenOut → Out
out_of dir out = record { text = out.path; path = path_from dir out.path; cached = out.cached }

abbrev pub looks_of : List Path → Written → List Dep
looks_of outs s = map (dep_of outs s.dir) s.deps

abbrev pub outs_of : Written → List Out
outs_of s = map (out_of s.dir) s.outs

abbrev pub tracked_of : Path → ParamWant → Tracked
tracked_of dir want = record { text = want.file; path = path_from dir want.file; keys = want.keys; all = want.all }

-- nothing tells whether a stage without dependencies and parameters would make something else, so it always counts as changed
abbrev pub is_changed : Written → Bool
is_changed s = s.always || ((length s.deps == 0) && (length s.params == 0))

abbrev pub stage_of : List Path → Written → Stage
stage_of outs s = record {
  name = s.name;
  commands = s.commands;
  dir = s.dir;
  looks = looks_of outs s;
  deps = in_order dep_text (looks_of outs s);
  params = map (tracked_of s.dir) s.params;
  outs = outs_of s;
  made = in_order out_text (outs_of s);
  always = is_changed s;
}

-- ---- in the order of their turns

-- a frozen stage has no turn: what it makes is a source
abbrev pub has_turn : Written → Bool
has_turn s = not s.frozen

abbrev pub with_turns : List Written → List Written
with_turns ss = filter has_turn ss

abbrev pub all_outs : List Written → List Path
all_outs ss = flat_map stage_outs ss

abbrev pub stages_at : List Written → List ℕ → List Written
stages_at ss ns = filter_map (slice_get ss) ns

abbrev pub turns_of : List Written → List Stage
turns_of ss = map (stage_of (all_outs ss)) ss

abbrev pub planned_at : List Written → List ℕ → List Stage
planned_at ss ns = turns_of (with_turns (stages_at ss ns))

-- a chosen stage brings all that make what it reads, so it doesn't matter that the others are left out
abbrev pub planned : List (List ℕ) → List Written → List Stage
planned targets ss = planned_at ss (chosen targets ss)

-- ---- track files

-- what the stages at some places read
abbrev pub reads_at : List Written → List ℕ → List Path
reads_at ss ns = flat_map needs (stages_at ss ns)

-- an out of the track file overlaps one of the paths
abbrev pub feeds : List Path → TrackFile → Bool
feeds reads t = list_any (λ out. list_any (λ q. overlap q out) reads) (owner_paths (track_owners t))

abbrev pub is_track_for : List Path → List Path → TrackFile → Bool
is_track_for named reads t = list_any (is_one t.file) named || feeds reads t

-- those that targets name, and those of what a chosen stage reads, frozen or not; all of them where there is no target
abbrev pub chosen_tracks : List (List ℕ) → List Written → List TrackFile → List TrackFile
chosen_tracks [] ss tracks = tracks
chosen_tracks (target ∷ more) ss tracks =
    filter (is_track_for (other_paths ss (target ∷ more)) (reads_at ss (chosen (target ∷ more) ss))) tracks

abbrev pub chosen_in : List (List ℕ) → List Written → List TrackFile → Turns
chosen_in targets ss tracks = record { stages = planned targets ss; tracks = chosen_tracks targets ss tracks }

-- ---- their numbers

abbrev pub all_places : List TrackFile → List ℕ
all_places tracks = range_with_len 0 (length tracks)

abbrev pub track_numbers : List (List ℕ) → List Written → List TrackFile → List ℕ
track_numbers [] ss tracks = all_places tracks
track_numbers (target ∷ more) ss tracks =
    places (is_track_for (other_paths ss (target ∷ more)) (reads_at ss (chosen (target ∷ more) ss))) tracks

-- a track file is at one of the paths, or one of its outs is
abbrev pub is_track_of : List Path → TrackFile → Bool
is_track_of ps t = is_at_any ps t.file || list_any (is_at_any ps) (track_outs t)

abbrev pub tracks_alone : List (List ℕ) → List Written → List TrackFile → List ℕ
tracks_alone [] ss tracks = all_places tracks
tracks_alone (target ∷ more) ss tracks = places (is_track_of (other_paths ss (target ∷ more))) tracks

-- a wide choice takes the paths of owners as targets too, and what targets name alone
abbrev pub chosen_by : Bool → List (List ℕ) → List Written → List TrackFile → Chosen
chosen_by false targets ss tracks = record { stages = chosen targets ss; tracks = track_numbers targets ss tracks }
chosen_by true targets ss tracks = record { stages = chosen_alone targets ss; tracks = tracks_alone targets ss tracks }

abbrev pub owners_if : Bool → List Written → List TrackFile → List Path
owners_if wide ss tracks = if wide then owners ss tracks else []

abbrev pub choice_by : Option Fault → Chosen → Result Chosen Fault
choice_by None chosen = Ok chosen
choice_by (Some fault) chosen = Err fault

abbrev pub choice_of : Bool → List (List ℕ) → Plan → Result Chosen Fault
choice_of wide targets plan =
    choice_by (target_fault (owners_if wide plan.stages plan.tracks) targets plan.stages plan.tracks) (chosen_by wide targets plan.stages plan.tracks)

abbrev pub turns_at : Plan → Chosen → Turns
turns_at plan chosen =
    record { stages = planned_at plan.stages chosen.stages; tracks = filter_map (slice_get plan.tracks) chosen.tracks }

-- ---- a single stage

-- there is none past the last
abbrev pub no_stage : Stage
no_stage = record {
  name = [];
  commands = [];
  dir = [];
  looks = [];
  deps = [];
  params = [];
  outs = [];
  made = [];
  always = false;
}

abbrev pub stage_at : Plan → ℕ → Stage
stage_at plan n = option_map_or (stage_of (all_outs (with_turns plan.stages))) (slice_get plan.stages n) no_stage

-- ---- which faults may come: of the graph, of what `dvc.yaml` says, of targets, and of all three

abbrev pub graph_kinds : List FaultKind
graph_kinds = k.NoMemory ∷ k.Outside ∷ k.Reserved ∷ k.Duplicate ∷ k.Overlap ∷ k.VarsFromOutput ∷ k.Cycle ∷ []

abbrev pub schema_kinds : List FaultKind
schema_kinds = k.NoVariable ∷ k.NotScalar ∷ k.NoFile ∷ k.NoKey ∷ k.TooLarge ∷ k.Schema ∷ k.Unsupported ∷ k.Outside ∷ k.NoMemory ∷ []

abbrev pub target_kinds : List FaultKind
target_kinds = k.NoMemory ∷ k.NoStage ∷ []

abbrev pub made_kinds : List FaultKind
made_kinds = schema_kinds ++ graph_kinds

abbrev pub plan_kinds : List FaultKind
plan_kinds = schema_kinds ++ (graph_kinds ++ target_kinds)

-- ---- what the schema refuses

abbrev pub schema_answer : ExpandFault → Fault
schema_answer (e.Schema key) = f.Schema yaml_path key
schema_answer (e.Unsupported key) = f.Unsupported yaml_path key
schema_answer (e.Outside text why) = f.Outside text why
schema_answer (e.TooMany count) = f.TooLarge w.Stages (limit_of w.Stages)
schema_answer (e.NoVariable key) = f.NoVariable key
schema_answer (e.NotScalar key) = f.NotScalar key
schema_answer (e.NoFile file) = f.NoFile file
schema_answer (e.NoKey file key) = f.NoKey file key
schema_answer e.NoMemory = f.NoMemory

-- ---- the plan

-- the refusals of the graph, where `vars` are the files of variables
abbrev pub plan_fault : Sources → List Path → List Written → Option Fault
plan_fault sources vars ss = graph_fault ss sources.tracks vars sources.ignores

abbrev pub plan_with : List Written → List TrackFile → Lock → Plan
plan_with ss tracks lock = record { stages = ss; tracks = tracks; lock = lock; graph = graph_of ss }

abbrev pub plan_unless : Option Fault → List Written → List TrackFile → Lock → Result Plan Fault
plan_unless None ss tracks lock = Ok (plan_with ss tracks lock)
plan_unless (Some fault) ss tracks lock = Err fault

abbrev pub made_by : Sources → List Path → Lock → Result (List Written) ExpandFault → Result Plan Fault
made_by sources vars lock (Ok ss) = plan_unless (plan_fault sources vars ss) ss sources.tracks lock
made_by sources vars lock (Err why) = Err (schema_answer why)

abbrev pub var_path : VarFile → Path
var_path v = v.file

unfoldable pub plan_made : Node → List VarFile → Sources → Lock → Result Plan Fault
plan_made root files sources lock = made_by sources (map var_path files) lock (expansion root files)

-- ---- what targets choose of it

-- a target that is none comes after all of these
abbrev pub chosen_unless : Option Fault → List (List ℕ) → List Written → List TrackFile → Result Turns Fault
chosen_unless None targets ss tracks = Ok (chosen_in targets ss tracks)
chosen_unless (Some fault) targets ss tracks = Err fault

abbrev pub plan_by : List (List ℕ) → Sources → List Path → Result (List Written) ExpandFault → Result Turns Fault
plan_by targets sources vars (Ok ss) =
    chosen_unless (first_fault (plan_fault sources vars ss) (target_fault [] targets ss sources.tracks)) targets ss sources.tracks
plan_by targets sources vars (Err why) = Err (schema_answer why)

unfoldable pub plan_of : List (List ℕ) → Node → List VarFile → Sources → Result Turns Fault
plan_of targets root files sources = plan_by targets sources (map var_path files) (expansion root files)

-- ---- what is so of a plan

pub record AreUsable (stages : List Stage) : Type 0 where
  pub planned : IsPlanned is_own stages
  pub outside : AllByRecursion IsOutside stages

pub record IsPlan (plan : Plan) : Type 0 where
  pub graph : plan.graph ≡ graph_of plan.stages
  pub few : length plan.stages < 2 ^ 32
  pub few_tracks : length plan.tracks < 2 ^ 32
