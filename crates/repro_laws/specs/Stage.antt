-- A stage as its turn sees it: the paths that it names, the values that it reads, and its job.
--     read_paths s, stage_outs s     what it reads and what it makes
--     dep_value t d                  the value of a dependency
--     params_at s t                  the parameters that it tracks, as their files say them
--     job_with s ps                  its job, with these parameters
--     IsStage s                      its lists agree with one another, and its outputs are apart
use Rattle.std.specs.Prelude.{◌≡◌, ◌<◌, ℕ, Bool, true, false, ◌&&◌, List, [], ◌++◌, length, ◌==◌, map, Result, Ok, IsTrue, if◌then◌else◌}
use Rattle.std.specs.List.{AllByRecursion}
use Rattle.std.specs.FinMap.{entries}
use Rattle.dvc_base.specs.Path.{Path}
use Rattle.dvc_base.specs.Join.{join}
use Rattle.dvc_base.specs.declared.fault.Fault.{Fault}
use Rattle.dvc_base.specs.declared.data.ParamFile.{ParamFile}
use Rattle.world_api.specs.Tree.{Tree, Value, nothing, members, value_at}
use Rattle.world_api.specs.Calls.{are_apart}
use Rattle.world_api.specs.declared.job.Job.{Job}
use Rattle.lock_files.specs.Order.{in_order, is_rising}
use Rattle.lock_files.specs.Form.{are_distinct}
use Rattle.change_check.specs.Same.{canonical_files}
use Rattle.repro_laws.specs.Params.{tracked_at, files_in_order}
use Rattle.repro_laws.specs.declared.stage.Dep.{Dep}
use Rattle.repro_laws.specs.declared.stage.Out.{Out}
use Rattle.repro_laws.specs.declared.stage.Tracked.{Tracked}
use Rattle.repro_laws.specs.declared.stage.Stage.{Stage}

-- ---- paths

abbrev pub dep_path : Dep → Path
dep_path d = d.path

abbrev pub out_path : Out → Path
out_path o = o.path

abbrev pub tracked_path : Tracked → Path
tracked_path w = w.path

-- what it reads: its dependencies, and its files of parameters
abbrev pub read_paths : Stage → List Path
read_paths s = map dep_path s.deps ++ map tracked_path s.params

-- what it makes, in the order of the texts
abbrev pub stage_outs : Stage → List Path
stage_outs s = map out_path s.made

-- ---- values

abbrev pub has_no_files : Value → Bool
has_no_files (members m) = length (entries m) == 0
has_no_files _ = false

-- a folder without files that lies inside an output may be there or not: an output doesn't tell
abbrev pub value_inside : Bool → Value → Value
value_inside inside v = if inside && has_no_files v then nothing else v

abbrev pub dep_value : Tree → Dep → Value
dep_value t d = value_inside d.inside (value_at t d.path)

abbrev pub is_nothing : Value → Bool
is_nothing nothing = true
is_nothing _ = false

-- ---- parameters and the job

abbrev pub params_at : Stage → Tree → Result (List ParamFile) Fault
params_at s t = files_in_order (tracked_at t s.params)

abbrev pub tracked_text : Tracked → List ℕ
tracked_text w = w.text

abbrev pub dep_text : Dep → List ℕ
dep_text d = d.text

abbrev pub out_text : Out → List ℕ
out_text o = o.text

-- parameters count by value
abbrev pub job_with : Stage → List ParamFile → Job
job_with s ps = record {
  stage = s.name;
  commands = s.commands;
  dir = s.dir;
  deps = map dep_text s.deps;
  params = canonical_files ps;
  outs = map out_text s.made;
}

-- ---- stages that can have a turn

-- a text names the path from a folder
abbrev pub Names : Path → List ℕ → Path → Type 0
Names dir text p = join dir text ≡ Ok p

pub record IsStage (s : Stage) : Type 0 where
  pub commands : 0 < length s.commands
  pub deps : s.deps ≡ in_order dep_text s.looks
  pub made : s.made ≡ in_order out_text s.outs
  pub dep_texts : IsTrue (is_rising (map dep_text s.deps))
  pub out_texts : IsTrue (is_rising (map out_text s.made))
  pub dep_names : AllByRecursion (λ d. Names s.dir d.text d.path) s.deps
  pub out_names : AllByRecursion (λ o. Names s.dir o.text o.path) s.made
  pub apart : are_apart (stage_outs s) ≡ true
  -- each file of parameters stands once, and each of its keys
  pub param_texts : IsTrue (are_distinct [] (map tracked_text s.params))
  pub param_keys : AllByRecursion (λ w. IsTrue (are_distinct [] w.keys)) s.params
