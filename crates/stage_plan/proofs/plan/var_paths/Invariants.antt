use Rattle.std.proofs.Common.{◌≡◌, take, map}
use Rattle.stage_plan.specs.Plan.{var_path}
use Rattle.stage_plan.proofs.plan.var_paths.Given as goal

-- the paths so far
abbrev pub invariant-loop-file : goal.invariant-loop-file
invariant-loop-file l = l.paths ≡ map var_path (take l.file-index l.files)
