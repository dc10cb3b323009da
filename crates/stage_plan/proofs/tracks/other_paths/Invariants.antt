use Rattle.std.proofs.Common.{◌≡◌, take}
use Rattle.stage_plan.specs.Targets.{other_paths}
use Rattle.stage_plan.proofs.tracks.other_paths.Given as goal

-- the paths so far
abbrev pub invariant-loop-target : goal.invariant-loop-target
invariant-loop-target l = l.paths ≡ other_paths l.written (take l.target-index l.targets)
