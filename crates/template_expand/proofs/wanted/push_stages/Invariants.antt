use Rattle.std.proofs.Common.{◌≡◌, ◌++◌, take}
use Rattle.std.specs.List.{flat_map}
use Rattle.template_expand.specs.Wanted.{stage_paths}
use Rattle.template_expand.proofs.wanted.push_stages.Given as goal

-- the paths with those of the stages so far
abbrev pub invariant-loop-stage : goal.invariant-loop-stage
invariant-loop-stage l = l.paths ≡ l.initial.paths ++ flat_map stage_paths (take l.stage-index l.stages)
