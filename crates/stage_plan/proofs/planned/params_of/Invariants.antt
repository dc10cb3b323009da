use Rattle.std.proofs.Common.{◌≡◌, take, map}
use Rattle.stage_plan.specs.Plan.{tracked_of}
use Rattle.stage_plan.proofs.planned.params_of.Given as goal

-- the files so far
abbrev pub invariant-loop-want : goal.invariant-loop-want
invariant-loop-want l = l.params ≡ map (tracked_of l.stage.dir) (take l.want-index l.stage.params)
