use Rattle.std.proofs.Common.{◌≡◌, take}
use Rattle.stage_plan.specs.Plan.{all_outs, with_turns}
use Rattle.stage_plan.proofs.planned.outs_of_all.Given as goal

-- the paths so far
abbrev pub invariant-loop-stage : goal.invariant-loop-stage
invariant-loop-stage l = l.paths ≡ all_outs (with_turns (take l.stage-index l.written))
