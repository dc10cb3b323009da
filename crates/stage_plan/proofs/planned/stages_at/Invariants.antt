use Rattle.std.proofs.Common.{◌≡◌, take, map}
use Rattle.stage_plan.specs.Plan.{stage_of, with_turns, stages_at}
use Rattle.stage_plan.proofs.planned.stages_at.Given as goal

-- the stages so far
abbrev pub invariant-loop-number : goal.invariant-loop-number
invariant-loop-number l = l.stages ≡ map (stage_of l.outs) (with_turns (stages_at l.written (take l.number-index l.order)))
