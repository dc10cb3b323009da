use Rattle.std.proofs.Common.{◌≡◌, take}
use Rattle.stage_plan.specs.Plan.{with_turns, all_outs, stages_at}
use Rattle.stage_plan.proofs.planned.all_outs.Given as goal

-- the paths so far
abbrev pub invariant-loop-number : goal.invariant-loop-number
invariant-loop-number l = l.paths ≡ all_outs (with_turns (stages_at l.written (take l.number-index l.order)))
