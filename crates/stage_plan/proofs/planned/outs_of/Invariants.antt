use Rattle.std.proofs.Common.{◌≡◌, take, map}
use Rattle.stage_plan.specs.Plan.{out_of}
use Rattle.stage_plan.proofs.planned.outs_of.Given as goal

-- the outputs so far
abbrev pub invariant-loop-out : goal.invariant-loop-out
invariant-loop-out l = l.outs ≡ map (out_of l.stage.dir) (take l.out-index l.stage.outs)
