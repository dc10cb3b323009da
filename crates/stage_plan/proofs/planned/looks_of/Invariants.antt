use Rattle.std.proofs.Common.{◌≡◌, take, map}
use Rattle.stage_plan.specs.Plan.{dep_of}
use Rattle.stage_plan.proofs.planned.looks_of.Given as goal

-- the dependencies so far
abbrev pub invariant-loop-text : goal.invariant-loop-text
invariant-loop-text l = l.looks ≡ map (dep_of l.outs l.stage.dir) (take l.text-index l.stage.deps)
