use Rattle.std.proofs.Common.{◌≡◌, ◌++◌, take, map}
use Rattle.world_api.specs.Effect.{path_from}
use Rattle.stage_plan.proofs.planned.push_outs.Given as goal

-- the paths so far
abbrev pub invariant-loop-out : goal.invariant-loop-out
invariant-loop-out l = l.paths ≡ l.initial.paths ++ map (λ out. path_from l.dir out.path) (take l.out-index l.outs)
