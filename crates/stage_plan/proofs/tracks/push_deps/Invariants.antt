use Rattle.std.proofs.Common.{◌≡◌, ◌++◌, map, take}
use Rattle.world_api.specs.Effect.{path_from}
use Rattle.stage_plan.proofs.tracks.push_deps.Given as goal

-- the paths so far
abbrev pub invariant-loop-dep : goal.invariant-loop-dep
invariant-loop-dep l = l.paths ≡ l.initial.paths ++ map (path_from l.dir) (take l.dep-index l.deps)
