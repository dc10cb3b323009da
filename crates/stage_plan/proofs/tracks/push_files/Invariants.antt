use Rattle.std.proofs.Common.{◌≡◌, ◌++◌, map, take}
use Rattle.world_api.specs.Effect.{path_from}
use Rattle.stage_plan.proofs.tracks.push_files.Given as goal

-- the paths so far
abbrev pub invariant-loop-want : goal.invariant-loop-want
invariant-loop-want l = l.paths ≡ l.initial.paths ++ map (λ want. path_from l.dir want.file) (take l.want-index l.wants)
