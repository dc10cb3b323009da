use Rattle.std.proofs.Common.{◌≡◌, ◌++◌, drop}
use Rattle.path_index.specs.Overlap.{places, places_from}
use Rattle.stage_plan.specs.Targets.{makes_any}
use Rattle.stage_plan.proofs.targets.push_makers.Given as goal

-- the places so far, and those that are left
abbrev pub invariant-loop-place : goal.invariant-loop-place
invariant-loop-place l = l.initial.found ++ places (makes_any l.paths) l.written ≡ l.found ++ places_from (makes_any l.paths) l.place (drop l.place l.written)
