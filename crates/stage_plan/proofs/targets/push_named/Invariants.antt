use Rattle.std.proofs.Common.{◌≡◌, ◌++◌, drop}
use Rattle.path_index.specs.Overlap.{places_from}
use Rattle.stage_plan.specs.Targets.{is_named_by, named}
use Rattle.stage_plan.proofs.targets.push_named.Given as goal

-- the places so far, and those that are left
abbrev pub invariant-loop-place : goal.invariant-loop-place
invariant-loop-place l = l.initial.places ++ named l.written l.target ≡ l.places ++ places_from (is_named_by l.by_name l.target) l.place (drop l.place l.written)
