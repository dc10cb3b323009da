use Rattle.std.proofs.Common.{◌≡◌, take}
use Rattle.std.specs.List.{flat_map}
use Rattle.stage_plan.specs.Targets.{named}
use Rattle.stage_plan.proofs.targets.all_named.Given as goal

-- the places so far
abbrev pub invariant-loop-target : goal.invariant-loop-target
invariant-loop-target l = l.places ≡ flat_map (named l.written) (take l.target-index l.targets)
