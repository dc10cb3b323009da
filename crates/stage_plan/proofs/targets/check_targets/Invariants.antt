use Rattle.std.proofs.Common.{◌≡◌, drop}
use Rattle.stage_plan.specs.Targets.{target_fault}
use Rattle.stage_plan.proofs.targets.check_targets.Given as goal

-- the first that is none is among those that are left
abbrev pub invariant-loop-target : goal.invariant-loop-target
invariant-loop-target l = target_fault l.owned l.targets l.written l.tracks ≡ target_fault l.owned (drop l.target-index l.targets) l.written l.tracks
