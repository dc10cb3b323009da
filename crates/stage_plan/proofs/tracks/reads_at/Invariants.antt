use Rattle.std.proofs.Common.{◌≡◌, take}
use Rattle.stage_plan.specs.Plan.{reads_at}
use Rattle.stage_plan.proofs.tracks.reads_at.Given as goal

-- the paths so far
abbrev pub invariant-loop-place : goal.invariant-loop-place
invariant-loop-place l = l.paths ≡ reads_at l.written (take l.place-index l.places)
