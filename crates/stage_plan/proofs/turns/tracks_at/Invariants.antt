use Rattle.std.proofs.Common.{◌≡◌, take, slice_get}
use Rattle.std.specs.List.{filter_map}
use Rattle.stage_plan.proofs.turns.tracks_at.Given as goal

-- the track files so far
abbrev pub invariant-loop-number : goal.invariant-loop-number
invariant-loop-number l = l.found ≡ filter_map (slice_get l.tracks) (take l.number-index l.numbers)
