use Rattle.std.proofs.Common.{◌≡◌, take}
use Rattle.stage_plan.proofs.targets.copied.Given as goal

-- the numbers so far
abbrev pub invariant-loop-number : goal.invariant-loop-number
invariant-loop-number l = l.copies ≡ take l.number-index l.numbers
