use Rattle.std.proofs.Common.{◌≡◌, take}
use Rattle.stage_schema.proofs.wants.copy_groups.Given as goal

-- the groups so far
abbrev pub invariant-loop-group : goal.invariant-loop-group
invariant-loop-group l = l.wants ≡ take l.group-index l.groups
