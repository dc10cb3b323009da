use Rattle.std.proofs.Common.{◌≡◌, map, take}
use Rattle.file_hash.proofs.read.in_component_order.Given as goal

-- the members so far
abbrev pub invariant-loop-member : goal.invariant-loop-member
invariant-loop-member l = map (λ m. m.now) l.sorted.items ≡ take l.member-index l.members
