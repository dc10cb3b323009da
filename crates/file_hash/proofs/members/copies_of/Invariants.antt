use Rattle.std.proofs.Common.{◌≡◌, map, take}
use Rattle.file_hash.proofs.members.copies_of.Given as goal

-- those so far
abbrev pub invariant-loop-member : goal.invariant-loop-member
invariant-loop-member l = l.copies ≡ map (λ m. m.now) (take l.member-index l.members)
