use Rattle.std.proofs.Common.{◌≡◌, map, Some}
use Rattle.dvc_base.specs.Join.{walk}
use Rattle.dvc_base.proofs.path.follow.Given as goal

-- the pieces so far lead from the first components to those so far
abbrev pub invariant-loop-piece : goal.invariant-loop-piece
invariant-loop-piece l = walk l.fn.parts (map (λ x. x.now) l.yielded) ≡ Some l.parts.items
