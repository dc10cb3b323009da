use Rattle.std.proofs.Common.{◌≡◌, ◌++◌, take}
use Rattle.std.specs.List.{flat_map}
use Rattle.dvc_base.proofs.writer.Writer.put_all.Given as goal

-- the pieces so far are put
abbrev pub invariant-loop-piece : goal.invariant-loop-piece
invariant-loop-piece l = l.self ≡ l.initial.self ++ flat_map (λ piece. piece.now) (take l.piece-index l.pieces)
