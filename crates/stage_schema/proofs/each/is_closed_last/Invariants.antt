use Rattle.std.proofs.Common.{◌≡◌, ◌+◌, length}
use Rattle.std.specs.Prelude.{◌==◌}
use Rattle.std.specs.List.{position_or_len}
use Rattle.stage_schema.proofs.each.is_closed_last.Given as goal

-- the first `}` ends the text where it ends what is left of it
abbrev pub invariant-loop-rest : goal.invariant-loop-rest
invariant-loop-rest l = (position_or_len (λ b. b == 125) l.text + 1 == length l.text) ≡ (position_or_len (λ b. b == 125) l.rest + 1 == length l.rest)

abbrev pub decreases-loop-rest : goal.decreases-loop-rest
decreases-loop-rest l = length l.rest
