use Rattle.std.proofs.Common.{◌≡◌, drop}
use Rattle.stage_schema.specs.Refusal.{first_in}
use Rattle.stage_schema.specs.Wanted.{wanted_top_fault}
use Rattle.stage_schema.proofs.check.check_wanted_top.Given as goal

-- the refusal that is due is that of the pairs that are left
abbrev pub invariant-loop-pair : goal.invariant-loop-pair
invariant-loop-pair l = first_in wanted_top_fault l.pairs ≡ first_in wanted_top_fault (drop l.pair-index l.pairs)
